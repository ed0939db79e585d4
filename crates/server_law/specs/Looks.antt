-- The rule of Try.
use Rattle.std.specs.Prelude.{Bool, true, false, [], Option, None, Some}
use Rattle.adlb_unit.specs.declared.notes.End.TheVariants as ends_by
use Rattle.server_components.specs.declared.wishes.Wish.{Wish}
use Rattle.work_queue.specs.declared.placing.Placed.{Placed}
use Rattle.server_law.specs.Acts.{Act, Ends_try, Grants_try, Looks}
use Rattle.server_law.specs.Finding.{best_for}
use Rattle.server_law.specs.Plan.{Plan, plan}
use Rattle.server_law.specs.State.{Kept, ServerModel}

-- where the problem is done; where there is a unit; else
abbrev pub look : Bool → Option Placed → Wish → Act
look true best wish = Ends_try wish ends_by.NoMoreWork
look false (Some p) wish = Grants_try wish p.unit
look false None wish = Looks wish

-- as the server is
abbrev pub look_now : Kept → Wish → Act
look_now k wish = look k.done (best_for k wish) wish

-- each rank is answered at once, wherever its home is
abbrev pub look_rule : ServerModel → Wish → Option Plan
look_rule s wish = plan (look_now s.kept wish) []
