-- The rule of Reserve.
use Rattle.std.specs.Prelude.{Bool, true, false, [], ◌∷◌, Option, None, Some, if◌then◌else◌}
use Rattle.adlb_unit.specs.declared.notes.End.TheVariants as ends_by
use Rattle.server_components.specs.declared.wishes.Wish.{Wish}
use Rattle.work_queue.specs.declared.placing.Placed.{Placed}
use Rattle.server_law.specs.Acts.{Act, Ends_reserve, Grants, Parks}
use Rattle.server_law.specs.Finding.{best_for}
use Rattle.server_law.specs.Plan.{Plan, plan}
use Rattle.server_law.specs.State.{Kept, ServerModel, runs_at_home}
use Rattle.server_law.specs.Waits.{asks_on}

-- where the problem is done; where all work is used up; where there is a unit; else the rank waits
abbrev pub reserve : Bool → Bool → Option Placed → Wish → Act
reserve true exhausted best wish = Ends_reserve wish ends_by.NoMoreWork
reserve false true best wish = Ends_reserve wish ends_by.Exhausted
reserve false false (Some p) wish = Grants wish p.unit
reserve false false None wish = Parks wish

-- as the server is
abbrev pub reserve_now : Kept → Wish → Act
reserve_now k wish = reserve k.done k.exhausted (best_for k wish) wish

-- Reserve: a unit is pinned, the call is ended, or the rank waits
abbrev pub reserve_rule : ServerModel → Wish → Option Plan
reserve_rule s wish = if runs_at_home s wish.rank then plan (reserve_now s.kept wish) (asks_on wish.rank ∷ []) else None
