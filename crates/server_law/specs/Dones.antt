-- The rule of Done: the problem is done.
use Rattle.std.specs.Prelude.{ℕ, [], ◌∷◌, Option}
use Rattle.adlb_unit.specs.declared.names.Rank.{Rank}
use Rattle.adlb_unit.specs.declared.notes.End.TheVariants as ends_by
use Rattle.server_law.specs.Acts.{Hears_done}
use Rattle.server_law.specs.Endings.{tells_idle}
use Rattle.server_law.specs.Plan.{Plan, plan}
use Rattle.server_law.specs.State.{ServerModel}

-- each rank may say so to each server, which tells the ranks that wait and are idle
abbrev pub done_rule : ServerModel → Rank → ℕ → Option Plan
done_rule s from request = plan (Hears_done from request) (tells_idle ends_by.NoMoreWork ∷ [])
