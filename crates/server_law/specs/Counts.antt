-- The rule of Count.
use Rattle.std.specs.Prelude.{ℕ, [], Option, None, if◌then◌else◌}
use Rattle.adlb_unit.specs.declared.names.Rank.{Rank}
use Rattle.adlb_unit.specs.declared.names.WorkType.{WorkType}
use Rattle.server_law.specs.Acts.{Counts}
use Rattle.server_law.specs.Plan.{Plan, plan}
use Rattle.server_law.specs.State.{ServerModel, runs_at_home}

-- the sender's home is here, and it runs
abbrev pub count_rule : ServerModel → Rank → ℕ → WorkType → Option Plan
count_rule s from request kind = if runs_at_home s from then plan (Counts from request kind) [] else None
