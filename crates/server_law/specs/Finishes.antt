-- The rule of Finish.
use Rattle.std.specs.Prelude.{[], Option, None, if◌then◌else◌}
use Rattle.adlb_unit.specs.declared.names.Rank.{Rank}
use Rattle.server_law.specs.Acts.{Notes_finish}
use Rattle.server_law.specs.Plan.{Plan, plan}
use Rattle.server_law.specs.State.{ServerModel, runs}

-- the sender runs, as far as the server knows
abbrev pub finish_rule : ServerModel → Rank → Option Plan
finish_rule s from = if runs s.kept from then plan (Notes_finish from) [] else None
