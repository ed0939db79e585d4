-- The rule of Fetch.
use Rattle.std.specs.Prelude.{ℕ, [], find, Option, None, Some}
use Rattle.adlb_unit.specs.declared.names.Rank.{Rank}
use Rattle.adlb_unit.specs.declared.names.UnitId.{UnitId}
use Rattle.work_queue.specs.declared.placing.Placed.{Placed}
use Rattle.server_law.specs.Acts.{Fetches}
use Rattle.server_law.specs.Finding.{is_pinned_as}
use Rattle.server_law.specs.Plan.{Plan, plan}
use Rattle.server_law.specs.State.{ServerModel}

-- where the unit is here, pinned to the sender
abbrev pub fetch : Rank → ℕ → UnitId → Option Placed → Option Plan
fetch from request id None = None
fetch from request id (Some p) = plan (Fetches from request id p.unit) []

-- Fetch: the unit goes to the rank to which it is pinned
abbrev pub fetch_rule : ServerModel → Rank → ℕ → UnitId → Option Plan
fetch_rule s from request id = fetch from request id (find (is_pinned_as id from) s.kept.queue.units)
