-- The calls of a worker.
use Rattle.std.specs.Prelude.{ℕ, ℤ, ◌≡◌, ◌<◌, false, List, None}
use Rattle.adlb_unit.specs.declared.names.Target.{Target}
use Rattle.adlb_unit.specs.declared.names.WorkType.{WorkType}
use Rattle.adlb_unit.specs.declared.notes.UnitNote.{UnitNote}
use Rattle.bag_ledger.specs.declared.entries.Answer.TheVariants.{Granted}
use Rattle.bag_ledger.specs.declared.entries.Call.{Call}
use Rattle.bag_ledger.specs.declared.entries.Call.TheVariants.{Put, Reserve}
use Rattle.bag_ledger.specs.declared.entries.Said.{Said}
use Rattle.rank_client.specs.Calls.{has_finished}
use Rattle.rank_client.specs.Link.{LinkModel}
use Rattle.adlb_rank.specs.Calls.{said_of}

-- a put that wants no answer
abbrev pub put_of : WorkType → ℤ → Target → List ℕ → Call
put_of kind prio target body = Put kind prio target None body

-- a reserve of any type that was granted
abbrev pub grant : UnitNote → Said
grant note = said_of (Reserve None) (Granted note)

-- a rank below this number that can put and reserve
pub record IsFree (ranks : ℕ) (m : LinkModel) : Type 0 where
  pub running : has_finished m.said ≡ false
  pub seat : m.seat.ranks ≡ ranks
  pub some : 0 < ranks
