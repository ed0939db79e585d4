-- What the fake link of one rank is, and what it is asked.
use Rattle.std.specs.Prelude.{ℕ, ◌≤◌, ◌==◌, ◌&&◌, not, Bool, false, List, length, Option, None}
use Rattle.adlb_unit.specs.Ids.{same_unit}
use Rattle.adlb_unit.specs.Limits.{body_limit}
use Rattle.adlb_unit.specs.Totals.{total_of}
use Rattle.adlb_unit.specs.declared.names.UnitId.{UnitId}
use Rattle.adlb_unit.specs.declared.notes.Trouble.{Trouble}
use Rattle.bag_ledger.specs.declared.entries.Answer.{Answer}
use Rattle.bag_ledger.specs.declared.entries.Answer.TheVariants as answers
use Rattle.bag_ledger.specs.declared.entries.Call.{Call}
use Rattle.bag_ledger.specs.declared.entries.Call.TheVariants as calls_to
use Rattle.bag_ledger.specs.declared.entries.Said.{Said}
use Rattle.rank_client.specs.Link.{LinkModel}

-- the link of the only rank, over one server of 64 bytes
abbrev pub fake_link : List Said → Bool → Option Trouble → LinkModel
fake_link said going failed = record {
  seat = record { ranks = 1; servers = 1; limit = 64; me = record { 0 = 0 } };
  said = said;
  batch = going;
  failed = failed;
  begun = None;
}

-- the body that a call puts has at most 2^20 bytes
abbrev pub IsShort : Call → Type 0
IsShort (calls_to.Put kind prio target answer body) = length body ≤ body_limit
IsShort call = Unit {0}

-- the answer grants a unit of this id, of another number of bytes
abbrev pub misfits : UnitId → ℕ → Answer → Bool
misfits id total (answers.Granted note) = same_unit note.id id && not (total_of note == total)
misfits id total answer = false
