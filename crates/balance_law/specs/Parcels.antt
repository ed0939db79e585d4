-- What the calls of a rank send and get.
use Rattle.std.specs.Prelude.{ℕ, ℤ, length, take, drop, List, [], ◌∷◌, ◌++◌, Option, Some, None}
use Rattle.adlb_unit.specs.declared.names.CommonRef.{CommonRef}
use Rattle.adlb_unit.specs.declared.names.Rank.{Rank}
use Rattle.adlb_unit.specs.declared.names.WorkType.{WorkType}
use Rattle.adlb_unit.specs.declared.notes.UnitNote.{UnitNote}
use Rattle.bag_ledger.specs.declared.entries.Answer.{Answer}
use Rattle.bag_ledger.specs.declared.entries.Answer.TheVariants as answers
use Rattle.bag_ledger.specs.declared.entries.Call.{Call}
use Rattle.bag_ledger.specs.declared.entries.Call.TheVariants as calls_to
use Rattle.bag_ledger.specs.declared.entries.Said.{Said}

-- What whoever gets a unit sees of it: its work type, priority, answer rank and own bytes, with their length that its note names. If it was
-- put in a batch, it sees the common bytes too.
pub record Parcel : Type 0 where
  pub kind : WorkType
  pub prio : ℤ
  pub answer : Option Rank
  pub common : Option (List ℕ)
  pub long : ℕ
  pub own : List ℕ

-- the common bytes of the batch that is going on after the call, if `batch` was going on before it
abbrev pub batch_after : Option (List ℕ) → Call → Answer → Option (List ℕ)
batch_after batch (calls_to.BeginBatch common) answers.Fine = Some common
batch_after batch calls_to.EndBatch answers.Fine = None
batch_after batch call answer = batch

-- a put that a server took, while the batch of these common bytes is going on, or none
abbrev pub parcel_sent : Option (List ℕ) → Call → Answer → List Parcel
parcel_sent batch (calls_to.Put kind prio target answer body) answers.Fine =
    record { kind = kind; prio = prio; answer = answer; common = batch; long = length body; own = body } ∷ []
parcel_sent batch call answer = []

-- what a transcript sends
unfoldable pub sent : Option (List ℕ) → List Said → List Parcel
sent batch [] = []
sent batch (s ∷ said) = parcel_sent batch s.call s.answer ++ sent (batch_after batch s.call s.answer) said

-- the note of the unit that was granted
abbrev pub granted_note : Answer → Option UnitNote
granted_note (answers.Granted note) = Some note
granted_note answer = None

-- a body begins with the common bytes, if the note refers to a common part, and the rest are the unit's own
abbrev pub common_of : Option CommonRef → List ℕ → Option (List ℕ)
common_of None body = None
common_of (Some part) body = Some (take part.length body)

-- the own bytes of a fetch
abbrev pub own_of : Option CommonRef → List ℕ → List ℕ
own_of None body = body
own_of (Some part) body = drop part.length body

-- the parcel of a note and a body
abbrev pub parcel_read : UnitNote → List ℕ → Parcel
parcel_read note body = record {
  kind = note.kind;
  prio = note.prio;
  answer = note.answer;
  common = common_of note.common body;
  long = note.length;
  own = own_of note.common body;
}

-- a fetch, if the call before it was granted the unit of this note
abbrev pub parcel_got : Option UnitNote → Call → Answer → List Parcel
parcel_got (Some note) (calls_to.Fetch id) (answers.Body body) = parcel_read note body ∷ []
parcel_got held call answer = []

-- what a transcript gets
unfoldable pub got : Option UnitNote → List Said → List Parcel
got held [] = []
got held (s ∷ said) = parcel_got held s.call s.answer ++ got (granted_note s.answer) said
