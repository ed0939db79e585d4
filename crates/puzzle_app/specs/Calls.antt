-- What the calls of a rank add to its transcript.
use Rattle.std.specs.Prelude.{◌≡◌, ◌⊎◌, Bool, true, false, List, [], ◌∷◌, ◌++◌, length, Option, None}
use Rattle.adlb_unit.specs.Totals.{total_of}
use Rattle.adlb_unit.specs.declared.notes.UnitNote.{UnitNote}
use Rattle.bag_ledger.specs.declared.entries.Answer.{Answer}
use Rattle.bag_ledger.specs.declared.entries.Answer.TheVariants as answers
use Rattle.bag_ledger.specs.declared.entries.Call.{Call}
use Rattle.bag_ledger.specs.declared.entries.Call.TheVariants.{Reserve, Fetch}
use Rattle.bag_ledger.specs.declared.entries.Said.{Said}
use Rattle.rank_client.specs.Calls.{Pends}
use Rattle.puzzle_app.specs.Books.{said_of}
use Rattle.puzzle_app.specs.declared.calls.Reply.{Reply}
use Rattle.puzzle_app.specs.declared.calls.Reply.TheVariants as replies
use Rattle.puzzle_app.specs.declared.calls.Taken.{Taken}
use Rattle.puzzle_app.specs.declared.calls.Taken.TheVariants as takes

-- the answer of a put, and of the beginning of a batch
abbrev pub answer_of : Reply → Answer
answer_of replies.Accepted = answers.Fine
answer_of replies.Rejected = answers.Rejected
answer_of (replies.Ended end) = answers.Ended end

-- the reply is that the call was accepted
abbrev pub is_accepted : Reply → Bool
is_accepted replies.Accepted = true
is_accepted _ = false

-- a unit is granted to who reserves one of any type
abbrev pub grant : UnitNote → Said
grant note = said_of (Reserve None) (answers.Granted note)

-- a unit was granted and fetched, or an end was told
abbrev pub Takes : List Said → List Said → Taken → Type 0
Takes before after (takes.Unit note body) = after ≡ (before ++ grant note ∷ []) ++ said_of (Fetch note.id) (answers.Body body) ∷ []
Takes before after (takes.Ended end) = after ≡ before ++ said_of (Reserve None) (answers.Ended end) ∷ []

-- the reservation failed, or a unit was granted and its fetch failed; perhaps what failed was begun
abbrev pub Fails : List Said → List Said → Option Call → Type 0
Fails before after begun =
    ((after ≡ before) × Pends begun (Reserve None)) ⊎
    ((note : UnitNote) × (after ≡ before ++ grant note ∷ []) × Pends begun (Fetch note.id))

-- a fetch gives as many bytes as the note says
abbrev pub IsWhole : Taken → Type 0
IsWhole (takes.Unit note body) = length body ≡ total_of note
IsWhole (takes.Ended end) = Unit {0}
