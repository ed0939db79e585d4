-- What the calls of a rank add to its transcript.
use Rattle.std.specs.Prelude.{◌≡◌, ◌⊎◌, Bool, true, false, List, [], ◌∷◌, ◌++◌, Option, None}
use Rattle.adlb_unit.specs.declared.notes.UnitNote.{UnitNote}
use Rattle.bag_ledger.specs.declared.entries.Answer.TheVariants as answers
use Rattle.bag_ledger.specs.declared.entries.Call.{Call}
use Rattle.bag_ledger.specs.declared.entries.Call.TheVariants.{Reserve, Fetch}
use Rattle.bag_ledger.specs.declared.entries.Said.{Said}
use Rattle.adlb_rank.specs.declared.replies.Reply.{Reply}
use Rattle.adlb_rank.specs.declared.replies.Reply.TheVariants as replies
use Rattle.rank_client.specs.Calls.{Pends}
use Rattle.work_law.specs.Books.{said_of}

-- the reply is that the call was accepted
abbrev pub is_accepted : Reply → Bool
is_accepted replies.Accepted = true
is_accepted _ = false

-- a unit is granted to who reserves one of any type
abbrev pub grant : UnitNote → Said
grant note = said_of (Reserve None) (answers.Granted note)

-- the reservation failed, or a unit was granted and its fetch failed; perhaps what failed was begun
abbrev pub Fails : List Said → List Said → Option Call → Type 0
Fails before after begun =
    ((after ≡ before) × Pends begun (Reserve None)) ⊎
    ((note : UnitNote) × (after ≡ before ++ grant note ∷ []) × Pends begun (Fetch note.id))
