-- What a call adds to a transcript, and what a transcript has.
use Rattle.std.specs.Prelude.{◌≡◌, ◌⊎◌, List, [], ◌∷◌, ◌++◌, Option, Some, None, Bool, true, false, MatchOption, Contains}
use Rattle.std.specs.List.{list_any}
use Rattle.adlb_unit.specs.Ids.{same_unit}
use Rattle.adlb_unit.specs.declared.names.UnitId.{UnitId}
use Rattle.adlb_unit.specs.declared.notes.End.{End}
use Rattle.adlb_unit.specs.declared.notes.Trouble.{Trouble}
use Rattle.adlb_unit.specs.declared.notes.UnitNote.{UnitNote}
use Rattle.bag_ledger.specs.declared.entries.Call.{Call}
use Rattle.bag_ledger.specs.declared.entries.Call.TheVariants as calls_to
use Rattle.bag_ledger.specs.declared.entries.Answer.{Answer}
use Rattle.bag_ledger.specs.declared.entries.Answer.TheVariants as answers
use Rattle.bag_ledger.specs.declared.entries.Said.{Said}

-- a call that has an answer is added with it; one that has none is not
abbrev pub plus : List Said → Call → Option Answer → List Said
plus said call None = said
plus said call (Some answer) = said ++ record { call = call; answer = answer } ∷ []

-- What a transcript has.

-- the call is Finish
abbrev pub is_finish : Call → Bool
is_finish calls_to.Finish = true
is_finish _ = false

-- the transcript has Finish
unfoldable pub has_finished : List Said → Bool
has_finished said = list_any (λ s. is_finish s.call) said

-- the answer grants the unit
abbrev pub grants : UnitId → Answer → Bool
grants id (answers.Granted note) = same_unit note.id id
grants id _ = false

-- a unit of this id was granted
unfoldable pub is_granted : UnitId → List Said → Bool
is_granted id said = list_any (λ s. grants id s.answer) said

-- the call fetches the unit
abbrev pub fetches : UnitId → Call → Bool
fetches id (calls_to.Fetch fetched) = same_unit fetched id
fetches id _ = false

-- a unit of this id was fetched
unfoldable pub is_fetched : UnitId → List Said → Bool
is_fetched id said = list_any (λ s. fetches id s.call) said

-- an answer grants the unit of this note
unfoldable pub granted : UnitNote → List Said → Type 0
granted note said = (call : Call) × Contains said (record { call = call; answer = answers.Granted note })

-- the first end that was told
abbrev pub end_of : Answer → Option End → Option End
end_of (answers.Ended end) later = Some end
end_of _ later = later

-- the last end that the transcript was told
unfoldable pub end_told : List Said → Option End
end_told [] = None
end_told (s ∷ said) = end_of s.answer (end_told said)

-- whether a batch is going on after a call with this answer: it begins, it ends, or it is as before
abbrev pub goes_on : Call → Answer → Bool → Bool
goes_on (calls_to.BeginBatch common) answers.Fine on = true
goes_on calls_to.EndBatch answers.Fine on = false
goes_on call answer on = on

-- after all of these calls
unfoldable pub open_after : Bool → List Said → Bool
open_after on [] = on
open_after on (s ∷ said) = open_after (goes_on s.call s.answer on) said

-- a batch is going on
abbrev pub is_open : List Said → Bool
is_open said = open_after false said

-- Words of the conditions and of what a call leaves.

-- after an end was told, a call that is answered tells it again
abbrev pub TellsAgain : Option End → Option Answer → Type 0
TellsAgain None answer = Unit {0}
TellsAgain (Some end) answer = MatchOption answer (Unit {0}) (λ a. a ≡ answers.Ended end)

-- a link that has failed fails again with its trouble
abbrev pub Repeats : Option Trouble → Option Trouble → Type 0
Repeats None now = Unit {0}
Repeats (Some trouble) now = now ≡ Some trouble

-- nothing is begun and not answered, or this call is
abbrev pub Pends : Option Call → Call → Type 0
Pends begun call = (begun ≡ None) ⊎ (begun ≡ Some call)

-- the call that was begun and not answered when a link failed; there is no such call while it has not failed
abbrev pub unanswered : Option Trouble → Option Call → Option Call
unanswered None begun = None
unanswered (Some trouble) begun = begun

-- what is begun and not answered after a call: nothing while the link has not failed. Where it fails in this call, perhaps this
-- call. Where it had failed, what it was
abbrev pub Began : Option Trouble → Option Call → Call → Option Trouble → Option Call → Type 0
Began (Some trouble) before call now begun = begun ≡ before
Began None before call None begun = begun ≡ None
Began None before call (Some trouble) begun = Pends begun call
