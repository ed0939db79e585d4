-- A rank that puts, reserves units of any type and fetches each unit that it is granted, and that begins and ends batches, until it is
-- told an end. Then it ends its batch, if one is going on, and finishes.
use Rattle.std.specs.Prelude.{ℕ, ◌≡◌, ◌<◌, List, [], ◌∷◌, Option, Some, None}
use Rattle.adlb_unit.specs.declared.names.Target.{Target}
use Rattle.adlb_unit.specs.declared.names.Target.TheVariants.{Any, Only, Soft}
use Rattle.adlb_unit.specs.declared.notes.UnitNote.{UnitNote}
use Rattle.bag_ledger.specs.declared.entries.Answer.{Answer}
use Rattle.bag_ledger.specs.declared.entries.Answer.TheVariants as answers
use Rattle.bag_ledger.specs.declared.entries.Call.{Call}
use Rattle.bag_ledger.specs.declared.entries.Call.TheVariants as calls_to
use Rattle.bag_ledger.specs.declared.entries.Said.{Said}
use Rattle.balance_law.specs.Parcels.{batch_after, granted_note}

-- the target is any, or a rank below this number
abbrev pub IsAimed : ℕ → Target → Type 0
IsAimed ranks Any = Unit {0}
IsAimed ranks (Only rank) = rank.0 < ranks
IsAimed ranks (Soft rank) = rank.0 < ranks

-- if the unit of this note was granted, the next call fetches it. Otherwise it puts or reserves, begins a batch if none is going on,
-- or ends the one that is going on, which has these common bytes
abbrev pub IsNext : ℕ → Option UnitNote → Option (List ℕ) → Call → Type 0
IsNext ranks None batch (calls_to.Put kind prio target answer body) = IsAimed ranks target
IsNext ranks None batch (calls_to.Reserve types) = types ≡ None
IsNext ranks None batch (calls_to.BeginBatch common) = batch ≡ None
IsNext ranks None batch calls_to.EndBatch = (common : List ℕ) × (batch ≡ Some common)
IsNext ranks (Some note) batch (calls_to.Fetch id) = id ≡ note.id
IsNext ranks held batch call = ⊥

-- a batch that was ended
abbrev pub end_batch : Said
end_batch = record { call = calls_to.EndBatch; answer = answers.Fine }

-- a Finish that was answered
abbrev pub finish : Said
finish = record { call = calls_to.Finish; answer = answers.Fine }

-- the last calls: the end of the batch, if one is going on, and Finish
abbrev pub last_calls : Option (List ℕ) → List Said
last_calls None = finish ∷ []
last_calls (Some common) = end_batch ∷ finish ∷ []

-- after an end come the last calls alone
abbrev pub Goes : Answer → Option (List ℕ) → List Said → Type 0 → Type 0
Goes (answers.Ended end) batch said on = said ≡ last_calls batch
Goes answer batch said on = on

-- so are all calls of a rank to its end. It may have been granted the unit of this note, and be in the batch of these common bytes
unfoldable pub IsOrderly : ℕ → Option UnitNote → Option (List ℕ) → List Said → Type 0
IsOrderly ranks held batch [] = ⊥
IsOrderly ranks held batch (s ∷ said) =
    IsNext ranks held batch s.call
    × Goes s.answer batch said (IsOrderly ranks (granted_note s.answer) (batch_after batch s.call s.answer) said)
