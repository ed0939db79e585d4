-- What a client knows of its transcript.
use Rattle.std.specs.Prelude.{◌≡◌, ◌≤◌, ◌↔◌, ◌++◌, true, false, List, [], ◌∷◌, length, find, Option, None, Some, is_some}
use Rattle.adlb_unit.specs.Ids.{same_unit}
use Rattle.adlb_unit.specs.declared.names.UnitId.{UnitId}
use Rattle.adlb_unit.specs.declared.notes.UnitNote.{UnitNote}
use Rattle.bag_ledger.specs.declared.entries.Call.{Call}
use Rattle.bag_ledger.specs.declared.entries.Call.TheVariants as calls_to
use Rattle.bag_ledger.specs.declared.entries.Said.{Said}
use Rattle.rank_client.specs.declared.pendings.Pending.{Pending}
use Rattle.rank_client.specs.declared.pendings.Pending.TheVariants as waits_for
use Rattle.rank_client.specs.Answers.{heeds_end}
use Rattle.rank_client.specs.Calls.{end_told, granted, has_finished, is_fetched, is_open}
use Rattle.rank_client.specs.Granted.{IsGrantedFirst}
use Rattle.rank_client.specs.Rules.{call_of}
use Rattle.rank_client.specs.State.{ClientModel}

-- the call that is pending
abbrev pub pending_call : Pending → Option Call
pending_call waits_for.Nothing = None
pending_call (waits_for.Put unit first tried) = Some (call_of unit)
pending_call (waits_for.Reserve request types) = Some (calls_to.Reserve types)
pending_call (waits_for.Try request types tried) = Some (calls_to.Try types)
pending_call (waits_for.Fetch request note) = Some (calls_to.Fetch note.id)
pending_call (waits_for.Common request note common own) = Some (calls_to.Fetch note.id)
pending_call (waits_for.Keep request common first tried) = Some (calls_to.BeginBatch common)
pending_call (waits_for.Close request batch) = Some calls_to.EndBatch
pending_call (waits_for.Count request kind) = Some (calls_to.Count kind)
pending_call (waits_for.SetDone request tried) = Some calls_to.SetDone

-- the note of this id
abbrev pub note_with : UnitId → List UnitNote → Option UnitNote
note_with id notes = find (λ n. same_unit n.id id) notes

-- the units that were granted and not fetched are held, each by the note by which it was granted, and no others
abbrev pub AreHeld : List Said → List UnitNote → Type 0
AreHeld said notes =
    (note : UnitNote) → (note_with note.id notes ≡ Some note) ↔ (granted note said × (is_fetched note.id said ≡ false))

-- the unit that is fetched by the pending call
abbrev pub fetched_by : Pending → List UnitNote
fetched_by (waits_for.Fetch request note) = note ∷ []
fetched_by (waits_for.Common request note common own) = note ∷ []
fetched_by pending = []

-- the note of a unit that is fetched is the one by which it was granted, and no other of its id is held
pub record IsTaken (said : List Said) (notes : List UnitNote) (note : UnitNote) : Type 0 where
  pub only : (n : UnitNote) → granted n said → n.id ≡ note.id → n ≡ note
  pub gone : note_with note.id notes ≡ None

-- and what came of its bytes is as long as it says
abbrev pub IsFitting : List Said → List UnitNote → Pending → Type 0
IsFitting said notes (waits_for.Fetch request note) = IsTaken said notes note
IsFitting said notes (waits_for.Common request note common own) =
    IsTaken said notes note × (note.common ≡ Some common) × (length own ≡ note.length)
IsFitting said notes pending = Prim.Unit {0}

-- What a client knows of its transcript: whether Finish was called, the end that was told, the units that it holds and fetches, and whether
-- a batch is going on. No end was told by which the pending call would be answered, and each call took a stamp of its own.
pub record Remembers (s : ClientModel) : Type 0 where
  pub finishes : has_finished s.transcript ≡ s.finished
  pub told : end_told s.transcript ≡ s.end
  pub first : IsGrantedFirst s
  pub held : AreHeld s.transcript (s.handles ++ fetched_by s.pending)
  pub opened : is_some s.batch ≡ is_open s.transcript
  pub fits : IsFitting s.transcript s.handles s.pending
  pub untold : (call : Call) → pending_call s.pending ≡ Some call → heeds_end call ≡ true → s.end ≡ None
  pub counted : length s.transcript ≤ s.clock
