-- What the calls of a rank add to its transcript.
use Rattle.std.specs.Prelude.{◌≡◌, ◌⊎◌, ◌<◌, ℕ, List, [], ◌∷◌, ◌++◌, Option, Some, None, Result, Err, OnOk}
use Rattle.adlb_unit.specs.declared.notes.Trouble.{Trouble}
use Rattle.adlb_unit.specs.declared.notes.Trouble.TheVariants.{TooLong}
use Rattle.adlb_unit.specs.declared.notes.UnitNote.{UnitNote}
use Rattle.bag_ledger.specs.declared.entries.Answer.TheVariants as answers
use Rattle.bag_ledger.specs.declared.entries.Call.{Call}
use Rattle.bag_ledger.specs.declared.entries.Call.TheVariants.{Reserve, Fetch}
use Rattle.bag_ledger.specs.declared.entries.Said.{Said}
use Rattle.rank_client.specs.Calls.{Pends}
use Rattle.rank_client.specs.Link.{LinkModel}
use Rattle.work_law.specs.Books.{said_of}

-- a unit is granted to who reserves one of any type
abbrev pub grant : UnitNote → Said
grant note = said_of (Reserve None) (answers.Granted note)

-- the reservation failed, or a unit was granted and its fetch failed; perhaps what failed was begun
abbrev pub Fails : List Said → List Said → Option Call → Type 0
Fails before after begun =
    ((after ≡ before) × Pends begun (Reserve None)) ⊎
    ((note : UnitNote) × (after ≡ before ++ grant note ∷ []) × Pends begun (Fetch note.id))

-- a rank of a run of this many ranks can work over this link, which has not failed
pub record IsReady (ranks : ℕ) (m : LinkModel) : Type 0 where
  pub whole : m.failed ≡ None
  pub ranks_are : m.seat.ranks ≡ ranks
  pub some : 0 < ranks

-- whom the link serves stays, and whether a batch goes on; at `Ok` it has not failed; it failed with the stamp that is told
pub record Keeps {X : Type 0} (old new : LinkModel) (r : Result X Trouble) : Type 0 where
  pub seat : new.seat ≡ old.seat
  pub whole : OnOk r (new.failed ≡ None)
  pub batch : OnOk r (new.batch ≡ old.batch)
  pub too_long : (stamp : ℕ) → r ≡ Err (TooLong stamp) → new.failed ≡ Some (TooLong stamp)
