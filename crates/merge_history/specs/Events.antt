-- Events as proofs see them. Nothing of them is held but their entries.
use Rattle.std.specs.Prelude.{ℕ, List}
use Rattle.adlb_unit.specs.declared.actors.Actor.{Actor}
use Rattle.adlb_unit.specs.declared.letters.Sending.{Sending}
use Rattle.bag_ledger.specs.declared.entries.Entry.{Entry}
use Rattle.merge_history.specs.declared.causes.Cause.{Cause}

-- one event of an actor
pub record Event : Type 0 where
  pub stamp : ℕ
  pub cause : Cause
  pub sends : List Sending
  pub entries : List Entry

-- the events of one actor, in order
pub record OfActor : Type 0 where
  pub actor : Actor
  pub events : List Event
