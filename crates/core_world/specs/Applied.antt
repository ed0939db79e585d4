-- What applying an event does, why it is refused, and what is left then.
use Rattle.std.specs.Prelude.{◌≡◌, ◌⊎◌, ◌<◌, ◌≤◌, ℕ, true, false, List, [], ◌∷◌, ◌++◌, Option, None, Some, IsSome, take, option_and_then}
use Rattle.std.specs.List.{slice_get}
use Rattle.adlb_unit.specs.Limits.{stamp_limit}
use Rattle.adlb_unit.specs.Links.{is_within}
use Rattle.adlb_unit.specs.declared.actors.Actor.{Actor}
use Rattle.adlb_unit.specs.declared.actors.Actor.TheVariants as by
use Rattle.adlb_unit.specs.declared.letters.Letter.{Letter}
use Rattle.adlb_unit.specs.declared.names.Rank.{Rank}
use Rattle.adlb_unit.specs.declared.notes.Trouble.{Trouble}
use Rattle.adlb_unit.specs.declared.notes.Trouble.TheVariants as troubles
use Rattle.bag_ledger.specs.declared.entries.Answer.{Answer}
use Rattle.bag_ledger.specs.declared.entries.Entry.{Entry}
use Rattle.rank_client.specs.Step.{begin, call_stamp, hear, letter_stamp}
use Rattle.server_law.specs.Step.{next_stamp}
use Rattle.core_run.specs.declared.events.Event.{Event}
use Rattle.core_run.specs.declared.events.Event.TheVariants as occurs
use Rattle.core_run.specs.Runs.{is_over, run, transcript}
use Rattle.core_run.specs.World.{World, client_of, happens, pool_of}
use Rattle.core_world.specs.declared.faults.ApplyFault.{ApplyFault}
use Rattle.core_world.specs.declared.faults.ApplyFault.TheVariants as faults
use Rattle.core_world.specs.Seen.{Seen, under_way}

-- The stamp of an event.

-- of the front letter, where there is one
abbrev pub front_stamp : World → Actor → List Letter → ℕ
front_stamp w to [] = 0
front_stamp w (by.Rank to) (letter ∷ rest) = letter_stamp (client_of w to) letter
front_stamp w (by.Server to) (letter ∷ rest) = next_stamp (pool_of w to) letter

-- the stamp of the event
abbrev pub event_stamp : World → Event → ℕ
event_stamp w (occurs.Call rank call) = call_stamp (client_of w rank)
event_stamp w (occurs.Deliver from to) = front_stamp w to (under_way w from to)

-- The answer of an event: that of a call which a rank begins, or of which it hears, where it has one then.

-- of the front letter, where there is one
abbrev pub front_answer : World → Actor → Actor → List Letter → Option Answer
front_answer w (by.Server from) (by.Rank to) (letter ∷ rest) = option_and_then (λ x. x.answer) (hear (client_of w to) from letter)
front_answer w from to letters = None

-- the answer of the call that the event answers, if there is one
abbrev pub event_answer : World → Event → Option Answer
event_answer w (occurs.Call rank call) = option_and_then (λ x. x.answer) (begin (client_of w rank) call)
event_answer w (occurs.Deliver from to) = front_answer w from to (under_way w from to)

-- there is such an event now
abbrev pub IsEnabled : World → Event → Type 0
IsEnabled w event = IsSome (happens w event)

-- The rank is not in the run, or not ready for the call. One of the two actors is not in the run, no letter is under way from the one to
-- the other, or the receiver has ended. In a world to which a run leads, there is no such event exactly then.
abbrev pub HasNone : World → Event → Type 0
HasNone w (occurs.Call rank call) = (is_within w.config (by.Rank rank) ≡ false) ⊎ (begin (client_of w rank) call ≡ None)
HasNone w (occurs.Deliver from to) =
    (is_within w.config from ≡ false) ⊎ (is_within w.config to ≡ false) ⊎ (under_way w from to ≡ []) ⊎ (is_over w to ≡ true)

-- what makes an actor fail in an event of this stamp: want of memory, or a stamp that is not given
abbrev pub Causes : ℕ → Trouble → Type 0
Causes stamp troubles.Memory = stamp < stamp_limit
Causes stamp (troubles.TooLong late) = (stamp_limit ≤ late) × (late ≡ stamp)

-- An event that is applied.

-- the event happened, and the world goes on
pub record Applies (old : Seen) (event : Event) (new : Seen) : Type 0 where
  pub whole : old.trouble ≡ None
  pub stamp : event_stamp old.world event < stamp_limit
  pub happened : happens old.world event ≡ Some new.world
  pub goes_on : new.trouble ≡ None

-- What is left after an event that failed.

-- the ledger and the transcripts are as they were
pub record IsKept (old new : World) : Type 0 where
  pub config : new.config ≡ old.config
  pub ledger : new.ledger ≡ old.ledger
  pub transcripts : (rank : Rank) → transcript new rank ≡ transcript old rank

-- some entries of an event follow those of before, in order
pub record IsBetween (before now after : List Entry) : Type 0 where
  pub entered : List Entry
  pub rest : List Entry
  pub now_is : now ≡ before ++ entered
  pub after_is : after ≡ now ++ rest

-- the ledger holds a front of the event's entries, and each transcript is that of before or that of after the event
pub record IsCut (old new after : World) : Type 0 where
  pub config : new.config ≡ old.config
  pub ledger : IsBetween old.ledger new.ledger after.ledger
  pub transcripts : (rank : Rank) → (transcript new rank ≡ transcript old rank) ⊎ (transcript new rank ≡ transcript after rank)

-- nothing has changed but the letters under way and, at the end of the ledger, some of the entries that were to come
pub record IsHalf (old : World) (entries : List Entry) (new : World) : Type 0 where
  pub config : new.config ≡ old.config
  pub ranks : new.ranks ≡ old.ranks
  pub servers : new.servers ≡ old.servers
  pub ledger : IsBetween old.ledger new.ledger (old.ledger ++ entries)

-- what is left, by the trouble by which an enabled event failed
abbrev pub Leaves : World → Event → Trouble → World → Type 0
Leaves old event troubles.Memory new = (after : World) → happens old event ≡ Some after → IsCut old new after
Leaves old event (troubles.TooLong stamp) new = IsKept old new

-- an enabled event failed by this trouble
pub record Stops (old : World) (event : Event) (trouble : Trouble) (new : World) : Type 0 where
  pub cause : Causes (event_stamp old event) trouble
  pub leaves : Leaves old event trouble new

-- Why an event is refused.

-- the trouble as a refusal
abbrev pub fault_of : Trouble → ApplyFault
fault_of troubles.Memory = faults.Memory
fault_of (troubles.TooLong stamp) = faults.TooLong stamp

-- the world has failed by this event
pub record Fails (old : Seen) (event : Event) (trouble : Trouble) (new : Seen) : Type 0 where
  pub whole : old.trouble ≡ None
  pub enabled : IsEnabled old.world event
  pub failed : new.trouble ≡ Some trouble
  pub stops : Stops old.world event trouble new.world

-- the world had failed before by this trouble, and is as it was
abbrev pub Repeats : Seen → Trouble → Seen → Type 0
Repeats old trouble new = (old.trouble ≡ Some trouble) × (new ≡ old)

-- why an event is refused, and what is left then
abbrev pub Refuses : Seen → Event → ApplyFault → Seen → Type 0
Refuses old event (faults.NotEnabled given) new =
    (old.trouble ≡ None) × (happens old.world event ≡ None) × (given ≡ event) × (new ≡ old)
Refuses old event faults.Memory new = Repeats old troubles.Memory new ⊎ Fails old event troubles.Memory new
Refuses old event (faults.TooLong stamp) new =
    Repeats old (troubles.TooLong stamp) new ⊎ Fails old event (troubles.TooLong stamp) new

-- the first events led to a world that refused the event of this number, from 0, in this way
pub record StopsAt (old : Seen) (events : List Event) (number : ℕ) (fault : ApplyFault) (new : Seen) : Type 0 where
  pub before : Seen
  pub event : Event
  pub there : slice_get events number ≡ Some event
  pub ran : run old.world (take number events) ≡ Some before.world
  pub going : before.trouble ≡ old.trouble
  pub refused : Refuses before event fault new
