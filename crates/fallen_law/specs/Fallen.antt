-- Journals of actors that may have failed: what such an actor still expects, and which stamp its next event would bear.
use Rattle.std.specs.Prelude.{◌≡◌, ◌⊎◌, ◌+◌, ℕ, Bool, true, false, List, ◌∷◌, ◌++◌, is_some}
use Rattle.std.specs.List.{AllByRecursion as Each}
use Rattle.adlb_unit.specs.Links.{is_within, place_of, stamp_after}
use Rattle.adlb_unit.specs.declared.actors.Actor.{Actor}
use Rattle.adlb_unit.specs.declared.actors.Actor.TheVariants as by
use Rattle.adlb_unit.specs.declared.configs.Config.{Config}
use Rattle.adlb_unit.specs.declared.letters.Letter.{Letter}
use Rattle.adlb_unit.specs.declared.messages.Message.{Message}
use Rattle.adlb_unit.specs.declared.messages.Message.TheVariants as tells
use Rattle.actor_desk.specs.Desks.{DeskModel, sent_at}
use Rattle.core_run.specs.World.{has_ended}
use Rattle.merge_history.specs.declared.causes.Cause.TheVariants as causes
use Rattle.merge_history.specs.Events.{OfActor}
use Rattle.merge_history.specs.Merging.{journal_at}
use Rattle.merge_history.specs.Own.{Finals, client_step, got, pool_step, sent as sends_to}

-- in these states the actor has a step by the letter of that sender
abbrev pub Expects : Config → Finals → Actor → Actor → Letter → Type 0
Expects config finals from (by.Rank to) letter = is_some (client_step config (finals.client to) (causes.Got from letter)) ≡ true
Expects config finals from (by.Server to) letter = is_some (pool_step config (finals.pool to) (causes.Got from letter)) ≡ true

-- a server that has ended handles nothing more
abbrev pub GoesOn : Finals → Actor → Type 0
GoesOn finals (by.Rank to) = Unit {0}
GoesOn finals (by.Server to) = has_ended (finals.pool to) ≡ false

-- of what the first journal sent to the second the letter is the next that this one has not got
abbrev pub IsNext : Config → List OfActor → Actor → Actor → Letter → List Letter → Type 0
IsNext config journals from to letter rest =
    sends_to config (place_of config to) (journal_at journals (place_of config from))
    ≡ got config (place_of config from) (journal_at journals (place_of config to)) ++ letter ∷ rest

-- what an actor that failed tells another, and no event sends: a rank tells a server that it is gone, and a server tells a rank that it
-- broke, and another server to break, too
abbrev pub tells_trouble : Actor → Actor → Message → Bool
tells_trouble (by.Rank from) (by.Server to) (tells.Gone trouble) = true
tells_trouble (by.Server from) (by.Rank to) (tells.Broken trouble) = true
tells_trouble (by.Server from) (by.Server to) (tells.Abort trouble absent) = true
tells_trouble from to message = false

-- to the second actor went from this desk, the first one's, what its journal sent, and after it what an actor that failed tells alone
abbrev pub TellsAfter : Config → DeskModel → Actor → Actor → Type 0
TellsAfter config d from to =
    (more : List Letter) × (sent_at d (place_of config to) ≡ sends_to config (place_of config to) d.events ++ more)
    × Each (λ (l : Letter). tells_trouble from to l.message ≡ true) more

-- the stamp of the actor's last event
abbrev pub last_stamp : Finals → Actor → ℕ
last_stamp finals (by.Rank rank) = (finals.client rank).clock
last_stamp finals (by.Server server) = (finals.pool server).clock

-- the actor's next event would bear this stamp: that of a call, or that of the next letter of a link
abbrev pub WouldBear : Config → Finals → List OfActor → Actor → ℕ → Type 0
WouldBear config finals journals actor stamp =
    (stamp ≡ last_stamp finals actor + 1)
    ⊎ ((from : Actor) × (letter : Letter) × (rest : List Letter) × (is_within config from ≡ true)
    × IsNext config journals from actor letter rest × (stamp ≡ stamp_after (last_stamp finals actor) letter))
