-- Runs, and what is read off them.
use Rattle.std.specs.Prelude.{◌≡◌, ◌≤◌, Bool, List, [], ◌∷◌, ◌++◌, length, Option, Some, option_and_then, ◌<◌, true, false}
use Rattle.adlb_unit.specs.Limits.{stamp_limit}
use Rattle.adlb_unit.specs.Links.{is_within, place_of}
use Rattle.adlb_unit.specs.declared.names.Rank.{Rank}
use Rattle.bag_ledger.specs.declared.entries.Said.{Said}
use Rattle.bag_ledger.specs.Runs.{calls}
use Rattle.rank_client.specs.declared.pendings.Pending.TheVariants as waits_for
use Rattle.core_run.specs.declared.events.Event.{Event}
use Rattle.core_run.specs.declared.events.Event.TheVariants as occurs
use Rattle.core_run.specs.World.{World, client_of, happens, has_ended, link, pool_of}
use Rattle.adlb_unit.specs.declared.actors.Actor.{Actor}
use Rattle.adlb_unit.specs.declared.actors.Actor.TheVariants as by
use Rattle.adlb_unit.specs.declared.messages.Message.{Message}
use Rattle.adlb_unit.specs.declared.messages.Message.TheVariants as tells
use Rattle.adlb_unit.specs.declared.letters.Letter.{Letter}

-- the events, in order, lead from the first world to the last
abbrev pub Runs : World → List Event → World → Type 0
Runs w [] last = w ≡ last
Runs w (e ∷ es) last = (next : World) × (happens w e ≡ Some next) × Runs next es last

-- the world to which they lead, as a function
abbrev pub run : World → List Event → Option World
run w [] = Some w
run w (e ∷ es) = option_and_then (λ next. run next es) (happens w e)

-- the calls of the rank with the answers that it has heard
abbrev pub transcript : World → Rank → List Said
transcript w rank = (client_of w rank).transcript

-- the first list is the beginning of the second, which has at most one element more
abbrev pub IsBehind : List Said → List Said → Type 0
IsBehind said all = (more : List Said) × (all ≡ said ++ more) × (length more ≤ 1)

-- the rank's transcript is what the ledger says of its calls, but for the one that is pending
abbrev pub Tells : World → Rank → Type 0
Tells w rank =
    IsBehind (transcript w rank) (calls w.config w.ledger rank)
    × ((client_of w rank).pending ≡ waits_for.Nothing → calls w.config w.ledger rank ≡ transcript w rank)

-- a server that has ended handles nothing more
abbrev pub is_over : World → Actor → Bool
is_over w (by.Rank rank) = false
is_over w (by.Server server) = has_ended (pool_of w server)

-- a token goes round, or has failed
abbrev pub is_of_check : Message → Bool
is_of_check (tells.Token t) = true
is_of_check (tells.Failed t why) = true
is_of_check _ = false

-- the front letter of each list can be handled, where its receiver has not ended and its stamp is one that is given. Of tokens, and of
-- those that have failed, it is not said
abbrev pub NoneIsStuck : World → Type 0
NoneIsStuck w =
    (from to : Actor) (letter : Letter) (rest : List Letter) → is_within w.config from ≡ true → is_within w.config to ≡ true
    → link w.links (place_of w.config from) (place_of w.config to) ≡ letter ∷ rest → is_over w to ≡ false
    → is_of_check letter.message ≡ false → letter.stamp < stamp_limit → (next : World) × (happens w (occurs.Deliver from to) ≡ Some next)
