-- What the bag has while a letter between servers is under way: of the unit of a push, and that exhaustion was found.
use Rattle.std.specs.Prelude.{◌≡◌, ◌≤◌, ℕ, true, ◌&&◌, None, Some, Option, List, sum_by}
use Rattle.adlb_unit.specs.Ids.{same_unit}
use Rattle.adlb_unit.specs.declared.actors.Actor.{Actor}
use Rattle.adlb_unit.specs.declared.actors.Actor.TheVariants as by
use Rattle.adlb_unit.specs.declared.messages.Message.{Message}
use Rattle.adlb_unit.specs.declared.messages.Message.TheVariants as tells
use Rattle.adlb_unit.specs.declared.names.Server.{Server}
use Rattle.adlb_unit.specs.declared.names.UnitId.{UnitId}
use Rattle.bag_ledger.specs.Bag.{Bag, is_travelling, promise_of, unit_of}
use Rattle.bag_ledger.specs.declared.entries.Entry.{Entry}
use Rattle.bag_ledger.specs.declared.entries.Entry.TheVariants as enters
use Rattle.bag_ledger.specs.declared.states.Placed.{Placed}
use Rattle.bag_ledger.specs.declared.states.UnitPlace.TheVariants.{Travelling}
use Rattle.bag_law.specs.Counts.{promises_named}
use Rattle.server_law.specs.Moving.{IsHeldAt, IsMeasured, IsPromisedAt}
use Rattle.core_run.specs.World.{World}
use Rattle.core_law.specs.Letters.{no_rank, no_server, one}
use Rattle.core_law.specs.Measures.{Weights, links_weight}
use Rattle.core_law.specs.OnLinks.{OnLinks}
use Rattle.core_law.specs.Pushes.{open_letter, promised_letter, travels_letter}

-- by what a letter from the one server to the other says
abbrev pub OfPush : Bag → Server → Server → Message → Type 0
OfPush b from to (tells.PushQuery id length) = IsHeldAt b from id × IsMeasured b id length × (promise_of b id ≡ None)
OfPush b from to (tells.PushYes id) = IsHeldAt b to id × IsPromisedAt b from id
OfPush b from to (tells.PushNo id) = IsHeldAt b to id
OfPush b from to (tells.PushUnit unit) = unit_of b unit.id ≡ Some (record { unit = unit; place = Travelling to })
OfPush b from to (tells.PushCancel id) = IsHeldAt b from id × IsPromisedAt b to id
-- server 0 has found that all work is used up
OfPush b from to tells.Exhaust = b.exhausted ≡ true
OfPush b from to _ = Unit {0}

-- what the bag has of a letter between servers
abbrev pub IsOfPush : Bag → Actor → Actor → Message → Type 0
IsOfPush b (by.Server from) (by.Server to) m = OfPush b from to m
IsOfPush b (by.Server from) (by.Rank to) m = Unit {0}
IsOfPush b (by.Rank from) to m = Unit {0}

-- the unit that an entry promises, moves from server to server, or no longer promises
abbrev pub pushes : Entry → Option UnitId
pushes (enters.Promised server id length) = Some id
pushes (enters.Left server to id) = Some id
pushes (enters.Arrived server id) = Some id
pushes (enters.Withdrawn server id) = Some id
pushes _ = None

-- weights of letters alone
abbrev pub letters_of : (Actor → Actor → Message → ℕ) → Weights
letters_of f = record { letter = f; server = no_server; rank = no_rank; server_due = no_server; rank_due = no_rank }

-- how many units of this id are between servers
abbrev pub on_way : UnitId → List Placed → ℕ
on_way id units = sum_by (λ (u : Placed). one (is_travelling u.place && same_unit u.unit.id id)) units

-- Of each unit at most one letter of a push is under way, but for acknowledgements. The bag has what it says. A promise is there exactly
-- while a letter of promised room is. A unit is between servers exactly while the letter is that brings it.
pub record IsPushed (w : World) (b : Bag) : Type 0 where
  pub opens : (id : UnitId) → links_weight w.config (letters_of (open_letter id)) w.links ≤ 1
  pub letters : OnLinks (λ from to l. IsOfPush b from to l.message) w.config w.links
  pub rooms : (id : UnitId) → links_weight w.config (letters_of (promised_letter id)) w.links ≡ promises_named id b.promises
  pub travels : (id : UnitId) → links_weight w.config (letters_of (travels_letter id)) w.links ≡ on_way id b.units
