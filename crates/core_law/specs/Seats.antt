-- The bag at a moment of a run, and what each actor is to it.
use Rattle.std.specs.Prelude.{◌≡◌, ◌<◌, Option, Some}
use Rattle.adlb_unit.specs.declared.messages.Message.{Message}
use Rattle.adlb_unit.specs.declared.names.Rank.{Rank}
use Rattle.adlb_unit.specs.declared.names.Server.{Server}
use Rattle.adlb_unit.specs.declared.names.UnitId.{UnitId}
use Rattle.bag_ledger.specs.Bag.{Bag, promise_of, start as empty_bag}
use Rattle.bag_ledger.specs.Runs.{IsRunWhere, calls}
use Rattle.bag_ledger.specs.Steps.{Stands}
use Rattle.bag_ledger.specs.declared.states.Placed.{Placed}
use Rattle.bag_ledger.specs.declared.states.Promise.{Promise}
use Rattle.bag_ledger.specs.declared.states.UnitPlace.TheVariants.{Travelling}
use Rattle.bag_law.specs.Counts.{promises_named}
use Rattle.rank_client.specs.Agreement.{ClientAgrees, said}
use Rattle.server_law.specs.Agreement.{ServerAgrees}
use Rattle.core_law.specs.Found.{found_in}
use Rattle.core_law.specs.Measures.{links_weight}
use Rattle.core_law.specs.OnLinks.{OnLinks}
use Rattle.core_law.specs.Pushed.{IsOfPush, letters_of, on_way}
use Rattle.core_law.specs.Pushes.{promised_letter, travels_letter}
use Rattle.core_run.specs.World.{World, client_of, pool_of}

-- The client of this rank stands for it, also while an answer comes. Its calls in the ledger are its transcript and then its pending
-- call, where that answer ends it. What comes is what the ledger has decided of the call and the rank has not heard.
pub record HasSeat (w : World) (b : Bag) (me : Rank) : Type 0 where
  pub coming : Option Message
  pub stands : ClientAgrees (client_of w me) coming b
  pub says : said (client_of w me) (client_of w me).pending coming ≡ calls w.config w.ledger me

-- as many letters under way as units of the bag are between servers bring the unit of this id, and as many of promised room as it is
-- promised room
pub record AreMoving (w : World) (b : Bag) : Type 0 where
  pub travels : (id : UnitId) → links_weight w.config (letters_of (travels_letter id)) w.links ≡ on_way id b.units
  pub rooms : (id : UnitId) → links_weight w.config (letters_of (promised_letter id)) w.links ≡ promises_named id b.promises

-- each letter of a push says what the bag has of its unit. Exactly one letter is under way that brings each unit between servers, and
-- exactly one of promised room for each promise
pub record AreBrought (w : World) (b : Bag) : Type 0 where
  pub told : OnLinks (λ from to l. IsOfPush b from to l.message) w.config w.links
  pub unit : (id : UnitId) (u : Placed) (to : Server) → Stands b id u (Travelling to)
      → links_weight w.config (letters_of (travels_letter id)) w.links ≡ 1
  pub promise : (id : UnitId) (p : Promise) → promise_of b id ≡ Some p
      → links_weight w.config (letters_of (promised_letter id)) w.links ≡ 1

-- the ledger leads to this bag, in which each rank has its seat, with which each server agrees, and whose units between servers are
-- under way
pub record IsSeated (w : World) (b : Bag) : Type 0 where
  pub run : IsRunWhere (found_in w.config) (empty_bag w.config) w.ledger b
  pub ranks : (me : Rank) → me.0 < w.config.ranks → HasSeat w b me
  pub servers : (me : Server) → me.0 < w.config.servers → ServerAgrees b (pool_of w me)
  pub moving : AreMoving w b
