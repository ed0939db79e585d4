-- What each event does, as facts, and sums of weights along it.
use Rattle.std.proofs.Common.{◌≡◌, ◌<◌, ◌+◌, Bool, true, false, ◌&&◌, cond, List, [], ◌∷◌, Option, Some, None, refl, ap, ◌∙◌, arith, ltb}
use Rattle.std.specs.Option.{option_map}
use Rattle.std.proofs.lemmas.List.{length-set}
use Rattle.std.proofs.lemmas.Bool.{and_parts, ltb-true, lt-ltb}
use Rattle.adlb_unit.specs.Links.{is_within, place_of}
use Rattle.adlb_unit.specs.declared.actors.Actor.{Actor}
use Rattle.adlb_unit.specs.declared.actors.Actor.TheVariants as by
use Rattle.adlb_unit.specs.declared.letters.Letter.{Letter}
use Rattle.adlb_unit.specs.declared.names.Rank.{Rank}
use Rattle.adlb_unit.specs.declared.names.Server.{Server}
use Rattle.bag_ledger.specs.declared.entries.Call.{Call}
use Rattle.rank_client.specs.State.{start as new_client}
use Rattle.rank_client.specs.Step.{Made, begin, hear}
use Rattle.server_law.specs.Carried.{Served}
use Rattle.server_law.specs.Step.{serve}
use Rattle.core_run.specs.declared.events.Event.{Event}
use Rattle.core_run.specs.declared.events.Event.TheVariants as occurs
use Rattle.core_run.specs.World.{World, actors, after_rank, after_server, client_of, handle, happens, has_ended, link, pool_of, taken}
use Rattle.core_law.specs.Measures.{Weights, actor, due, measure, sends_weight}
use Rattle.core_law.specs.Well.{IsShaped}
use Rattle.core_law.proofs.Sums.{AreWithin, front_goes, place_actor, place_below, post_weight, square_post, square_put, weigh_at-set}

-- a server handled the front letter of one list
pub record Serves (w : World) (from : Actor) (me : Server) (letter : Letter) (rest : List Letter) (x : Served) (next : World) : Type 0 where
  pub here : me.0 < w.config.servers
  pub there : is_within w.config from ≡ true
  pub front : link w.links (place_of w.config from) (place_of w.config (by.Server me)) ≡ letter ∷ rest
  pub does : serve (pool_of w me) from letter ≡ Some x
  pub is : next ≡ after_server w me (taken w from (by.Server me) rest) x

-- a rank heard the front letter of one list
pub record Hears (w : World) (from : Server) (me : Rank) (letter : Letter) (rest : List Letter) (x : Made) (next : World) : Type 0 where
  pub here : me.0 < w.config.ranks
  pub there : from.0 < w.config.servers
  pub front : link w.links (place_of w.config (by.Server from)) (place_of w.config (by.Rank me)) ≡ letter ∷ rest
  pub does : hear (client_of w me) from letter ≡ Some x
  pub is : next ≡ after_rank w me (taken w (by.Server from) (by.Rank me) rest) x

-- a rank began a call
pub record Begins (w : World) (me : Rank) (call : Call) (x : Made) (next : World) : Type 0 where
  pub here : me.0 < w.config.ranks
  pub does : begin (client_of w me) call ≡ Some x
  pub is : next ≡ after_rank w me w.links x

-- what an event does: a rank begins a call, a rank hears a letter, or a server handles one
pub data Does : World → World → Type 0 where
  A_call : {w next : World} {me : Rank} {call : Call} {x : Made} → Begins w me call x next → Does w next
  An_answer : {w next : World} {from : Server} {me : Rank} {letter : Letter} {rest : List Letter} {x : Made}
      → Hears w from me letter rest x next → Does w next
  A_request : {w next : World} {from : Actor} {me : Server} {letter : Letter} {rest : List Letter} {x : Served}
      → Serves w from me letter rest x next → Does w next

when_some : (t : Bool) (o : Option World) (next : World) → cond t o None ≡ Some next → (t ≡ true) × (o ≡ Some next)
when_some true o next e = (refl, e)
when_some false o next e = absurd (cc)

unless_some : (t : Bool) (o : Option World) (next : World) → cond t None o ≡ Some next → o ≡ Some next
unless_some true o next e = absurd (cc)
unless_some false o next e = e

mapped : {X : Type 0} (f : X → World) (o : Option X) (next : World) → option_map f o ≡ Some next → (x : X) × (o ≡ Some x) × (next ≡ f x)
mapped f None next e = absurd (cc)
mapped f (Some x) next e = (x, refl, cc)

handle_does : (w : World) (from to : Actor) (next : World) (letters : List Letter) → is_within w.config from ≡ true
    → is_within w.config to ≡ true → link w.links (place_of w.config from) (place_of w.config to) ≡ letters
    → handle w from to letters ≡ Some next → Does w next
handle_does w from to next [] f t l h = absurd (cc)
handle_does w (by.Rank from) (by.Rank to) next (letter ∷ rest) f t l h = absurd (cc)
handle_does w (by.Server from) (by.Rank to) next (letter ∷ rest) f t l h =
    let s = mapped (after_rank w to (taken w (by.Server from) (by.Rank to) rest)) (hear (client_of w to) from letter) next h in
    An_answer (record {
      here = ltb-true to.0 w.config.ranks t;
      there = ltb-true from.0 w.config.servers f;
      front = l;
      does = s.1;
      is = s.2;
    })
handle_does w (by.Rank from) (by.Server to) next (letter ∷ rest) f t l h =
    let o = option_map (after_server w to (taken w (by.Rank from) (by.Server to) rest)) (serve (pool_of w to) (by.Rank from) letter) in
    let s = mapped (after_server w to (taken w (by.Rank from) (by.Server to) rest)) (serve (pool_of w to) (by.Rank from) letter) next
    (unless_some (has_ended (pool_of w to)) o next h) in
    A_request {from = by.Rank from} (record { here = ltb-true to.0 w.config.servers t; there = f; front = l; does = s.1; is = s.2 })
handle_does w (by.Server from) (by.Server to) next (letter ∷ rest) f t l h =
    let o = option_map (after_server w to (taken w (by.Server from) (by.Server to) rest)) (serve (pool_of w to) (by.Server from) letter) in
    let s = mapped (after_server w to (taken w (by.Server from) (by.Server to) rest)) (serve (pool_of w to) (by.Server from) letter) next
    (unless_some (has_ended (pool_of w to)) o next h) in
    A_request {from = by.Server from} (record { here = ltb-true to.0 w.config.servers t; there = f; front = l; does = s.1; is = s.2 })

-- an event that happens does one of the three
pub happens_does : (w next : World) (e : Event) → happens w e ≡ Some next → Does w next
happens_does w next (occurs.Call me call) h =
    let s = when_some (ltb me.0 w.config.ranks) (option_map (after_rank w me w.links) (begin (client_of w me) call)) next h in
    let x = mapped (after_rank w me w.links) (begin (client_of w me) call) next s.1 in
    A_call {call = call} (record { here = ltb-true me.0 w.config.ranks s.0; does = x.1; is = x.2 })
happens_does w next (occurs.Deliver from to) h =
    let letters = link w.links (place_of w.config from) (place_of w.config to) in
    let s = when_some (is_within w.config from && is_within w.config to) (handle w from to letters) next h in
    let parts = and_parts (is_within w.config from) (is_within w.config to) s.0 in
    handle_does w from to next letters parts.0 parts.1 refl s.1

-- an event keeps the configuration
pub same_config : (w next : World) → Does w next → next.config ≡ w.config
same_config w next (A_call does) = ap (λ (v : World). v.config) does.is
same_config w next (An_answer does) = ap (λ (v : World). v.config) does.is
same_config w next (A_request does) = ap (λ (v : World). v.config) does.is

-- Sums along an event: what was there, what went and what came.

-- the letter goes off its list
pub taken_weight : (m : Weights) (w : World) (from to : Actor) (letter : Letter) (rest : List Letter) → IsShaped w
    → is_within w.config from ≡ true → is_within w.config to ≡ true
    → link w.links (place_of w.config from) (place_of w.config to) ≡ letter ∷ rest
    → measure m (record w { links = taken w from to rest }) + m.letter from to letter.message ≡ measure m w
unfolding measure
taken_weight m w from to letter rest shape f t front =
    let off = front_goes w.config m w.links from to letter rest shape.square f t front in omega arith

-- a world without the front letter of a link is still a world of these actors
pub taken_shaped : (w : World) (from to : Actor) (rest : List Letter) → IsShaped w → is_within w.config from ≡ true
    → is_within w.config to ≡ true → IsShaped (record w { links = taken w from to rest })
taken_shaped w from to rest shape f t = record {
  ranks = shape.ranks;
  servers = shape.servers;
  square = square_put (actors w.config) w.links (place_of w.config from) (place_of w.config to) rest (place_below w.config from f)
      (place_below w.config to t) shape.square;
}

-- a rank changes, and its letters come
pub rank_weight : (m : Weights) (w : World) (me : Rank) (x : Made) → IsShaped w → me.0 < w.config.ranks → AreWithin w.config x.sends
    → measure m (after_rank w me w.links x) + m.rank me.0 (client_of w me)
    ≡ measure m w + (sends_weight m (by.Rank me) x.sends + m.rank me.0 x.state)
unfolding measure
rank_weight m w me x shape here within =
    let there : me.0 < actors w.config = omega arith in
    let sent = post_weight w.config m w.links me.0 x.sends there within shape.square in
    let i : actor w.config me.0 ≡ by.Rank me = place_actor w.config (by.Rank me) (lt-ltb me.0 w.config.ranks here) in
    let out : sends_weight m (actor w.config me.0) x.sends ≡ sends_weight m (by.Rank me) x.sends = rw i refl in
    let state = weigh_at-set m.rank w.ranks me.0 x.state (new_client w.config me) (let g = shape.ranks in omega arith) in
    omega arith

-- a step of a rank leaves a world of these actors
pub rank_shaped : (w : World) (me : Rank) (x : Made) → IsShaped w → me.0 < w.config.ranks → AreWithin w.config x.sends
    → IsShaped (after_rank w me w.links x)
rank_shaped w me x shape here within =
    let there : me.0 < actors w.config = omega arith in
    record {
      ranks = length-set w.ranks me.0 x.state ∙ shape.ranks;
      servers = shape.servers;
      square = square_post w.config w.links me.0 x.sends there within shape.square;
    }

-- what is owed
pub rank_owes : (m : Weights) (w : World) (me : Rank) (x : Made) → IsShaped w → me.0 < w.config.ranks
    → due m (after_rank w me w.links x) + m.rank_due me.0 (client_of w me) ≡ due m w + m.rank_due me.0 x.state
unfolding due
rank_owes m w me x shape here =
    let state = weigh_at-set m.rank_due w.ranks me.0 x.state (new_client w.config me) (let g = shape.ranks in omega arith) in
    omega arith
