-- A world to which a run leads: so is the world after an event, and a front letter whose receiver goes on is handled.
use Rattle.std.proofs.Common.{◌≡◌, ◌<◌, ◌≤◌, ℕ, zero, suc, Bool, true, false, ◌&&◌, cond, List, [], ◌∷◌, ◌++◌, get_or, set, map}
use Rattle.std.proofs.Common.{Option, Some, None, refl, sym, subst, arith}
use Rattle.std.specs.Prelude.{IsSome, nat_lt}
use Rattle.std.specs.List.{range_with_len}
use Rattle.std.specs.Option.{option_map}
use Rattle.adlb_unit.specs.Limits.{stamp_limit}
use Rattle.adlb_unit.specs.Links.{is_within, place_of}
use Rattle.adlb_unit.specs.declared.actors.Actor.{Actor}
use Rattle.adlb_unit.specs.declared.actors.Actor.TheVariants as by
use Rattle.adlb_unit.specs.declared.configs.Config.{Config}
use Rattle.adlb_unit.specs.declared.letters.Letter.{Letter}
use Rattle.adlb_unit.specs.declared.names.Rank.{Rank}
use Rattle.adlb_unit.specs.declared.names.Server.{Server}
use Rattle.rank_client.specs.State.{ClientModel, start as new_client}
use Rattle.rank_client.specs.Step.{Made, begin, hear}
use Rattle.server_law.specs.Carried.{Served}
use Rattle.server_law.specs.State.{ServerModel, start as new_pool}
use Rattle.server_law.specs.Step.{serve}
use Rattle.core_run.specs.declared.events.Event.{Event}
use Rattle.core_run.specs.declared.events.Event.TheVariants as occurs
use Rattle.core_run.specs.Runs.{Runs, is_over}
use Rattle.core_run.specs.World.{Links, World, after_rank, after_server, client_of, handle, happens, has_ended, link, pool_of}
use Rattle.core_run.specs.World.{rank_named, server_named, start, taken}
use Rattle.core_progress_law.specs.Lines.{AreStamped, clock_of}
use Rattle.core_progress_law.proofs.InLine.{every_run_in_line}
use Rattle.core_progress_law.proofs.Expected.{none_is_ever_stuck}
use Rattle.core_world.specs.Applied.{IsEnabled, event_stamp, front_stamp}
use Rattle.core_world.specs.Stage.{IsReached}
use Rattle.core_world.proofs.Running.{runs_more}
use Rattle.core_world.proofs.Stopping.{happens_config, some_same}
use Rattle.core_progress_law.proofs.Clocks.{begin_leaves, hear_leaves, serve_stays}

-- The last stamp of each actor is one that is given.

abbrev AreEarly : World → Type 0
AreEarly w = (actor : Actor) → clock_of w actor < stamp_limit

each_made : {X : Type 0} (P : X → Type 0) (f : ℕ → X) (numbers : List ℕ) (k : ℕ) (d : X) → ((n : ℕ) → P (f n)) → P d
    → P (get_or (map f numbers) k d)
each_made P f [] k d made default = default
each_made P f (n ∷ numbers) zero d made default = made n
each_made P f (n ∷ numbers) (suc k) d made default = each_made P f numbers k d made default

start_early : (config : Config) → AreEarly (start config)
start_early config (by.Rank rank) =
    each_made (λ (c : ClientModel). c.clock < stamp_limit) (λ n. new_client config (rank_named n)) (range_with_len 0 config.ranks)
    rank.0 (new_client config rank) (λ n. omega arith) (omega arith)
start_early config (by.Server server) =
    each_made (λ (s : ServerModel). s.clock < stamp_limit) (λ n. new_pool config (server_named n)) (range_with_len 0 config.servers)
    server.0 (new_pool config server) (λ n. omega arith) (omega arith)

each_set : {X : Type 0} (P : X → Type 0) (xs : List X) (at k : ℕ) (x d : X) → P x → P (get_or xs k d) → P (get_or (set xs at x) k d)
each_set P [] at k x d new old = old
each_set P (y ∷ xs) zero zero x d new old = new
each_set P (y ∷ xs) zero (suc k) x d new old = old
each_set P (y ∷ xs) (suc at) zero x d new old = old
each_set P (y ∷ xs) (suc at) (suc k) x d new old = each_set P xs at k x d new old

rank_early : (w : World) (me : Rank) (links : Links) (x : Made) (stamp : ℕ) → AreEarly w → x.state.clock ≡ stamp → stamp < stamp_limit
    → AreEarly (after_rank w me links x)
rank_early w me links x stamp early is low (by.Rank rank) =
    each_set (λ (c : ClientModel). c.clock < stamp_limit) w.ranks me.0 rank.0 x.state (new_client w.config rank)
    (omega (arith, is, low)) (early (by.Rank rank))
rank_early w me links x stamp early is low (by.Server server) = early (by.Server server)

server_early : (w : World) (me : Server) (links : Links) (x : Served) (stamp : ℕ) → AreEarly w → x.state.clock ≡ stamp → stamp < stamp_limit
    → AreEarly (after_server w me links x)
server_early w me links x stamp early is low (by.Rank rank) = early (by.Rank rank)
server_early w me links x stamp early is low (by.Server server) =
    each_set (λ (s : ServerModel). s.clock < stamp_limit) w.servers me.0 server.0 x.state (new_pool w.config server)
    (omega (arith, is, low)) (early (by.Server server))

-- a mapped option that is there comes from an element that is there
pub mapped : {X Y : Type 0} (f : X → Y) (o : Option X) (y : Y) → option_map f o ≡ Some y → (x : X) × (o ≡ Some x) × (y ≡ f x)
mapped f None y is = absurd (cc)
mapped f (Some x) y is = (x, refl, sym (some_same is))

-- a mapped option that is there if the test passes: it did, and the element is there
pub mapped_if : {X Y : Type 0} (t : Bool) (f : X → Y) (o : Option X) (y : Y) → cond t (option_map f o) None ≡ Some y
    → (x : X) × (o ≡ Some x) × (y ≡ f x)
mapped_if true f o y is = mapped f o y is
mapped_if false f o y is = absurd (cc)

-- a mapped option that is there unless the test passes: it did not, and the element is there
pub mapped_unless : {X Y : Type 0} (t : Bool) (f : X → Y) (o : Option X) (y : Y) → cond t None (option_map f o) ≡ Some y
    → (x : X) × (o ≡ Some x) × (y ≡ f x)
mapped_unless true f o y is = absurd (cc)
mapped_unless false f o y is = mapped f o y is

handled_early : (w next : World) (from to : Actor) (letters : List Letter) → AreEarly w → handle w from to letters ≡ Some next
    → front_stamp w to letters < stamp_limit → AreEarly next
handled_early w next from to [] early is low = absurd (cc)
handled_early w next (by.Rank from) (by.Rank to) (letter ∷ rest) early is low = absurd (cc)
handled_early w next (by.Server from) (by.Rank to) (letter ∷ rest) early is low =
    let links : Links = taken w (by.Server from) (by.Rank to) rest in
    let x = mapped (after_rank w to links) (hear (client_of w to) from letter) next is in
    subst AreEarly (sym x.2) (rank_early w to links x.0 _ early (hear_leaves (client_of w to) from letter x.0 x.1).1 low)
handled_early w next (by.Rank from) (by.Server to) (letter ∷ rest) early is low =
    let links : Links = taken w (by.Rank from) (by.Server to) rest in
    let x = mapped_unless (has_ended (pool_of w to)) (after_server w to links) (serve (pool_of w to) (by.Rank from) letter) next is in
    subst AreEarly (sym x.2) (server_early w to links x.0 _ early (serve_stays (pool_of w to) (by.Rank from) letter x.0 x.1).1 low)
handled_early w next (by.Server from) (by.Server to) (letter ∷ rest) early is low =
    let links : Links = taken w (by.Server from) (by.Server to) rest in
    let x = mapped_unless (has_ended (pool_of w to)) (after_server w to links) (serve (pool_of w to) (by.Server from) letter) next is in
    subst AreEarly (sym x.2) (server_early w to links x.0 _ early (serve_stays (pool_of w to) (by.Server from) letter x.0 x.1).1 low)

next_early : (w next : World) (e : Event) → AreEarly w → happens w e ≡ Some next → event_stamp w e < stamp_limit → AreEarly next
next_early w next (occurs.Call rank call) early is low =
    let x = mapped_if (nat_lt rank.0 w.config.ranks) (after_rank w rank w.links) (begin (client_of w rank) call) next is in
    subst AreEarly (sym x.2) (rank_early w rank w.links x.0 _ early (begin_leaves (client_of w rank) call x.0 x.1).1 low)
next_early w next (occurs.Deliver from to) early is low = by_test (is_within w.config from && is_within w.config to) is low
  where
    letters : List Letter
    letters = link w.links (place_of w.config from) (place_of w.config to)

    by_test : (b : Bool) → cond b (handle w from to letters) None ≡ Some next → front_stamp w to (cond b letters []) < stamp_limit
        → AreEarly next
    by_test true is low = handled_early w next from to letters early is low
    by_test false is low = absurd (cc)

-- A run leads to it.

-- the world at the start is one to which a run leads
pub start_reached : (config : Config) → IsReached (start config)
start_reached config = record { events = []; run = refl; early = start_early config }

-- the world after an event that happens below the stamp limit is reached too
pub next_reached : (w next : World) (e : Event) → IsReached w → happens w e ≡ Some next → event_stamp w e < stamp_limit → IsReached next
next_reached w next e reached is low = record {
  events = reached.events ++ e ∷ [];
  run = subst (λ (g : Config). Runs (start g) (reached.events ++ e ∷ []) next) (sym (happens_config w next e is))
      (runs_more (start w.config) w next reached.events e reached.run is);
  early = next_early w next e reached.early is low;
}

-- A front letter whose receiver goes on is handled.

stamped_below : (low last : ℕ) (letters : List Letter) → AreStamped low letters last → low ≤ last
stamped_below low last [] stamped = stamped
stamped_below low last (l ∷ letters) stamped = omega (arith, stamped.1, stamped_below l.stamp last letters stamped.2)

-- it was sent before
pub sent_before : (letters rest : List Letter) (letter : Letter) (last : ℕ) → AreStamped 0 letters last → letters ≡ letter ∷ rest
    → letter.stamp ≤ last
sent_before letters rest letter last stamped is =
    let front : AreStamped 0 (letter ∷ rest) last = subst (λ k. AreStamped 0 k last) is stamped in
    stamped_below letter.stamp last rest front.2

-- a letter in front on a link to an actor that goes on can be handled
pub front_goes : (w : World) (from to : Actor) (letter : Letter) (rest : List Letter) → IsReached w → is_within w.config from ≡ true
    → is_within w.config to ≡ true → is_over w to ≡ false → link w.links (place_of w.config from) (place_of w.config to) ≡ letter ∷ rest
    → IsEnabled w (occurs.Deliver from to)
front_goes w from to letter rest reached f t going front =
    let line = every_run_in_line w.config reached.events w reached.run from to f t in
    let before = sent_before _ rest letter (clock_of w from) line.stamps front in
    let next = none_is_ever_stuck w.config reached.events w reached.run from to letter rest f t front going
    (omega (arith, before, reached.early from)) in
    subst IsSome (sym next.1) refl
