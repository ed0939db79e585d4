-- Stamps are at most as many as events so far.
use Rattle.std.proofs.Common.{◌≡◌, ◌≤◌, ℕ, zero, suc, ◌+◌, true, List, [], ◌∷◌, ◌++◌, length, map, get_or, set, Some, refl, sym, subst}
use Rattle.std.proofs.Common.{arith}
use Rattle.std.specs.List.{range_with_len}
use Rattle.std.proofs.lemmas.Bool.{lt-ltb}
use Rattle.adlb_unit.specs.Links.{is_within, place_of}
use Rattle.adlb_unit.specs.declared.actors.Actor.{Actor}
use Rattle.adlb_unit.specs.declared.actors.Actor.TheVariants as by
use Rattle.adlb_unit.specs.declared.configs.Config.{Config}
use Rattle.adlb_unit.specs.declared.letters.Letter.{Letter}
use Rattle.adlb_unit.specs.declared.names.Rank.{Rank}
use Rattle.adlb_unit.specs.declared.names.Server.{Server}
use Rattle.rank_client.specs.State.{ClientModel, start as new_client}
use Rattle.rank_client.specs.Step.{Made}
use Rattle.server_law.specs.Carried.{Served}
use Rattle.server_law.specs.State.{ServerModel, start as new_pool}
use Rattle.core_run.specs.declared.events.Event.{Event}
use Rattle.core_run.specs.Runs.{Runs}
use Rattle.core_run.specs.World.{Links, World, after_rank, after_server, client_of, happens, link, pool_of, rank_named, server_named, start}
use Rattle.core_run.specs.World.{taken}
use Rattle.core_law.specs.Lines.{AreStamped, IsInLine, clock_of}
use Rattle.core_law.proofs.InLine.{every_run_in_line}
use Rattle.core_bound_law.proofs.Bound.{IsEventLaw, by_event}
use Rattle.core_bound_law.proofs.Clocks.{begin_leaves, hear_leaves, serve_stays}

-- no actor's last stamp is past this number
abbrev pub AreUpTo : ℕ → World → Type 0
AreUpTo n w = (actor : Actor) → clock_of w actor ≤ n

each_made : {X : Type 0} (P : X → Type 0) (f : ℕ → X) (numbers : List ℕ) (k : ℕ) (d : X) → ((n : ℕ) → P (f n)) → P d
    → P (get_or (map f numbers) k d)
each_made P f [] k d made default = default
each_made P f (n ∷ numbers) zero d made default = made n
each_made P f (n ∷ numbers) (suc k) d made default = each_made P f numbers k d made default

start_up_to : (config : Config) → AreUpTo 0 (start config)
start_up_to config (by.Rank rank) =
    each_made (λ (c : ClientModel). c.clock ≤ 0) (λ n. new_client config (rank_named n)) (range_with_len 0 config.ranks)
    rank.0 (new_client config rank) (λ n. omega arith) (omega arith)
start_up_to config (by.Server server) =
    each_made (λ (s : ServerModel). s.clock ≤ 0) (λ n. new_pool config (server_named n)) (range_with_len 0 config.servers)
    server.0 (new_pool config server) (λ n. omega arith) (omega arith)

each_set : {X : Type 0} (P : X → Type 0) (xs : List X) (at k : ℕ) (x d : X) → P x → P (get_or xs k d) → P (get_or (set xs at x) k d)
each_set P [] at k x d new old = old
each_set P (y ∷ xs) zero zero x d new old = new
each_set P (y ∷ xs) zero (suc k) x d new old = old
each_set P (y ∷ xs) (suc at) zero x d new old = old
each_set P (y ∷ xs) (suc at) (suc k) x d new old = each_set P xs at k x d new old

rank_up_to : (n : ℕ) (w : World) (me : Rank) (links : Links) (x : Made) → AreUpTo n w → x.state.clock ≤ n + 1
    → AreUpTo (n + 1) (after_rank w me links x)
rank_up_to n w me links x early low (by.Rank rank) =
    each_set (λ (c : ClientModel). c.clock ≤ n + 1) w.ranks me.0 rank.0 x.state (new_client w.config rank) low
    (let was = early (by.Rank rank) in omega arith)
rank_up_to n w me links x early low (by.Server server) = let was = early (by.Server server) in omega arith

server_up_to : (n : ℕ) (w : World) (me : Server) (links : Links) (x : Served) → AreUpTo n w → x.state.clock ≤ n + 1
    → AreUpTo (n + 1) (after_server w me links x)
server_up_to n w me links x early low (by.Rank rank) = let was = early (by.Rank rank) in omega arith
server_up_to n w me links x early low (by.Server server) =
    each_set (λ (s : ServerModel). s.clock ≤ n + 1) w.servers me.0 server.0 x.state (new_pool w.config server) low
    (let was = early (by.Server server) in omega arith)

-- the stamps of letters on a link are not past the sender's last
last_stamp : (low last : ℕ) (letters : List Letter) → AreStamped low letters last → low ≤ last
last_stamp low last [] are = are
last_stamp low last (l ∷ letters) are = let later = last_stamp l.stamp last letters are.2 in let here = are.1 in omega arith

AreLined : World → Type 0
AreLined w = (from to : Actor) → is_within w.config from ≡ true → is_within w.config to ≡ true → IsInLine w from to

front_low : (w : World) (from to : Actor) (letter : Letter) (rest : List Letter) → AreLined w → is_within w.config from ≡ true
    → is_within w.config to ≡ true → link w.links (place_of w.config from) (place_of w.config to) ≡ letter ∷ rest
    → letter.stamp ≤ clock_of w from
unfolding AreLined
front_low w from to letter rest line f t front =
    let are : AreStamped 0 (letter ∷ rest) (clock_of w from) = subst (λ (ls : List Letter). AreStamped 0 ls (clock_of w from)) front
    (line from to f t).stamps in
    last_stamp letter.stamp (clock_of w from) rest are.2

stamp_law : (n : ℕ) (w : World) → AreLined w → AreUpTo n w → IsEventLaw (λ v k next. AreUpTo (n + 1) next) w
stamp_law n w line early = record {
  call = λ me call x next does.
      let is = (begin_leaves (client_of w me) call x does.does).1 in
      let was = early (by.Rank me) in
      subst (AreUpTo (n + 1)) (sym does.is) (rank_up_to n w me w.links x early (omega arith));
  answer = λ from me letter rest x next does.
      let is = (hear_leaves (client_of w me) from letter x does.does).1 in
      let was = early (by.Rank me) in
      let sent = early (by.Server from) in
      let low = front_low w (by.Server from) (by.Rank me) letter rest line (lt-ltb from.0 w.config.servers does.there)
      (lt-ltb me.0 w.config.ranks does.here) does.front in
      subst (AreUpTo (n + 1)) (sym does.is) (rank_up_to n w me (taken w (by.Server from) (by.Rank me) rest) x early (omega arith));
  request = λ from me letter rest x next does.
      let is = (serve_stays (pool_of w me) from letter x does.does).1 in
      let was = early (by.Server me) in
      let sent = early from in
      let low = front_low w from (by.Server me) letter rest line does.there (lt-ltb me.0 w.config.servers does.here) does.front in
      subst (AreUpTo (n + 1)) (sym does.is) (server_up_to n w me (taken w from (by.Server me) rest) x early (omega arith));
}

-- Along a run.

runs_on : (w mid last : World) (events : List Event) (e : Event) → Runs w events mid → happens mid e ≡ Some last
    → Runs w (events ++ e ∷ []) last
runs_on w mid last [] e run is = (last, subst (λ (v : World). happens v e ≡ Some last) (sym run) is, refl)
runs_on w mid last (a ∷ events) e run is = (run.0, run.1, runs_on run.0 mid last events e run.2 is)

longer : (events : List Event) (e : Event) → length (events ++ e ∷ []) ≡ length events + 1
longer [] e = refl
longer (a ∷ events) e = let later = longer events e in omega arith

run_up_to : (config : Config) (before events : List Event) (w last : World) → Runs (start config) before w → AreUpTo (length before) w
    → Runs w events last → AreUpTo (length before + length events) last
unfolding AreLined
run_up_to config before [] w last first early run =
    subst (AreUpTo (length before + 0)) run (λ actor. let was = early actor in omega arith)
run_up_to config before (e ∷ events) w last first early run =
    let one = by_event (λ v k next. AreUpTo (length before + 1) next) w
    (stamp_law (length before) w (every_run_in_line config before w first) early) e run.0 run.1 in
    let more = runs_on (start config) w run.0 before e first run.1 in
    let long = longer before e in
    let rest = run_up_to config (before ++ e ∷ []) events run.0 last more (λ actor. let was = one actor in omega arith) run.2 in
    λ actor. let all = rest actor in omega arith

-- the stamp of an actor's last event is at most the number of events
pub stamps_up_to : (config : Config) (events : List Event) (w : World) (actor : Actor) → Runs (start config) events w
    → clock_of w actor ≤ length events
stamps_up_to config events w actor run =
    let all = run_up_to config [] events (start config) w refl (start_up_to config) run actor in omega arith

-- the stamp of a front letter is that of an event, too
pub front_up_to : (config : Config) (events : List Event) (w : World) (from to : Actor) (letter : Letter) (rest : List Letter)
    → Runs (start config) events w → is_within w.config from ≡ true → is_within w.config to ≡ true
    → link w.links (place_of w.config from) (place_of w.config to) ≡ letter ∷ rest → letter.stamp ≤ length events
unfolding AreLined
front_up_to config events w from to letter rest run f t front =
    let low = front_low w from to letter rest (every_run_in_line config events w run) f t front in
    let sent = stamps_up_to config events w from run in
    omega arith
