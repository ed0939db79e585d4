-- What the tests of a server's rules say.
use Rattle.std.proofs.Common.{◌≡◌, ◌≢◌, ◌⊎◌, ◌↔◌, inl, inr, ◌<◌, ◌≤◌, ◌==◌, ℕ, Bool, true, false, ◌&&◌, ◌||◌, not, cond, List, [], ◌∷◌}
use Rattle.std.proofs.Common.{length, get_or, Option, None, Some, IsSome, refl, sym, ap, ◌∙◌, subst, All, Any, find, arith, zero-add}
use Rattle.std.specs.Prelude.{is_none, is_some, nat_le, nat_lt}
use Rattle.std.specs.List.{list_all, list_any, range_with_len}
use Rattle.std.proofs.lemmas.Bool.{and_from, and_parts, both_ways, eq-eqb, eqb-true, false_from_ne_true, le-leb, leb-true, lt-ltb, ltb-true}
use Rattle.std.proofs.lemmas.Bool.{not-true, not_from_false}
use Rattle.std.proofs.lemmas.List.{get_or_default}
use Rattle.std.proofs.lemmas.List.Folds.{Any-from_list_any, list_any-from_Any}
use Rattle.std.proofs.lemmas.List.FromFn.{get_or-range_with_len, length-range_with_len}
use Rattle.std.proofs.lemmas.List.Sums.{AllPass-from_list_all, list_all-from_AllPass}
use Rattle.adlb_unit.specs.Ids.{same_unit}
use Rattle.adlb_unit.specs.Limits.{body_limit}
use Rattle.adlb_unit.specs.Targets.{Aims, home_of, in_ranks}
use Rattle.adlb_unit.specs.declared.configs.Config.{Config}
use Rattle.adlb_unit.specs.declared.names.Rank.{Rank}
use Rattle.adlb_unit.specs.declared.names.Server.{Server}
use Rattle.adlb_unit.specs.declared.names.Target.{Target}
use Rattle.adlb_unit.specs.declared.names.Target.TheVariants.{Any as Anyone, Only, Soft}
use Rattle.adlb_unit.specs.declared.names.UnitId.{UnitId}
use Rattle.adlb_unit.specs.declared.tokens.Token.{Token}
use Rattle.adlb_unit.specs.declared.units.Unit.{Unit}
use Rattle.adlb_unit.proofs.Same.{same_unit_from, same_unit_is}
use Rattle.bag_ledger.proofs.Tests.{same_rank_is, some_is}
use Rattle.exhaust_ring.specs.Expected.{IsRunning, is_running}
use Rattle.exhaust_ring.specs.Ring.{RingModel}
use Rattle.work_queue.specs.Queue.{HasFree, HasNoPromise, HasNoUnit, HasPinned, HasPromise, HasRoom, Promise, id_of}
use Rattle.work_queue.specs.declared.placing.Placed.{Placed}
use Rattle.adlb_unit.specs.declared.names.BatchId.{BatchId}
use Rattle.server_components.specs.Store.{CanClose, CanFetch, Keeps, part_in}
use Rattle.server_components.specs.declared.parts.Part.{Part}
use Rattle.server_components.specs.Calls.{is_since}
use Rattle.server_law.specs.Acts.{batch_of}
use Rattle.server_law.specs.Asks.{expects_ask}
use Rattle.server_law.specs.Batches.{can_close, can_fetch, expects_keep, is_fewer, part_if}
use Rattle.server_law.specs.Endings.{rests}
use Rattle.server_law.specs.Expected.{IsHome, IsNew, IsQuiet, IsUnanswered, Runs, WaitsIdle}
use Rattle.server_components.specs.Parked.{is_idle}
use Rattle.server_law.specs.Finding.{has_asked, has_promise, has_unit, is_asked_at, is_free_as, is_pin, is_pinned_as}
use Rattle.server_law.specs.Hints.{expects_hint}
use Rattle.server_law.specs.Pushes.{expects_query, expects_unit, is_room_for}
use Rattle.server_law.specs.Puts.{expects_put}
use Rattle.server_law.specs.Quiet.{QuietIsTested}
use Rattle.server_components.specs.Parked.{is_of}
use Rattle.server_components.specs.declared.waits.Waiting.{Waiting}
use Rattle.server_law.specs.State.{Kept, ServerModel, is_finished, is_home, is_waiting, runs, runs_at_home}

-- Tests in general.

-- the test says this fact
abbrev pub Says : Bool → Type 0 → Type 0
Says b A = (b ≡ true) ↔ A

-- two tests together say both
pub both_say : (x y : Bool) {A B : Type 0} → Says x A → Says y B → Says (x && y) (A × B)
both_say x y a b = (
  λ is. let parts = and_parts x y is in (a.0 parts.0, b.0 parts.1),
  λ are. and_from x y (a.1 are.0) (b.1 are.1),
)

-- a test of which another is the denial
pub not_says : (x : Bool) {A : Type 0} → (x ≡ false) ↔ A → Says (not x) A
not_says x a = (λ is. a.0 (not-true x is), λ holds. not_from_false x (a.1 holds))

-- what is found passes, and something is found where some element passes
pub found_any : {X : Type 0} (test : X → Bool) (xs : List X) → is_some (find test xs) ≡ list_any test xs
found_any test [] = refl
found_any test (x ∷ xs) = by_test (test x) (found_any test xs)
  where
    by_test : (t : Bool) → is_some (find test xs) ≡ list_any test xs → is_some (cond t (Some x) (find test xs)) ≡ (t || list_any test xs)
    by_test true rest = refl
    by_test false rest = rest

-- of elements that pass
module _ {X : Type 0} (test : X → Bool) (P : X → Type 0) (says : (x : X) → Says (test x) (P x)) where
  -- some element passes exactly if some has the property
  pub any_says : (xs : List X) → Says (list_any test xs) (Any P xs)
  any_says xs = (
    λ is. let has = Any-from_list_any test xs is in (has.0, has.1, has.2, has.3, (says has.1).0 has.4),
    λ has. list_any-from_Any test xs (has.0, has.1, has.2, has.3, (says has.1).1 has.4),
  )

  -- no element passes exactly if each lacks the property
  pub none_says : (xs : List X) → (list_any test xs ≡ false) ↔ All (λ x. P x → ⊥) xs
  none_says xs = (
    λ none k d within holds.
        let x : X = get_or xs k d in
        both_ways (list_any test xs) none ((any_says xs).1 (k, x, within, get_or_default xs k x d within, holds)),
    λ none. false_from_ne_true (list_any test xs) (λ some.
        let has = (any_says xs).0 some in
        none has.0 has.1 has.2 (subst P (sym has.3) has.4)),
  )

  -- something is found where it holds of one
  pub find_says : (xs : List X) → IsSome (find test xs) ↔ Any P xs
  find_says xs = (λ some. (any_says xs).0 (rw (← found_any test xs) some), λ has. rw (found_any test xs) ((any_says xs).1 has))

-- Numbers and names.

-- the test of equal numbers
pub same_says : (m n : ℕ) → Says (m == n) (m ≡ n)
same_says m n = (eqb-true m n, eq-eqb m n)

-- the test of a lower number
pub below_says : (m n : ℕ) → Says (nat_lt m n) (m < n)
below_says m n = (ltb-true m n, lt-ltb m n)

at_most_says : (m n : ℕ) → Says (nat_le m n) (m ≤ n)
at_most_says m n = (leb-true m n, le-leb m n)

-- the test of one rank
pub rank_says : (a b : Rank) → Says (a.0 == b.0) (a ≡ b)
rank_says a b = (same_rank_is a b, λ same. eq-eqb a.0 b.0 (ap (λ (r : Rank). r.0) same))

-- the test of equal ids
pub unit_says : (a b : UnitId) → Says (same_unit a b) (a ≡ b)
unit_says a b = (same_unit_is a b, same_unit_from a b)

-- the test of a target: it names ranks of the run alone
pub in_ranks_says : (config : Config) (target : Target) → Says (in_ranks config target) (Aims target config.ranks)
in_ranks_says config Anyone = (λ is. tt, λ is. refl)
in_ranks_says config (Only rank) = below_says rank.0 config.ranks
in_ranks_says config (Soft rank) = below_says rank.0 config.ranks

-- Units and promises.

-- the test that no unit of this id is here
pub has_unit_says : (id : UnitId) (units : List Placed) → (has_unit id units ≡ false) ↔ HasNoUnit id units
has_unit_says id units = none_says (λ p. same_unit (id_of p) id) (λ p. id_of p ≡ id) (λ p. unit_says (id_of p) id) units

-- the test that no promise of this id is here
pub has_promise_says : (id : UnitId) (promises : List Promise) → (has_promise id promises ≡ false) ↔ HasNoPromise id promises
has_promise_says id promises = none_says (λ p. same_unit p.id id) (λ (p : Promise). p.id ≡ id) (λ p. unit_says p.id id) promises

-- the test of a pin
pub is_pin_says : (pin : Option Rank) (rank : Rank) → Says (is_pin pin rank) (pin ≡ Some rank)
is_pin_says None rank = (λ no. absurd (cc), λ is. absurd (cc))
is_pin_says (Some to) rank = (λ is. ap (λ (r : Rank). Some r) ((rank_says to rank).0 is), λ is. (rank_says to rank).1 (some_is is))

-- the test of an empty option
pub is_none_says : {X : Type 0} (o : Option X) → Says (is_none o) (o ≡ None)
is_none_says None = (λ is. refl, λ is. refl)
is_none_says (Some x) = (λ no. absurd (cc), λ is. absurd (cc))

-- the test of a unit of this id that is pinned to the rank
pub is_pinned_says : (id : UnitId) (rank : Rank) (p : Placed) → Says (is_pinned_as id rank p) ((id_of p ≡ id) × (p.pin ≡ Some rank))
is_pinned_says id rank p = both_say (same_unit (id_of p) id) (is_pin p.pin rank) (unit_says (id_of p) id) (is_pin_says p.pin rank)

-- the test of a free unit of this id
pub is_free_says : (id : UnitId) (p : Placed) → Says (is_free_as id p) ((id_of p ≡ id) × (p.pin ≡ None))
is_free_says id p = both_say (same_unit (id_of p) id) (is_none p.pin) (unit_says (id_of p) id) (is_none_says p.pin)

-- a unit of an id pinned to the rank is found exactly if there is one
pub pinned_says : (id : UnitId) (rank : Rank) (units : List Placed) → IsSome (find (is_pinned_as id rank) units) ↔ HasPinned id rank units
pinned_says id rank units = find_says (is_pinned_as id rank) (λ p. (id_of p ≡ id) × (p.pin ≡ Some rank)) (is_pinned_says id rank) units

-- a free unit of an id is found exactly if there is one
pub free_says : (id : UnitId) (units : List Placed) → IsSome (find (is_free_as id) units) ↔ HasFree id units
free_says id units = find_says (is_free_as id) (λ p. (id_of p ≡ id) × (p.pin ≡ None)) (is_free_says id) units

-- the test that room is promised to the unit
pub promise_says : (id : UnitId) (promises : List Promise) → Says (has_promise id promises) (HasPromise id promises)
promise_says id promises = any_says (λ p. same_unit p.id id) (λ (p : Promise). p.id ≡ id) (λ p. unit_says p.id id) promises

-- the test that room of this length is promised to the unit
pub room_says : (id : UnitId) (n : ℕ) (promises : List Promise) → Says (list_any (is_room_for id n) promises) (HasRoom id n promises)
room_says id n promises =
    any_says (is_room_for id n) (λ (p : Promise). (p.id ≡ id) × (p.length ≡ n))
    (λ p. both_say (same_unit p.id id) (p.length == n) (unit_says p.id id) (same_says p.length n)) promises

-- Pushes.

-- the test of a query: neither the unit nor a promise of it is here
pub query_says : (k : Kept) (id : UnitId) → Says (expects_query k id) (HasNoUnit id k.queue.units × HasNoPromise id k.queue.promises)
query_says k id =
    both_say (not (has_unit id k.queue.units)) (not (has_promise id k.queue.promises))
    (not_says (has_unit id k.queue.units) (has_unit_says id k.queue.units))
    (not_says (has_promise id k.queue.promises) (has_promise_says id k.queue.promises))

-- the test of a unit that comes: it is not here, its room is promised, and no acknowledgement is owed
pub unit_comes_says : (k : Kept) (unit : Unit) → Says (expects_unit k unit)
    (HasNoUnit unit.id k.queue.units × HasRoom unit.id (length unit.body) k.queue.promises × (k.owed ≡ None))
unit_comes_says k unit =
    let room = list_any (is_room_for unit.id (length unit.body)) k.queue.promises in
    let says = both_say (not (has_unit unit.id k.queue.units)) (room && is_none k.owed)
    (not_says (has_unit unit.id k.queue.units) (has_unit_says unit.id k.queue.units))
    (both_say room (is_none k.owed) (room_says unit.id (length unit.body) k.queue.promises) (is_none_says k.owed)) in
    (λ is. let all = says.0 is in (all.0, all.1.0, all.1.1), λ is. says.1 (is.0, (is.1, is.2)))

-- Common parts.

-- something is there and passes
pub part_says : (test : Part → Bool) (o : Option Part) {P : Part → Type 0} → ((p : Part) → Says (test p) (P p))
    → IsSome (part_if test o) ↔ ((p : Part) × (o ≡ Some p) × P p)
part_says test None says = (λ some. absurd (cc), λ has. let is = has.1 in absurd (cc))
part_says test (Some q) {P} says = by_test (test q) refl
  where
    by_test : (t : Bool) → test q ≡ t → IsSome (cond t (Some q) None) ↔ ((p : Part) × (Some q ≡ Some p) × P p)
    by_test true is = (λ some. (q, refl, (says q).0 is), λ has. refl)
    by_test false is =
        (λ some. absurd (cc), λ has. let no = (says q).1 (subst P (sym (some_is has.1)) has.2) in absurd (cc))

fewer_says : (fetches : ℕ) (o : Option ℕ) → Says (is_fewer fetches o) ((accepted : ℕ) → o ≡ Some accepted → fetches < accepted)
fewer_says fetches None = (λ is accepted e. absurd (cc), λ all. refl)
fewer_says fetches (Some n) =
    (λ is accepted e. subst (λ k. fetches < k) (some_is e) (ltb-true fetches n is), λ all. lt-ltb fetches n (all n refl))

-- the test of a part whose batch ends
pub can_close_says : (from : Rank) (batch : BatchId) (accepted common : ℕ) (p : Part)
    → Says (can_close from batch accepted common p) ((batch.rank ≡ from) × CanClose accepted p × (length p.bytes ≤ common))
can_close_says from batch accepted common p =
    let two = both_say _ _ (rank_says batch.rank from) (is_none_says p.accepted) in
    let three = both_say _ _ two (at_most_says p.fetches accepted) in
    let four = both_say _ _ three (at_most_says (length p.bytes) common) in (
      λ is. let all = four.0 is in (all.0.0.0, (all.0.0.1, all.0.1), all.1),
      λ is. four.1 (((is.0, is.1.0), is.1.1), is.2),
    )

can_fetch_says : (common : ℕ) (p : Part) → Says (can_fetch common p) (CanFetch p × (length p.bytes ≤ common))
can_fetch_says common p = both_say _ _ (fewer_says p.fetches p.accepted) (at_most_says (length p.bytes) common)

-- the test of a part that is to be kept
pub keep_says : (s : ServerModel) (from : Rank) (request : ℕ) (common : List ℕ)
    → Says (expects_keep s from request common) ((part_in s.kept.parts (batch_of from request) ≡ None) × (length common ≤ body_limit))
keep_says s from request common =
    both_say _ _ (is_none_says (part_in s.kept.parts (batch_of from request))) (at_most_says (length common) body_limit)

-- the test of a batch that ends
pub close_says : (s : ServerModel) (from : Rank) (batch : BatchId) (accepted : ℕ)
    → IsSome (part_if (can_close from batch accepted s.kept.queue.common) (part_in s.kept.parts batch))
    ↔ ((batch.rank ≡ from) × Keeps s.kept.parts batch s.kept.queue.common (CanClose accepted))
close_says s from batch accepted =
    let says = part_says (can_close from batch accepted s.kept.queue.common) (part_in s.kept.parts batch)
    (can_close_says from batch accepted s.kept.queue.common) in (
      λ some. let has = says.0 some in (has.2.0, record { part = has.0; here = has.1; charged = has.2.2; holds = has.2.1 }),
      λ is. says.1 (is.1.part, is.1.here, (is.0, is.1.holds, is.1.charged)),
    )

-- the test of common bytes that are fetched
pub share_says : (s : ServerModel) (batch : BatchId)
    → IsSome (part_if (can_fetch s.kept.queue.common) (part_in s.kept.parts batch))
    ↔ Keeps s.kept.parts batch s.kept.queue.common CanFetch
share_says s batch =
    let says = part_says (can_fetch s.kept.queue.common) (part_in s.kept.parts batch) (can_fetch_says s.kept.queue.common) in (
      λ some. let has = says.0 some in record { part = has.0; here = has.1; charged = has.2.1; holds = has.2.0 },
      λ (is : Keeps s.kept.parts batch s.kept.queue.common CanFetch). says.1 (is.part, is.here, (is.holds, is.charged)),
    )

-- Ranks.

-- the test of a rank that is at home here
pub is_home_says : (s : ServerModel) (rank : Rank) → Says (is_home s.config s.me rank) (IsHome s rank)
is_home_says s rank = same_says (home_of s.config.servers rank) s.me.0

-- the test of an entry of the rank
pub is_of_says : (rank : Rank) (e : Waiting) → Says (is_of rank e) (e.wish.rank ≡ rank)
is_of_says rank e = rank_says e.wish.rank rank

-- the test of one server
pub server_says : (a b : Server) → Says (a.0 == b.0) (a ≡ b)
server_says a b =
    let named : ℕ → Server = λ n. record { 0 = n } in
    (λ is. ap named (eqb-true a.0 b.0 is), λ same. eq-eqb a.0 b.0 (ap (λ (x : Server). x.0) same))

-- the test that this server is unanswered
pub is_asked_at_says : (asked : Option Server) (from : Server) → Says (is_asked_at asked from) (asked ≡ Some from)
is_asked_at_says None from = (λ no. absurd (cc), λ is. absurd (cc))
is_asked_at_says (Some t) from = (λ is. ap (λ (x : Server). Some x) ((server_says t from).0 is), λ is. (server_says t from).1 (some_is is))

-- the test of an entry of the rank since this call
pub is_since_says : (rank : Rank) (request : ℕ) (e : Waiting)
    → Says (is_since rank request e) ((e.wish.rank ≡ rank) × (e.wish.request ≡ request))
is_since_says rank request e = both_say (is_of rank e) (e.wish.request == request) (is_of_says rank e) (same_says e.wish.request request)

-- the test of an entry: this rank waits in this call, with this server unanswered
pub has_asked_says : (from : Server) (rank : Rank) (request : ℕ) (e : Waiting)
    → Says (has_asked from rank request e) ((e.wish.rank ≡ rank) × (e.wish.request ≡ request) × (e.asked ≡ Some from))
has_asked_says from rank request e =
    let both = both_say _ _ (is_since_says rank request e) (is_asked_at_says e.asked from) in
    (λ is. let all = both.0 is in (all.0.0, all.0.1, all.1), λ is. both.1 ((is.0, is.1), is.2))

-- the test of an answer: the rank waits here in this call, with the sender unanswered
pub unanswered_says : (s : ServerModel) (from : Server) (rank : Rank) (request : ℕ)
    → Says (list_any (has_asked from rank request) s.kept.parked.waiting) (IsUnanswered s from rank request)
unanswered_says s from rank request =
    any_says (has_asked from rank request)
    (λ (e : Waiting). (e.wish.rank ≡ rank) × (e.wish.request ≡ request) × (e.asked ≡ Some from)) (has_asked_says from rank request)
    s.kept.parked.waiting

-- the test of a request of another home
pub expects_ask_says : (s : ServerModel) (from : Server) (rank : Rank)
    → Says (expects_ask s from rank) ((rank.0 < s.config.ranks) × (home_of s.config.servers rank ≡ from.0))
expects_ask_says s from rank =
    both_say (nat_lt rank.0 s.config.ranks) (is_home s.config from rank) (below_says rank.0 s.config.ranks)
    (same_says (home_of s.config.servers rank) from.0)

-- the test of a hint: the rank is in the run and at home here
pub expects_hint_says : (s : ServerModel) (rank : Rank) → Says (expects_hint s rank) ((rank.0 < s.config.ranks) × IsHome s rank)
expects_hint_says s rank =
    both_say (nat_lt rank.0 s.config.ranks) (is_home s.config s.me rank) (below_says rank.0 s.config.ranks) (is_home_says s rank)

-- the test of a rank that does not wait here
pub waits_not_says : (k : Kept) (rank : Rank)
    → (is_waiting k rank ≡ false) ↔ All (λ (e : Waiting). e.wish.rank ≢ rank) k.parked.waiting
waits_not_says k rank = none_says (is_of rank) (λ (e : Waiting). e.wish.rank ≡ rank) (is_of_says rank) k.parked.waiting

-- the test of a rank that runs, as far as the server knows
pub runs_says : (s : ServerModel) (rank : Rank) → Says (runs s.kept rank) (Runs s rank)
runs_says s rank =
    let waits = not_says (is_waiting s.kept rank) (waits_not_says s.kept rank) in
    let ended = not_says (is_finished s.kept rank) (λ is. is, λ is. is) in
    let both = both_say (not (is_waiting s.kept rank)) (not (is_finished s.kept rank)) waits ended in
    (λ is. record { waits_not = (both.0 is).0; finished_not = (both.0 is).1 }, λ (is : Runs s rank). both.1 (is.waits_not, is.finished_not))

-- the test of a rank that runs and is at home here
pub runs_at_home_says : (s : ServerModel) (rank : Rank) → Says (runs_at_home s rank) (IsHome s rank × Runs s rank)
runs_at_home_says s rank = both_say (is_home s.config s.me rank) (runs s.kept rank) (is_home_says s rank) (runs_says s rank)

-- the test of a put: the unit is new
pub expects_put_says : (s : ServerModel) (from : Rank) (unit : Unit) → Says (expects_put s from unit) (IsNew s from unit)
expects_put_says s from unit =
    let own = rank_says unit.id.rank from in
    let new = not_says (has_unit unit.id s.kept.queue.units) (has_unit_says unit.id s.kept.queue.units) in
    let free = not_says (has_promise unit.id s.kept.queue.promises) (has_promise_says unit.id s.kept.queue.promises) in
    let two = both_say _ _ own new in
    let three = both_say _ _ two free in
    let four = both_say _ _ three (at_most_says (length unit.body) body_limit) in
    let five = both_say _ _ four (in_ranks_says s.config unit.target) in (
      λ is.
          let all = five.0 is in
          record { sender = all.0.0.0.0; new = all.0.0.0.1; unpromised = all.0.0.1; size = all.0.1; target = all.1 },
      λ (is : IsNew s from unit). five.1 ((((is.sender, is.new), is.unpromised), is.size), is.target),
    )

-- Checks.

-- server 0 hears of the check that runs
pub running_says : (m : RingModel) (t : Token) → Says (is_running m t) (IsRunning m t)
running_says m t =
    let same = both_say m.ring.runs (t.check == m.ring.check) (λ is. is, λ is. is) (same_says t.check m.ring.check) in
    let all = both_say (m.me.0 == 0) (m.ring.runs && (t.check == m.ring.check)) (same_says m.me.0 0) same in (
      λ is. let both = all.0 is in record { zeroth = both.0; runs = both.1.0; check = both.1.1 },
      λ (r : IsRunning m t). all.1 (r.zeroth, (r.runs, r.check)),
    )

-- Quiet servers.

-- the entry is the rank's, and idle
abbrev pub is_idle_of : Rank → Waiting → Bool
is_idle_of rank e = is_of rank e && is_idle e

-- the test that the rank waits here and is idle
pub waits_idle_says : (s : ServerModel) (rank : Rank) → Says (list_any (is_idle_of rank) s.kept.parked.waiting) (WaitsIdle s rank)
waits_idle_says s rank =
    any_says (is_idle_of rank) (λ (e : Waiting). (e.wish.rank ≡ rank) × (e.asked ≡ None))
    (λ e. both_say (is_of rank e) (is_idle e) (is_of_says rank e) (is_none_says e.asked)) s.kept.parked.waiting

-- if the rank's home is here, it has finished, or it waits and is idle
abbrev pub Rests : ServerModel → Rank → Type 0
Rests s rank = IsHome s rank → WaitsIdle s rank ⊎ (is_finished s.kept rank ≡ true)

-- the test that the rank has finished, or waits here and is idle
pub rests_says : (s : ServerModel) (rank : Rank) → Says (rests s rank) (Rests s rank)
rests_says s rank =
    by_tests (is_home s.config s.me rank) (is_finished s.kept rank) (list_any (is_idle_of rank) s.kept.parked.waiting) (is_home_says s rank)
    (waits_idle_says s rank)
  where
    by_tests : {H W : Type 0} (h f w : Bool) → Says h H → Says w W → Says (not h || f || w) (H → W ⊎ (f ≡ true))
    by_tests false f w home waits = (λ is here. let no = home.1 here in absurd (cc), λ is. refl)
    by_tests true true w home waits = (λ is here. inr refl, λ is. refl)
    by_tests true false w home waits =
        (λ is here. inl (waits.0 is), λ is. elim (is (home.0 refl)) [ inl idle ↦ waits.1 idle | inr never ↦ absurd (cc) ])

-- a test of all numbers below one
each_below_says : (test : ℕ → Bool) (n : ℕ) → Says (list_all test (range_with_len 0 n)) ((k : ℕ) → k < n → test k ≡ true)
each_below_says test n =
    let all : List ℕ = range_with_len 0 n in
    let long : length all ≡ n = length-range_with_len 0 n in
    let at : (k d : ℕ) → k < n → get_or all k d ≡ k = λ k d below. get_or-range_with_len 0 n k d below ∙ zero-add k in (
      λ is k below. ap test (sym (at k 0 below)) ∙ AllPass-from_list_all test all is k 0 (omega arith),
      λ each. list_all-from_AllPass test all (λ k d within. let below : k < n = omega arith in ap test (at k d below) ∙ each k below),
    )

-- the test of a quiet server says that it is
pub quiet_is_tested : QuietIsTested
quiet_is_tested s =
    let all = each_below_says (λ n. rests s (record { 0 = n })) s.config.ranks in
    let both = and_parts (is_none s.kept.pushing.push) (list_all (λ n. rests s (record { 0 = n })) (range_with_len 0 s.config.ranks)) in (
      λ is. record {
        unpushed = (is_none_says s.kept.pushing.push).0 (both is).0;
        rest = λ rank within. (rests_says s rank).0 (all.0 (both is).1 rank.0 within);
      },
      λ (quiet : IsQuiet s).
          and_from _ _ ((is_none_says s.kept.pushing.push).1 quiet.unpushed)
          (all.1 (λ k below. (rests_says s (record { 0 = k })).1 (quiet.rest (record { 0 = k }) below))),
    )
