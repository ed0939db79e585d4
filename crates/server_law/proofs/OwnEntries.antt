-- The entries of a server's acts are steps of the bag that agrees with it, and the bag agrees afterwards.
use Rattle.std.proofs.Common.{◌≡◌, ℕ, ◌+◌, ◌≤◌, ◌<◌, ◌==◌, Bool, true, false, cond, ◌&&◌, is_some, find, List, [], ◌∷◌, ◌++◌, length, map}
use Rattle.std.proofs.Common.{filter, Option, Some, None, refl, sym, ap, ◌∙◌, subst, arith}
use Rattle.std.specs.Prelude.{option_and_then}
use Rattle.std.proofs.lemmas.Bool.{false_from_ne_true, ltb-false, ltb-true}
use Rattle.adlb_unit.specs.Permit.{permitted}
use Rattle.adlb_unit.specs.Targets.{home_of}
use Rattle.adlb_unit.specs.declared.names.Rank.{Rank}
use Rattle.adlb_unit.specs.declared.names.Server.{Server}
use Rattle.adlb_unit.specs.declared.names.UnitId.{UnitId}
use Rattle.adlb_unit.specs.declared.names.WorkType.{WorkType}
use Rattle.adlb_unit.specs.declared.notes.End.{End}
use Rattle.adlb_unit.specs.declared.notes.End.TheVariants as ends_by
use Rattle.adlb_unit.specs.declared.units.Unit.{Unit}
use Rattle.bag_ledger.specs.Bag.{Bag, has_due, has_fit_at, is_due, is_free_at, offer, open_call, putting, rank_at, unit_of, wish}
use Rattle.bag_ledger.specs.Steps.{has_cause, shared, taken}
use Rattle.bag_ledger.specs.declared.entries.Entry.{Entry}
use Rattle.bag_ledger.specs.declared.entries.Entry.TheVariants as enters
use Rattle.bag_ledger.specs.declared.states.Placed.{Placed as Lodged}
use Rattle.bag_ledger.specs.declared.states.RankState.{RankState}
use Rattle.bag_ledger.specs.declared.states.Status.TheVariants as is_at
use Rattle.bag_ledger.specs.declared.states.UnitPlace.{UnitPlace}
use Rattle.bag_ledger.specs.declared.states.UnitPlace.TheVariants.{Free, Travelling, Pinned, Spent}
use Rattle.bag_ledger.proofs.Charge.{unit_put}
use Rattle.bag_law.specs.Counts.{one}
use Rattle.work_queue.specs.Counts.{counts_of}
use Rattle.work_queue.specs.Queue.{charge_of, has_other_id, pinned_by, with_unit}
use Rattle.work_queue.specs.declared.placing.Placed.{Placed}
use Rattle.server_law.specs.Acts.{Accepts, Act, Answers, Arrives, Closes, Counts, Ends_keep, Ends_put, Ends_reserve, Ends_try, Fetches}
use Rattle.server_law.specs.Acts.{Fetches_part, Finds, Finds_alone, Gives, Grants, Grants_try, Hears_done, Hears_exhaust, Keeps, Looks}
use Rattle.server_law.specs.Acts.{Promises, Refuses, Refuses_part, Sends_unit, Shuts, Tells, Withdraws, does, entries}
use Rattle.adlb_unit.specs.declared.names.CommonRef.{CommonRef}
use Rattle.server_law.specs.Agreement.{ServerAgrees, of_batch, pinned_weight, weight_at}
use Rattle.server_law.specs.Carried.{done}
use Rattle.server_components.specs.Grants.{unit_with}
use Rattle.server_law.specs.Finding.{best_for, is_free_as}
use Rattle.server_law.specs.Legal.{ActsAreLegal, AsksFor, Does, IsOpen, Offers, TriesFor}
use Rattle.server_law.specs.Moving.{IsPromisedAt}
use Rattle.server_law.specs.Puts.{is_over}
use Rattle.server_components.specs.declared.wishes.Wish.{Wish}
use Rattle.server_law.specs.State.{ServerModel, runs_at_home}
use Rattle.server_law.specs.Sure.{HasCause}
use Rattle.server_law.proofs.BestFits.{IsFit, best_is_fit, given_fits}
use Rattle.server_law.proofs.ByIds.{free_is_found, pinned_is_found}
use Rattle.server_law.proofs.Components.{known_agrees, shared_agrees, units_agree, with_knowledge, with_units}
use Rattle.server_law.proofs.Counting.{info_agrees}
use Rattle.server_law.proofs.Entering.{AreSteps, charge_agrees, is_step, none_changed}
use Rattle.server_law.proofs.PushEntries.{arrives, leaves, promises, withdraws}
use Rattle.server_law.proofs.PartEntries.{closes, fetches_part, keeps, refuses_part}
use Rattle.server_law.proofs.Lodging.{holds_added, holds_pinned, holds_taken, lodged, place_is}
use Rattle.server_law.proofs.Resting.{fit, none_counted}
use Rattle.server_law.proofs.Tests.{runs_at_home_says}
use Rattle.server_law.proofs.Waiters.{done_kept, done_named}

-- Puts.

-- one unit more shares an open part, which does not become due
shared_rests : (b : Bag) (common : Option CommonRef) → IsOpen b common → has_due b ≡ false → has_due (shared common b) ≡ false
shared_rests b None is_open rests = rests
shared_rests b (Some c) is_open rests =
    none_changed is_due (of_batch c.batch) (λ p. record p { accepted = p.accepted + 1 }) b.parts rests
    (λ p found. rw (is_open p found) refl)

accepts : (found : Bag → Bool) (b : Bag) (s : ServerModel) (unit : Unit) → ServerAgrees b s → has_due b ≡ false → Offers b s.me unit
    → unit_of b unit.id ≡ None → IsOpen b unit.common → is_over s.kept.queue unit ≡ false
    → AreSteps found b (entries (Accepts unit) s) (done (Accepts unit) s)
accepts found b s unit m rests of new is_open over =
    is_step found b (enters.Accepted s.me unit.id) (done (Accepts unit) s)
    (rw rests refl, (of.0, unit, of.1, of.2, refl, rw m.servers m.within, of.3, rw (charge_agrees b s m, m.limit) fits), refl)
    (subst (λ o. ServerAgrees (taken s.me o b) (done (Accepts unit) s)) (sym put) all)
    (subst (λ o. has_due (taken s.me o b) ≡ false) (sym put) (shared_rests (record b { units = more }) unit.common is_open rests))
  where
    fits : charge_of s.kept.queue + length unit.body ≤ s.kept.queue.limit
    fits = ltb-false s.kept.queue.limit (charge_of s.kept.queue + length unit.body) over

    put : option_and_then (λ (r : RankState). putting r.status) (rank_at b unit.id.rank) ≡ Some unit
    put = unit_put (λ (r : RankState). putting r.status) (rank_at b unit.id.rank) of.0 unit of.1 (rw of.2 refl)

    more : List Lodged
    more = b.units ++ record { unit = unit; place = Free s.me } ∷ []

    all : ServerAgrees (taken s.me (Some unit) b) (done (Accepts unit) s)
    all =
        shared_agrees (record b { units = more }) (done (Accepts unit) s) unit.common is_open
        (units_agree b s more (with_unit s.kept.queue unit).units (with_unit s.kept.queue unit).arrivals m
        (holds_added b.units s.me s.kept.queue.units unit m.units new))

refuses : (found : Bag → Bool) (b : Bag) (s : ServerModel) (unit : Unit) → ServerAgrees b s → has_due b ≡ false → Offers b s.me unit
    → is_over s.kept.queue unit ≡ true → AreSteps found b (entries (Refuses unit) s) (done (Refuses unit) s)
refuses found b s unit m rests of over =
    let above : s.kept.queue.limit < charge_of s.kept.queue + length unit.body =
    ltb-true s.kept.queue.limit (charge_of s.kept.queue + length unit.body) over in
    let used = sym (charge_agrees b s m) in
    is_step found b (enters.Refused s.me unit.id (charge_of s.kept.queue)) (done (Refuses unit) s)
    (rw rests refl, (of.0, length unit.body, of.1, ap offer of.2, rw m.servers m.within, of.3, used, rw m.limit above), refl) m rests

-- Ends.

caused : (b : Bag) (s : ServerModel) (end : End) → ServerAgrees b s → HasCause s.kept end → has_cause b end ≡ true
caused b s ends_by.NoMoreWork m cause = m.done cause
caused b s ends_by.Exhausted m cause = m.exhausted cause

-- a call is over
ends : (found : Bag → Bool) (b : Bag) (s : ServerModel) (rank : Rank) (call : ℕ) (end : End) (r : RankState) → ServerAgrees b s
    → has_due b ≡ false → rank_at b rank ≡ Some r → open_call r.status ≡ Some call → HasCause s.kept end
    → AreSteps found b (enters.Over rank call end ∷ []) s
ends found b s rank call end r m rests at pending cause =
    is_step found b (enters.Over rank call end) s (rw rests refl, (r, at, pending, caused b s end m cause), refl) m rests

-- Grants.

-- the rank wants a unit of these types in this call, by a reserve or a try
abbrev Wants : Bag → Wish → Type 0
Wants b w = (r : RankState) × (rank_at b w.rank ≡ Some r) × (wish r.status ≡ Some (w.request, w.types))

wants_by_reserve : (b : Bag) (w : Wish) → AsksFor b w → Wants b w
wants_by_reserve b w asks = (asks.0, asks.1, ap wish asks.2)

wants_by_try : (b : Bag) (w : Wish) → TriesFor b w → Wants b w
wants_by_try b w tries = (tries.0, tries.1, ap wish tries.2)

-- a unit that fits is pinned to the rank
grants : (found : Bag → Bool) (b : Bag) (s : ServerModel) (wish : Wish) (p : Placed) → ServerAgrees b s → has_due b ≡ false → Wants b wish
    → IsFit wish s.kept.queue.units p
    → AreSteps found b (enters.Granted s.me wish.rank wish.request p.unit.id ∷ [])
    (with_units (map (pinned_by p.unit.id wish.rank) s.kept.queue.units) s.kept.queue.arrivals s)
grants found b s w p m rests asks fit =
    let u = lodged b.units s.me s.kept.queue.units p.unit.id p m.units fit.found in
    let place : u.0.place ≡ Free s.me = place_is s.me None u.0.place (u.1.pin ∙ ap Some fit.free) in
    let permits : permitted w.rank w.types u.0.unit.kind u.0.unit.target ≡ true = rw u.1.same fit.permits in
    let now = map (pinned_by p.unit.id w.rank) s.kept.queue.units in
    let holds = holds_pinned b.units s.me s.kept.queue.units p.unit.id w.rank p u.0 m.units fit.found u.1 in
    is_step found b (enters.Granted s.me w.rank w.request p.unit.id) (with_units now s.kept.queue.arrivals s)
    (rw rests refl, (asks.0, w.types, u.0, asks.1, asks.2, rw m.servers m.within, (u.1.found, place), permits), refl)
    (units_agree b s _ now s.kept.queue.arrivals m holds) rests

-- Looks.

-- a unit is free here and permitted in the bag where it is so in the queue
counted_at : (me : Server) (rank : Rank) (types : Option (List WorkType)) (unit : Unit) (place : UnitPlace)
    → one (is_free_at me place && permitted rank types unit.kind unit.target)
    ≡ weight_at me (fit rank types) (record { unit = unit; place = place })
counted_at me rank types unit (Free at) = by_test (at.0 == me.0)
  where
    by_test : (t : Bool)
        → one (t && permitted rank types unit.kind unit.target) ≡ pinned_weight (fit rank types) unit (cond t (Some None) None)
    by_test true = refl
    by_test false = refl
counted_at me rank types unit (Pinned at to) = by_test (at.0 == me.0)
  where
    by_test : (t : Bool) → 0 ≡ pinned_weight (fit rank types) unit (cond t (Some (Some to)) None)
    by_test true = refl
    by_test false = refl
counted_at me rank types unit (Travelling to) = refl
counted_at me rank types unit Spent = refl

looks : (found : Bag → Bool) (b : Bag) (s : ServerModel) (wish : Wish) → ServerAgrees b s → has_due b ≡ false → TriesFor b wish
    → best_for s.kept wish ≡ None → AreSteps found b (entries (Looks wish) s) (done (Looks wish) s)
looks found b s wish m rests tries none =
    let unfit : has_fit_at b s.me wish.rank wish.types ≡ false =
    none_counted b.units s.me s.kept wish
    (λ (u : Lodged). is_free_at s.me u.place && permitted wish.rank wish.types u.unit.kind u.unit.target) m.units
    (λ i u at. counted_at s.me wish.rank wish.types u.unit u.place) (ap is_some none) in
    is_step found b (enters.Looked s.me wish.rank wish.request) (done (Looks wish) s)
    (rw rests refl, (tries.0, wish.types, tries.1, tries.2, rw m.servers m.within, unfit), refl) m rests

-- Fetches.

fetches : (found : Bag → Bool) (b : Bag) (s : ServerModel) (rank : Rank) (request : ℕ) (id : UnitId) (p : Placed) → ServerAgrees b s
    → has_due b ≡ false → Does b rank (is_at.Fetching request id false) → unit_with id s.kept.queue.units ≡ Some p → p.pin ≡ Some rank
    → AreSteps found b (enters.Fetched s.me rank id ∷ []) (with_units (filter (has_other_id id) s.kept.queue.units) s.kept.queue.arrivals s)
fetches found b s rank request id p m rests asks is pin =
    let u = lodged b.units s.me s.kept.queue.units id p m.units is in
    let place : u.0.place ≡ Pinned s.me rank = place_is s.me (Some rank) u.0.place (u.1.pin ∙ ap Some pin) in
    let now = filter (has_other_id id) s.kept.queue.units in
    let holds = holds_taken b.units s.me s.kept.queue.units id Spent p u.0 m.units is u.1 refl in
    is_step found b (enters.Fetched s.me rank id) (with_units now s.kept.queue.arrivals s)
    (rw rests refl, (asks.0, request, u.0, asks.1, asks.2, rw m.servers m.within, (u.1.found, place)), refl)
    (units_agree b s _ now s.kept.queue.arrivals m holds) rests

-- Counts.

counts : (found : Bag → Bool) (b : Bag) (s : ServerModel) (rank : Rank) (request : ℕ) (kind : WorkType) → ServerAgrees b s
    → has_due b ≡ false
    → Does b rank (is_at.Counting request kind) → runs_at_home s rank ≡ true
    → AreSteps found b (entries (Counts rank request kind) s) (done (Counts rank request kind) s)
counts found b s rank request kind m rests of home =
    is_step found b (enters.Counted s.me rank request (counts_of kind s.kept.queue.units)) (done (Counts rank request kind) s)
    (rw rests refl, (of.0, kind, of.1, of.2, (rw m.servers m.within, at_home), sym (info_agrees b s kind m)), refl) m rests
  where
    at_home : s.me.0 ≡ home_of b.servers rank
    at_home = rw m.servers (sym ((runs_at_home_says s rank).0 home).0)

-- Exhaustion.

-- server 0 finds it, which it did not before
finds : (found : Bag → Bool) (b : Bag) (s : ServerModel) → ServerAgrees b s → has_due b ≡ false → s.me.0 ≡ 0 → s.kept.exhausted ≡ false
    → found b ≡ true → AreSteps found b (enters.Exhausted ∷ []) (with_knowledge s.kept.done true s)
finds found b s m rests zeroth fresh passes =
    is_step found b enters.Exhausted (with_knowledge s.kept.done true s) (rw rests refl, (passes, new), refl)
    (known_agrees b s b.done true s.kept.done true m m.done (λ is. refl) (λ here is. refl)) rests
  where
    new : b.exhausted ≡ false
    new = false_from_ne_true b.exhausted (λ is. let known = m.found zeroth is in absurd (cc))

-- a server that is alone is server 0
alone_is_zeroth : (b : Bag) (s : ServerModel) → ServerAgrees b s → s.config.servers ≡ 1 → s.me.0 ≡ 0
alone_is_zeroth b s m alone = let within = m.within in omega arith

-- What an act says leaves what it made.

told : (b : Bag) (a : Act) (s : ServerModel) → ServerAgrees b (does a s) → ServerAgrees b (done a s)
told b a s m = rw (done_kept a s, (done_named a s).0, (done_named a s).1) m

steps_told : (found : Bag → Bool) (b : Bag) (es : List Entry) (a : Act) (s : ServerModel) → AreSteps found b es (does a s)
    → AreSteps found b es (done a s)
steps_told found b es a s steps = (steps.0, steps.1, told steps.0 a s steps.2, steps.3)

-- Each act.

-- the entries of an act that is sure are steps of the bag, which agrees afterwards
pub acts_are_legal : ActsAreLegal
acts_are_legal found b s (Accepts unit) m rests sits sure needs = accepts found b s unit m rests needs.0 needs.1 needs.2 sure.2
acts_are_legal found b s (Refuses unit) m rests sits sure needs = refuses found b s unit m rests needs sure.2
acts_are_legal found b s (Ends_put unit end) m rests sits sure needs =
    ends found b s unit.id.rank unit.id.number end needs.0 m rests needs.1 (ap open_call needs.2) sure.1
acts_are_legal found b s (Grants wish unit) m rests sits sure needs =
    let best = sure.1 in
    let fit = best_is_fit s.kept wish best.0 m.units.distinct best.1 in
    subst (λ (u : Unit). AreSteps found b (entries (Grants wish u) s) (done (Grants wish u) s)) best.2
    (grants found b s wish best.0 m rests (wants_by_reserve b wish needs) fit)
acts_are_legal found b s (Ends_reserve wish end) m rests sits sure needs =
    ends found b s wish.rank wish.request end needs.0 m rests needs.1 (ap open_call needs.2) sure.1
acts_are_legal found b s (Grants_try wish unit) m rests sits sure needs =
    let fit = best_is_fit s.kept wish sure.0 m.units.distinct sure.1 in
    subst (λ (u : Unit). AreSteps found b (entries (Grants_try wish u) s) (done (Grants_try wish u) s)) sure.2
    (grants found b s wish sure.0 m rests (wants_by_try b wish needs) fit)
acts_are_legal found b s (Ends_try wish end) m rests sits sure needs =
    ends found b s wish.rank wish.request end needs.0 m rests needs.1 (ap open_call needs.2) sure
acts_are_legal found b s (Looks wish) m rests sits sure needs = looks found b s wish m rests needs sure
acts_are_legal found b s (Fetches rank request id unit) m rests sits sure needs =
    let at = pinned_is_found s.kept.queue.units id rank sure.0 m.units.distinct sure.1 in
    fetches found b s rank request id sure.0 m rests needs at.0 at.1
acts_are_legal found b s (Counts rank request kind) m rests sits sure needs = counts found b s rank request kind m rests needs sure
acts_are_legal found b s (Gives at wish rest unit) m rests sits sure needs =
    let fit = given_fits s.kept wish unit m.units.distinct sure in
    subst (λ (u : Unit). AreSteps found b (entries (Gives at wish rest u) s) (done (Gives at wish rest u) s)) fit.2
    (grants found b s wish fit.0 m rests (wants_by_reserve b wish needs) fit.1)
acts_are_legal found b s (Tells at wish rest end) m rests sits sure needs =
    ends found b s wish.rank wish.request end needs.0 m rests needs.1 (ap open_call needs.2) sure
acts_are_legal found b s (Finds from t) m rests sits sure needs =
    steps_told found b (enters.Exhausted ∷ []) (Finds from t) s (finds found b s m rests sure.0.running.zeroth sure.2 needs)
acts_are_legal found b s Finds_alone m rests sits sure needs =
    finds found b s m rests (alone_is_zeroth b s m sure.alone) sure.new needs
-- what is heard is so
acts_are_legal found b s (Hears_done rank request) m rests sits sure needs =
    (b, refl, known_agrees b s b.done b.exhausted true s.kept.exhausted m (λ is. needs) m.exhausted m.found, rests)
acts_are_legal found b s (Hears_exhaust from) m rests sits sure needs =
    (b, refl, known_agrees b s b.done b.exhausted s.kept.done true m m.done (λ is. needs) (λ zeroth is. refl), rests)
acts_are_legal found b s (Shuts from t) m rests sits sure needs = (b, refl, told b (Shuts from t) s m, rests)
acts_are_legal found b s (Keeps rank request common) m rests sits sure needs =
    keeps found b s rank request common m rests needs.0 needs.1 sure.2
acts_are_legal found b s (Refuses_part rank request common) m rests sits sure needs =
    refuses_part found b s rank request common m rests needs sure.2
acts_are_legal found b s (Ends_keep rank request common end) m rests sits sure needs =
    ends found b s rank request end needs.0 m rests needs.1 (ap open_call needs.2) sure.1
acts_are_legal found b s (Closes request batch accepted part) m rests sits sure needs =
    closes found b s request batch accepted part m rests needs.0 needs.1 sure.0
acts_are_legal found b s (Fetches_part rank request batch part) m rests sits sure needs =
    fetches_part found b s rank request batch part m rests needs sure.0
acts_are_legal found b s (Answers from wish unit) m rests sits sure needs =
    let best = sure.1 in
    let fit = best_is_fit s.kept wish best.0 m.units.distinct best.1 in
    subst (λ (u : Unit). AreSteps found b (entries (Answers from wish u) s) (done (Answers from wish u) s)) best.2
    (grants found b s wish best.0 m rests (wants_by_reserve b wish needs) fit)
acts_are_legal found b s (Promises from id length) m rests sits sure needs =
    promises found b s from id length m rests sure.0 sure.1 needs.0 needs.1 needs.2 needs.3
acts_are_legal found b s (Sends_unit to length unit) m rests sits sure needs =
    let free = sure.1 in
    let P : Unit → Type 0 = λ u. IsPromisedAt b to u.id → find (is_free_as u.id) s.kept.queue.units ≡ Some free.0
    → AreSteps found b (entries (Sends_unit to length u) s) (done (Sends_unit to length u) s) in
    subst P free.2 (λ room there.
    let at = free_is_found s.kept.queue.units free.0.unit.id free.0 m.units.distinct there in
    leaves found b s to free.0 m rests needs.0 room at.0 at.1) needs.1 free.1
acts_are_legal found b s (Arrives from unit) m rests sits sure needs = arrives found b s from unit m rests sure needs.0 needs.1
acts_are_legal found b s (Withdraws from id) m rests sits sure needs = withdraws found b s from id m rests sure needs.0 needs.1
-- the others enter nothing
acts_are_legal found b s _ m rests sits sure needs = (b, refl, m, rests)
