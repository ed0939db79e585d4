-- What is so at the end of a run of orderly ranks.
use Rattle.std.proofs.Common.{◌≡◌, ℕ, ◌+◌, ◌<◌, inl, inr, List, [], ◌∷◌, ◌++◌, length, map, All, count_by, cond, Option, Some, None, refl}
use Rattle.std.proofs.Common.{sym, ap, ◌∙◌, subst, arith}
use Rattle.std.specs.Prelude.{sum_by, if◌then◌else◌}
use Rattle.std.proofs.lemmas.List.{length-replicate, map-append}
use Rattle.std.proofs.lemmas.List.Elements.{All-nil, All-cons, All-append}
use Rattle.std.proofs.lemmas.List.Sums.{sum_by-cons}
use Rattle.adlb_unit.specs.declared.configs.Config.{Config}
use Rattle.adlb_unit.specs.declared.names.Rank.{Rank}
use Rattle.adlb_unit.specs.declared.notes.UnitNote.{UnitNote}
use Rattle.adlb_unit.specs.declared.units.Unit.{Unit}
use Rattle.bag_ledger.specs.declared.entries.Entry.{Entry}
use Rattle.bag_ledger.specs.declared.entries.Said.{Said}
use Rattle.bag_ledger.specs.declared.states.RankState.{RankState}
use Rattle.bag_ledger.specs.declared.states.Placed.{Placed}
use Rattle.bag_ledger.specs.declared.states.UnitPlace.{UnitPlace}
use Rattle.bag_ledger.specs.declared.states.UnitPlace.TheVariants.{Free, Travelling, Pinned, Spent}
use Rattle.bag_ledger.specs.Bag.{Bag, settled, start, fresh}
use Rattle.bag_ledger.specs.Steps.{Is, after}
use Rattle.bag_ledger.specs.Runs.{IsRun, says, calls}
use Rattle.bag_ledger.proofs.Turns.{fresh_at}
use Rattle.bag_law.specs.Counts.{dues}
use Rattle.bag_law.specs.Sound.{IsSoundBag}
use Rattle.bag_law.proofs.Sound.{run_is_sound, start_is_sound}
use Rattle.balance_law.specs.Balanced.{over_ranks, IsEndedWell, AreOrderly, IsBalanced}
use Rattle.balance_law.specs.Orderly.{last_calls}
use Rattle.balance_law.specs.Parcels.{Parcel, sent, got}
use Rattle.balance_law.proofs.Paths.{IsPath, of_rank, along, path_of, calls_along, over_same, over_along}
use Rattle.balance_law.proofs.Commons.{parcel_of}
use Rattle.balance_law.proofs.Deeds.{accepted, granted, fetched}
use Rattle.balance_law.proofs.Freed.{IsGoneRank, all_freed, none_due_last}
use Rattle.balance_law.proofs.Seen.{place_within, all_within, ranks_stay}
use Rattle.balance_law.proofs.Shifts.{is_loose, is_pinned, is_left, lies, standing, left_stands, pinned_stands}
use Rattle.balance_law.proofs.Tallies.{Hand, IsTally, pins}
use Rattle.balance_law.proofs.Calling.{Leaves, closes, each, gone as left, orderly_none, runs, IsCalling}
use Rattle.balance_law.proofs.Going.{IsGoing, hands_after, going_next, there_is}

-- What each rank sent and got along the path.

-- what a rank sent and got along the rest of a run
pub record IsCounted (b last : Bag) (es : List Entry) (rank : Rank) (h : Hand) : Type 0 where
  pub sends : sent h.batch (along says b es rank) ≡ map (parcel_of last) (along accepted b es rank)
  pub gets : got h.held (along says b es rank) ≡ map (parcel_of last) (h.owed ++ along fetched b es rank)
  pub even : length (along fetched b es rank) ≡ pins h.held h.owed + length (along granted b es rank)
  pub ended : All (λ s. IsEndedWell s.call s.answer) (along says b es rank)

sent_none : (batch : Option (List ℕ)) → sent batch [] ≡ []
unfolding sent
sent_none batch = refl

got_none : (held : Option UnitNote) → got held [] ≡ []
unfolding got
got_none held = refl

-- the path went on to its end
pub record IsGone (n : ℕ) (b last : Bag) (es : List Entry) (hands : Rank → Hand) : Type 0 where
  pub hands_then : Rank → Hand
  pub going : IsGoing n last last [] hands_then
  pub counted : (rank : Rank) → rank.0 < n → IsCounted b last es rank (hands rank)

-- at the end each rank was told it, has finished, and has nothing in hand
record IsOut (r : RankState) (h : Hand) : Type 0 where
  nothing : h.held ≡ None
  owes : h.owed ≡ []
  gone : IsGoneRank r

none_last : (batch : Option (List ℕ)) → [] ≡ last_calls batch → ⊥
none_last None is = absurd (cc)
none_last (Some common) is = absurd (cc)

all_out : (n : ℕ) (b last : Bag) (hands : Rank → Hand) (rank : Rank) (r : RankState) → IsGoing n b last [] hands → Is b rank r
    → IsOut r (hands rank)
all_out n b last hands rank r going there = by_case (going.calling rank r there)
  where
    by_leaves : Leaves r (hands rank).batch [] → IsGoneRank r
    by_leaves (runs at rest) = absurd (none_last (hands rank).batch rest)
    by_leaves (closes pends rest) = absurd (cc)
    by_leaves (left done none) = (done, none)

    by_case : IsCalling n b rank r (hands rank) [] → IsOut r (hands rank)
    by_case (inl u) = absurd (orderly_none n (hands rank).held (hands rank).batch u.orderly)
    by_case (inr t) = record { nothing = t.nothing; owes = t.owes; gone = by_leaves t.leaves }

counted_next : (b last : Bag) (e : Entry) (es : List Entry) (rank : Rank) (hands : Rank → Hand)
    → IsTally last (hands rank) (of_rank rank (says b e)) (of_rank rank (accepted b e)) (of_rank rank (granted b e))
    (of_rank rank (fetched b e))
    → IsCounted (after b e) last es rank (hands_after b e hands rank) → IsCounted b last (e ∷ es) rank (hands rank)
counted_next b last e es rank hands t c = record {
  sends =
      t.sends (along says (after b e) es rank) ∙ ap (λ (ps : List Parcel). map (parcel_of last) (of_rank rank (accepted b e)) ++ ps) c.sends
      ∙ sym (map-append (parcel_of last) (of_rank rank (accepted b e)) (along accepted (after b e) es rank));
  gets = t.gets (along says (after b e) es rank) (along fetched (after b e) es rank) c.gets;
  even =
      let x = long_parts (of_rank rank (fetched b e)) (along fetched (after b e) es rank) in
      let y = long_parts (of_rank rank (granted b e)) (along granted (after b e) es rank) in
      let z = t.even in
      let w = c.even in
      omega (arith, x, y, z, w);
  ended = All-append (λ s. IsEndedWell s.call s.answer) (of_rank rank (says b e)) (along says (after b e) es rank) t.ended c.ended;
}
  where
    long_parts : (xs ys : List Unit) → length (xs ++ ys) ≡ length xs + length ys
    long_parts [] ys = omega arith
    long_parts (x ∷ xs) ys = let h = long_parts xs ys in omega (arith, h)

none_more : (b last : Bag) (rank : Rank) (r : RankState) (h : Hand) → IsOut r h → IsCounted b last [] rank h
none_more b last rank r h out = record {
  sends = sent_none h.batch;
  gets = got_none h.held ∙ ap (λ (us : List Unit). map (parcel_of last) (us ++ [])) (sym out.owes);
  even = rw out.nothing refl;
  ended = All-nil (λ (s : Said). IsEndedWell s.call s.answer);
}

-- where the run of orderly ranks ends, each has finished
pub gone : (n : ℕ) (b last : Bag) (es : List Entry) (hands : Rank → Hand) → 0 < n → IsPath b es last → IsGoing n b last es hands
    → IsGone n b last es hands
gone n b last [] hands some path going = record {
  hands_then = hands;
  going = subst (λ (x : Bag). IsGoing n x last [] hands) path going;
  counted = λ rank below.
      let r = there_is b.ranks rank.0 (rw going.long below) in
      none_more b last rank r.0 (hands rank) (all_out n b last hands rank r.0 going r.1);
}
gone n b last (e ∷ es) hands some path going =
    let s = going_next n b last e es hands some path going in
    let rest = gone n (after b e) last es (hands_after b e hands) some path.1 s.going in
    record {
      hands_then = rest.hands_then;
      going = rest.going;
      counted = λ rank below. counted_next b last e es rank hands (s.tally rank below) (rest.counted rank below);
    }

-- The balances, along the path.

-- over a run, what is left and what was fetched weigh what was left and what was accepted
pub left_balance : (f : Unit → ℕ) (n : ℕ) (b last : Bag) (es : List Entry) → length b.ranks ≡ n → IsPath b es last
    → standing is_left f last + over_ranks n (λ rank. sum_by f (along fetched b es rank))
    ≡ standing is_left f b + over_ranks n (λ rank. sum_by f (along accepted b es rank))
left_balance f n b last [] long path = rw path refl
left_balance f n b last (e ∷ es) long path =
    let within = all_within b e n long path.0 in
    let rest = left_balance f n (after b e) last es (ranks_stay b e path.0 ∙ long) path.1 in
    let law = left_stands f b e path.0 in
    let gives = over_along f n fetched b e es within.2 in
    let accepts = over_along f n accepted b e es within.0 in
    omega (arith, rest, law, gives, accepts)

-- over a run, what is pinned and what was fetched weigh what was pinned and what was granted
pub pinned_balance : (f : Unit → ℕ) (n : ℕ) (b last : Bag) (es : List Entry) → length b.ranks ≡ n → IsPath b es last
    → standing is_pinned f last + over_ranks n (λ rank. sum_by f (along fetched b es rank))
    ≡ standing is_pinned f b + over_ranks n (λ rank. sum_by f (along granted b es rank))
pinned_balance f n b last [] long path = rw path refl
pinned_balance f n b last (e ∷ es) long path =
    let within = all_within b e n long path.0 in
    let rest = pinned_balance f n (after b e) last es (ranks_stay b e path.0 ∙ long) path.1 in
    let law = pinned_stands f b e path.0 in
    let gives = over_along f n fetched b e es within.2 in
    let grants = over_along f n granted b e es within.1 in
    omega (arith, rest, law, gives, grants)

-- At the end.

sum_each : (us : List Unit) → sum_by each us ≡ length us
sum_each [] = refl
sum_each (u ∷ us) = let h = sum_each us in rw (sum_by-cons each u us) (omega (arith, h))

-- where no unit is loose and none is pinned, each is spent
all_spent : (us : List Placed) → sum_by (lies is_loose each) us ≡ 0 → sum_by (lies is_pinned each) us ≡ 0 → All (λ u. u.place ≡ Spent) us
all_spent [] loose pinned = All-nil (λ (u : Placed). u.place ≡ Spent)
all_spent (u ∷ us) loose pinned =
    let l : lies is_loose each u + sum_by (lies is_loose each) us ≡ 0 = sym (sum_by-cons (lies is_loose each) u us) ∙ loose in
    let p : lies is_pinned each u + sum_by (lies is_pinned each) us ≡ 0 = sym (sum_by-cons (lies is_pinned each) u us) ∙ pinned in
    All-cons (λ (u : Placed). u.place ≡ Spent) u us (by_place u.place (omega (arith, l)) (omega (arith, p)))
    (all_spent us (omega (arith, l)) (omega (arith, p)))
  where
    by_place : (place : UnitPlace) → (if is_loose place then each (u.unit) else 0) ≡ 0 → (if is_pinned place then each (u.unit) else 0) ≡ 0
        → place ≡ Spent
    by_place (Free server) loose pinned = absurd (omega (arith, loose))
    by_place (Travelling to) loose pinned = absurd (omega (arith, loose))
    by_place (Pinned server rank) loose pinned = absurd (omega (arith, pinned))
    by_place Spent loose pinned = refl

none_left : (f : Unit → ℕ) (us : List Placed) → sum_by (lies is_loose each) us ≡ 0 → sum_by (lies is_pinned each) us ≡ 0
    → sum_by (lies is_left f) us ≡ 0
none_left f [] loose pinned = refl
none_left f (u ∷ us) loose pinned =
    let l : lies is_loose each u + sum_by (lies is_loose each) us ≡ 0 = sym (sum_by-cons (lies is_loose each) u us) ∙ loose in
    let p : lies is_pinned each u + sum_by (lies is_pinned each) us ≡ 0 = sym (sum_by-cons (lies is_pinned each) u us) ∙ pinned in
    let rest = none_left f us (omega (arith, l)) (omega (arith, p)) in
    let first = by_place u.place (f (u.unit)) (omega (arith, l)) (omega (arith, p)) in
    rw (sum_by-cons (lies is_left f) u us) (omega (arith, rest, first))
  where
    by_place : (place : UnitPlace) (m : ℕ) → (if is_loose place then each (u.unit) else 0) ≡ 0
        → (if is_pinned place then each (u.unit) else 0) ≡ 0 → (if is_left place then m else 0) ≡ 0
    by_place (Free server) m loose pinned = absurd (omega (arith, loose))
    by_place (Travelling to) m loose pinned = absurd (omega (arith, loose))
    by_place (Pinned server rank) m loose pinned = absurd (omega (arith, pinned))
    by_place Spent m loose pinned = refl

-- no unit is loose: each rank was told the end
none_loose : (n : ℕ) (last : Bag) (hands : Rank → Hand) → 0 < n → IsGoing n last last [] hands → standing is_loose each last ≡ 0
none_loose n last hands some going =
    let r = there_is last.ranks 0 (rw going.long some) in
    by_case r.0 (going.calling (record { 0 = 0 }) r.0 r.1)
  where
    by_case : (r : RankState) → IsCalling n last (record { 0 = 0 }) r (hands (record { 0 = 0 })) [] → standing is_loose each last ≡ 0
    by_case r (inl u) = absurd (orderly_none n (hands (record { 0 = 0 })).held (hands (record { 0 = 0 })).batch u.orderly)
    by_case r (inr t) = going.nothing_loose t.marked

-- At the start.

-- at the start there are as many ranks as the configuration has
pub start_long : (config : Config) → length (start config).ranks ≡ config.ranks
start_long config = length-replicate config.ranks fresh

below_start : (config : Config) (rank : Rank) (r : RankState) → Is (start config) rank r → rank.0 < config.ranks
below_start config rank r there =
    let long = start_long config in
    let below = place_within (start config).ranks rank.0 r there in
    omega (arith, long, below)

-- nothing in hand
abbrev pub empty : Hand
empty = record { held = None; batch = None; owed = [] }

-- a run of orderly ranks goes on from the start
pub start_going : (config : Config) (last : Bag) (ledger : List Entry) → IsRun (start config) ledger last → AreOrderly config ledger
    → IsGoing config.ranks (start config) last ledger (λ rank. empty)
start_going config last ledger run orderly = record {
  calling = λ rank r there. inl (rw (fresh_at config.ranks rank.0 r there) (record {
    no_end = refl;
    unfinished = refl;
    orderly = rw (← calls_along (start config) ledger rank) (orderly rank (below_start config rank r there));
    holds = refl;
    asks = λ ex. absurd (cc);
  }));
  batch = λ rank r there. rw (fresh_at config.ranks rank.0 r there) refl;
  aimed = All-nil _;
  nothing_loose = λ ex. refl;
  undone = refl;
  sound = start_is_sound config;
  long = start_long config;
}

-- a sum over what is mapped
pub sum_mapped : {X Y : Type 0} (f : Y → ℕ) (g : X → Y) (xs : List X) → sum_by f (map g xs) ≡ sum_by (λ x. f (g x)) xs
sum_mapped f g [] = refl
sum_mapped f g (x ∷ xs) =
    let rest = sum_mapped f g xs in
    rw (sum_by-cons f (g x) (map g xs), sum_by-cons (λ x. f (g x)) x xs) (omega (arith, rest))

-- in a legal run of orderly ranks what was sent is what was got, and nothing is left
pub balanced : (config : Config) (ledger : List Entry) (last : Bag) → 0 < config.ranks → IsRun (start config) ledger last
    → AreOrderly config ledger → IsBalanced config ledger last
balanced config ledger last some run orderly = record {
  spent = spent;
  freed = all_freed last sound none_due spent out;
  same = λ test.
      let f : Parcel → ℕ = λ p. cond (test p) 1 0 in
      let g : Unit → ℕ = λ u. f (parcel_of last u) in
      let balance = left_balance g n b last ledger long path in
      let none = none_left g last.units loose pinned in
      let sends =
      over_same n (λ rank. count_by test (sent None (calls config ledger rank))) (λ rank. sum_by g (along accepted b ledger rank))
      (λ rank below. ap (λ (said : List Said). sum_by f (sent None said)) (calls_along b ledger rank) ∙ ap (sum_by f)
      (whole.counted rank below).sends ∙ sum_mapped f (parcel_of last) (along accepted b ledger rank)) in
      let gets = over_same n (λ rank. count_by test (got None (calls config ledger rank))) (λ rank. sum_by g (along fetched b ledger rank))
      (λ rank below. ap (λ (said : List Said). sum_by f (got None said)) (calls_along b ledger rank) ∙ ap (sum_by f)
      (whole.counted rank below).gets ∙ sum_mapped f (parcel_of last) (along fetched b ledger rank)) in
      omega (arith, balance, none, sends, gets);
  ended = λ rank below. rw (calls_along b ledger rank) (whole.counted rank below).ended;
}
  where
    n : ℕ
    n = config.ranks

    b : Bag
    b = start config

    long : length (start config).ranks ≡ config.ranks
    long = start_long config

    path : IsPath (start config) ledger last
    path = path_of (start config) last ledger run

    sound : IsSoundBag last
    sound = run_is_sound settled config ledger last run

    whole : IsGone config.ranks (start config) last ledger (λ rank. empty)
    whole = gone config.ranks (start config) last ledger (λ rank. empty) some path (start_going config last ledger run orderly)

    out : (rank : Rank) (r : RankState) → Is last rank r → IsGoneRank r
    out rank r there = (all_out config.ranks last last whole.hands_then rank r whole.going there).gone

    none_due : dues last.parts ≡ 0
    none_due = none_due_last (start config) last ledger run (start_is_sound config) refl out

    loose : standing is_loose each last ≡ 0
    loose = none_loose config.ranks last whole.hands_then some whole.going

    pinned : standing is_pinned each last ≡ 0
    pinned =
        let balance = pinned_balance each config.ranks (start config) last ledger long path in
        let even =
        over_same config.ranks (λ rank. sum_by each (along fetched (start config) ledger rank))
        (λ rank. sum_by each (along granted (start config) ledger rank)) (λ rank below.
        let x = sum_each (along fetched (start config) ledger rank) in
        let y = sum_each (along granted (start config) ledger rank) in
        let z = (whole.counted rank below).even in
        omega (arith, x, y, z)) in
        omega (arith, balance, even)

    spent : All (λ u. u.place ≡ Spent) last.units
    spent = all_spent last.units loose pinned
