-- In each front of a legal run of orderly ranks, what was got was sent in that front.
use Rattle.std.proofs.Common.{◌≡◌, ℕ, zero, suc, ◌+◌, ◌<◌, ◌≤◌, ◌==◌, Bool, true, false, cond, List, [], ◌∷◌, ◌++◌, map, count_by, Option}
use Rattle.std.proofs.Common.{Some, None, refl, sym, ap, ◌∙◌, arith, append_assoc}
use Rattle.std.specs.Prelude.{sum_by}
use Rattle.std.proofs.lemmas.List.Sums.{sum_by-append}
use Rattle.adlb_unit.specs.declared.configs.Config.{Config}
use Rattle.adlb_unit.specs.declared.names.Rank.{Rank}
use Rattle.adlb_unit.specs.declared.notes.UnitNote.{UnitNote}
use Rattle.adlb_unit.specs.declared.units.Unit.{Unit}
use Rattle.bag_ledger.specs.declared.entries.Entry.{Entry}
use Rattle.bag_ledger.specs.declared.entries.Said.{Said}
use Rattle.bag_ledger.specs.Bag.{Bag, start}
use Rattle.bag_ledger.specs.Steps.{after}
use Rattle.bag_ledger.specs.Runs.{IsRun, says, calls}
use Rattle.balance_law.specs.Balanced.{over_ranks, AreOrderly}
use Rattle.balance_law.specs.Parcels.{Parcel, batch_after, granted_note, parcel_got, parcel_sent, sent, got}
use Rattle.balance_law.proofs.Paths.{IsPath, of_rank, along, path_of, calls_along, over_same}
use Rattle.balance_law.proofs.Commons.{parcel_of}
use Rattle.balance_law.proofs.Deeds.{accepted, fetched}
use Rattle.balance_law.proofs.Going.{IsGoing, going_next, hands_after}
use Rattle.balance_law.proofs.Tallies.{Hand, hand_after}
use Rattle.balance_law.proofs.Whole.{empty, gone, left_balance, start_going, start_long, sum_mapped}

-- What is held, and what batch goes on, after calls.

-- the note that is held after these calls
unfoldable pub held_after : Option UnitNote → List Said → Option UnitNote
held_after held [] = held
held_after held (s ∷ said) = held_after (granted_note s.answer) said

-- the batch that goes on after these calls
unfoldable pub batch_behind : Option (List ℕ) → List Said → Option (List ℕ)
batch_behind batch [] = batch
batch_behind batch (s ∷ said) = batch_behind (batch_after batch s.call s.answer) said

-- what is got in two parts of the calls
pub got-append : (held : Option UnitNote) (xs ys : List Said) → got held (xs ++ ys) ≡ got held xs ++ got (held_after held xs) ys
unfolding got held_after
got-append held [] ys = refl
got-append held (s ∷ xs) ys =
    ap (λ l. parcel_got held s.call s.answer ++ l) (got-append (granted_note s.answer) xs ys)
    ∙ sym (append_assoc (parcel_got held s.call s.answer) (got (granted_note s.answer) xs) (got (held_after (granted_note s.answer) xs) ys))

-- what is sent in two parts of the calls
pub sent-append : (batch : Option (List ℕ)) (xs ys : List Said) → sent batch (xs ++ ys) ≡ sent batch xs ++ sent (batch_behind batch xs) ys
unfolding sent batch_behind
sent-append batch [] ys = refl
sent-append batch (s ∷ xs) ys =
    ap (λ l. parcel_sent batch s.call s.answer ++ l) (sent-append (batch_after batch s.call s.answer) xs ys)
    ∙ sym (append_assoc (parcel_sent batch s.call s.answer) (sent (batch_after batch s.call s.answer) xs)
    (sent (batch_behind (batch_after batch s.call s.answer) xs) ys))

-- one entry says one thing at most
held_one : (rank : Rank) (o : Option (Rank × Said)) (h : Hand) (given : List Unit) (more : List Said) →
    held_after (hand_after h (of_rank rank o) given).held more ≡ held_after h.held (of_rank rank o ++ more)
unfolding held_after
held_one rank None h [] more = refl
held_one rank None h (u ∷ given) more = refl
held_one rank (Some (by, s)) h given more = at (by.0 == rank.0) given
  where
    at : (b : Bool) (given : List Unit) → held_after (hand_after h (cond b (s ∷ []) []) given).held more
        ≡ held_after h.held (cond b (s ∷ []) [] ++ more)
    at true given = refl
    at false [] = refl
    at false (u ∷ given) = refl

batch_one : (rank : Rank) (o : Option (Rank × Said)) (h : Hand) (given : List Unit) (more : List Said) →
    batch_behind (hand_after h (of_rank rank o) given).batch more ≡ batch_behind h.batch (of_rank rank o ++ more)
unfolding batch_behind
batch_one rank None h [] more = refl
batch_one rank None h (u ∷ given) more = refl
batch_one rank (Some (by, s)) h given more = at (by.0 == rank.0) given
  where
    at : (b : Bool) (given : List Unit) → batch_behind (hand_after h (cond b (s ∷ []) []) given).batch more
        ≡ batch_behind h.batch (cond b (s ∷ []) [] ++ more)
    at true given = refl
    at false [] = refl
    at false (u ∷ given) = refl

-- A front of a path.

record IsFront (n : ℕ) (b last : Bag) (front back : List Entry) (hands : Rank → Hand) : Type 0 where
  mid : Bag
  later : Rank → Hand
  path : IsPath b front mid
  rest : IsPath mid back last
  going : IsGoing n mid last back later
  held : (rank : Rank) → (later rank).held ≡ held_after (hands rank).held (along says b front rank)
  batch : (rank : Rank) → (later rank).batch ≡ batch_behind (hands rank).batch (along says b front rank)
  says_split : (rank : Rank) → along says b (front ++ back) rank ≡ along says b front rank ++ along says mid back rank
  accepted_split : (rank : Rank) → along accepted b (front ++ back) rank ≡ along accepted b front rank ++ along accepted mid back rank
  fetched_split : (rank : Rank) → along fetched b (front ++ back) rank ≡ along fetched b front rank ++ along fetched mid back rank

front_of : (n : ℕ) (b last : Bag) (front back : List Entry) (hands : Rank → Hand) → 0 < n → IsPath b (front ++ back) last →
    IsGoing n b last (front ++ back) hands → IsFront n b last front back hands
unfolding held_after batch_behind
front_of n b last [] back hands some path going = record {
  mid = b;
  later = hands;
  path = refl;
  rest = path;
  going = going;
  held = λ rank. refl;
  batch = λ rank. refl;
  says_split = λ rank. refl;
  accepted_split = λ rank. refl;
  fetched_split = λ rank. refl;
}
front_of n b last (e ∷ front) back hands some path going =
    let s = going_next n b last e (front ++ back) hands some path going in
    let r = front_of n (after b e) last front back (hands_after b e hands) some path.1 s.going in
    record {
      mid = r.mid;
      later = r.later;
      path = (path.0, r.path);
      rest = r.rest;
      going = r.going;
      held = λ rank. r.held rank ∙ held_one rank (says b e) (hands rank) (of_rank rank (fetched b e)) (along says (after b e) front rank);
      batch = λ rank. r.batch rank
          ∙ batch_one rank (says b e) (hands rank) (of_rank rank (fetched b e)) (along says (after b e) front rank);
      says_split = λ rank. ap (λ l. of_rank rank (says b e) ++ l) (r.says_split rank)
          ∙ sym (append_assoc (of_rank rank (says b e)) (along says (after b e) front rank) (along says r.mid back rank));
      accepted_split = λ rank. ap (λ l. of_rank rank (accepted b e) ++ l) (r.accepted_split rank)
          ∙ sym (append_assoc (of_rank rank (accepted b e)) (along accepted (after b e) front rank) (along accepted r.mid back rank));
      fetched_split = λ rank. ap (λ l. of_rank rank (fetched b e) ++ l) (r.fetched_split rank)
          ∙ sym (append_assoc (of_rank rank (fetched b e)) (along fetched (after b e) front rank) (along fetched r.mid back rank));
    }

over_le : (n : ℕ) (f g : Rank → ℕ) → ((rank : Rank) → rank.0 < n → f rank ≤ g rank) → over_ranks n f ≤ over_ranks n g
over_le zero f g le = omega arith
over_le (suc n) f g le =
    let rest = over_le n f g (λ rank below. le rank (omega arith)) in
    let here = le (record { 0 = n }) (omega arith) in
    omega (arith, rest, here)

module _ (config : Config) (front back : List Entry) (last : Bag) (some : 0 < config.ranks)
    (legal : IsRun (start config) (front ++ back) last) (orderly : AreOrderly config (front ++ back))
  where
    path : IsPath (start config) (front ++ back) last
    path = path_of (start config) last (front ++ back) legal

    front_is : IsFront config.ranks (start config) last front back (λ rank. empty)
    front_is =
        front_of config.ranks (start config) last front back (λ rank. empty) some path
        (start_going config last (front ++ back) legal orderly)

    module _ (test : Parcel → Bool) where
      abbrev f : Parcel → ℕ
      f p = cond (test p) 1 0

      abbrev g : Unit → ℕ
      g u = cond (test (parcel_of last u)) 1 0

      of_got : (rank : Rank) → rank.0 < config.ranks →
          count_by test (got None (calls config front rank)) ≤ sum_by g (along fetched (start config) front rank)
      of_got rank below =
          let w = (gone config.ranks (start config) last (front ++ back) (λ rank. empty) some path
          (start_going config last (front ++ back) legal orderly)).counted rank below in
          let x = (gone config.ranks front_is.mid last back front_is.later some front_is.rest front_is.going).counted rank below in
          let said = along says (start config) front rank in
          let more = along says front_is.mid back rank in
          let here : got None (said ++ more) ≡ got None said ++ got (front_is.later rank).held more =
          got-append None said more ∙ ap (λ h. got None said ++ got h more) (sym (front_is.held rank)) in
          let all : got None (said ++ more)
          ≡ map (parcel_of last) (along fetched (start config) front rank ++ along fetched front_is.mid back rank) =
          ap (got None) (sym (front_is.says_split rank)) ∙ w.gets ∙ ap (map (parcel_of last)) (front_is.fetched_split rank) in
          let sums : sum_by f (got None said) + sum_by f (got (front_is.later rank).held more)
          ≡ sum_by g (along fetched (start config) front rank ++ along fetched front_is.mid back rank) =
          sym (sum_by-append f (got None said) (got (front_is.later rank).held more)) ∙ ap (sum_by f) (sym here ∙ all)
          ∙ sum_mapped f (parcel_of last) (along fetched (start config) front rank ++ along fetched front_is.mid back rank) in
          let back_sum : sum_by f (got (front_is.later rank).held more)
          ≡ sum_by g ((front_is.later rank).owed ++ along fetched front_is.mid back rank) =
          ap (sum_by f) x.gets ∙ sum_mapped f (parcel_of last) ((front_is.later rank).owed ++ along fetched front_is.mid back rank) in
          let same : count_by test (got None (calls config front rank)) ≡ sum_by f (got None said) =
          ap (λ l. sum_by f (got None l)) (calls_along (start config) front rank) in
          omega (
            arith,
            same,
            sums,
            back_sum,
            sum_by-append g (along fetched (start config) front rank) (along fetched front_is.mid back rank),
            sum_by-append g (front_is.later rank).owed (along fetched front_is.mid back rank),
          )

      of_sent : (rank : Rank) → rank.0 < config.ranks →
          count_by test (sent None (calls config front rank)) ≡ sum_by g (along accepted (start config) front rank)
      of_sent rank below =
          let w = (gone config.ranks (start config) last (front ++ back) (λ rank. empty) some path
          (start_going config last (front ++ back) legal orderly)).counted rank below in
          let x = (gone config.ranks front_is.mid last back front_is.later some front_is.rest front_is.going).counted rank below in
          let said = along says (start config) front rank in
          let more = along says front_is.mid back rank in
          let here : sent None (said ++ more) ≡ sent None said ++ sent (front_is.later rank).batch more =
          sent-append None said more ∙ ap (λ h. sent None said ++ sent h more) (sym (front_is.batch rank)) in
          let all : sent None (said ++ more)
          ≡ map (parcel_of last) (along accepted (start config) front rank ++ along accepted front_is.mid back rank) =
          ap (sent None) (sym (front_is.says_split rank)) ∙ w.sends ∙ ap (map (parcel_of last)) (front_is.accepted_split rank) in
          let sums : sum_by f (sent None said) + sum_by f (sent (front_is.later rank).batch more)
          ≡ sum_by g (along accepted (start config) front rank ++ along accepted front_is.mid back rank) =
          sym (sum_by-append f (sent None said) (sent (front_is.later rank).batch more)) ∙ ap (sum_by f) (sym here ∙ all)
          ∙ sum_mapped f (parcel_of last) (along accepted (start config) front rank ++ along accepted front_is.mid back rank) in
          let back_sum : sum_by f (sent (front_is.later rank).batch more) ≡ sum_by g (along accepted front_is.mid back rank) =
          ap (sum_by f) x.sends ∙ sum_mapped f (parcel_of last) (along accepted front_is.mid back rank) in
          let same : count_by test (sent None (calls config front rank)) ≡ sum_by f (sent None said) =
          ap (λ l. sum_by f (sent None l)) (calls_along (start config) front rank) in
          omega (
            arith,
            same,
            sums,
            back_sum,
            sum_by-append g (along accepted (start config) front rank) (along accepted front_is.mid back rank),
          )

      -- what all ranks got in the front was sent in it
      pub caused :
          over_ranks config.ranks (λ rank. count_by test (got None (calls config front rank)))
          ≤ over_ranks config.ranks (λ rank. count_by test (sent None (calls config front rank)))
      caused =
          let gets = over_le config.ranks (λ rank. count_by test (got None (calls config front rank)))
          (λ rank. sum_by g (along fetched (start config) front rank)) of_got in
          let sends = over_same config.ranks (λ rank. count_by test (sent None (calls config front rank)))
          (λ rank. sum_by g (along accepted (start config) front rank)) of_sent in
          let balance = left_balance g config.ranks (start config) front_is.mid front (start_long config) front_is.path in
          omega (arith, gets, sends, balance)
