-- The units by their ids, and the place of a unit that is sought by its id.
use Rattle.std.proofs.Common.{◌≡◌, ◌≢◌, ◌<◌, ◌≤◌, ◌⊎◌, ℕ, suc, Bool, true, false, cond, List, [], ◌∷◌, ◌++◌, get_or, length, map, nat_lt}
use Rattle.std.proofs.Common.{Option, None, Some, refl, sym, ap, ◌∙◌, arith, inl, inr}
use Rattle.std.specs.List.{AllPairs, position_or_len, slice_get}
use Rattle.std.specs.List.Sorted.{IsPartitionPoint}
use Rattle.std.specs.Option.{option_or}
use Rattle.std.proofs.lemmas.Bool.{both_ways, cases_order}
use Rattle.std.proofs.lemmas.Bool.Decides.{nat_tests}
use Rattle.std.proofs.lemmas.List.{get_or_default}
use Rattle.std.proofs.lemmas.List.Elements.{All-head, All-tail}
use Rattle.std.proofs.lemmas.List.Sums.{fails_before_first, passes_at_first}
use Rattle.std.proofs.lemmas.Option.{get_or_from_slice_get, none-some, same_Some, slice_get_within}
use Rattle.adlb_unit.specs.Ids.{same_unit}
use Rattle.adlb_unit.specs.declared.names.Rank.{Rank}
use Rattle.adlb_unit.specs.declared.names.UnitId.{UnitId}
use Rattle.adlb_unit.proofs.Same.{same_unit_from, same_unit_is, unit_differs}
use Rattle.work_queue.proofs.Ids.{others_after, others_before, unit_pinned}
use Rattle.work_queue.proofs.Sorted.{stands_at}
use Rattle.work_queue.specs.Queue.{HasDistinctIds, HasNoUnit, HasUnit, id_of, is_unit, pinned_by}
use Rattle.work_queue.specs.inside.Names.{IsNamed, stamp_at, stamp_of}
use Rattle.work_queue.specs.declared.naming.Names.{Names}
use Rattle.work_queue.specs.declared.placing.Placed.{Placed}

-- the place of a stamp among those that rise
pub numbers_trans : (k l m : ℕ) → nat_lt k l ≡ true → nat_lt l m ≡ true → nat_lt k m ≡ true
numbers_trans k l m first second = grind (arith, nat_tests)

number_self : (k : ℕ) → nat_lt k k ≡ false
number_self k = grind (arith, nat_tests)

stamp_test : (a b : ℕ) → a < b → nat_lt a b ≡ true
stamp_test a b lt = grind (arith, nat_tests)

-- stamps that rise do so by the test
pub rising_before : (stamps : List ℕ) → AllPairs (λ a b. a < b) stamps → AllPairs (λ a b. nat_lt a b ≡ true) stamps
rising_before stamps rising i j d before within = stamp_test (get_or stamps i d) (get_or stamps j d) (rising i j d before within)

-- the place at which a stamp is cut off is its own
pub stamp_stands : (stamps : List ℕ) (stamp n : ℕ) → AllPairs (λ a b. a < b) stamps → n ≤ length stamps
    → IsPartitionPoint (λ x. nat_lt x stamp ≡ true) (λ x. nat_lt x stamp ≡ false) stamps n → (k d : ℕ) → k < length stamps
    → get_or stamps k d ≡ stamp → n ≡ k
stamp_stands stamps stamp n rising within point k d below is =
    let here = stands_at nat_lt number_self stamps stamp n (rising_before stamps rising) within point (
      k,
      below,
      sym (get_or_default stamps k d stamp below) ∙ is,
    ) in
    let read : get_or stamps n d ≡ stamp = get_or_default stamps n d stamp here.0 ∙ sym here.1 in
    elim (cases_order n k) [
      | inl same ↦ same
      | inr (inl before) ↦ absurd (let lt = rising n k d before below in omega (arith, lt, read, is))
      | inr (inr after) ↦ absurd (let lt = rising k n d after here.0 in omega (arith, lt, read, is))
    ]

-- what is kept of an id in units that stand one after the other
stamp_append : (id : UnitId) (xs ys : List Placed) (ss ts : List ℕ) → length ss ≡ length xs
    → stamp_of id (xs ++ ys) (ss ++ ts) ≡ option_or (stamp_of id xs ss) (stamp_of id ys ts)
stamp_append id [] ys [] ts long = refl
stamp_append id [] ys (s ∷ ss) ts long = absurd (omega (arith, long))
stamp_append id (p ∷ xs) ys [] ts long = absurd (omega (arith, long))
stamp_append id (p ∷ xs) ys (s ∷ ss) ts long = by_test (same_unit (id_of p) id) (stamp_append id xs ys ss ts (omega (arith, long)))
  where
    by_test : (t : Bool) → stamp_of id (xs ++ ys) (ss ++ ts) ≡ option_or (stamp_of id xs ss) (stamp_of id ys ts)
        → cond t (Some s) (stamp_of id (xs ++ ys) (ss ++ ts)) ≡ option_or (cond t (Some s) (stamp_of id xs ss)) (stamp_of id ys ts)
    by_test true rest = refl
    by_test false rest = rest

-- nothing is kept of an id that no unit has
stamp_missing : (id : UnitId) (units : List Placed) (stamps : List ℕ) → HasNoUnit id units → stamp_of id units stamps ≡ None
stamp_missing id [] stamps none = refl
stamp_missing id (p ∷ units) [] none = refl
stamp_missing id (p ∷ units) (s ∷ stamps) none =
    let P : Placed → Type 0 = λ q. id_of q ≢ id in
    rw (unit_differs (id_of p) id (All-head P p units none)) (stamp_missing id units stamps (All-tail P p units none))

stamp_pinned : (id other : UnitId) (rank : Rank) (units : List Placed) (stamps : List ℕ)
    → stamp_of other (map (pinned_by id rank) units) stamps ≡ stamp_of other units stamps
stamp_pinned id other rank [] stamps = refl
stamp_pinned id other rank (q ∷ units) [] = refl
stamp_pinned id other rank (q ∷ units) (s ∷ stamps) =
    ap (λ (i : UnitId). cond (same_unit i other) (Some s) (stamp_of other (map (pinned_by id rank) units) stamps))
    (ap (λ u. u.id) (unit_pinned id rank q))
    ∙ ap (λ o. cond (same_unit (id_of q) other) (Some s) o) (stamp_pinned id other rank units stamps)

or_none : (o : Option ℕ) → option_or o None ≡ o
or_none None = refl
or_none (Some s) = refl

-- a unit is pinned
pub named_pinned : (id : UnitId) (rank : Rank) (units : List Placed) (stamps : List ℕ) (names : Names) → IsNamed units stamps names
    → IsNamed (map (pinned_by id rank) units) stamps names
named_pinned id rank units stamps names named = record { each = λ q. named.each q ∙ sym (stamp_pinned id q rank units stamps) }

-- a unit comes last
pub named_come : (units : List Placed) (p : Placed) (stamps : List ℕ) (n : ℕ) (names new : Names) → IsNamed units stamps names
    → length stamps ≡ length units → HasNoUnit (id_of p) units
    → ((q : UnitId) → stamp_at new q ≡ cond (same_unit (id_of p) q) (Some n) (stamp_at names q))
    → IsNamed (units ++ p ∷ []) (stamps ++ n ∷ []) new
named_come units p stamps n names new named long fresh more =
    record { each = λ q. more q ∙ by_test q (same_unit (id_of p) q) refl ∙ sym (stamp_append q units (p ∷ []) stamps (n ∷ []) long) }
  where
    by_test : (q : UnitId) (t : Bool) → same_unit (id_of p) q ≡ t
        → cond t (Some n) (stamp_at names q) ≡ option_or (stamp_of q units stamps) (cond t (Some n) None)
    by_test q true is =
        let missing : stamp_of q units stamps ≡ None = rw (same_unit_is (id_of p) q is) at (stamp_missing (id_of p) units stamps fresh) in
        rw missing refl
    by_test q false is = named.each q ∙ sym (or_none (stamp_of q units stamps))

-- a unit is taken
pub named_taken : (front back : List Placed) (p : Placed) (sf sb : List ℕ) (s : ℕ) (names new : Names)
    → IsNamed (front ++ p ∷ back) (sf ++ s ∷ sb) names → length sf ≡ length front → HasDistinctIds (front ++ p ∷ back)
    → ((q : UnitId) → stamp_at new q ≡ cond (same_unit (id_of p) q) None (stamp_at names q)) → IsNamed (front ++ back) (sf ++ sb) new
named_taken front back p sf sb s names new named long distinct less = record {
  each = λ q. less q ∙ by_test q (same_unit (id_of p) q) refl (named.each q ∙ stamp_append q front (p ∷ back) sf (s ∷ sb) long)
      ∙ sym (stamp_append q front back sf sb long);
}
  where
    by_test : (q : UnitId) (t : Bool) → same_unit (id_of p) q ≡ t
        → stamp_at names q ≡ option_or (stamp_of q front sf) (cond t (Some s) (stamp_of q back sb))
        → cond t None (stamp_at names q) ≡ option_or (stamp_of q front sf) (stamp_of q back sb)
    by_test q true is whole =
        let same : id_of p ≡ q = same_unit_is (id_of p) q is in
        let before : stamp_of q front sf ≡ None = stamp_missing q front sf (others_before front back p q distinct same) in
        let after : stamp_of q back sb ≡ None = stamp_missing q back sb (others_after front back p q distinct same) in
        rw (before, after) refl
    by_test q false is whole = whole

-- the first unit that has an id, if no two have the same
pub place_is : (units : List Placed) (id : UnitId) (place : ℕ) (p : Placed) → HasDistinctIds units → slice_get units place ≡ Some p
    → id_of p ≡ id → position_or_len (is_unit id) units ≡ place
place_is units id place p distinct at is =
    let first = position_or_len (is_unit id) units in
    let within = slice_get_within units place p at in
    let read : get_or units place p ≡ p = get_or_from_slice_get units place p p at in
    elim (cases_order first place) [
      | inl here ↦ here
      | inr (inl below) ↦
          let passes =
          same_unit_is (id_of (get_or units first p)) id (passes_at_first (is_unit id) units p (omega (arith, below, within))) in
          absurd (distinct first place p below within (passes ∙ sym is ∙ sym (ap id_of read)))
      | inr (inr above) ↦
          absurd (both_ways (is_unit id (get_or units place p)) (fails_before_first (is_unit id) units place p above)
          (same_unit_from (id_of (get_or units place p)) id (ap id_of read ∙ is)))
    ]

-- the place of a unit that is there is within the list
pub place_within : (units : List Placed) (id : UnitId) → HasUnit id units → position_or_len (is_unit id) units < length units
place_within units id has = by_cases (cases_order (position_or_len (is_unit id) units) has.0)
  where
    within : has.0 < length units
    within = has.2

    by_cases : (position_or_len (is_unit id) units ≡ has.0)
        ⊎ ((position_or_len (is_unit id) units < has.0) ⊎ (has.0 < position_or_len (is_unit id) units))
        → position_or_len (is_unit id) units < length units
    by_cases (inl here) = omega (arith, here, within)
    by_cases (inr (inl below)) = omega (arith, below, within)
    by_cases (inr (inr above)) =
        absurd (both_ways (is_unit id (get_or units has.0 has.1)) (fails_before_first (is_unit id) units has.0 has.1 above)
        (same_unit_from (id_of (get_or units has.0 has.1)) id (ap id_of has.3 ∙ has.4)))

-- the unit of which a stamp is kept
record IsStampAt (id : UnitId) (units : List Placed) (stamps : List ℕ) (stamp : ℕ) : Type 0 where
  place : ℕ
  unit : Placed
  here : slice_get units place ≡ Some unit
  has_id : id_of unit ≡ id
  within : place < length stamps
  is : get_or stamps place 0 ≡ stamp

later_stamp : (id : UnitId) (p : Placed) (units : List Placed) (s : ℕ) (stamps : List ℕ) (stamp : ℕ) → IsStampAt id units stamps stamp
    → IsStampAt id (p ∷ units) (s ∷ stamps) stamp
later_stamp id p units s stamps stamp at =
    record { place = suc at.place; unit = at.unit; here = at.here; has_id = at.has_id; within = omega (arith, at.within); is = at.is }

stamp_is_at : (id : UnitId) (units : List Placed) (stamps : List ℕ) (stamp : ℕ) → stamp_of id units stamps ≡ Some stamp
    → IsStampAt id units stamps stamp
stamp_is_at id [] stamps stamp some = absurd (none-some stamp some)
stamp_is_at id (p ∷ units) [] stamp some = absurd (none-some stamp some)
stamp_is_at id (p ∷ units) (s ∷ stamps) stamp some = by_test (same_unit (id_of p) id) refl some (stamp_is_at id units stamps stamp)
  where
    by_test : (t : Bool) → same_unit (id_of p) id ≡ t → cond t (Some s) (stamp_of id units stamps) ≡ Some stamp
        → (stamp_of id units stamps ≡ Some stamp → IsStampAt id units stamps stamp) → IsStampAt id (p ∷ units) (s ∷ stamps) stamp
    by_test true is here rest =
        record {
          place = 0;
          unit = p;
          here = refl;
          has_id = same_unit_is (id_of p) id is;
          within = omega arith;
          is = same_Some s stamp here;
        }
    by_test false is there rest = later_stamp id p units s stamps stamp (rest there)

no_stamp : (id : UnitId) (units : List Placed) (stamps : List ℕ) → length stamps ≡ length units → stamp_of id units stamps ≡ None
    → position_or_len (is_unit id) units ≡ length units
no_stamp id [] stamps long none = refl
no_stamp id (p ∷ units) [] long none = absurd (omega (arith, long))
no_stamp id (p ∷ units) (s ∷ stamps) long none = by_test (same_unit (id_of p) id) refl none (no_stamp id units stamps (omega (arith, long)))
  where
    by_test : (t : Bool) → same_unit (id_of p) id ≡ t → cond t (Some s) (stamp_of id units stamps) ≡ None
        → (stamp_of id units stamps ≡ None → position_or_len (is_unit id) units ≡ length units)
        → position_or_len (is_unit id) (p ∷ units) ≡ length (p ∷ units)
    by_test true is here rest = absurd (none-some s (sym here))
    by_test false is there rest = let later : position_or_len (is_unit id) units ≡ length units = rest there in rw is (omega (arith, later))

module _ (units : List Placed) (stamps : List ℕ) (names : Names) (id : UnitId) (distinct : HasDistinctIds units)
    (named : IsNamed units stamps names) (long : length stamps ≡ length units) where
  -- the stamp that is kept of the id leads to the unit
  pub stamp_leads : (stamp r : ℕ) → stamp_at names id ≡ Some stamp → ((k d : ℕ) → k < length stamps → get_or stamps k d ≡ stamp → r ≡ k)
      → r ≡ position_or_len (is_unit id) units
  stamp_leads stamp r kept place =
      let at = stamp_is_at id units stamps stamp (sym (named.each id) ∙ kept) in
      place at.place 0 at.within at.is ∙ sym (place_is units id at.place at.unit distinct at.here at.has_id)

  -- if nothing is kept of it, no unit has it
  pub nothing_kept : stamp_at names id ≡ None → length stamps ≡ position_or_len (is_unit id) units
  nothing_kept none = long ∙ sym (no_stamp id units stamps long (sym (named.each id) ∙ none))
