-- The index when a unit comes, is pinned or goes.
use Rattle.std.proofs.Common.{◌≡◌, ◌≢◌, ◌<◌, ◌+◌, ℕ, zero, suc, Bool, true, false, cond, List, [], ◌∷◌, ◌++◌, get_or, length, is_none}
use Rattle.std.proofs.Common.{Option, Some, None, refl, sym, ap, ◌∙◌, All, Contains, arith, inl, inr}
use Rattle.std.specs.List.{AllPairs, slice_get}
use Rattle.std.specs.List.Sorted.{IsPermutation}
use Rattle.std.proofs.lemmas.List.{length-append}
use Rattle.std.proofs.lemmas.List.Elements.{All-push, All-weaker, Contains-get_or}
use Rattle.std.proofs.lemmas.List.Quantifiers.{all_pairs_push}
use Rattle.std.proofs.lemmas.List.Sorted.{All-permutation, Contains-permutation, IsPermutation-cons, IsPermutation-middle}
use Rattle.std.proofs.lemmas.List.Sorted.{IsPermutation-sym, IsPermutation-to_front, IsPermutation-trans}
use Rattle.std.proofs.lemmas.Option.{none-some, same_Some}
use Rattle.slab.proofs.SlabLemmas.{Contains-cons, Contains-cons_cases}
use Rattle.adlb_unit.specs.declared.names.Rank.{Rank}
use Rattle.work_queue.proofs.Orders.{before_self}
use Rattle.work_queue.proofs.Sorted.{both_sides}
use Rattle.work_queue.specs.inside.Index.{IsInOrder, IsIndexed, entries_of, entry_of, goes_before}
use Rattle.work_queue.specs.declared.entries.Entry.{Entry}
use Rattle.work_queue.specs.declared.indexing.Index.{Index}
use Rattle.work_queue.specs.declared.placing.Placed.{Placed}

-- the entries of two lists are those of each, one after the other
pub entries_append : (xs ys : List Placed) (ss ts : List ℕ) → length ss ≡ length xs
    → entries_of (xs ++ ys) (ss ++ ts) ≡ entries_of xs ss ++ entries_of ys ts
entries_append [] ys [] ts long = refl
entries_append [] ys (s ∷ ss) ts long = absurd (omega (arith, long))
entries_append (p ∷ xs) ys [] ts long = absurd (omega (arith, long))
entries_append (p ∷ xs) ys (s ∷ ss) ts long = by_test (is_none p.pin) (entries_append xs ys ss ts (omega (arith, long)))
  where
    by_test : (t : Bool) → entries_of (xs ++ ys) (ss ++ ts) ≡ entries_of xs ss ++ entries_of ys ts
        → cond t (entry_of p s ∷ entries_of (xs ++ ys) (ss ++ ts)) (entries_of (xs ++ ys) (ss ++ ts))
        ≡ cond t (entry_of p s ∷ entries_of xs ss) (entries_of xs ss) ++ entries_of ys ts
    by_test true rest = ap (λ l. entry_of p s ∷ l) rest
    by_test false rest = rest

-- the entry of a free unit at some place
pub record IsEntryAt (units : List Placed) (stamps : List ℕ) (e : Entry) : Type 0 where
  pub place : ℕ
  pub unit : Placed
  pub here : slice_get units place ≡ Some unit
  pub free : unit.pin ≡ None
  pub within : place < length stamps
  pub is : e ≡ entry_of unit (get_or stamps place 0)

later_entry : (p : Placed) (units : List Placed) (s : ℕ) (stamps : List ℕ) (e : Entry) → IsEntryAt units stamps e
    → IsEntryAt (p ∷ units) (s ∷ stamps) e
later_entry p units s stamps e at =
    record { place = suc at.place; unit = at.unit; here = at.here; free = at.free; within = omega (arith, at.within); is = at.is }

-- each entry of the index is that of some free unit
pub entry_is_at : (units : List Placed) (stamps : List ℕ) (e : Entry) → Contains (entries_of units stamps) e → IsEntryAt units stamps e
entry_is_at [] stamps e there = absurd (omega (arith, there.1))
entry_is_at (p ∷ units) [] e there = absurd (omega (arith, there.1))
entry_is_at (p ∷ units) (s ∷ stamps) e there = by_pin p.pin refl there (entry_is_at units stamps e)
  where
    by_pin : (o : Option Rank) → p.pin ≡ o → Contains (cond (is_none o) (entry_of p s ∷ entries_of units stamps) (entries_of units stamps))
        e → (Contains (entries_of units stamps) e → IsEntryAt units stamps e) → IsEntryAt (p ∷ units) (s ∷ stamps) e
    by_pin None free there rest = elim (Contains-cons_cases (entry_of p s) e (entries_of units stamps) there) [
      | inl same ↦ record { place = 0; unit = p; here = refl; free = free; within = omega arith; is = sym same }
      | inr later ↦ later_entry p units s stamps e (rest later)
    ]
    by_pin (Some rank) pinned there rest = later_entry p units s stamps e (rest there)

-- each free unit has its entry in the index
pub entry_is_there : (units : List Placed) (stamps : List ℕ) (k : ℕ) (p : Placed) → slice_get units k ≡ Some p → p.pin ≡ None
    → k < length stamps → Contains (entries_of units stamps) (entry_of p (get_or stamps k 0))
entry_is_there [] stamps k p at free within = absurd (none-some p at)
entry_is_there (q ∷ units) [] k p at free within = absurd (omega arith)
entry_is_there (q ∷ units) (s ∷ stamps) zero p at free within =
    let same : q ≡ p = same_Some q p at in
    rw (same, free) (0, omega arith, refl)
entry_is_there (q ∷ units) (s ∷ stamps) (suc k) p at free within =
    by_test (is_none q.pin) (entry_is_there units stamps k p at free (omega arith))
  where
    by_test : (t : Bool) → Contains (entries_of units stamps) (entry_of p (get_or stamps k 0))
        → Contains (cond t (entry_of q s ∷ entries_of units stamps) (entries_of units stamps)) (entry_of p (get_or stamps k 0))
    by_test true there = Contains-cons (entry_of q s) (entry_of p (get_or stamps k 0)) (entries_of units stamps) there
    by_test false there = there

module _ (units : List Placed) (n : ℕ) (old : Index) (indexed : IsIndexed units n old) where
  -- each entry's unit came before
  pub stamps_below : All (λ x. x.stamp < n) old.entries.items
  stamps_below =
      let B : Entry → Type 0 = λ x. x.stamp < n in
      All-permutation B (entries_of units old.stamps.items) old.entries.items indexed.held
      (λ k d within.
      let at = entry_is_at units old.stamps.items (get_or (entries_of units old.stamps.items) k d)
      (Contains-get_or (entries_of units old.stamps.items) k d within) in
      let low = indexed.below at.place 0 at.within in
      let same = ap (λ (x : Entry). x.stamp) at.is in
      omega (arith, low, same))

  -- a free unit comes last
  pub indexed_come : (new : Index) (p : Placed) → p.pin ≡ None → IsPermutation (entry_of p n ∷ old.entries.items) new.entries.items
      → IsInOrder new.entries.items → new.stamps.items ≡ old.stamps.items ++ n ∷ [] → IsIndexed (units ++ p ∷ []) (n + 1) new
  indexed_come new p free more order stamps =
      let E = entries_of units old.stamps.items in
      let one : entries_of (p ∷ []) (n ∷ []) ≡ entry_of p n ∷ [] = rw free refl in
      let whole : entries_of (units ++ p ∷ []) new.stamps.items ≡ E ++ entry_of p n ∷ [] = ap (λ l. entries_of (units ++ p ∷ []) l) stamps
      ∙ entries_append units (p ∷ []) old.stamps.items (n ∷ []) indexed.long ∙ ap (λ l. E ++ l) one in
      let front : IsPermutation (E ++ entry_of p n ∷ []) (entry_of p n ∷ E) = IsPermutation-to_front E (entry_of p n) in
      let kept : IsPermutation (entry_of p n ∷ E) (entry_of p n ∷ old.entries.items) =
      IsPermutation-cons (entry_of p n) E old.entries.items indexed.held in
      let B : ℕ → Type 0 = λ s. s < n in
      let C : ℕ → Type 0 = λ s. s < n + 1 in
      record {
        held = rw whole (IsPermutation-trans _ _ _ (IsPermutation-trans _ _ _ front kept) more);
        in_order = order;
        rising = rw stamps (all_pairs_push (λ a b. a < b) old.stamps.items n indexed.rising (λ k d within. indexed.below k d within));
        below = rw stamps
            (All-push C old.stamps.items n (All-weaker B C (λ s low. omega (arith, low)) old.stamps.items indexed.below) (omega arith));
        long = ap (λ l. length l) stamps ∙ length-append old.stamps.items (n ∷ []) ∙ ap (λ k. k + 1) indexed.long
            ∙ sym (length-append units (p ∷ []));
      }

-- the units, and their stamps, before and after one of them
module _ (front back : List Placed) (p : Placed) (sf sb : List ℕ) (s n : ℕ) (old : Index) (indexed : IsIndexed (front ++ p ∷ back) n old)
    (stamps : old.stamps.items ≡ sf ++ s ∷ sb) (long : length sf ≡ length front) where
  -- the entries of the other units
  abbrev pub others : List Entry
  others = entries_of front sf ++ entries_of back sb

  parted : (now : Placed) → entries_of (front ++ now ∷ back) (sf ++ s ∷ sb) ≡ entries_of front sf ++ entries_of (now ∷ back) (s ∷ sb)
  parted now = entries_append front (now ∷ back) sf (s ∷ sb) long

  -- a free unit has its entry in the old index
  pub entry_there : p.pin ≡ None → Contains old.entries.items (entry_of p s)
  entry_there free =
      let one : entries_of (p ∷ back) (s ∷ sb) ≡ entry_of p s ∷ entries_of back sb = rw free refl in
      let whole : entries_of (front ++ p ∷ back) old.stamps.items ≡ entries_of front sf ++ entry_of p s ∷ entries_of back sb =
      ap (λ l. entries_of (front ++ p ∷ back) l) stamps ∙ parted p ∙ ap (λ l. entries_of front sf ++ l) one in
      let first : IsPermutation (entry_of p s ∷ others) old.entries.items = IsPermutation-trans _ _ _
      (IsPermutation-sym _ _ (IsPermutation-middle (entries_of front sf) (entry_of p s) (entries_of back sb))) (rw whole at indexed.held) in
      Contains-permutation (entry_of p s ∷ others) old.entries.items (entry_of p s) first (0, omega arith, refl)

  -- without the entry of that unit the index has those of the others
  pub others_held : (new : List Entry) → p.pin ≡ None → IsInOrder new → All (λ x. x ≢ entry_of p s) new
      → IsPermutation old.entries.items (entry_of p s ∷ new) → IsPermutation others new
  others_held new free order gone left =
      let one : entries_of (p ∷ back) (s ∷ sb) ≡ entry_of p s ∷ entries_of back sb = rw free refl in
      let whole : entries_of (front ++ p ∷ back) old.stamps.items ≡ entries_of front sf ++ entry_of p s ∷ entries_of back sb =
      ap (λ l. entries_of (front ++ p ∷ back) l) stamps ∙ parted p ∙ ap (λ l. entries_of front sf ++ l) one in
      both_sides goes_before before_self (entries_of front sf) (entries_of back sb) old.entries.items new (entry_of p s)
      (rw whole at indexed.held) order gone left

  -- nothing changes where it was pinned
  pub others_pinned : (rank : Rank) → p.pin ≡ Some rank → IsPermutation others old.entries.items
  others_pinned rank pinned =
      let one : entries_of (p ∷ back) (s ∷ sb) ≡ entries_of back sb = rw pinned refl in
      let whole : entries_of (front ++ p ∷ back) old.stamps.items ≡ others = ap (λ l. entries_of (front ++ p ∷ back) l) stamps ∙ parted p
      ∙ ap (λ l. entries_of front sf ++ l) one in
      rw whole at indexed.held

  -- the unit is pinned
  pub indexed_pinned : (new : Index) (rank : Rank) → IsPermutation others new.entries.items → IsInOrder new.entries.items
      → new.stamps.items ≡ old.stamps.items → IsIndexed (front ++ record p { pin = Some rank } ∷ back) n new
  indexed_pinned new rank held order same = record {
    held = rw (same, stamps, parted) held;
    in_order = order;
    rising = rw same indexed.rising;
    below = rw same indexed.below;
    long = ap (λ l. length l) same ∙ indexed.long ∙ length-append front (p ∷ back)
        ∙ sym (length-append front (record p { pin = Some rank } ∷ back));
  }

  -- the unit is taken
  pub indexed_taken : (new : Index) → IsPermutation others new.entries.items → IsInOrder new.entries.items → new.stamps.items ≡ sf ++ sb
      → AllPairs (λ a b. a < b) (sf ++ sb) → All (λ a. a < n) (sf ++ sb) → IsIndexed (front ++ back) n new
  indexed_taken new held order left rising below =
      let before : length (sf ++ s ∷ sb) ≡ length (front ++ p ∷ back) = sym (ap (λ l. length l) stamps) ∙ indexed.long in
      record {
        held = rw (left, entries_append front back sf sb long) held;
        in_order = order;
        rising = rw left rising;
        below = rw left below;
        long = ap (λ l. length l) left ∙ omega (
          arith,
          long,
          before,
          length-append sf sb,
          length-append front back,
          length-append sf (s ∷ sb),
          length-append front (p ∷ back),
        );
      }
