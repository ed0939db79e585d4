-- The entry that leads the index is that of the unit that comes first in the queue.
use Rattle.std.proofs.Common.{◌≡◌, ◌≢◌, ◌<◌, ◌≤◌, ◌<ℤ◌, ◌⊎◌, ◌||◌, ◌&&◌, ℕ, ℤ, Bool, true, false, not, int_lt, nat_lt, List, get_or, length}
use Rattle.std.proofs.Common.{Option, Some, None, Contains, Any, refl, sym, ap, ◌∙◌, arith, inl, inr, subst}
use Rattle.std.specs.List.{slice_get}
use Rattle.std.proofs.lemmas.Bool.{both_ways, cases_lt, lt-ltb}
use Rattle.std.proofs.lemmas.Bool.Decides.{nat_tests}
use Rattle.std.proofs.lemmas.Int.{ints}
use Rattle.std.proofs.lemmas.List.{get_or_default}
use Rattle.std.proofs.lemmas.List.Sorted.{Contains-permutation, IsPermutation-sym}
use Rattle.std.proofs.lemmas.Option.{slice_get-get_or, slice_get_within}
use Rattle.adlb_unit.specs.declared.names.Rank.{Rank}
use Rattle.adlb_unit.specs.declared.names.WorkType.{WorkType}
use Rattle.adlb_unit.specs.Permit.{class_for}
use Rattle.work_queue.proofs.Indexed.{IsEntryAt, entry_is_at, entry_is_there}
use Rattle.work_queue.proofs.Offers.{is_permitted, permitted_is}
use Rattle.work_queue.proofs.Orders.{lower_isnt}
use Rattle.work_queue.proofs.Pushes.{any_is}
use Rattle.work_queue.specs.Best.{IsBest, IsOffered, Precedes}
use Rattle.work_queue.specs.inside.Index.{IsIndexed, IsLeading, by_turn, came_first, entries_of, entry_of, may_have, may_move, may_serve}
use Rattle.work_queue.specs.inside.Index.{moves_first, suits_better}
use Rattle.work_queue.specs.Fits.{asked_for, first_fit}
use Rattle.work_queue.proofs.Searched.{is_found, none_found}
use Rattle.std.specs.Option.{option_map}
use Rattle.work_queue.specs.Push.{GoesBefore, IsFirstToPush, IsMovable, told}
use Rattle.work_queue.specs.Queue.{id_of}
use Rattle.work_queue.specs.declared.entries.Entry.{Entry}
use Rattle.work_queue.specs.declared.indexing.Index.{Index}
use Rattle.work_queue.specs.declared.placing.Placed.{Placed}

turn_isnt : (x y : ℤ) (k l : ℕ) → (int_lt y x || (not (int_lt x y) && nat_lt k l)) ≡ false → (x <ℤ y) ⊎ ((y ≡ x) × (l ≤ k))
turn_isnt x y k l test = grind (arith, ints, nat_tests)

-- the leading entry, as it is found
pub leads_in : (may : Entry → Bool) (outranks : Entry → Entry → Bool) (entries : List Entry) (found : Option Entry) (e : Entry)
    → found ≡ Some e → IsLeading may outranks entries (length entries) found → IsLeading may outranks entries (length entries) (Some e)
leads_in may outranks entries found e is leads = rw is at leads

module _ (units : List Placed) (n : ℕ) (index : Index) (indexed : IsIndexed units n index) where
  abbrev stamp_at : ℕ → ℕ
  stamp_at k = get_or index.stamps.items k 0

  -- the unit of an entry
  pub unit_of_entry : (e : Entry) → Contains index.entries.items e → IsEntryAt units index.stamps.items e
  unit_of_entry e there = entry_is_at units index.stamps.items e
      (Contains-permutation index.entries.items (entries_of units index.stamps.items) e (IsPermutation-sym _ _ indexed.held) there)

  -- the entry of a free unit
  pub entry_of_unit : (k : ℕ) (p : Placed) → slice_get units k ≡ Some p → p.pin ≡ None
      → Contains index.entries.items (entry_of p (stamp_at k))
  entry_of_unit k p at free =
      let within = slice_get_within units k p at in
      Contains-permutation (entries_of units index.stamps.items) index.entries.items (entry_of p (stamp_at k)) indexed.held
      (entry_is_there units index.stamps.items k p at free (omega (arith, within, indexed.long)))

  -- of two places the one whose stamp is not higher comes first
  earlier : (i j : ℕ) → j < length units → stamp_at j ≤ stamp_at i → i ≢ j → j < i
  earlier i j within low differs = elim (cases_lt j i) [
    | inl before ↦ before
    | inr after ↦ absurd (let up = indexed.rising i j 0 (omega (arith, differs, after)) (omega (arith, within, indexed.long)) in
        omega (arith, up, low))
  ]

  -- its stamp is known, and leads to it
  pub stamp_known : (e : Entry) → Contains index.entries.items e → Contains index.stamps.items e.stamp
  stamp_known e there =
      let at = unit_of_entry e there in
      let same = ap (λ (x : Entry). x.stamp) at.is in
      let here : Contains index.stamps.items (stamp_at at.place) =
      (at.place, at.within, get_or_default index.stamps.items at.place (stamp_at at.place) 0 at.within) in
      rw same here

  module _ (may : Entry → Bool) (outranks : Entry → Entry → Bool) where
    leads_over : (b x : Entry) → IsLeading may outranks index.entries.items (length index.entries.items) (Some b)
        → Contains index.entries.items x → may x ≡ true → outranks x b ≡ false
    leads_over b x leads there =
        let P : Entry → Type 0 = λ y. may y ≡ true → outranks y b ≡ false in
        subst P there.2 (leads.2 there.0 x there.1)

    none_passes : (x : Entry) → IsLeading may outranks index.entries.items (length index.entries.items) None
        → Contains index.entries.items x → may x ≡ false
    none_passes x leads there =
        let P : Entry → Type 0 = λ y. may y ≡ false in
        subst P there.2 (leads there.0 x there.1)

  module _ (rank : Rank) (types : Option (List WorkType)) where
    comes_first : (p q : Placed) (place other : ℕ) → other ≢ place → place < length units
        → suits_better rank (entry_of q (stamp_at other)) (entry_of p (stamp_at place)) ≡ false → Precedes rank place p other q
    comes_first p q place other differs within test =
        by_class (lower_isnt (class_for rank q.unit.target) (class_for rank p.unit.target)
        (by_turn (entry_of q (stamp_at other)) (entry_of p (stamp_at place))) test)
      where
        by_prio : class_for rank p.unit.target ≡ class_for rank q.unit.target
            → (q.unit.prio <ℤ p.unit.prio) ⊎ ((p.unit.prio ≡ q.unit.prio) × (stamp_at place ≤ stamp_at other))
            → Precedes rank place p other q
        by_prio even (inl higher) = inr (even, inl higher)
        by_prio even (inr tie) = inr (even, inr (tie.0, earlier other place within tie.1 differs))

        by_class : (class_for rank p.unit.target < class_for rank q.unit.target)
            ⊎ ((class_for rank q.unit.target ≡ class_for rank p.unit.target)
            × (by_turn (entry_of q (stamp_at other)) (entry_of p (stamp_at place)) ≡ false)) → Precedes rank place p other q
        by_class (inl nearer) = inl nearer
        by_class (inr even) = by_prio (sym even.0) (turn_isnt q.unit.prio p.unit.prio (stamp_at other) (stamp_at place) even.1)

    -- the entry that leads for the rank is that of the best unit
    pub best_leads : (b : Entry) → IsLeading (may_have rank types) (suits_better rank) index.entries.items (length index.entries.items)
        (Some b) → (at : IsEntryAt units index.stamps.items b) → IsBest rank types units (id_of at.unit)
    best_leads b leads at =
        let p = at.unit in
        let passes : may_have rank types (entry_of p (stamp_at at.place)) ≡ true = rw at.is at leads.1 in
        record {
          place = at.place;
          unit = p;
          here = at.here;
          has_id = refl;
          is_offered = (at.free, permitted_is rank types p.unit.kind p.unit.target passes);
          is_first = λ other q there differs offered.
              let x = entry_of q (stamp_at other) in
              let over = leads_over (may_have rank types) (suits_better rank) b x leads (entry_of_unit other q there offered.0)
              (is_permitted rank types q.unit.kind q.unit.target offered.1) in
              comes_first p q at.place other differs (slice_get_within units at.place p at.here) (rw at.is at over);
        }

    -- if no entry leads for a rank, no unit is offered to it
    pub none_leads : IsLeading (may_have rank types) (suits_better rank) index.entries.items (length index.entries.items) None
        → Any (IsOffered rank types) units → ⊥
    none_leads leads some =
        let q = some.1 in
        let there = slice_get-get_or units some.0 q some.2 ∙ ap (λ p. Some p) some.3 in
        let x = entry_of q (stamp_at some.0) in
        both_ways (may_have rank types x)
        (none_passes (may_have rank types) (suits_better rank) x leads (entry_of_unit some.0 q there some.4.0))
        (is_permitted rank types q.unit.kind q.unit.target some.4.1)

  moves_before : (p q : Placed) (place other : ℕ) → other ≢ place → other < length units
      → moves_first (entry_of q (stamp_at other)) (entry_of p (stamp_at place)) ≡ false → GoesBefore place p other q
  moves_before p q place other differs within test = by_prio (turn_isnt p.unit.prio q.unit.prio (stamp_at place) (stamp_at other) test)
    where
      by_prio : (p.unit.prio <ℤ q.unit.prio) ⊎ ((q.unit.prio ≡ p.unit.prio) × (stamp_at other ≤ stamp_at place))
          → GoesBefore place p other q
      by_prio (inl lower) = inl lower
      by_prio (inr tie) = inr (sym tie.0, earlier place other within tie.1 (λ same. differs (sym same)))

  -- the entry that leads when units are pushed is that of the unit that is pushed first
  pub push_leads : (b : Entry) → IsLeading may_move moves_first index.entries.items (length index.entries.items) (Some b)
      → (at : IsEntryAt units index.stamps.items b) → IsFirstToPush units (told at.unit)
  push_leads b leads at =
      let p = at.unit in
      let passes : may_move (entry_of p (stamp_at at.place)) ≡ true = rw at.is at leads.1 in
      record {
        place = at.place;
        unit = p;
        here = at.here;
        has = refl;
        is_movable = (at.free, any_is p.unit.target passes);
        is_first = λ other q there differs movable.
            let x = entry_of q (stamp_at other) in
            let moves : may_move x ≡ true = rw movable.1 refl in
            let over = leads_over may_move moves_first b x leads (entry_of_unit other q there movable.0) moves in
            moves_before p q at.place other differs (slice_get_within units other q there) (rw at.is at over);
      }

  -- if no entry leads the move, no unit can be moved
  pub none_moves : IsLeading may_move moves_first index.entries.items (length index.entries.items) None → Any IsMovable units → ⊥
  none_moves leads some =
      let q = some.1 in
      let there = slice_get-get_or units some.0 q some.2 ∙ ap (λ p. Some p) some.3 in
      let x = entry_of q (stamp_at some.0) in
      let moves : may_move x ≡ true = rw some.4.1 refl in
      both_ways (may_move x) (none_passes may_move moves_first x leads (entry_of_unit some.0 q there some.4.0)) moves

  -- the entry that came first of those that are permitted to a request is that of the first unit that fits
  module _ (asked : List (Rank × Option (List WorkType))) where
    unfit : (q : Placed) (stamp : ℕ) → (q.pin ≡ None → may_serve asked (entry_of q stamp) ≡ false) → asked_for asked q ≡ false
    unfit q stamp fails = by_pin q.pin refl
      where
        by_pin : (o : Option Rank) → q.pin ≡ o → asked_for asked q ≡ false
        by_pin None free = rw (free, fails free) refl
        by_pin (Some rank) pinned = rw pinned refl

    -- the entry that leads for those that ask is that of the first fit
    pub fit_leads : (b : Entry) → IsLeading (may_serve asked) came_first index.entries.items (length index.entries.items) (Some b)
        → (at : IsEntryAt units index.stamps.items b) → Some (id_of at.unit) ≡ first_fit asked units
    fit_leads b leads at =
        let p = at.unit in
        let passes : may_serve asked (entry_of p (stamp_at at.place)) ≡ true = rw at.is at leads.1 in
        let fits : asked_for asked p ≡ true = rw (at.free, passes) refl in
        sym (ap (option_map id_of) (is_found (asked_for asked) units at.place p at.here fits (λ k q before there.
        unfit q (stamp_at k) (λ free. by_test k q before (entry_of_unit k q there free) (may_serve asked (entry_of q (stamp_at k))) refl))))
      where
        by_test : (k : ℕ) (q : Placed) → k < at.place → Contains index.entries.items (entry_of q (stamp_at k)) → (t : Bool)
            → may_serve asked (entry_of q (stamp_at k)) ≡ t → may_serve asked (entry_of q (stamp_at k)) ≡ false
        by_test k q before there false is = is
        by_test k q before there true is =
            let over = leads_over (may_serve asked) came_first b (entry_of q (stamp_at k)) leads there is in
            let same = ap (λ (x : Entry). x.stamp) at.is in
            let up = indexed.rising k at.place 0 before at.within in
            let low : nat_lt (stamp_at k) b.stamp ≡ true = lt-ltb (stamp_at k) b.stamp (omega (arith, up, same)) in
            absurd (both_ways (nat_lt (stamp_at k) b.stamp) over low)

    -- if no entry leads for those that ask, no unit fits
    pub none_fits : IsLeading (may_serve asked) came_first index.entries.items (length index.entries.items) None
        → None ≡ first_fit asked units
    none_fits leads =
        sym (ap (option_map id_of) (none_found (asked_for asked) units (λ k q there.
        unfit q (stamp_at k)
        (λ free. none_passes (may_serve asked) came_first (entry_of q (stamp_at k)) leads (entry_of_unit k q there free)))))
