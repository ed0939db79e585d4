-- Lists whose elements have ids, no two the same: the one of an id, and what stays without it.
use Rattle.std.proofs.Common.{◌≡◌, ◌≢◌, ◌<◌, ℕ, suc, ◌+◌, Bool, not, List, [], ◌∷◌, ◌++◌, length, get_or, take, drop, Some, None, refl, sym}
use Rattle.std.proofs.Common.{ap, ◌∙◌, All, Any, Contains, arith, add-one, inl, inr, find, subst}
use Rattle.std.specs.List.{AllPairs, filter, remove}
use Rattle.std.proofs.lemmas.Bool.{both_ways, cases_order}
use Rattle.std.proofs.lemmas.List.{drop_more, get_or_append_left, get_or_at, get_or-append-add, get_or_default, length-append}
use Rattle.std.proofs.lemmas.List.{take-append-drop}
use Rattle.std.proofs.lemmas.List.Elements.{All-head, All-tail, filter-append}
use Rattle.adlb_unit.specs.declared.names.UnitId.{UnitId}
use Rattle.adlb_unit.specs.Ids.{same_unit}
use Rattle.adlb_unit.proofs.Same.{same_unit_from, same_unit_is, unit_differs}
use Rattle.work_queue.proofs.Searched.{find_first, find_none}

module _ {X : Type 0} (name : X → UnitId) where
  -- an element has the id
  abbrev pub is_of : UnitId → X → Bool
  is_of id x = same_unit (name x) id

  -- an element has another id
  abbrev pub is_not_of : UnitId → X → Bool
  is_not_of id x = not (same_unit (name x) id)

  -- without an element of the id, a filter by it keeps all
  pub filter_others : (id : UnitId) (xs : List X) → All (λ x. name x ≢ id) xs → filter (is_not_of id) xs ≡ xs
  filter_others id [] others = refl
  filter_others id (x ∷ xs) others =
      let P : X → Type 0 = λ y. name y ≢ id in
      rw (unit_differs (name x) id (All-head P x xs others), filter_others id xs (All-tail P x xs others)) refl

  -- the elements on both sides of one have other ids
  pub others_before : (front back : List X) (x : X) (id : UnitId) → AllPairs (λ a b. name a ≢ name b) (front ++ x ∷ back) → name x ≡ id
      → All (λ y. name y ≢ id) front
  others_before front back x id distinct is k d within same =
      let here : get_or (front ++ x ∷ back) k d ≡ get_or front k d = get_or_append_left front (x ∷ back) d k within in
      let there : get_or (front ++ x ∷ back) (length front) d ≡ x = get_or_at front x back d (length front) refl in
      let long : length (front ++ x ∷ back) ≡ length front + suc (length back) = length-append front (x ∷ back) in
      distinct k (length front) d within (omega arith) (ap name here ∙ same ∙ sym is ∙ sym (ap name there))

  -- the elements after one have other ids
  pub others_after : (front back : List X) (x : X) (id : UnitId) → AllPairs (λ a b. name a ≢ name b) (front ++ x ∷ back) → name x ≡ id
      → All (λ y. name y ≢ id) back
  others_after front back x id distinct is k d within same =
      let here : get_or (front ++ x ∷ back) (length front + suc k) d ≡ get_or back k d = get_or-append-add front (x ∷ back) (suc k) d in
      let there : get_or (front ++ x ∷ back) (length front) d ≡ x = get_or_at front x back d (length front) refl in
      let long : length (front ++ x ∷ back) ≡ length front + suc (length back) = length-append front (x ∷ back) in
      distinct (length front) (length front + suc k) d (omega arith) (omega arith) (ap name there ∙ is ∙ sym same ∙ sym (ap name here))

  -- a filter by an id takes its element alone
  pub filter_at : (front back : List X) (x : X) (id : UnitId) → AllPairs (λ a b. name a ≢ name b) (front ++ x ∷ back) → name x ≡ id
      → filter (is_not_of id) (front ++ x ∷ back) ≡ front ++ back
  filter_at front back x id distinct is =
      filter-append (is_not_of id) front (x ∷ back)
      ∙ rw (
        filter_others id front (others_before front back x id distinct is),
        same_unit_from (name x) id is,
        filter_others id back (others_after front back x id distinct is),
      ) refl

  -- removing by place is filtering by id
  pub remove_is : (xs : List X) (i : ℕ) (x : X) (id : UnitId) → AllPairs (λ a b. name a ≢ name b) xs → i < length xs → x ≡ get_or xs i x
      → name x ≡ id → remove xs i ≡ filter (is_not_of id) xs
  remove_is xs i x id distinct within read is =
      let front = take i xs in
      let back = drop (suc i) xs in
      let listed : xs ≡ front ++ x ∷ back = sym (take-append-drop i xs) ∙ ap (λ l. front ++ l) (drop_more xs i x within)
      ∙ ap (λ y. front ++ y ∷ drop (i + 1) xs) (sym read) ∙ ap (λ n. front ++ x ∷ drop n xs) (add-one i) in
      let parted : AllPairs (λ a b. name a ≢ name b) (front ++ x ∷ back) = rw listed at distinct in
      sym (filter_at front back x id parted is) ∙ sym (ap (λ l. filter (is_not_of id) l) listed)

  -- an element of the list is the only one of its id
  pub only_one : (xs : List X) (k : ℕ) (d x : X) → AllPairs (λ a b. name a ≢ name b) xs → Contains xs x → k < length xs
      → name (get_or xs k d) ≡ name x → get_or xs k d ≡ x
  only_one xs k d x distinct there within same =
      let j = there.0 in
      let at : get_or xs j d ≡ x = get_or_default xs j d x there.1 ∙ there.2 in
      elim (cases_order k j) [
        | inl here ↦ ap (λ i. get_or xs i d) here ∙ at
        | inr (inl below) ↦ absurd (distinct k j d below there.1 (same ∙ sym (ap name at)))
        | inr (inr above) ↦ absurd (distinct j k d above within (ap name at ∙ sym same))
      ]

  -- what is found by an id is listed and has it
  pub find_listed : (xs : List X) (x : X) (id : UnitId) → find (is_of id) xs ≡ Some x → Contains xs x × (name x ≡ id)
  find_listed xs x id found =
      let first = find_first (is_of id) xs x found in
      ((first.place, first.within, first.read), same_unit_is (name x) id first.passes)

  -- where nothing is found, no element has the id
  pub find_nothing : (xs : List X) (id : UnitId) → find (is_of id) xs ≡ None → All (λ x. name x ≢ id) xs
  find_nothing xs id none k d within same =
      both_ways (is_of id (get_or xs k d)) (find_none (is_of id) xs none k d within) (same_unit_from (name (get_or xs k d)) id same)

  -- so what holds of the one of an id holds of some element of that id, and the other way
  module _ (P : X → Type 0) (xs : List X) (id : UnitId) (distinct : AllPairs (λ a b. name a ≢ name b) xs) where
    -- a property of the element that was found is one of the id
    pub any_found : (x : X) → find (is_of id) xs ≡ Some x → P x → Any (λ y. (name y ≡ id) × P y) xs
    any_found x found holds =
        let at = find_listed xs x id found in
        (at.0.0, x, at.0.1, at.0.2, (at.1, holds))

    -- a property of the id is one of the element that was found
    pub found_any : (x : X) → find (is_of id) xs ≡ Some x → Any (λ y. (name y ≡ id) × P y) xs → P x
    found_any x found some =
        let at = find_listed xs x id found in
        let is : some.1 ≡ x = sym some.3 ∙ only_one xs some.0 some.1 x distinct at.0 some.2 (ap name some.3 ∙ some.4.0 ∙ sym at.1) in
        let Q : X → Type 0 = λ y. P y in
        subst Q is some.4.1

    -- if nothing is found, no element of the id has any property
    pub nothing_any : find (is_of id) xs ≡ None → Any (λ y. (name y ≡ id) × P y) xs → ⊥
    nothing_any none some = find_nothing xs id none some.0 some.1 some.2 (ap name some.3 ∙ some.4.0)
