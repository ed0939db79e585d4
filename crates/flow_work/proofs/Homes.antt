-- What the rank that has the flow has of its desk: when a rule is put, when a value is stored, and when it may reserve.
use Rattle.std.proofs.Common.{◌≡◌, ◌<◌, ◌≤◌, ◌+◌, ◌==◌, ◌||◌, ◌⊎◌, inl, inr, ℕ, zero, suc, Bool, true, false, cond, List, [], ◌∷◌, ◌++◌}
use Rattle.std.proofs.Common.{length}
use Rattle.std.proofs.Common.{◌-◌, count_by, not, get_or, take, Contains, Option, Some, None, refl, sym, ap, ◌∙◌, subst, arith}
use Rattle.std.specs.Prelude.{is_some, slice_get}
use Rattle.std.specs.List.{list_any}
use Rattle.std.proofs.lemmas.Bool.{eq-eqb, eqb-true}
use Rattle.std.proofs.lemmas.List.{take_all}
use Rattle.std.proofs.lemmas.List.Elements.{Contains-append_cases, Contains-append_left, Contains-append_right}
use Rattle.std.proofs.lemmas.Option.{get_or_from_slice_get, slice_get_within}
use Rattle.flow_law.specs.Flows.{Name, gives, joined, name_of}
use Rattle.flow_law.specs.declared.Definition.{Definition}
use Rattle.flow_law.specs.declared.Definition.TheVariants.{Let, Rule}
use Rattle.flow_law.specs.declared.Op.{Op}
use Rattle.flow_law.proofs.Turns.{some_of}
use Rattle.flow_app.specs.Linked.{has, number_of}
use Rattle.flow_app.specs.Stored.{Grows, IsDrained, IsLaidOut, first_stays, made_ready, ready_by, to_take, value_at, value_of, worth_in}
use Rattle.flow_app.specs.declared.stores.ReadyRule.{ReadyRule}
use Rattle.flow_app.specs.declared.stores.Store.{Store}
use Rattle.flow_app.proofs.Numbered.{definition_at, number_here, number_inside, number_named, place_of, there_at}
use Rattle.flow_app.proofs.Storing.{below_at, came_here, came_there, has_append_cases, has_append, has_later, stays_there, was_taken}
use Rattle.flow_run_law.specs.Desk.{IsReady, Knows, MayReserve, add, given, stored_is}
use Rattle.flow_run_law.specs.Units.{IsRule}
use Rattle.flow_units.specs.declared.rules.RuleUnit.{RuleUnit}
use Rattle.flow_work.specs.Working.{Carries, HasPut, HasStored}
use Rattle.flow_work.specs.declared.stock.Home.{Home}

-- Lists.

none_there : {X : Type 0} (x : X) → Contains [] x → ⊥
none_there x there = omega (arith, there.1)

head_there : {X : Type 0} (x : X) (xs : List X) → Contains (x ∷ xs) x
head_there x xs = (0, omega arith, refl)

later_there : {X : Type 0} (y x : X) (xs : List X) → Contains xs x → Contains (y ∷ xs) x
later_there y x xs there = (suc there.0, omega (arith, there.1), there.2)

one_there : {X : Type 0} (y x : X) → Contains (y ∷ []) x → y ≡ x
one_there {X} y x there = at there.0 there.1 there.2
  where
    at : (k : ℕ) → k < 1 → get_or (y ∷ []) k x ≡ x → y ≡ x
    at zero below is = is
    at (suc k) below is = absurd (omega (arith, below))

-- the elements of a list with one more
pushed : {X : Type 0} (xs : List X) (y x : X) → Contains (xs ++ y ∷ []) x → Contains xs x ⊎ (y ≡ x)
pushed xs y x there = elim (Contains-append_cases xs (y ∷ []) x there) [ inl was ↦ inl was | inr new ↦ inr (one_there y x new) ]

was_there : {X : Type 0} (xs : List X) (y x : X) → Contains xs x → Contains (xs ++ y ∷ []) x
was_there xs y x there = Contains-append_left xs (y ∷ []) x there

is_there : {X : Type 0} (xs : List X) (x : X) → Contains (xs ++ x ∷ []) x
is_there xs x = Contains-append_right xs (x ∷ []) x (head_there x [])

one_has : (x i : ℕ) → has (x ∷ []) i ≡ true → x ≡ i
one_has x i e = eqb-true x i (at (x == i) e)
  where
    at : (b : Bool) → (b || false) ≡ true → b ≡ true
    at true e = refl
    at false e = absurd (cc)

has_one : (i : ℕ) → has (i ∷ []) i ≡ true
has_one i = ap (λ b. b || false) (eq-eqb i i refl)

-- one number more is taken
take_next : (xs : List ℕ) (k i : ℕ) → slice_get xs k ≡ Some i → take (k + 1) xs ≡ take k xs ++ i ∷ []
take_next xs k i at = ap (λ n. take n xs) later ∙ more xs k i at
  where
    later : k + 1 ≡ suc k
    later = omega arith

    more : (xs : List ℕ) (k i : ℕ) → slice_get xs k ≡ Some i → take (suc k) xs ≡ take k xs ++ i ∷ []
    more [] k i at = absurd (cc)
    more (x ∷ xs) zero i at = let same : x ≡ i = cc in ap (λ y. y ∷ []) same
    more (x ∷ xs) (suc k) i at = ap (λ (l : List ℕ). x ∷ l) (more xs k i at)

-- what is taken of a list that grew
take_grown : (xs ys : List ℕ) (k : ℕ) → k ≤ length xs → take k (xs ++ ys) ≡ take k xs
take_grown xs ys zero le = refl
take_grown [] ys (suc k) le = absurd (omega (arith, le))
take_grown (x ∷ xs) ys (suc k) le = ap (λ (l : List ℕ). x ∷ l) (take_grown xs ys k (omega (arith, le)))

-- a list that grew has the old element at its place
pub get_grown : (xs new : List ℕ) (k i : ℕ) → Grows xs new → slice_get xs k ≡ Some i → slice_get new k ≡ Some i
get_grown xs new k i grows at = ap (λ l. slice_get l k) grows.1 ∙ more xs grows.0 k i at
  where
    more : (xs ys : List ℕ) (k i : ℕ) → slice_get xs k ≡ Some i → slice_get (xs ++ ys) k ≡ Some i
    more [] ys k i at = absurd (cc)
    more (x ∷ xs) ys zero i at = at
    more (x ∷ xs) ys (suc k) i at = more xs ys k i at

-- a place with an element is within the list
pub get_within : (xs : List ℕ) (k i : ℕ) → slice_get xs k ≡ Some i → k < length xs
get_within xs k i at = slice_get_within xs k i at

-- The stored values.

-- a value of a number that is stored
numbered : (i : ℕ) (stored : List (ℕ × ℕ)) → list_any (λ (y : ℕ × ℕ). y.0 == i) stored ≡ true → (v : ℕ) × Contains stored (i, v)
numbered i [] e = absurd (cc)
numbered i (y ∷ stored) e = at (y.0 == i) refl e (λ h. numbered i stored h)
  where
    at : (b : Bool) → (y.0 == i) ≡ b → (b || list_any (λ (z : ℕ × ℕ). z.0 == i) stored) ≡ true →
        (list_any (λ (z : ℕ × ℕ). z.0 == i) stored ≡ true → (v : ℕ) × Contains stored (i, v)) → (v : ℕ) × Contains (y ∷ stored) (i, v)
    at true is e later =
        let same : y.0 ≡ i = eqb-true y.0 i is in
        (y.1, subst (λ k. let p : ℕ × ℕ = (k, y.1) in Contains (y ∷ stored) p) same (head_there y stored))
    at false is e later = let l = later e in (l.0, later_there y (i, l.0) stored l.1)

-- what was stored stays
add_stays : (x y : ℕ × ℕ) (stored : List (ℕ × ℕ)) → Contains stored y → Contains (add x stored) y
add_stays x y stored there = at (list_any (λ (z : ℕ × ℕ). z.0 == x.0) stored)
  where
    at : (b : Bool) → Contains (cond b stored (stored ++ x ∷ [])) y
    at true = there
    at false = was_there stored x y there

-- what is stored then was, or is what came
add_was : (x y : ℕ × ℕ) (stored : List (ℕ × ℕ)) → Contains (add x stored) y → Contains stored y ⊎ (x ≡ y)
add_was x y stored there = at (list_any (λ (z : ℕ × ℕ). z.0 == x.0) stored) there
  where
    at : (b : Bool) → Contains (cond b stored (stored ++ x ∷ [])) y → Contains stored y ⊎ (x ≡ y)
    at true there = inl there
    at false there = pushed stored x y there

-- what came is stored, if nothing of its number was
add_there : (x : ℕ × ℕ) (stored : List (ℕ × ℕ)) → ((v : ℕ) → Contains stored (x.0, v) → ⊥) → Contains (add x stored) x
add_there x stored none = at (list_any (λ (z : ℕ × ℕ). z.0 == x.0) stored) refl
  where
    at : (b : Bool) → list_any (λ (z : ℕ × ℕ). z.0 == x.0) stored ≡ b → Contains (cond b stored (stored ++ x ∷ [])) x
    at true is = let n = numbered x.0 stored is in absurd (none n.0 n.1)
    at false is = is_there stored x

-- a value of a number is stored
pub kept_stored : (flow : List Definition) (h : Home) (s : Store) (stored kept : List (ℕ × ℕ)) (i v : ℕ) → HasStored flow h stored kept →
    IsLaidOut flow s → s.values.items ≡ first_stays h.store.values.items i v →
    HasStored flow (record h { store = s }) (add (i, v) stored) kept
kept_stored flow h s stored kept i v holds out set = record {
  out = out;
  sound = λ j w name op left right rule is.
      elim (came_there h.store.values.items i v j w (ap (λ l. value_at l j) (sym set) ∙ is)) [
        | inl new ↦ came j w name op left right rule new.0 new.1 new.2
        | inr was ↦ add_stays (i, v) (j, w) stored (holds.sound j w name op left right rule was)
      ];
  whole = λ j w name op left right rule there. elim (add_was (i, v) (j, w) stored there) [
    | inl was ↦
        let some = some_of (value_at h.store.values.items j) (holds.whole j w name op left right rule was) in
        ap (λ l. is_some (value_at l j)) set ∙ ap is_some (stays_there h.store.values.items i v j some.0 some.1)
    | inr same ↦
        let e : i ≡ j = ap (λ (p : ℕ × ℕ). p.0) same in
        let inside : i < length h.store.values.items =
        omega (arith, holds.out.laid.long, slice_get_within flow j (Rule name op left right) rule, e) in
        ap (λ l. is_some (value_at l j)) set ∙ subst (λ k. is_some (value_at (first_stays h.store.values.items i v) k) ≡ true) e
        (by_value (value_at h.store.values.items i) refl inside)
  ];
  keeps = holds.keeps;
}
  where
    came : (j w : ℕ) (name : Name) (op : Op) (left right : Name) → IsRule flow j name op left right → j ≡ i → w ≡ v →
        value_at h.store.values.items i ≡ None → Contains (add (i, v) stored) (j, w)
    came j w name op left right rule here same none =
        let here_rule : IsRule flow i name op left right = subst (λ k. IsRule flow k name op left right) here rule in
        let fresh : (u : ℕ) → Contains stored (i, u) → ⊥ = λ u there.
        let e : false ≡ true = sym (ap is_some none) ∙ holds.whole i u name op left right here_rule there in cc in
        let pair : ℕ → ℕ → ℕ × ℕ = λ a b. (a, b) in
        subst (Contains (add (i, v) stored)) (ap (λ k. pair k v) (sym here) ∙ ap (pair j) (sym same)) (add_there (i, v) stored fresh)

    by_value : (o : Option ℕ) → value_at h.store.values.items i ≡ o → i < length h.store.values.items →
        is_some (value_at (first_stays h.store.values.items i v) i) ≡ true
    by_value (Some w) is inside = ap is_some (stays_there h.store.values.items i v i w is)
    by_value None is inside = ap is_some (came_here h.store.values.items i v inside is)

-- what was taken of what is ready is the same where more became ready
pub kept_put : (flow : List Definition) (old new : Store) (put : List ℕ) → old.next ≤ length old.ready.items → HasPut flow old put →
    new.next ≡ old.next → Grows old.ready.items new.ready.items → HasPut flow new put
kept_put flow old new put within holds next grows =
    let same : take new.next new.ready.items ≡ take old.next old.ready.items =
    ap (λ k. take k new.ready.items) next ∙ ap (take old.next) grows.1 ∙ take_grown old.ready.items grows.0 old.next within in
    record {
      taken = λ i name op left right rule there. holds.taken i name op left right rule (ap (λ l. has l i) (sym same) ∙ there);
      all = λ i there. ap (λ l. has l i) same ∙ holds.all i there;
    }

-- the next rule was taken and put
pub next_put : (flow : List Definition) (s : Store) (put : List ℕ) (i : ℕ) → HasPut flow s put → slice_get s.ready.items s.next ≡ Some i →
    HasPut flow (record s { next = s.next + 1 }) (put ++ i ∷ [])
next_put flow s put i holds at =
    let more : take (s.next + 1) s.ready.items ≡ take s.next s.ready.items ++ i ∷ [] = take_next s.ready.items s.next i at in
    record {
      taken = λ j name op left right rule there.
          elim (has_append_cases (take s.next s.ready.items) (i ∷ []) j (ap (λ l. has l j) (sym more) ∙ there)) [
            | inl was ↦ was_there put i j (holds.taken j name op left right rule was)
            | inr new ↦ subst (Contains (put ++ i ∷ [])) (one_has i j new) (is_there put i)
          ];
      all = λ j there. ap (λ l. has l j) more ∙ elim (pushed put i j there) [
        | inl was ↦ has_append (take s.next s.ready.items) (i ∷ []) j (holds.all j was)
        | inr same ↦ subst (λ k. has (take s.next s.ready.items ++ i ∷ []) k ≡ true) same
            (has_later (take s.next s.ready.items) (i ∷ []) i (has_one i))
      ];
    }

-- what is no rule was taken
pub next_passed : (flow : List Definition) (s : Store) (put : List ℕ) (i : ℕ) → HasPut flow s put →
    slice_get s.ready.items s.next ≡ Some i →
    ((name : Name) (op : Op) (left right : Name) → IsRule flow i name op left right → ⊥) →
    HasPut flow (record s { next = s.next + 1 }) put
next_passed flow s put i holds at none =
    let more : take (s.next + 1) s.ready.items ≡ take s.next s.ready.items ++ i ∷ [] = take_next s.ready.items s.next i at in
    record {
      taken = λ j name op left right rule there.
          elim (has_append_cases (take s.next s.ready.items) (i ∷ []) j (ap (λ l. has l j) (sym more) ∙ there)) [
            | inl was ↦ holds.taken j name op left right rule was
            | inr new ↦ absurd (none name op left right (subst (λ k. IsRule flow k name op left right) (sym (one_has i j new)) rule))
          ];
      all = λ j there. ap (λ l. has l j) more ∙ has_append (take s.next s.ready.items) (i ∷ []) j (holds.all j there);
    }

-- the store after the next was taken
pub next_stored : (flow : List Definition) (h : Home) (stored kept : List (ℕ × ℕ)) → HasStored flow h stored kept →
    h.store.next < length h.store.ready.items →
    HasStored flow (record h { store = record h.store { next = h.store.next + 1 } }) stored kept
next_stored flow h stored kept holds more = record {
  out = record {
    distinct = holds.out.distinct;
    laid = was_taken flow h.store.values.items h.store.noted.items h.store.ready.items h.store.next [] holds.out.laid more;
    lets = holds.out.lets;
  };
  sound = holds.sound;
  whole = holds.whole;
  keeps = holds.keeps;
}

-- What is known.

module _ (flow : List Definition) (h : Home) (stored kept : List (ℕ × ℕ)) (holds : HasStored flow h stored kept) where
  -- what a name is worth in the store is known on the desk
  knows : (name : Name) (v : ℕ) → worth_in flow h.store.values.items name ≡ Some v → Knows flow stored name v
  knows name v is = at (number_of flow name) refl is
    where
      by_kind : (i : ℕ) (d : Definition) → slice_get flow i ≡ Some d → name_of d ≡ name → value_at h.store.values.items i ≡ Some v →
          Knows flow stored name v
      by_kind i (Let n w) at named e =
          let h : Some w ≡ Some v = sym (holds.out.lets i n w at) ∙ e in
          let same : w ≡ v = cc in
          let one : Name → ℕ → Definition = λ m u. Let m u in
          given name v (subst (Contains flow) (ap (λ m. one m w) named ∙ ap (one name) same) (there_at flow i (Let n w) at))
      by_kind i (Rule n op left right) at named e =
          let one : Name → Option Definition = λ m. Some (Rule m op left right) in
          stored_is name v i op left right (at ∙ ap one named) (holds.sound i v n op left right at e)

      at : (o : Option ℕ) → number_of flow name ≡ o → value_of h.store.values.items o ≡ Some v → Knows flow stored name v
      at None numbered e = absurd (cc)
      at (Some i) numbered e =
          let d = definition_at flow i (number_inside flow name i numbered) in
          by_kind i d.0 d.1 (number_named flow name i d.0 numbered d.1) e

  -- what is known on the desk has a value in the store
  known_some : (name : Name) (v : ℕ) → Knows flow stored name v → is_some (worth_in flow h.store.values.items name) ≡ true
  known_some _ _ (given name v there) =
      let p = place_of flow (Let name v) there in
      ap (λ o. is_some (value_of h.store.values.items o)) (number_here flow holds.out.distinct p.0 (Let name v) p.1)
      ∙ ap is_some (holds.out.lets p.0 name v p.1)
  known_some _ _ (stored_is name v i op left right rule there) =
      ap (λ o. is_some (value_of h.store.values.items o)) (number_here flow holds.out.distinct i (Rule name op left right) rule)
      ∙ holds.whole i v name op left right rule there

  both_some : (op : Op) (a b : Option ℕ) → is_some a ≡ true → is_some b ≡ true → is_some (joined op a b) ≡ true
  both_some op (Some a) (Some b) x y = refl
  both_some op None b x y = absurd (cc)
  both_some op (Some a) None x y = absurd (cc)

  -- a unit with the values of its inputs is ready on the desk
  pub ready_is : (unit : RuleUnit) → Carries flow h.store unit → IsReady flow stored unit.number unit.op unit.left unit.right
  ready_is unit carries = record {
    name = carries.name;
    left = carries.left;
    right = carries.right;
    is = carries.is;
    of_left = knows carries.left unit.left carries.of_left;
    of_right = knows carries.right unit.right carries.of_right;
  }

  -- where all that is ready was taken, each rule that is ready was put
  pub may_reserve : (put : List ℕ) → HasPut flow h.store put → IsDrained h.store → (i : ℕ) (op : Op) (a b : ℕ) →
      IsReady flow stored i op a b → Contains put i
  may_reserve put puts drained i op a b ready =
      let some : is_some (gives (worth_in flow h.store.values.items) (Rule ready.name op ready.left ready.right)) ≡ true =
      both_some op (worth_in flow h.store.values.items ready.left) (worth_in flow h.store.values.items ready.right)
      (known_some ready.left a ready.of_left) (known_some ready.right b ready.of_right) in
      elim (holds.out.laid.rules i ready.name op ready.left ready.right ready.is some) [
        | inl noted ↦
            puts.taken i ready.name op ready.left ready.right ready.is
            (ap (λ l. has l i) (take_all h.store.next h.store.ready.items drained) ∙ holds.out.laid.all i noted)
        | inr not_there ↦ absurd (let e : false ≡ true = not_there in cc)
      ]

-- a rule that is ready next was not put
pub not_put : (flow : List Definition) (s : Store) (put : List ℕ) (i : ℕ) → IsLaidOut flow s → HasPut flow s put →
    slice_get s.ready.items s.next ≡ Some i → Contains put i → ⊥
not_put flow s put i out puts at there =
    let e : false ≡ true = sym (out.laid.once s.next i at) ∙ puts.all i there in cc

-- what is noted is no rule, if it has no rule with the values of its inputs
pub no_rule : (flow : List Definition) (s : Store) (i : ℕ) → IsLaidOut flow s → slice_get s.ready.items s.next ≡ Some i →
    ((d : Definition) → slice_get flow i ≡ Some d → None ≡ ready_by (worth_in flow s.values.items) d) →
    (name : Name) (op : Op) (left right : Name) → IsRule flow i name op left right → ⊥
no_rule flow s i out at none name op left right rule =
    by_values (worth_in flow s.values.items left) (worth_in flow s.values.items right) (none (Rule name op left right) rule)
    (out.laid.grounded i (Rule name op left right) rule (out.laid.listed i (number_has s.ready.items s.next i at)))
  where
    by_values : (a b : Option ℕ) → None ≡ made_ready op a b → is_some (joined op a b) ≡ true → ⊥
    by_values (Some a) (Some b) e f = absurd (cc)
    by_values (Some a) None e f = absurd (cc)
    by_values None b e f = absurd (cc)

    number_has : (xs : List ℕ) (k i : ℕ) → slice_get xs k ≡ Some i → has xs i ≡ true
    number_has [] k i at = absurd (cc)
    number_has (x ∷ xs) zero i at = let same : x ≡ i = cc in ap (λ b. b || has xs i) (eq-eqb x i same)
    number_has (x ∷ xs) (suc k) i at = at_later (x == i) (number_has xs k i at)
      where
        at_later : (b : Bool) → has xs i ≡ true → (b || has xs i) ≡ true
        at_later true e = refl
        at_later false e = e

-- a rule with the values of its inputs, as a unit
pub carries_by : (flow : List Definition) (s : Store) (i : ℕ) (r : ReadyRule) → i < length flow →
    ((d : Definition) → slice_get flow i ≡ Some d → Some r ≡ ready_by (worth_in flow s.values.items) d) →
    Carries flow s (record { number = i; op = r.op; left = r.left; right = r.right })
carries_by flow s i r inside is = let d = definition_at flow i inside in by_kind d.0 d.1 (is d.0 d.1)
  where
    by_values : (name : Name) (op : Op) (left right : Name) → IsRule flow i name op left right → (a b : Option ℕ) →
        worth_in flow s.values.items left ≡ a → worth_in flow s.values.items right ≡ b → Some r ≡ made_ready op a b →
        Carries flow s (record { number = i; op = r.op; left = r.left; right = r.right })
    by_values name op left right rule (Some a) (Some b) of_left of_right e =
        let made : ReadyRule = record { op = op; left = a; right = b } in
        let same : r ≡ made = some_same r made e in
        subst (λ (x : ReadyRule). Carries flow s (record { number = i; op = x.op; left = x.left; right = x.right })) (sym same)
        (record { name = name; left = left; right = right; is = rule; of_left = of_left; of_right = of_right })
      where
        some_same : (x y : ReadyRule) → Some x ≡ Some y → x ≡ y
        some_same x y e = cc
    by_values name op left right rule (Some a) None of_left of_right e = absurd (cc)
    by_values name op left right rule None b of_left of_right e = absurd (cc)

    by_kind : (d : Definition) → slice_get flow i ≡ Some d → Some r ≡ ready_by (worth_in flow s.values.items) d →
        Carries flow s (record { number = i; op = r.op; left = r.left; right = r.right })
    by_kind (Let name v) at e = absurd (cc)
    by_kind (Rule name op left right) at e =
        by_values name op left right at (worth_in flow s.values.items left) (worth_in flow s.values.items right) refl refl e

-- what is ready is a number of the flow
pub ready_inside : (flow : List Definition) (s : Store) (i : ℕ) → IsLaidOut flow s → slice_get s.ready.items s.next ≡ Some i →
    i < length flow
ready_inside flow s i out at =
    let same : get_or s.ready.items s.next 0 ≡ i = get_or_from_slice_get s.ready.items s.next i 0 at in
    subst (λ k. k < length flow) same
    (below_at (length flow) s.ready.items s.next 0 out.laid.within (slice_get_within s.ready.items s.next i at))

-- one rule more was taken
less_by : (x l c n : ℕ) → x ≡ (l + c) - (n + 1) → n < l → x < (l + c) - n
less_by x l c n e more = omega (arith, e, more)

-- a rule that is taken leaves fewer to take
pub passed_less : (s t : Store) → t ≡ record s { next = s.next + 1 } → s.next < length s.ready.items → to_take t < to_take s
passed_less s t is more = less_by (to_take t) (length s.ready.items) (count_by not s.noted.items) s.next (ap to_take is) more

-- where none is ready next all that is ready was taken
pub none_next : (xs : List ℕ) (k : ℕ) → None ≡ slice_get xs k → length xs ≤ k
none_next [] k e = omega arith
none_next (x ∷ xs) zero e = absurd (cc)
none_next (x ∷ xs) (suc k) e = let later = none_next xs k e in omega (arith, later)
