-- Where a rank waits.
use Rattle.std.proofs.Common.{◌≡◌, ◌≢◌, ◌<◌, ◌≤◌, ◌⊎◌, inl, inr, ℕ, Bool, true, false, ◌&&◌, cond, ltb, List, [], ◌∷◌, length, map, set}
use Rattle.std.proofs.Common.{get_or, find, Option, None, Some, All, refl, sym, ap, ◌∙◌, subst, arith}
use Rattle.std.specs.List.{AllPairs, list_any, position, position_or_len, slice_get}
use Rattle.std.proofs.lemmas.Bool.{and_from, and_parts, cases_eq, cases_lt, eq-eqb, eqb-true, false_from_ne_true}
use Rattle.std.proofs.lemmas.Bool.Decides.{nat_tests}
use Rattle.std.proofs.lemmas.List.{get_or-map, get_or-set_other, get_or-set_same, get_or_default, length-map, length-set, same_lists}
use Rattle.std.proofs.lemmas.List.Elements.{All-head, All-tail, All-weaker}
use Rattle.std.proofs.lemmas.List.Folds.{Any-from_list_any, find_at, list_any_at, list_any_none}
use Rattle.std.proofs.lemmas.List.Quantifiers.{position-Some}
use Rattle.std.proofs.lemmas.Option.{get_or_from_slice_get, slice_get-get_or, slice_get_past}
use Rattle.adlb_unit.specs.declared.names.Rank.{Rank}
use Rattle.work_queue.proofs.Searched.{find_none}
use Rattle.server_components.specs.Calls.{is_since, turned}
use Rattle.server_components.specs.Parked.{is_of}
use Rattle.server_components.specs.declared.waits.Waiting.{Waiting}

-- no two of them are of one rank
abbrev pub AreApart : Waiting → Waiting → Type 0
AreApart e f = e.wish.rank.0 ≢ f.wish.rank.0

-- some element, which lemmas on lists ask for
abbrev pub nobody : Rank → Waiting
nobody rank = record { wish = record { rank = rank; request = 0; types = None }; asked = None; to_ask = [] }

-- what passes the test is of the rank
abbrev pub Tells : (Waiting → Bool) → Rank → Type 0
Tells test rank = (e : Waiting) → test e ≡ true → e.wish.rank.0 ≡ rank.0

-- the test of a rank is about that rank
pub of_tells : (rank : Rank) → Tells (is_of rank) rank
of_tells rank e is = eqb-true e.wish.rank.0 rank.0 is

-- the test of a rank and request is about that rank
pub since_tells : (rank : Rank) (request : ℕ) → Tells (is_since rank request) rank
since_tells rank request e is = of_tells rank e (and_parts _ _ is).0

-- this one alone, at this place, passes the test
pub record IsAt (test : Waiting → Bool) (xs : List Waiting) (n : ℕ) (e : Waiting) : Type 0 where
  pub within : n < length xs
  pub read : (d : Waiting) → get_or xs n d ≡ e
  pub passes : test e ≡ true
  pub only : (k : ℕ) (d : Waiting) → k < length xs → test (get_or xs k d) ≡ true → k ≡ n
  pub here : slice_get xs n ≡ Some e

first_place : (a m n : ℕ) → cond {A = Option ℕ} (ltb a m) (Some a) None ≡ Some n → a ≡ n
first_place a m n is = grind (arith, nat_tests)

no_place : (a m : ℕ) → cond {A = Option ℕ} (ltb a m) (Some a) None ≡ None → m ≤ a
no_place a m is = grind (arith, nat_tests)

module _ (test : Waiting → Bool) (rank : Rank) (tells : Tells test rank) (xs : List Waiting) (once : AllPairs AreApart xs) where
  -- one place at most has an entry that passes
  pub at_only : (n k : ℕ) (d : Waiting) → n < length xs → k < length xs → test (get_or xs n d) ≡ true → test (get_or xs k d) ≡ true → k ≡ n
  at_only n k d within inside here there = by_order (cases_lt k n) (cases_lt n k)
    where
      same : (get_or xs k d).wish.rank.0 ≡ (get_or xs n d).wish.rank.0
      same = tells (get_or xs k d) there ∙ sym (tells (get_or xs n d) here)

      by_order : (k < n) ⊎ (n ≤ k) → (n < k) ⊎ (k ≤ n) → k ≡ n
      by_order (inl less) _ = absurd (once k n d less within same)
      by_order (inr more) (inl less) = absurd (once n k d less inside (sym same))
      by_order (inr more) (inr fewer) = omega arith

  -- the place that is found has the entry that passes
  pub at_place : (n : ℕ) (d : Waiting) → position test xs ≡ Some n → IsAt test xs n (get_or xs n d)
  at_place n d is =
      let first = position-Some test xs n d is in
      let read : (f : Waiting) → get_or xs n f ≡ get_or xs n d = λ f. get_or_default xs n f d first.0 in
      let here : slice_get xs n ≡ Some (get_or xs n d) = slice_get-get_or xs n d first.0 in
      record {
        within = first.0;
        read = read;
        passes = first.1;
        only = λ k f inside there. at_only n k f first.0 inside (subst (λ (e : Waiting). test e ≡ true) (sym (read f)) first.1) there;
        here = here;
      }

-- what is at the first place is what is found first
pub found_at : (test : Waiting → Bool) (xs : List Waiting) (n : ℕ) (d : Waiting) → position test xs ≡ Some n
    → find test xs ≡ Some (get_or xs n d)
found_at test xs n d is =
    find_at test xs ∙ ap (λ m. slice_get xs m) (first_place (position_or_len test xs) (length xs) n is)
    ∙ slice_get-get_or xs n d (position-Some test xs n d is).0

-- at its place each is the one of its rank
pub own_place : (xs : List Waiting) → AllPairs AreApart xs → (n : ℕ) (d : Waiting) → n < length xs
    → IsAt (is_of (get_or xs n d).wish.rank) xs n (get_or xs n d)
own_place xs once n d within =
    let rank = (get_or xs n d).wish.rank in
    let read : (f : Waiting) → get_or xs n f ≡ get_or xs n d = λ f. get_or_default xs n f d within in
    let own : is_of rank (get_or xs n d) ≡ true = eq-eqb rank.0 rank.0 refl in
    record {
      within = within;
      read = read;
      passes = own;
      only = λ k f inside there. at_only (is_of rank) rank (of_tells rank) xs once n k f within inside
          (subst (λ (e : Waiting). is_of rank e ≡ true) (sym (read f)) own) there;
      here = slice_get-get_or xs n d within;
    }

-- what is read at a place
pub seen_at : (xs : List Waiting) (n : ℕ) (read e : Waiting) → read ≡ get_or xs n read → slice_get xs n ≡ Some e → read ≡ e
seen_at xs n read e is here = is ∙ get_or_from_slice_get xs n e read here

-- none passes
pub none_at : (test : Waiting → Bool) (xs : List Waiting) → position test xs ≡ None → All (λ e. test e ≡ false) xs
none_at test xs is =
    let past = no_place (position_or_len test xs) (length xs) is in
    find_none test xs (find_at test xs ∙ slice_get_past xs (position_or_len test xs) past)

-- some entry that passes two tests has a place by the first
pub some_at : (p q : Waiting → Bool) (xs : List Waiting) → list_any (λ e. p e && q e) xs ≡ true → position p xs ≡ None → ⊥
some_at p q xs has is =
    let at = Any-from_list_any (λ e. p e && q e) xs has in
    let passes : p at.1 ≡ true = (and_parts (p at.1) (q at.1) at.4).0 in
    let fails : p (get_or xs at.0 at.1) ≡ false = none_at p xs is at.0 at.1 at.2 in
    let same : p at.1 ≡ false = rw at.3 at fails in
    absurd (cc (passes, same))

-- a test that none passes turns none
turned_not : (test : Waiting → Bool) (f : Waiting → Waiting) (e : Waiting) → test e ≡ false → turned test f e ≡ e
turned_not test f e fails = rw fails refl

turned_yes : (test : Waiting → Bool) (f : Waiting → Waiting) (e : Waiting) → test e ≡ true → turned test f e ≡ f e
turned_yes test f e passes = rw passes refl

-- a change of those that pass a test leaves a list in which nobody does
pub none_turned : (test : Waiting → Bool) (f : Waiting → Waiting) (xs : List Waiting) → All (λ e. test e ≡ false) xs
    → map (turned test f) xs ≡ xs
none_turned test f [] all = refl
none_turned test f (e ∷ xs) all =
    let P : Waiting → Type 0 = λ x. test x ≡ false in
    let here = turned_not test f e (All-head P e xs all) in
    let rest = none_turned test f xs (All-tail P e xs all) in
    ap (λ x. x ∷ map (turned test f) xs) here ∙ ap (λ l. e ∷ l) rest

-- and nothing that is asked besides is found
pub none_any : (test q : Waiting → Bool) (xs : List Waiting) → All (λ e. test e ≡ false) xs → list_any (λ x. test x && q x) xs ≡ false
none_any test q xs all =
    let P : Waiting → Type 0 = λ e. test e ≡ false in
    let Q : Waiting → Type 0 = λ e. (test e && q e) ≡ false in
    list_any_none (λ x. test x && q x) xs (All-weaker P Q (λ e is. ap (λ t. t && q e) is) xs all)

-- a write at the one place turns the one
pub set_turned : (test : Waiting → Bool) (f : Waiting → Waiting) (xs : List Waiting) (n : ℕ) (e : Waiting) → IsAt test xs n e
    → set xs n (f e) ≡ map (turned test f) xs
set_turned test f xs n e at =
    same_lists (set xs n (f e)) (map (turned test f) xs) (length-set xs n (f e) ∙ sym (length-map xs (turned test f))) each
  where
    each : (k : ℕ) (d : Waiting) → k < length (set xs n (f e)) → get_or (set xs n (f e)) k d ≡ get_or (map (turned test f) xs) k d
    each k d long = by_place (cases_eq k n)
      where
        within : k < length xs
        within = omega (arith, long, length-set xs n (f e))

        read : get_or (map (turned test f) xs) k d ≡ turned test f (get_or xs k d)
        read = get_or-map (turned test f) xs k d d within

        by_place : (k ≡ n) ⊎ (k ≢ n) → get_or (set xs n (f e)) k d ≡ get_or (map (turned test f) xs) k d
        by_place (inl same) =
            let is : get_or xs k d ≡ e = ap (λ m. get_or xs m d) same ∙ at.read d in
            ap (λ m. get_or (set xs n (f e)) m d) same ∙ get_or-set_same xs n (f e) d at.within
            ∙ sym (turned_yes test f e at.passes) ∙ sym (ap (turned test f) is) ∙ sym read
        by_place (inr other) =
            let fails : test (get_or xs k d) ≡ false = false_from_ne_true (test (get_or xs k d)) (λ passes. other
            (at.only k d within passes)) in
            get_or-set_other xs n k (f e) d other ∙ sym (turned_not test f (get_or xs k d) fails) ∙ sym read

-- one that passes has what is asked exactly if the one has it
pub any_at : (test q : Waiting → Bool) (xs : List Waiting) (n : ℕ) (e : Waiting) → IsAt test xs n e → list_any (λ x. test x && q x) xs ≡ q e
any_at test q xs n e at = by_test (q e) refl
  where
    by_test : (t : Bool) → q e ≡ t → list_any (λ x. test x && q x) xs ≡ t
    by_test true is =
        let both : (test (get_or xs n e) && q (get_or xs n e)) ≡ true = rw (at.read e) (and_from (test e) (q e) at.passes is) in
        list_any_at (λ x. test x && q x) xs n e at.within both
    by_test false is = false_from_ne_true (list_any (λ x. test x && q x) xs) not_any
      where
        not_any : list_any (λ x. test x && q x) xs ≡ true → ⊥
        not_any has =
            let there = Any-from_list_any (λ x. test x && q x) xs has in
            let parts = and_parts (test there.1) (q there.1) there.4 in
            let passes : test (get_or xs there.0 there.1) ≡ true = rw there.3 parts.0 in
            let same : there.0 ≡ n = at.only there.0 there.1 there.2 passes in
            let one : there.1 ≡ e = sym there.3 ∙ ap (λ m. get_or xs m there.1) same ∙ at.read there.1 in
            let has_it : q e ≡ true = subst (λ (x : Waiting). q x ≡ true) one parts.1 in
            absurd (cc (has_it, is))
