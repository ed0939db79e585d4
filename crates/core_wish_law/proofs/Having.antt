-- What is in a list: found, filtered, mapped, weighed.
use Rattle.bag_ledger.proofs.Tests.{some_is}
use Rattle.core_bound_law.proofs.Wishes.{wishes_of}
use Rattle.core_check_law.specs.Settling.{Has}
use Rattle.core_law.specs.Letters.{one}
use Rattle.core_law.specs.Measures.{weigh}
use Rattle.server_components.specs.declared.wishes.Wish.{Wish}
use Rattle.std.proofs.Common.{Any, Bool, List, Some, [], ap, arith, cond, false, filter, find, inl, inr, map, refl, subst, suc, sym, true}
use Rattle.std.proofs.Common.{ℕ, ◌<◌, ◌==◌, ◌||◌, ◌∙◌, ◌∷◌, ◌≡◌, ◌≤◌, ◌⊎◌}
use Rattle.std.proofs.lemmas.Bool.{eq-eqb}
use Rattle.std.specs.List.{list_any}

-- what is found is in the list and passes
pub find_has : {X : Type 0} (test : X → Bool) (xs : List X) (x : X) → find test xs ≡ Some x → Has xs x × (test x ≡ true)
find_has test [] x is = absurd (cc)
find_has test (y ∷ ys) x is = by_test (find_has test ys x) (test y) refl is
  where
    by_test : (find test ys ≡ Some x → Has ys x × (test x ≡ true)) → (b : Bool) → test y ≡ b → cond b (Some y) (find test ys) ≡ Some x
        → Has (y ∷ ys) x × (test x ≡ true)
    by_test later true e found = let same : y ≡ x = some_is found in (inl same, ap test (sym same) ∙ e)
    by_test later false e found = let r = later found in (inr r.0, r.1)

-- where any passes, one in the list does
pub any_has : {X : Type 0} (test : X → Bool) (xs : List X) → list_any test xs ≡ true → (x : X) × Has xs x × (test x ≡ true)
any_has test [] is = absurd (cc)
any_has test (y ∷ ys) is = by_test (any_has test ys) (test y) refl is
  where
    by_test : (list_any test ys ≡ true → (x : _) × Has ys x × (test x ≡ true)) → (b : Bool) → test y ≡ b → (b || list_any test ys) ≡ true
        → (x : _) × Has (y ∷ ys) x × (test x ≡ true)
    by_test later true e found = (y, inl refl, e)
    by_test later false e found = let r = later found in (r.0, inr r.1, r.2)

-- what passes stays
pub filter_has : {X : Type 0} (test : X → Bool) (xs : List X) (x : X) → Has xs x → test x ≡ true → Has (filter test xs) x
filter_has test [] x has is = absurd has
filter_has test (y ∷ ys) x has is = by_test (test y) refl has (filter_has test ys x)
  where
    by_test : (b : Bool) → test y ≡ b → (y ≡ x) ⊎ Has ys x → (Has ys x → test x ≡ true → Has (filter test ys) x)
        → Has (cond b (y ∷ filter test ys) (filter test ys)) x
    by_test true e (inl same) later = inl same
    by_test true e (inr more) later = inr (later more is)
    by_test false e (inl same) later = let no : false ≡ true = sym e ∙ ap test same ∙ is in absurd (cc)
    by_test false e (inr more) later = later more is

-- what is in a mapped list comes of one in the list
pub map_has : {X Y : Type 0} (f : X → Y) (xs : List X) (y : Y) → Has (map f xs) y → (x : X) × Has xs x × (f x ≡ y)
map_has f [] y has = absurd has
map_has f (x ∷ xs) y (inl same) = (x, inl refl, same)
map_has f (x ∷ xs) y (inr later) = let r = map_has f xs y later in (r.0, inr r.1, r.2)

-- one in the list shows that any is
pub any_at : {X : Type 0} (P : X → Type 0) (xs : List X) (x : X) → Has xs x → P x → Any P xs
any_at P [] x has p = absurd has
any_at P (y ∷ ys) x (inl same) p = (0, y, omega arith, refl, subst P (sym same) p)
any_at P (y ∷ ys) x (inr more) p = let r = any_at P ys x more p in (suc r.0, r.1, omega (arith, r.2), r.3, r.4)

-- one in the list weighs at most as all
pub weigh_has : {X : Type 0} (f : X → ℕ) (xs : List X) (x : X) → Has xs x → f x ≤ weigh f xs
weigh_has f [] x has = absurd has
weigh_has f (y ∷ ys) x (inl same) = let e = ap f same in omega arith
weigh_has f (y ∷ ys) x (inr more) = let later = weigh_has f ys x more in omega arith

-- two wishes of one rank are one
pub single_same : (wishes : List Wish) (rank : ℕ) → wishes_of rank wishes ≤ 1 → (x y : Wish) → Has wishes x → Has wishes y → x.rank.0 ≡ rank
    → y.rank.0 ≡ rank → x ≡ y
unfolding wishes_of
single_same [] rank few x y a b p q = absurd a
single_same (w ∷ ws) rank few x y a b p q = by_place a b (single_same ws rank)
  where
    some : (ws : List Wish) (z : Wish) → Has ws z → z.rank.0 ≡ rank → 0 < weigh (λ (u : Wish). one (u.rank.0 == rank)) ws
    some [] z none e = absurd none
    some (u ∷ us) z (inl same) e =
        let it : one (u.rank.0 == rank) ≡ 1 = ap (λ (k : Wish). one (k.rank.0 == rank)) same
        ∙ ap one (eq-eqb z.rank.0 rank e) in omega arith
    some (u ∷ us) z (inr more) e = let later = some us z more e in omega arith

    first : (z : Wish) → w ≡ z → z.rank.0 ≡ rank → one (w.rank.0 == rank) ≡ 1
    first z same e = ap (λ (k : Wish). one (k.rank.0 == rank)) same ∙ ap one (eq-eqb z.rank.0 rank e)

    by_place : (w ≡ x) ⊎ Has ws x → (w ≡ y) ⊎ Has ws y
        → (weigh (λ (u : Wish). one (u.rank.0 == rank)) ws ≤ 1 → (x y : Wish) → Has ws x → Has ws y → x.rank.0 ≡ rank → y.rank.0 ≡ rank
        → x ≡ y)
        → x ≡ y
    by_place (inl i) (inl j) later = sym i ∙ j
    by_place (inl i) (inr j) later = let here = first x i p in let more = some ws y j q in absurd (omega arith)
    by_place (inr i) (inl j) later = let here = first y j q in let more = some ws x i p in absurd (omega arith)
    by_place (inr i) (inr j) later = later (omega arith) x y i j p q
