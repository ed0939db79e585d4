-- One that passes a test is taken out of a list.
use Rattle.std.proofs.Common.{◌≡◌, ◌<◌, ◌+◌, ℕ, suc, Bool, true, false, not, List, [], ◌∷◌, ◌++◌, length, filter}
use Rattle.std.proofs.Common.{take, drop, get_or, All, refl, sym, ap, ◌∙◌, arith, add-one, length-append}
use Rattle.std.specs.List.{remove}
use Rattle.std.proofs.lemmas.Bool.{false_from_ne_true}
use Rattle.std.proofs.lemmas.List.{drop_more, get_or-drop, get_or-take, length-take-le, take-append-drop}
use Rattle.std.proofs.lemmas.List.Elements.{All-head, All-tail, filter-append}
use Rattle.server_components.specs.declared.waits.Waiting.{Waiting}
use Rattle.server_components.proofs.Places.{IsAt}

all_pass : {X : Type 0} (test : X → Bool) (xs : List X) → All (λ x. test x ≡ true) xs → filter test xs ≡ xs
all_pass test [] all = refl
all_pass {X} test (x ∷ xs) all =
    let P : X → Type 0 = λ y. test y ≡ true in
    rw (All-head P x xs all) (ap (λ l. x ∷ l) (all_pass test xs (All-tail P x xs all)))

one_fails : {X : Type 0} (test : X → Bool) (x : X) (xs : List X) → test x ≡ false → filter test (x ∷ xs) ≡ filter test xs
one_fails test x xs fails = rw fails refl

module _ (test : Waiting → Bool) (xs : List Waiting) (n : ℕ) (e : Waiting) (at : IsAt test xs n e) where
  passes_not : (k : ℕ) (d : Waiting) → k < length xs → (k ≡ n → ⊥) → not (test (get_or xs k d)) ≡ true
  passes_not k d within other =
      ap not (false_from_ne_true (test (get_or xs k d)) (λ passes. other (at.only k d within passes)))

  -- removing the one that passes is filtering it out
  pub taken_out : remove xs n ≡ filter (λ x. not (test x)) xs
  taken_out =
      let keep : Waiting → Bool = λ x. not (test x) in
      let front : List Waiting = take n xs in
      let back : List Waiting = drop (suc n) xs in
      let first : length front ≡ n = length-take-le n xs (omega (arith, at.within)) in
      let is : xs ≡ front ++ e ∷ back =
      sym (take-append-drop n xs) ∙ ap (λ l. front ++ l) (drop_more xs n e at.within)
      ∙ ap (λ x. front ++ x ∷ drop (n + 1) xs) (at.read e) ∙ ap (λ k. front ++ e ∷ drop k xs) (add-one n) in
      let fails : keep e ≡ false = ap not at.passes in
      let before : filter keep front ≡ front =
      all_pass keep front (λ k d short.
      let low : k < n = omega (arith, short, first) in
      ap keep (get_or-take n xs k d low) ∙ passes_not k d (omega (arith, low, at.within)) (λ same. omega (arith, same, low))) in
      let after : filter keep back ≡ back =
      all_pass keep back (λ k d short.
      ap keep (get_or-drop (suc n) xs k d) ∙ passes_not (suc n + k) d (within_back k short) (λ same. omega (arith, same))) in
      ap (λ l. l ++ back) (sym before) ∙ ap (λ l. filter keep front ++ l) (sym after)
      ∙ ap (λ l. filter keep front ++ l) (sym (one_fails keep e back fails))
      ∙ sym (filter-append keep front (e ∷ back)) ∙ ap (λ l. filter keep l) (sym is)
    where
      within_back : (k : ℕ) → k < length (drop (suc n) xs) → suc n + k < length xs
      within_back k short =
          let whole = ap (λ l. length l) (take-append-drop (suc n) xs) in
          let front = length-take-le (suc n) xs (omega (arith, at.within)) in
          omega (arith, short, whole, front, length-append (take (suc n) xs) (drop (suc n) xs))

-- a test that none passes takes nothing out
pub none_out : (test : Waiting → Bool) (xs : List Waiting) → All (λ e. test e ≡ false) xs → xs ≡ filter (λ x. not (test x)) xs
none_out test xs all = sym (all_pass (λ x. not (test x)) xs (λ k d within. ap not (all k d within)))
