-- What a count tells, one unit after another.
use Rattle.std.proofs.Common.{◌≡◌, ◌+◌, ◌≤ℤ◌, ℕ, ℤ, int_le, int_lt, Bool, true, false, cond, List, [], ◌∷◌, ◌++◌, length, fold, count_by}
use Rattle.std.proofs.Common.{sum_by, Some, refl, ap, ◌∙◌, All, arith}
use Rattle.std.specs.Int.{int_max}
use Rattle.std.proofs.lemmas.Int.{clamps, fold-int_max_bounds, ints}
use Rattle.std.proofs.lemmas.List.{length-append}
use Rattle.std.proofs.lemmas.List.Elements.{All-cons, All-head, All-tail, All-weaker}
use Rattle.std.proofs.lemmas.List.Sums.{fold_push, sum_by-cons, sum_by_push}
use Rattle.adlb_unit.specs.declared.notes.Info.{Info}
use Rattle.adlb_unit.specs.Infos.{info_of_prios}
use Rattle.work_queue.specs.inside.Counting.{info_with}

-- a count of free units, with the highest priority and how many have it
abbrev pub told : ℕ → ℤ → ℕ → Info
told free top at_top = record { free = free; top = Some top; at_top = at_top }

-- counts of equal numbers and priorities are equal
pub same_told : (f g : ℕ) (t u : ℤ) (a b : ℕ) → f ≡ g → t ≡ u → a ≡ b → told f t a ≡ told g u b
same_told f g t u a b same_free same_top same_at = ap (λ n. told n t a) same_free ∙ ap (λ x. told g x a) same_top
    ∙ ap (λ n. told g u n) same_at

count_none : (test : ℤ → Bool) (xs : List ℤ) → All (λ x. test x ≡ false) xs → count_by test xs ≡ 0
count_none test [] none = refl
count_none test (x ∷ xs) none =
    let F : ℤ → Type 0 = λ y. test y ≡ false in
    let f : ℤ → ℕ = λ y. cond (test y) 1 0 in
    let here : f x ≡ 0 = ap (λ t. cond t 1 0) (All-head F x xs none) in
    let later : sum_by f xs ≡ 0 = count_none test xs (All-tail F x xs none) in
    omega (arith, sum_by-cons f x xs, here, later)

le_self : (p : ℤ) → int_le p p ≡ true
le_self p = grind (arith, ints)

above_all : (t p x : ℤ) → int_lt t p ≡ true → x ≤ℤ t → int_le p x ≡ false
above_all t p x test low = grind (arith, ints)

max_later : (t p : ℤ) → int_lt t p ≡ true → int_max t p ≡ p
max_later t p test = grind (arith, ints, clamps)

max_first : (t p : ℤ) → int_lt t p ≡ false → int_max t p ≡ t
max_first t p test = grind (arith, ints, clamps)

below_top : (t p : ℤ) → int_lt p t ≡ true → int_le t p ≡ false
below_top t p test = grind (arith, ints)

at_top : (t p : ℤ) → int_lt p t ≡ false → int_le t p ≡ true
at_top t p test = grind (arith, ints)

-- of the priorities q, qs and p, if the highest is m
info_to : (q : ℤ) (qs : List ℤ) (p m : ℤ) (n : ℕ) → int_max (fold int_max q qs) p ≡ m
    → count_by (int_le m) (q ∷ qs) + cond (int_le m p) 1 0 ≡ n → info_of_prios (q ∷ (qs ++ p ∷ [])) ≡ told (length (q ∷ qs) + 1) m n
info_to q qs p m n top at =
    let highest : fold int_max q (qs ++ p ∷ []) ≡ m = fold_push int_max q qs p ∙ top in
    let f : ℤ → ℕ = λ x. cond (int_le m x) 1 0 in
    let pushed : sum_by f ((q ∷ qs) ++ p ∷ []) ≡ sum_by f (q ∷ qs) + f p = sum_by_push f (q ∷ qs) p in
    same_told (length (q ∷ (qs ++ p ∷ []))) (length (q ∷ qs) + 1) (fold int_max q (qs ++ p ∷ [])) m
    (count_by (int_le (fold int_max q (qs ++ p ∷ []))) (q ∷ (qs ++ p ∷ []))) n
    (length-append (q ∷ qs) (p ∷ [])) highest (ap (λ x. count_by (int_le x) (q ∷ (qs ++ p ∷ []))) highest ∙ pushed ∙ at)

-- a count with one priority more
pub info_push : (ps : List ℤ) (p : ℤ) → info_of_prios (ps ++ p ∷ []) ≡ info_with (info_of_prios ps) p
info_push [] p = same_told 1 1 p p (count_by (int_le p) (p ∷ [])) 1 refl refl (ap (λ t. 0 + cond t 1 0) (le_self p))
info_push (q ∷ qs) p = by_test (int_lt (fold int_max q qs) p) refl (int_lt p (fold int_max q qs)) refl
  where
    by_test : (b : Bool) → int_lt (fold int_max q qs) p ≡ b → (e : Bool) → int_lt p (fold int_max q qs) ≡ e
        → info_of_prios (q ∷ (qs ++ p ∷ [])) ≡ info_with (info_of_prios (q ∷ qs)) p
    by_test true higher e lower =
        let t = fold int_max q qs in
        let bounds = fold-int_max_bounds q qs t refl in
        let B : ℤ → Type 0 = λ x. x ≤ℤ t in
        let N : ℤ → Type 0 = λ x. int_le p x ≡ false in
        let none : count_by (int_le p) (q ∷ qs) ≡ 0 = count_none (int_le p) (q ∷ qs)
        (All-weaker B N (λ x low. above_all t p x higher low) (q ∷ qs) (All-cons B q qs bounds.0 bounds.1)) in
        rw higher
        (info_to q qs p p 1 (max_later t p higher) (ap (λ n. n + cond (int_le p p) 1 0) none ∙ ap (λ b. 0 + cond b 1 0) (le_self p)))
    by_test false higher true lower =
        let t = fold int_max q qs in
        let n = count_by (int_le t) (q ∷ qs) in
        let step : n + cond (int_le t p) 1 0 ≡ n = ap (λ b. n + cond b 1 0) (below_top t p lower) ∙ omega arith in
        rw (higher, lower) (info_to q qs p t n (max_first t p higher) step)
    by_test false higher false lower =
        let t = fold int_max q qs in
        let n = count_by (int_le t) (q ∷ qs) in
        rw (higher, lower) (info_to q qs p t (n + 1) (max_first t p higher) (ap (λ b. n + cond b 1 0) (at_top t p lower)))
