-- What one more word, and one more puzzle, makes of what was made before.
use Rattle.std.proofs.Common.{◌≡◌, ◌∙◌, ℕ, zero, suc, ◌+◌, ◌-◌, ◌%◌, ◌<◌, ◌≤◌, List, [], ◌++◌, eqb, refl, sym, ap, add-one, append_assoc}
use Rattle.std.proofs.Common.{append-nil, arith}
use Rattle.std.specs.Prelude.{codes, slice_set, swap}
use Rattle.std.proofs.lemmas.Bool.{cond-true, cond-false, eq-eqb, ne_eqb}
use Rattle.rand_pcg.specs.Lcg.{Lcg}
use Rattle.made_jobs.specs.Made.{batch_of, blank, blanks, draw, exchanges, lines_of, made, puzzle}

-- the exchange at the last place is done, and those before it are left
pub exchanges_on : (place w : ℕ) (signs : List ℕ) (g next : Lcg) (end : List ℕ × Lcg) → 0 < place → (w, next) ≡ draw g
    → exchanges place (signs, g) ≡ end → exchanges (place - 1) (swap signs place (w % (place + 1)), next) ≡ end
unfolding exchanges
exchanges_on zero w signs g next end some drawn is = absurd (omega (arith, some))
exchanges_on (suc before) w signs g next end some drawn is =
    let e : suc before - 1 ≡ before = omega arith in
    ap (λ n. exchanges n (swap signs (suc before) (w % (suc before + 1)), next)) e
    ∙ ap (λ d. exchanges before (swap signs (suc before) (d.0 % (suc before + 1)), d.1)) drawn
    ∙ is

-- an exchange of a loop whose places that are left end before a number
pub exchanges_next : (place w : ℕ) (signs swapped : List ℕ) (g next : Lcg) (end : List ℕ × Lcg) → 1 < place → (w, next) ≡ draw g
    → swapped ≡ swap signs (place - 1) (w % (place - 1 + 1)) → exchanges (place - 1) (signs, g) ≡ end
    → exchanges (place - 1 - 1) (swapped, next) ≡ end
exchanges_next place w signs swapped g next end some drawn is before =
    ap (λ xs. exchanges (place - 1 - 1) (xs, next)) is ∙ exchanges_on (place - 1) w signs g next end (omega (arith, some)) drawn before

-- no exchange is left
pub exchanged_all : (place : ℕ) (at end : List ℕ × Lcg) → place ≤ 1 → 1 ≤ place → exchanges (place - 1) at ≡ end → at ≡ end
unfolding exchanges
exchanged_all place at end few some is =
    let none : place - 1 ≡ 0 = omega (arith, few, some) in
    sym (ap (λ n. exchanges n at) none) ∙ is

-- one more cell is blanked
pub blanks_on : (times w : ℕ) (cells : List ℕ) (g next : Lcg) (start : List ℕ × Lcg) → (w, next) ≡ draw g
    → (cells, g) ≡ blanks times start → (slice_set cells (w % 81) 46, next) ≡ blanks (times + 1) start
unfolding blanks
blanks_on times w cells g next start drawn is =
    ap (λ d. (slice_set cells (d.0 % 81) 46, d.1)) drawn ∙ ap (λ at. blank at) is ∙ ap (λ n. blanks n start) (sym (add-one times))

-- one more puzzle
pub made_on : (count : ℕ) (text signs : List ℕ) (g next start : Lcg) → (signs, next) ≡ puzzle g → (text, g) ≡ made count start
    → (text ++ lines_of (count + 1) signs, next) ≡ made (count + 1) start
unfolding made
made_on count text signs g next start drawn is =
    ap (λ n. (text ++ lines_of n signs, next)) (add-one count)
    ∙ ap (λ d. (text ++ lines_of (suc count) d.0, d.1)) drawn
    ∙ ap (λ b. (b.0 ++ lines_of (suc count) (puzzle b.1).0, (puzzle b.1).1)) is
    ∙ ap (λ n. made n start) (sym (add-one count))

-- the lines of a puzzle, piece by piece, with a batch and without
pub lines_with : (number : ℕ) (text signs : List ℕ) → number % 8 ≡ 0
    → text ++ signs ++ codes "\n" ++ codes "batch " ++ signs ++ codes "\ncount 49 53\nsum\nmax\n" ≡ text ++ lines_of number signs
unfolding lines_of
lines_with number text signs eighth =
    associated text signs (codes "\n") (codes "batch ") (codes "\ncount 49 53\nsum\nmax\n")
    ∙ ap (λ l. text ++ (signs ++ codes "\n" ++ l))
    (sym (cond-true (eqb (number % 8) 0) (batch_of signs) [] (eq-eqb (number % 8) 0 eighth)))
  where
    associated : (t s n b i : List ℕ) → t ++ s ++ n ++ b ++ s ++ i ≡ t ++ (s ++ n ++ (b ++ s ++ i))
    associated t s n b i = simp append_assoc refl

-- a puzzle whose number is no multiple of 8 is one line
pub lines_without : (number : ℕ) (text signs : List ℕ) → (number % 8 ≡ 0 → ⊥) → text ++ signs ++ codes "\n" ≡ text ++ lines_of number signs
unfolding lines_of
lines_without number text signs other =
    associated text signs (codes "\n")
    ∙ ap (λ l. text ++ (signs ++ codes "\n" ++ l))
    (sym (cond-false (eqb (number % 8) 0) (batch_of signs) [] (ne_eqb (number % 8) 0 other)))
  where
    associated : (t s n : List ℕ) → t ++ s ++ n ≡ t ++ (s ++ n ++ [])
    associated t s n = simp (append_assoc, append-nil) refl
