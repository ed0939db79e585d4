-- How long the made texts are.
use Rattle.std.proofs.Common.{◌≡◌, ◌∙◌, inl, inr, ℕ, zero, suc, ◌+◌, ◌*◌, ◌/◌, ◌%◌, ◌^◌, ◌<◌, ◌≤◌, List, [], ◌++◌, eqb, length, refl, ap}
use Rattle.std.proofs.Common.{arith, length-append, length-set, div-add-mod'}
use Rattle.std.specs.Prelude.{codes}
use Rattle.std.proofs.lemmas.Bool.{cond-true, cond-false, eq-eqb, ne_eqb, cases_eq}
use Rattle.std.proofs.lemmas.List.{length-map}
use Rattle.std.proofs.lemmas.Nat.{mod_below}
use Rattle.rand_pcg.specs.Lcg.{Lcg}
use Rattle.made_jobs.specs.Made.{batch_of, blanks, draw, full_grid, lines_of, made, made_text, puzzle, relabelled, seeded, shuffled}
use Rattle.made_jobs.proofs.Relabelling.{grid_long}

blanks_long : (times : ℕ) (at : List ℕ × Lcg) → length (blanks times at).0 ≡ length at.0
unfolding blanks
blanks_long zero at = refl
blanks_long (suc times) at = length-set (blanks times at).0 ((draw (blanks times at).1).0 % 81) 46 ∙ blanks_long times at

-- a relabelled grid has 81 signs
pub relabelled_long : (signs : List ℕ) → length (relabelled signs) ≡ 81
unfolding relabelled
relabelled_long signs = length-map full_grid _ ∙ grid_long

-- a made puzzle has 81 signs
pub puzzle_long : (generator : Lcg) → length (puzzle generator).0 ≡ 81
unfolding puzzle
puzzle_long generator =
    blanks_long 40 (relabelled (shuffled generator).0, (shuffled generator).1) ∙ relabelled_long (shuffled generator).0

-- the lines of a puzzle: its signs and a line feed; with a batch its signs once more, with 27 bytes about them
lines_with_long : (number : ℕ) (signs : List ℕ) → number % 8 ≡ 0 → length (lines_of number signs) ≡ 2 * length signs + 28
unfolding lines_of
lines_with_long number signs eighth =
    ap (λ l. length (signs ++ codes "\n" ++ l)) (cond-true (eqb (number % 8) 0) (batch_of signs) [] (eq-eqb (number % 8) 0 eighth))
    ∙ sizes signs (codes "\n") (codes "batch ") (codes "\ncount 49 53\nsum\nmax\n") refl refl refl
  where
    sizes : (s n b i : List ℕ) → length n ≡ 1 → length b ≡ 6 → length i ≡ 21 → length (s ++ n ++ (b ++ s ++ i)) ≡ 2 * length s + 28
    sizes s n b i one six more =
        omega (arith, one, six, more, length-append (s ++ n) (b ++ s ++ i), length-append s n, length-append (b ++ s) i, length-append b s)

lines_without_long : (number : ℕ) (signs : List ℕ) → (number % 8 ≡ 0 → ⊥) → length (lines_of number signs) ≡ length signs + 1
unfolding lines_of
lines_without_long number signs other =
    ap (λ l. length (signs ++ codes "\n" ++ l)) (cond-false (eqb (number % 8) 0) (batch_of signs) [] (ne_eqb (number % 8) 0 other))
    ∙ sizes signs (codes "\n") refl
  where
    sizes : (s n : List ℕ) → length n ≡ 1 → length (s ++ n ++ []) ≡ length s + 1
    sizes s n one = omega (arith, one, length-append (s ++ n) [], length-append s n)

-- one more puzzle is a line of 82 bytes, and 108 bytes follow each eighth
one_more : (count line lines before : ℕ) → line ≡ 81 → (suc count % 8 ≡ 0 → lines ≡ 2 * line + 28)
    → ((suc count % 8 ≡ 0 → ⊥) → lines ≡ line + 1) → before ≡ 82 * count + 108 * (count / 8)
    → before + lines ≡ 82 * suc count + 108 * (suc count / 8)
one_more count line lines before long eighth other is =
    let old : count / 8 * 8 + count % 8 ≡ count = div-add-mod' count 8 in
    let now : suc count / 8 * 8 + suc count % 8 ≡ suc count = div-add-mod' (suc count) 8 in
    let low : count % 8 < 8 = mod_below count 8 (omega arith) in
    let below : suc count % 8 < 8 = mod_below (suc count) 8 (omega arith) in
    elim (cases_eq (suc count % 8) 0) [
      | inl e ↦ omega (arith, long, is, eighth e, e, old, now, low, below)
      | inr e ↦ omega (arith, long, is, other e, e, old, now, low, below)
    ]

-- `count` made puzzles have 82 bytes each, and 108 bytes for each eighth
pub made_long : (count : ℕ) (generator : Lcg) → length (made count generator).0 ≡ 82 * count + 108 * (count / 8)
unfolding made
made_long zero generator = refl
made_long (suc count) generator =
    let before : List ℕ = (made count generator).0 in
    let line : List ℕ = (puzzle (made count generator).1).0 in
    let lines : List ℕ = lines_of (suc count) line in
    length-append before lines
    ∙ one_more count (length line) (length lines) (length before) (puzzle_long (made count generator).1)
    (lines_with_long (suc count) line) (lines_without_long (suc count) line) (made_long count generator)

-- a made text of at most 100,000 puzzles has at most 2^24 bytes
pub text_short : (count seed : ℕ) → count ≤ 100000 → length (made_text count seed) ≤ 2 ^ 24
text_short count seed few = omega (arith, few, made_long count (seeded seed), div-add-mod' count 8)
