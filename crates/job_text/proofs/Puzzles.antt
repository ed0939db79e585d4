-- What a puzzle line is, from what its text was read as.
use Rattle.std.proofs.Common.{◌≡◌, ◌<◌, ◌≤◌, ℕ, suc, Bool, true, false, cond, eqb, leb, List, [], ◌∷◌, length, get_or, map, refl, sym, ap}
use Rattle.std.proofs.Common.{◌∙◌, inl, inr, ◌⊎◌, ◌&&◌, ◌||◌, arith}
use Rattle.std.specs.List.{list_all}
use Rattle.std.proofs.lemmas.Bool.{and_parts, and_from, cond-true, cond-false, eqb-true, eq-eqb, leb-true, le-leb}
use Rattle.std.proofs.lemmas.List.Elements.{All-get_or}
use Rattle.std.proofs.lemmas.List.Folds.{list_all_at}
use Rattle.sudoku_law.specs.Grid.{Cells}
use Rattle.sudoku_law.specs.Text.{sign}
use Rattle.sudoku_rules.specs.Sides.{IsSize, side_for}
use Rattle.sudoku_rules.specs.Reading.{IsCellSign, IsFirstBad, Reads, digit_of}
use Rattle.sudoku_rules.proofs.Reading.{sign_reads}
use Rattle.job_text.specs.declared.faults.LineWhy.TheVariants.{Length, Character}
use Rattle.job_text.specs.Kinds.{Kind, puzzle, bad, is_size, is_cell_sign, puzzle_kind}

or_from : (a b : Bool) → b ≡ true → (a || b) ≡ true
or_from true b e = refl
or_from false b e = e

not_true : (b : Bool) → (b ≡ true → ⊥) → b ≡ false
not_true true never = absurd (never refl)
not_true false never = refl

or_parts : (a b : Bool) → (a || b) ≡ true → (a ≡ true) ⊎ (b ≡ true)
or_parts true b e = inl refl
or_parts false b e = inr e

-- the tests say what the facts say
sign_is : (n b : ℕ) → IsCellSign n b → is_cell_sign n b ≡ true
sign_is n b (inl dot) = ap (λ t. t || (leb (digit_of b) n && eqb (sign (digit_of b)) b)) (eq-eqb b 46 dot)
sign_is n b (inr (d, few, is)) =
    let e : digit_of b ≡ d = ap digit_of is ∙ sign_reads d in
    let le : digit_of b ≤ n = omega arith in
    or_from (eqb b 46) _
    (and_from (leb (digit_of b) n) (eqb (sign (digit_of b)) b) (le-leb (digit_of b) n le) (eq-eqb (sign (digit_of b)) b (ap
    sign e ∙ sym is)))

-- a byte that passes is a sign of a cell
pub is_sign : (n b : ℕ) → is_cell_sign n b ≡ true → IsCellSign n b
is_sign n b t = elim (or_parts (eqb b 46) (leb (digit_of b) n && eqb (sign (digit_of b)) b) t) [
  | inl dot ↦ inl (eqb-true b 46 dot)
  | inr both ↦
      let parts = and_parts (leb (digit_of b) n) (eqb (sign (digit_of b)) b) both in
      inr (digit_of b, leb-true (digit_of b) n parts.0, sym (eqb-true (sign (digit_of b)) b parts.1))
]

size_is : (n : ℕ) → IsSize n → is_size n ≡ true
size_is n (inl e) = rw e refl
size_is n (inr (inl e)) = rw e refl
size_is n (inr (inr e)) = rw e refl

-- a length that passes is that of a grid
pub is_size_of : (n : ℕ) → is_size n ≡ true → IsSize n
is_size_of n t = elim (or_parts (eqb n 16 || eqb n 81) (eqb n 256) t) [
  | inl less ↦ elim (or_parts (eqb n 16) (eqb n 81) less) [ inl e ↦ inl (eqb-true n 16 e) | inr e ↦ inr (inl (eqb-true n 81 e)) ]
  | inr e ↦ inr (inr (eqb-true n 256 e))
]

all_pass : (p : ℕ → Bool) (xs : List ℕ) → ((k : ℕ) → k < length xs → p (get_or xs k 0) ≡ true) → list_all p xs ≡ true
all_pass p [] each = refl
all_pass p (x ∷ xs) each = and_from (p x) (list_all p xs) (each 0 (omega arith)) (all_pass p xs (λ k lt. each (suc k) (omega arith)))

-- a puzzle line
abbrev signed : List ℕ → Kind
signed text = cond (list_all (is_cell_sign (side_for (length text))) text) (puzzle (map digit_of text)) (bad Character)

-- a text that reads as a grid is a puzzle
pub grid_read : (text : List ℕ) (g : Cells) → Reads text g → puzzle_kind text ≡ puzzle g
unfolding puzzle_kind
grid_read text g r =
    let n = side_for (length text) in
    let passes = all_pass (is_cell_sign n) text (λ k lt. sign_is n (get_or text k 0) (All-get_or (IsCellSign n) text k 0 lt r.signs)) in
    cond-true (is_size (length text)) (signed text) (bad (Length (length text))) (size_is (length text) r.long)
    ∙ cond-true (list_all (is_cell_sign n) text) (puzzle (map digit_of text)) (bad Character) passes ∙ ap puzzle (sym r.cells)

-- a text of another length is refused for its length
pub no_length : (text : List ℕ) → (IsSize (length text) → ⊥) → puzzle_kind text ≡ bad (Length (length text))
unfolding puzzle_kind
no_length text never =
    cond-false (is_size (length text)) (signed text) (bad (Length (length text)))
    (not_true (is_size (length text)) (λ t. never (is_size_of (length text) t)))

-- a text with a bad character is refused for it
pub no_character : (text : List ℕ) (k : ℕ) → IsFirstBad text k → puzzle_kind text ≡ bad Character
unfolding puzzle_kind
no_character text k is =
    let n = side_for (length text) in
    let fails = not_true (is_cell_sign n (get_or text k 0)) (λ t. is.bad (is_sign n (get_or text k 0) t)) in
    cond-true (is_size (length text)) (signed text) (bad (Length (length text))) (size_is (length text) is.long)
    ∙ cond-false (list_all (is_cell_sign n) text) (puzzle (map digit_of text)) (bad Character) (list_all_at (is_cell_sign n) text k 0
    is.within fails)
