-- The texts of two grids are in the order of the grids.
use Rattle.std.proofs.Common.{◌≡◌, ◌<◌, ℕ, List, [], ◌∷◌, refl, sym, ap, ◌∙◌, inl, inr, arith}
use Rattle.std.specs.Cmp.Lexicographic.{slice_cmp}
use Rattle.std.specs.Ordering.{nat_cmp, ordering_then}
use Rattle.std.specs.declared.cmp.Ordering.{Ordering}
use Rattle.std.specs.declared.cmp.Ordering.TheVariants.{Less, Equal, Greater}
use Rattle.std.proofs.lemmas.Bool.{cases_order, lt-ltb, le-ltb, eq-eqb, ne_eqb}
use Rattle.std.proofs.lemmas.Bool.Decides.{nat_tests}
use Rattle.sudoku_law.specs.Text.{sign, text_of}

sign_rises : (a b : ℕ) → a < b → sign a < sign b
sign_rises a b less = grind (arith, nat_tests)

cmp_less : (a b : ℕ) → a < b → nat_cmp a b ≡ Less
cmp_less a b less = rw (lt-ltb a b less) refl

cmp_same : (a b : ℕ) → a ≡ b → nat_cmp a b ≡ Equal
cmp_same a b same = rw (le-ltb a b (omega arith), eq-eqb a b same) refl

cmp_more : (a b : ℕ) → b < a → nat_cmp a b ≡ Greater
cmp_more a b more = rw (le-ltb a b (omega arith), ne_eqb a b (λ e. omega arith)) refl

sign_cmp : (a b : ℕ) → nat_cmp (sign a) (sign b) ≡ nat_cmp a b
sign_cmp a b = elim (cases_order a b) [
  | inl same ↦ cmp_same (sign a) (sign b) (ap sign same) ∙ sym (cmp_same a b same)
  | inr (inl less) ↦ cmp_less (sign a) (sign b) (sign_rises a b less) ∙ sym (cmp_less a b less)
  | inr (inr more) ↦ cmp_more (sign a) (sign b) (sign_rises b a more) ∙ sym (cmp_more a b more)
]

-- the order of the texts is the order of the cells
pub text_order : (a b : List ℕ) → slice_cmp nat_cmp (text_of a) (text_of b) ≡ slice_cmp nat_cmp a b
text_order [] [] = refl
text_order [] (y ∷ ys) = refl
text_order (x ∷ xs) [] = refl
text_order (x ∷ xs) (y ∷ ys) = more (sign_cmp x y) (text_order xs ys)
  where
    more : {o p q r : Ordering} → o ≡ p → q ≡ r → ordering_then o q ≡ ordering_then p r
    more e f = cc
