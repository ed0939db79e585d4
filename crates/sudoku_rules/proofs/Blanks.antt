-- The blank cells of a row, one more column at a time.
use Rattle.std.proofs.Common.{◌≡◌, ◌<◌, ℕ, suc, ◌+◌, ◌*◌, ◌%◌, ◌^◌, cond, get_or, sym, ap, ◌∙◌, inl, inr, arith, w16}
use Rattle.std.specs.Int.{bit_at}
use Rattle.std.specs.Int.Bits.{bit_or}
use Rattle.std.proofs.Math.Nat.{pow-suc}
use Rattle.std.proofs.lemmas.Bool.{cases_eq, eq-eqb, ne_eqb}
use Rattle.std.proofs.lemmas.Nat.{or_lt, pow_below, one_shl}
use Rattle.std.proofs.lemmas.Nat.Bits.{bit_at_set_same, bit_at_set_other, bit_at_above}
use Rattle.sudoku_law.specs.Grid.{Cells, side}
use Rattle.sudoku_rules.specs.inside.Marked.{IsBlankRow}

grows : (n mask : ℕ) → mask < 2 ^ n → mask < 2 ^ (n + 1)
grows n mask small = let e : n + 1 ≡ suc n = omega arith in rw e (omega (arith, pow-suc 2 n))

-- before its first column no cell of a row is blank
pub row_none : (m : ℕ) (g : Cells) (row : ℕ) → IsBlankRow m g row 0 0
row_none m g row = record { small = omega arith; bits = λ k few. absurd (omega arith) }

-- a blank cell sets its bit of the row's mask
pub row_blank : (m : ℕ) (g : Cells) (row n mask : ℕ) → n < 16 → get_or g (row * side m + n) 0 ≡ 0 → IsBlankRow m g row n mask
    → IsBlankRow m g row (n + 1) (bit_or mask (1 * 2 ^ n % 65536))
row_blank m g row n mask few blank is = record {
  small = rw (one_shl n 16 (omega arith)) (or_lt (n + 1) mask (2 ^ n) (grows n mask is.small) (pow_below n (n + 1) (omega arith)));
  bits = λ k below. elim (cases_eq k n) [
    | inl same ↦
        ap (λ i. bit_at (bit_or mask (1 * 2 ^ n % 65536)) i) same
        ∙ bit_at_set_same w16 mask n (omega arith)
        ∙ sym (ap (λ b. cond b 1 0) (eq-eqb (get_or g (row * side m + k) 0) 0 (ap (λ i. get_or g (row * side m + i) 0) same ∙ blank)))
    | inr differs ↦ bit_at_set_other w16 mask n (omega arith) k differs ∙ is.bits k (omega arith)
  ];
}

-- a cell with a digit leaves the row's mask
pub row_full : (m : ℕ) (g : Cells) (row n mask : ℕ) → (get_or g (row * side m + n) 0 ≡ 0 → ⊥) → IsBlankRow m g row n mask
    → IsBlankRow m g row (n + 1) mask
row_full m g row n mask full is = record {
  small = grows n mask is.small;
  bits = λ k below. elim (cases_eq k n) [
    | inl same ↦
        bit_at_above mask n k is.small (omega arith)
        ∙ sym (ap (λ b. cond b 1 0)
        (ne_eqb (get_or g (row * side m + k) 0) 0 (λ e. full (ap (λ i. get_or g (row * side m + i) 0) (sym same) ∙ e))))
    | inr differs ↦ is.bits k (omega arith)
  ];
}
