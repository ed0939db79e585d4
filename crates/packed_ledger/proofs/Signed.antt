-- Priorities without a sign.
use Rattle.std.proofs.Common.{ℕ, zero, suc, ◌≡◌, ◌+◌, ◌-◌, ◌*◌, ◌/◌, ◌%◌, ◌^◌, ◌<◌, ℤ}
use Rattle.std.proofs.Common.{pos, negsuc, ◌-ℤ◌, unsigned_abs, true, false, refl, sym, ap, ◌∙◌, zero-add, w32, arith}
use Rattle.std.proofs.lemmas.Bool.{eq-eqb, ne_eqb, ltb-true, true≢false}
use Rattle.std.proofs.lemmas.Int.{to_z-of_z, to_z_pos}
use lib.Signed.{lt_z}
use mir.Val.{SFits, of_z, to_z}
use Rattle.packed_ledger.specs.inside.Numbers.{unsigned, signed}

signed_even : (n : ℕ) → n % 2 ≡ 0 → signed n ≡ pos (n / 2)
unfolding signed
signed_even n h = rw (eq-eqb (n % 2) 0 h)

signed_odd : (n : ℕ) → (n % 2 ≡ 0 → ⊥) → signed n ≡ negsuc (n / 2)
unfolding signed
signed_odd n h = rw (ne_eqb (n % 2) 0 h)

-- a priority comes back
pub comes_back : (z : ℤ) → signed (unsigned z) ≡ z
unfolding unsigned
comes_back (pos n) =
    let even : (2 * n) % 2 ≡ 0 = omega arith in
    let half : (2 * n) / 2 ≡ n = omega arith in
    signed_even (2 * n) even ∙ ap (λ (k : ℕ). pos k) half
comes_back (negsuc n) =
    let half : (2 * n + 1) / 2 ≡ n = omega arith in
    signed_odd (2 * n + 1) (λ e. omega arith) ∙ ap (λ (k : ℕ). negsuc k) half

pub even_is : (n : ℕ) → n < 2 ^ 32 → n % 2 ≡ 0 → to_z w32 (n / 2) ≡ signed n
even_is n h even = to_z_pos w32 (n / 2) (omega arith) ∙ sym (signed_even n even)

minus_one : (n : ℕ) → negsuc 0 -ℤ pos n ≡ negsuc n
minus_one zero = refl
minus_one (suc n) = ap (λ (k : ℕ). negsuc (suc k)) (zero-add n)

pub odd_is : (n : ℕ) → n < 2 ^ 32 → (n % 2 ≡ 0 → ⊥) → to_z w32 (of_z w32 (negsuc 0 -ℤ to_z w32 (n / 2))) ≡ signed n
odd_is n h odd =
    let half : to_z w32 (n / 2) ≡ pos (n / 2) = to_z_pos w32 (n / 2) (omega arith) in
    let fits : SFits w32 (negsuc (n / 2)) = record { sfits = omega arith } in
    ap (λ (z : ℤ). to_z w32 (of_z w32 (negsuc 0 -ℤ z))) half
    ∙ ap (λ (z : ℤ). to_z w32 (of_z w32 z)) (minus_one (n / 2))
    ∙ to_z-of_z w32 (negsuc (n / 2)) fits
    ∙ sym (signed_odd n odd)

pub up_is : (z : ℤ) (size : ℕ) → size ≡ unsigned_abs z → lt_z z (pos 0) ≡ false → size + size ≡ unsigned z
unfolding unsigned
up_is (pos n) size e up = omega arith
up_is (negsuc n) size e up = absurd (true≢false up)

pub down_is : (z : ℤ) (size : ℕ) → size ≡ unsigned_abs z → lt_z z (pos 0) ≡ true → size + (size - 1) ≡ unsigned z
unfolding unsigned
down_is (pos n) size e down = absurd (omega (arith, ltb-true n 0 down))
down_is (negsuc n) size e down = omega arith
