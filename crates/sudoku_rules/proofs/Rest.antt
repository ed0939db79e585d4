-- The bits of a mask taken one by one, the lowest first.
use Rattle.std.proofs.Common.{◌≡◌, ◌<◌, ◌≤◌, ℕ, ◌+◌, ◌-◌, ◌*◌, ◌%◌, ◌^◌, min, Bool, true, false, cond, ◌&&◌, leb, refl, sym, ap, ◌∙◌, inl}
use Rattle.std.proofs.Common.{inr, arith, w16}
use Rattle.std.specs.Int.{bit_at, trailing_zeros}
use Rattle.std.specs.Int.Bits.{bit_and}
use Rattle.std.proofs.lemmas.Bool.{cases_eq, cases_lt, cases_order, and_parts, and_cases, and_left, leb-true, leb-false, le-leb, lt-leb}
use Rattle.std.proofs.lemmas.Nat.{and_le_l, pow_below, one_shl}
use Rattle.std.proofs.lemmas.Nat.Bits.{bit_at_and, bit_at_not, bit_at_above, bit_at-trailing_zeros, bit_at-pow_same, bit_at-pow_other}
use Rattle.std.proofs.lemmas.Nat.Bits.{bit_at-lt, bit_at-zero}
use Rattle.sudoku_rules.specs.inside.Marked.{IsRest, IsNext}

-- the mask without bit k
abbrev pub without : ℕ → ℕ → ℕ
without mask k = bit_and mask (65535 - 2 ^ k)

cond_one : (b : Bool) → ◌≡◌ {A = ℕ} (cond b 1 0) 1 → b ≡ true
cond_one true e = refl
cond_one false e = absurd (omega arith)

cond_none : (b : Bool) → ◌≡◌ {A = ℕ} (cond b 1 0) 0 → b ≡ false
cond_none true e = absurd (omega arith)
cond_none false e = refl

-- a mask without a bit has the other bits
pub without_bits : (mask k j : ℕ) → k < 16 → j < 16 → bit_at (without mask k) j ≡ min (bit_at mask j) (1 - bit_at (2 ^ k) j)
without_bits mask k j few low =
    bit_at_and mask (65535 - 2 ^ k) j ∙ ap (λ b. min (bit_at mask j) b) (bit_at_not w16 (2 ^ k) j (pow_below k 16 few) low)

-- bit k is gone
pub without_same : (mask k : ℕ) → k < 16 → bit_at (without mask k) k ≡ 0
without_same mask k few =
    let e : bit_at (2 ^ k) k ≡ 1 = bit_at-pow_same k in
    without_bits mask k k few few ∙ omega arith

-- and the others are as they were
pub without_other : (mask k j : ℕ) → k < 16 → j < 16 → (j ≡ k → ⊥) → bit_at (without mask k) j ≡ bit_at mask j
without_other mask k j few low differs =
    let e : bit_at (2 ^ k) j ≡ 0 = bit_at-pow_other k j differs in
    let small : bit_at mask j < 2 = bit_at-lt mask j in
    without_bits mask k j few low ∙ omega arith

-- a mask without a bit that it had is less
pub without_falls : (mask k : ℕ) → k < 16 → bit_at mask k ≡ 1 → without mask k < mask
without_falls mask k few is_set = elim (cases_eq (without mask k) mask) [
  | inl same ↦ absurd (let e : bit_at mask k ≡ 0 = ap (λ v. bit_at v k) (sym same) ∙ without_same mask k few in omega arith)
  | inr differs ↦ let le : without mask k ≤ mask = and_le_l mask (65535 - 2 ^ k) in omega arith
]

-- the lowest bit that is set is the next that passes
pub rest_next : (n : ℕ) (p : ℕ → Bool) (from mask k : ℕ) → k < n → bit_at mask k ≡ 1 → ((j : ℕ) → j < k → bit_at mask j ≡ 0)
    → IsRest n p from mask → IsNext n p from k
rest_next n p from mask k few is_set lower is =
    let here = and_parts (leb from k) (p k) (cond_one (leb from k && p k) (sym (is.bits k few) ∙ is_set)) in
    record {
      few = few;
      low = leb-true from k here.0;
      passes = here.1;
      others = λ j above below. elim
          (and_cases (leb from j) (p j) (cond_none (leb from j && p j) (sym (is.bits j (omega arith)) ∙ lower j below))) [
            | inl before ↦ absurd (let e : j < from = leb-false from j before in omega arith)
            | inr fails ↦ fails
          ];
    }

-- without its lowest bit the mask is that of those after it
pub rest_more : (n : ℕ) (p : ℕ → Bool) (from mask k : ℕ) → n ≤ 16 → k < n → bit_at mask k ≡ 1 → ((j : ℕ) → j < k → bit_at mask j ≡ 0)
    → IsRest n p from mask → IsRest n p (k + 1) (without mask k)
rest_more n p from mask k within few is_set lower is = record {
  small = let le : without mask k ≤ mask = and_le_l mask (65535 - 2 ^ k) in omega (arith, is.small);
  bits = λ j low. elim (cases_order j k) [
    | inl same ↦
        ap (λ i. bit_at (without mask k) i) same ∙ without_same mask k (omega arith)
        ∙ sym (ap (λ b. cond b 1 0) (and_left (leb (k + 1) j) (p j) (lt-leb (k + 1) j (omega arith))))
    | inr (inl less) ↦
        without_other mask k j (omega arith) (omega arith) (λ e. omega arith) ∙ lower j less
        ∙ sym (ap (λ b. cond b 1 0) (and_left (leb (k + 1) j) (p j) (lt-leb (k + 1) j (omega arith))))
    | inr (inr more) ↦
        let low_k : from ≤ k = (rest_next n p from mask k few is_set lower is).low in
        without_other mask k j (omega arith) (omega arith) (λ e. omega arith) ∙ is.bits j low
        ∙ ap (λ b. cond (b && p j) 1 0) (le-leb from j (omega arith) ∙ sym (le-leb (k + 1) j (omega arith)))
  ];
}

-- where no bit is left none passes
pub rest_none : (n : ℕ) (p : ℕ → Bool) (from k : ℕ) → IsRest n p from 0 → from ≤ k → k < n → p k ≡ false
rest_none n p from k is above few =
    elim (and_cases (leb from k) (p k) (cond_none (leb from k && p k) (sym (is.bits k few) ∙ bit_at-zero k))) [
      | inl before ↦ absurd (let e : k < from = leb-false from k before in omega arith)
      | inr fails ↦ fails
    ]

-- at first all are left
pub rest_all : (n : ℕ) (p : ℕ → Bool) (mask : ℕ) → mask < 2 ^ n → ((k : ℕ) → k < n → bit_at mask k ≡ cond (p k) 1 0) → IsRest n p 0 mask
rest_all n p mask small bits = record {
  small = small;
  bits = λ k few. bits k few ∙ ap (λ b. cond (b && p k) 1 0) (sym (le-leb 0 k (omega arith)));
}

-- the lowest bit of a mask
abbrev pub lowest : ℕ → ℕ
lowest mask = trailing_zeros w16 mask

-- the mask without it, as the code has it
abbrev pub less_lowest : ℕ → ℕ
less_lowest mask = bit_and mask (65535 - 1 * 2 ^ lowest mask % 65536)

less_is : (mask : ℕ) → lowest mask < 16 → less_lowest mask ≡ without mask (lowest mask)
less_is mask few = ap (λ v. bit_and mask (65535 - v)) (one_shl (lowest mask) 16 few)

-- a mask without its lowest bit is less
pub lowest_falls : (mask : ℕ) → 0 < mask → mask < 2 ^ 16 → less_lowest mask < mask
lowest_falls mask some small =
    let bits = bit_at-trailing_zeros w16 mask some small in
    rw (less_is mask bits.0) (without_falls mask (lowest mask) bits.0 bits.1)

-- the lowest bit is the next that passes, and the others come after it
pub lowest_rest : (n : ℕ) (p : ℕ → Bool) (from mask : ℕ) → n ≤ 16 → 0 < mask → mask < 2 ^ 16 → IsRest n p from mask
    → IsNext n p from (lowest mask) × IsRest n p (lowest mask + 1) (less_lowest mask)
lowest_rest n p from mask within some small is =
    let bits = bit_at-trailing_zeros w16 mask some small in
    let few : lowest mask < n = elim (cases_lt (lowest mask) n) [
      | inl less ↦ less
      | inr more ↦ absurd (let e : bit_at mask (lowest mask) ≡ 0 = bit_at_above mask n (lowest mask) is.small more in omega (arith, bits.1))
    ] in (
      rest_next n p from mask (lowest mask) few bits.1 bits.2 is,
      rw (less_is mask bits.0)
          (rest_more n p from mask (lowest mask) within few bits.1 bits.2 is),
    )
