-- Planes: what is in two of them, in either, and in one and not in the other; and how many have a cell.
use Rattle.std.proofs.Common.{◌≡◌, ◌<◌, ◌≤◌, ℕ, zero, suc, ◌+◌, ◌-◌, ◌*◌, ◌%◌, ◌^◌, min, max, Bool, true, false, cond, ◌&&◌, ◌||◌, not}
use Rattle.std.proofs.Common.{List, length, get_or, refl, sym, ap, ◌∙◌, inl, inr, arith, eqb, ltb, leb, add-one, w16}
use Rattle.std.specs.Int.{bit_at, trailing_zeros, w128}
use Rattle.std.specs.Int.Bits.{bit_and, bit_or}
use Rattle.std.proofs.lemmas.Bool.{cases_eq, cases_lt, eq-eqb, ne_eqb, lt-ltb, le-ltb, ltb-true, le-leb, lt-leb, and_left, and_right}
use Rattle.std.proofs.lemmas.Bool.{not-false}
use Rattle.std.proofs.lemmas.Nat.{pow_pos, one_shl, or_lt, pow_below}
use Rattle.std.proofs.Math.Nat.{pow-suc}
use Rattle.std.proofs.lemmas.Nat.Bits.{bit_at_and, bit_at_or, bit_at_not, bit_at_above, bit_at-lt, bit_at-zero, bit_at-pow_same}
use Rattle.std.proofs.lemmas.Nat.Bits.{bit_at-pow_other, bit_at-trailing_zeros, bit_at_set_same, bit_at_set_other, and_pow}
use Rattle.sudoku_law.specs.Grid.{how_many}
use Rattle.sudoku_rules.proofs.AnyBelow.{and_true}
use Rattle.sudoku_rules.specs.declared.planes.Levels.{Levels}
use Rattle.sudoku_rules.specs.inside.Planes.{AreFewest, AreLevels, has, many}

-- bits as tests

both_bits : (a b : ℕ) → a < 2 → b < 2 → eqb (min a b) 1 ≡ (eqb a 1 && eqb b 1)
both_bits zero b p q = let e : min 0 b ≡ 0 = omega arith in ap (λ v. eqb v 1) e
both_bits (suc zero) b p q = let e : min 1 b ≡ b = omega arith in ap (λ v. eqb v 1) e
both_bits (suc (suc a)) b p q = absurd (omega arith)

either_bit : (a b : ℕ) → a < 2 → b < 2 → eqb (max a b) 1 ≡ (eqb a 1 || eqb b 1)
either_bit zero b p q = let e : max 0 b ≡ b = omega arith in ap (λ v. eqb v 1) e
either_bit (suc zero) b p q = let e : max 1 b ≡ 1 = omega arith in ap (λ v. eqb v 1) e
either_bit (suc (suc a)) b p q = absurd (omega arith)

other_bit : (a : ℕ) → a < 2 → eqb (1 - a) 1 ≡ not (eqb a 1)
other_bit zero p = refl
other_bit (suc zero) p = refl
other_bit (suc (suc a)) p = absurd (omega arith)

-- a cell is in two planes
pub has_and : (a b k : ℕ) → has (bit_and a b) k ≡ (has a k && has b k)
has_and a b k = ap (λ v. eqb v 1) (bit_at_and a b k) ∙ both_bits (bit_at a k) (bit_at b k) (bit_at-lt a k) (bit_at-lt b k)

-- a cell is in one of two planes
pub has_or : (a b k : ℕ) → has (bit_or a b) k ≡ (has a k || has b k)
has_or a b k = ap (λ v. eqb v 1) (bit_at_or a b k) ∙ either_bit (bit_at a k) (bit_at b k) (bit_at-lt a k) (bit_at-lt b k)

-- no cell is in the empty plane
pub has_none : (k : ℕ) → has 0 k ≡ false
has_none k = ap (λ v. eqb v 1) (bit_at-zero k)

-- the same of a plane that is the empty one
pub none_has : (plane k : ℕ) → plane ≡ 0 → has plane k ≡ false
none_has plane k none = ap (λ p. has p k) none ∙ has_none k

-- the cells of a plane that are not in another
pub has_less : (a b k : ℕ) → a < 2 ^ 128 → b < 2 ^ 128 → has (bit_and a (2 ^ 128 - 1 - b)) k ≡ (has a k && not (has b k))
has_less a b k a_small b_small = has_and a (2 ^ 128 - 1 - b) k ∙ elim (cases_lt k 128) [
  | inl less ↦
      ap (λ v. has a k && eqb v 1) (bit_at_not w128 b k b_small less)
      ∙ ap (λ t. has a k && t) (other_bit (bit_at b k) (bit_at-lt b k))
  | inr more ↦
      let off : has a k ≡ false = ap (λ v. eqb v 1) (bit_at_above a 128 k a_small more) in
      and_left (has a k) (has (2 ^ 128 - 1 - b) k) off ∙ sym (and_left (has a k) (not (has b k)) off)
]

-- one cell
pub has_one : (cell k : ℕ) → has (2 ^ cell) k ≡ eqb k cell
has_one cell k = elim (cases_eq k cell) [
  | inl same ↦
      ap (λ v. eqb v 1) (ap (λ i. bit_at (2 ^ cell) i) same ∙ bit_at-pow_same cell) ∙ sym (eq-eqb k cell same)
  | inr differs ↦ ap (λ v. eqb v 1) (bit_at-pow_other cell k differs) ∙ sym (ne_eqb k cell differs)
]

-- the bit of a test
pub bit_is : (plane k : ℕ) → bit_at plane k ≡ cond (has plane k) 1 0
bit_is plane k = at (bit_at plane k) (bit_at-lt plane k)
  where
    at : (b : ℕ) → b < 2 → b ≡ cond (eqb b 1) 1 0
    at zero p = refl
    at (suc zero) p = refl
    at (suc (suc b)) p = absurd (omega arith)

-- the test of a cell's bit
pub cell_test : (plane cell : ℕ) → not (eqb (bit_and plane (2 ^ cell)) 0) ≡ has plane cell
cell_test plane cell = at (bit_at plane cell) refl (bit_at-lt plane cell)
  where
    some : 0 < 2 ^ cell
    some = let e : 0 < 2 ^ cell = pow_pos cell in e

    at : (b : ℕ) → bit_at plane cell ≡ b → b < 2 → not (eqb (bit_and plane (2 ^ cell)) 0) ≡ eqb (bit_at plane cell) 1
    at zero is p =
        let e : bit_and plane (2 ^ cell) ≡ 0 = and_pow plane cell ∙ ap (λ v. v * 2 ^ cell) is ∙ omega arith in
        ap not (eq-eqb (bit_and plane (2 ^ cell)) 0 e) ∙ sym (ap (λ v. eqb v 1) is)
    at (suc zero) is p =
        let e : bit_and plane (2 ^ cell) ≡ 2 ^ cell = and_pow plane cell ∙ ap (λ v. v * 2 ^ cell) is ∙ omega arith in
        ap not (ne_eqb (bit_and plane (2 ^ cell)) 0 (λ z. omega (arith, e, some, z))) ∙ sym (ap (λ v. eqb v 1) is)
    at (suc (suc b)) is p = absurd (omega arith)

-- the first cell of a plane
pub first_has : (plane : ℕ) → 0 < plane → plane < 2 ^ 128
    → (trailing_zeros w128 plane < 128) × (has plane (trailing_zeros w128 plane) ≡ true)
    × ((k : ℕ) → k < trailing_zeros w128 plane → has plane k ≡ false)
first_has plane some small =
    let bits = bit_at-trailing_zeros w128 plane some small in (
      bits.0,
      ap (λ v. eqb v 1) bits.1,
      λ k less. ap (λ v. eqb v 1) (bits.2 k less),
    )

-- How many planes have a cell.

-- one more plane is counted if it has the cell
pub many_more : (planes : List ℕ) (n k : ℕ) → many planes (n + 1) k ≡ many planes n k + cond (has (get_or planes n 0) k) 1 0
unfolding how_many
many_more planes n k = rw add-one refl

-- of no planes none has the cell
pub many_none : (planes : List ℕ) (k : ℕ) → many planes 0 k ≡ 0
unfolding how_many
many_none planes k = refl

one_at_most : (b : Bool) → cond b 1 0 ≤ 1
one_at_most true = omega arith
one_at_most false = omega arith

few_pass : (n : ℕ) (p : ℕ → Bool) → how_many n p ≤ n
unfolding how_many
few_pass zero p = omega arith
few_pass (suc n) p = omega (arith, few_pass n p, one_at_most (p n))

-- no more planes have a cell than there are
pub many_at_most : (planes : List ℕ) (n k : ℕ) → many planes n k ≤ n
many_at_most planes n k = few_pass n (λ x. has (get_or planes x 0) k)

-- a level with one more plane
pub level_first : (h : ℕ) (b : Bool) → (ltb 0 h || b) ≡ ltb 0 (h + cond b 1 0)
level_first zero true = refl
level_first zero false = refl
level_first (suc h) b = ap (λ t. t || b) (lt-ltb 0 (suc h) (omega arith)) ∙ sym (lt-ltb 0 (suc h + cond b 1 0) (omega arith))

-- the level n where the plane has the cells of the level below that are in the one more plane
pub level_next : (n h : ℕ) (b : Bool) → (ltb n h || (leb n h && b)) ≡ ltb n (h + cond b 1 0)
level_next n h false = elim (cases_lt n h) [
  | inl less ↦ ap (λ t. t || (leb n h && false)) (lt-ltb n h less) ∙ sym (lt-ltb n (h + 0) (omega arith))
  | inr more ↦
      ap (λ t. t || (leb n h && false)) (le-ltb n h more) ∙ off (leb n h) ∙ sym (le-ltb n (h + 0) (omega arith))
]
  where
    off : (b : Bool) → (b && false) ≡ false
    off true = refl
    off false = refl
level_next n h true = elim (cases_lt n h) [
  | inl less ↦ ap (λ t. t || (leb n h && true)) (lt-ltb n h less) ∙ sym (lt-ltb n (h + 1) (omega arith))
  | inr more ↦ ap (λ t. t || (leb n h && true)) (le-ltb n h more) ∙ on (leb n h) ∙ same more
]
  where
    on : (b : Bool) → (b && true) ≡ b
    on true = refl
    on false = refl

    same : h ≤ n → leb n h ≡ ltb n (h + 1)
    same more = elim (cases_eq n h) [
      | inl is ↦ le-leb n h (omega arith) ∙ sym (lt-ltb n (h + 1) (omega arith))
      | inr differs ↦ lt-leb n h (omega arith) ∙ sym (le-ltb n (h + 1) (omega arith))
    ]

-- the level below, as a test
pub level_below : (n h : ℕ) → leb (n + 1) h ≡ ltb n h
level_below n h = elim (cases_lt n h) [
  | inl less ↦ le-leb (n + 1) h (omega arith) ∙ sym (lt-ltb n h less)
  | inr more ↦ lt-leb (n + 1) h (omega arith) ∙ sym (le-ltb n h more)
]

-- what carries on to the level above
pub carried_on : (n h : ℕ) (b : Bool) → ((leb n h && b) && ltb n h) ≡ (leb (n + 1) h && b)
carried_on n h b = elim (cases_lt n h) [
  | inl less ↦
      ap (λ t. (t && b) && ltb n h) (le-leb n h (omega arith)) ∙ ap (λ t. b && t) (lt-ltb n h less) ∙ and_true b
      ∙ sym (ap (λ t. t && b) (le-leb (n + 1) h (omega arith)))
  | inr more ↦ and_right (leb n h && b) (ltb n h) (le-ltb n h more) ∙ sym (and_left (leb (n + 1) h) b (lt-leb (n + 1) h (omega arith)))
]

-- the levels with one more plane
pub levels_with : (planes : List ℕ) (n plane : ℕ) (levels : Levels) → get_or planes n 0 ≡ plane → AreLevels planes n levels
    → AreLevels planes (n + 1) (record {
      one = bit_or levels.one plane;
      two = bit_or levels.two (bit_and levels.one plane);
      three = bit_or levels.three (bit_and levels.two plane);
    })
levels_with planes n plane levels at are = record {
  one = λ k.
      has_or levels.one plane k ∙ ap (λ t. t || has plane k) (are.one k) ∙ level_first (many planes n k) (has plane k) ∙ sym (more 0 k);
  two = λ k.
      has_or levels.two (bit_and levels.one plane) k
      ∙ ap (λ t. has levels.two k || t) (has_and levels.one plane k)
      ∙ ap (λ t. t || (has levels.one k && has plane k)) (are.two k)
      ∙ ap (λ t. ltb 1 (many planes n k) || (t && has plane k)) (are.one k ∙ sym (level_below 0 (many planes n k)))
      ∙ level_next 1 (many planes n k) (has plane k)
      ∙ sym (more 1 k);
  three = λ k.
      has_or levels.three (bit_and levels.two plane) k
      ∙ ap (λ t. has levels.three k || t) (has_and levels.two plane k)
      ∙ ap (λ t. t || (has levels.two k && has plane k)) (are.three k)
      ∙ ap (λ t. ltb 2 (many planes n k) || (t && has plane k)) (are.two k ∙ sym (level_below 1 (many planes n k)))
      ∙ level_next 2 (many planes n k) (has plane k)
      ∙ sym (more 2 k);
}
  where
    more : (j k : ℕ) → ltb j (many planes (n + 1) k) ≡ ltb j (many planes n k + cond (has plane k) 1 0)
    more j k = ap (λ h. ltb j h) (many_more planes n k ∙ ap (λ p. many planes n k + cond (has p k) 1 0) at)

-- the levels of no planes
pub levels_none : (planes : List ℕ) → AreLevels planes 0 (record { one = 0; two = 0; three = 0 })
levels_none planes = record {
  one = λ k. has_none k ∙ sym (none 0 k);
  two = λ k. has_none k ∙ sym (none 1 k);
  three = λ k. has_none k ∙ sym (none 2 k);
}
  where
    none : (j k : ℕ) → ltb j (many planes 0 k) ≡ false
    none j k = le-ltb j (many planes 0 k) (omega (arith, many_none planes k))

-- the cells of a plane that are in n planes at most, if each is in n at least
pub few_are : (planes : List ℕ) (n all level few : ℕ) → ((k : ℕ) → has level k ≡ ltb n (many planes (length planes) k))
    → ((k : ℕ) → has few k ≡ (has all k && not (has level k))) → 0 < few
    → ((k : ℕ) → has all k ≡ true → n ≤ many planes (length planes) k) → AreFewest planes all few
few_are planes n all level few is cells some least = record {
  n = n;
  some = some;
  cells = λ k. cells k ∙ ap (λ t. has all k && not t) (is k) ∙ ap (λ t. has all k && t) (not_less n (many planes (length planes) k));
  least = least;
}
  where
    not_less : (a b : ℕ) → not (ltb a b) ≡ leb b a
    not_less a b = elim (cases_lt a b) [
      | inl less ↦ ap not (lt-ltb a b less) ∙ sym (lt-leb b a less)
      | inr more ↦ ap not (le-ltb a b more) ∙ sym (le-leb b a more)
    ]

-- where none is in n planes at most each is in one more
pub more_each : (planes : List ℕ) (n all level few : ℕ) → ((k : ℕ) → has level k ≡ ltb n (many planes (length planes) k))
    → ((k : ℕ) → has few k ≡ (has all k && not (has level k))) → few ≡ 0
    → (k : ℕ) → has all k ≡ true → n + 1 ≤ many planes (length planes) k
more_each planes n all level few is cells none k in_all =
    let off : (has all k && not (has level k)) ≡ false = sym (cells k) ∙ none_has few k none in
    let on : not (has level k) ≡ false = sym (ap (λ t. t && not (has level k)) in_all) ∙ off in
    let less : n < many planes (length planes) k = ltb-true n (many planes (length planes) k) (sym (is k) ∙ not-false (has level k) on) in
    omega (arith, less)

-- the test of a cell's bit, where it is met and where it is not
pub test_on : (plane cell : ℕ) → (bit_and plane (2 ^ cell) ≡ 0 → ⊥) → has plane cell ≡ true
test_on plane cell some = sym (cell_test plane cell) ∙ ap not (ne_eqb (bit_and plane (2 ^ cell)) 0 some)

-- and where it is not met
pub test_off : (plane cell : ℕ) → bit_and plane (2 ^ cell) ≡ 0 → has plane cell ≡ false
test_off plane cell none = sym (cell_test plane cell) ∙ ap not (eq-eqb (bit_and plane (2 ^ cell)) 0 none)

-- A mask of the numbers that pass, with one more number looked at.

grows : (n mask : ℕ) → mask < 2 ^ n → mask < 2 ^ (n + 1)
grows n mask small = let e : n + 1 ≡ suc n = omega arith in rw e (omega (arith, pow-suc 2 n))

abbrev AreBits : ℕ → (ℕ → Bool) → ℕ → Type 0
AreBits n p mask = (x : ℕ) → x < n → bit_at mask x ≡ cond (p x) 1 0

-- one more number, which passes
pub mask_more : (n mask : ℕ) (p : ℕ → Bool) → n < 16 → mask < 2 ^ n → AreBits n p mask → p n ≡ true
    → (bit_or mask (1 * 2 ^ n % 65536) < 2 ^ (n + 1)) × AreBits (n + 1) p (bit_or mask (1 * 2 ^ n % 65536))
mask_more n mask p few small bits passes = (
  rw (one_shl n 16 (omega arith)) (or_lt (n + 1) mask (2 ^ n) (grows n mask small) (pow_below n (n + 1) (omega arith))),
  λ x below. elim (cases_eq x n) [
    | inl same ↦
        ap (λ i. bit_at (bit_or mask (1 * 2 ^ n % 65536)) i) same
        ∙ bit_at_set_same w16 mask n (omega arith)
        ∙ sym (ap (λ b. cond b 1 0) (ap p same ∙ passes))
    | inr differs ↦ bit_at_set_other w16 mask n (omega arith) x differs ∙ bits x (omega arith)
  ],
)

-- one more number, which does not
pub mask_kept : (n mask : ℕ) (p : ℕ → Bool) → mask < 2 ^ n → AreBits n p mask → p n ≡ false
    → (mask < 2 ^ (n + 1)) × AreBits (n + 1) p mask
mask_kept n mask p small bits fails = (
  grows n mask small,
  λ x below. elim (cases_eq x n) [
    | inl same ↦ bit_at_above mask n x small (omega arith) ∙ sym (ap (λ b. cond b 1 0) (ap p same ∙ fails))
    | inr differs ↦ bits x (omega arith)
  ],
)
