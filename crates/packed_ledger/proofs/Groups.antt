-- Numbers as bytes, and what is read of them.
use Rattle.std.proofs.Common.{ℕ, zero, suc, ◌≡◌, ◌+◌, ◌-◌, ◌*◌, ◌/◌, ◌%◌, ◌^◌, ◌<◌, ◌≤◌, min}
use Rattle.std.proofs.Common.{List, [], ◌∷◌, ◌++◌, length, append_assoc, refl, sym, ap, ◌∙◌, subst, inl, inr, arith}
use Rattle.std.proofs.lemmas.Bool.{cases_lt, lt-ltb, le-ltb, cases_eq, eq-eqb, ne_eqb}
use Rattle.std.proofs.lemmas.List.{append-nil}
use Rattle.std.proofs.Math.Nat.{pow-suc}
use Rattle.packed_ledger.specs.inside.Numbers.{groups, part, mark}

-- what holds of one more groups than before
pub at_most : (P : ℕ → ℕ → Type 0) → ((k : ℕ) → P (suc k) k) → (most : ℕ) → 0 < most → P most (most - 1)
at_most P f zero h = absurd (omega arith)
at_most P f (suc k) h =
    let e : k ≡ suc k - 1 = omega arith in
    subst (λ (j : ℕ). P (suc k) j) e (f k)

pub no_groups : (n : ℕ) → groups 0 n ≡ []
unfolding groups
no_groups n = refl

few : (k n : ℕ) → n < 128 → groups (suc k) n ≡ n ∷ []
unfolding groups
few k n h = rw (lt-ltb n 128 h)

many : (k n : ℕ) → 128 ≤ n → groups (suc k) n ≡ (128 + n % 128) ∷ groups k (n / 128)
unfolding groups
many k n h = rw (le-ltb n 128 h)

pub few_groups : (most n : ℕ) → 0 < most → n < 128 → groups most n ≡ n ∷ []
few_groups most n positive h = at_most (λ m k. groups m n ≡ n ∷ []) (λ k. few k n h) most positive

pub many_groups : (most n : ℕ) → 0 < most → 128 ≤ n → groups most n ≡ (128 + n % 128) ∷ groups (most - 1) (n / 128)
many_groups most n positive h = at_most (λ m k. groups m n ≡ (128 + n % 128) ∷ groups k (n / 128)) (λ k. many k n h) most positive

-- a number of groups is one more than without the first
pub smaller : (most n : ℕ) → 0 < most → n < 128 ^ most → n / 128 < 128 ^ (most - 1)
smaller most n positive = at_most (λ m k. n < 128 ^ m → n / 128 < 128 ^ k) (λ k h. omega (arith, pow-suc 128 k, h)) most positive

pub Back : ℕ → List ℕ → ℕ → List ℕ → Type 0
Back most bytes value behind = (n : ℕ) (rest : List ℕ) → n < 2 ^ 64 → n < 128 ^ most → bytes ≡ groups most n ++ rest
    → (value ≡ n) × (behind ≡ rest)

-- nothing is read of no groups, and nothing is written
pub read_none : (most n : ℕ) (bytes rest : List ℕ) → most ≡ 0 → n < 128 ^ most → bytes ≡ groups most n ++ rest → (0 ≡ n) × (bytes ≡ rest)
unfolding groups
read_none zero n bytes rest none small e = (omega arith, e)
read_none (suc k) n bytes rest none small e = absurd (omega arith)

pub none_written : (most n : ℕ) (bytes : List ℕ) → most ≡ 0 → bytes ≡ bytes ++ groups most n
unfolding groups
none_written zero n bytes none = sym (append-nil bytes)
none_written (suc k) n bytes none = absurd (omega arith)

pub many_written : (most n : ℕ) (bytes after last : List ℕ) → 0 < most → 128 ≤ n → after ≡ bytes ++ (128 + n % 128) ∷ []
    → last ≡ after ++ groups (most - 1) (n / 128) → last ≡ bytes ++ groups most n
many_written most n bytes after last positive large e f =
    f
    ∙ ap (λ (l : List ℕ). l ++ groups (most - 1) (n / 128)) e
    ∙ append_assoc bytes ((128 + n % 128) ∷ []) (groups (most - 1) (n / 128))
    ∙ ap (λ (l : List ℕ). bytes ++ l) (sym (many_groups most n positive large))

filled : (most n : ℕ) (rest : List ℕ) → 0 < most → 0 < length (groups most n ++ rest)
filled most n rest positive = elim (cases_lt n 128) [
  | inl h ↦ rw (few_groups most n positive h) (omega arith)
  | inr h ↦ rw (many_groups most n positive h) (omega arith)
]

-- there are bytes
pub not_empty : (most n : ℕ) (bytes rest : List ℕ) → 0 < most → bytes ≡ groups most n ++ rest → length bytes ≡ 0 → ⊥
not_empty most n bytes rest positive e none = let f = filled most n rest positive in omega (arith, f, ap length e)

pub read_last : (most n b : ℕ) (bytes behind rest : List ℕ) → 0 < most → b < 128 → bytes ≡ b ∷ behind → bytes ≡ groups most n ++ rest
    → (b ≡ n) × (behind ≡ rest)
read_last most n b bytes behind rest positive small front e = elim (cases_lt n 128) [
  | inl h ↦ let f = few_groups most n positive h in
      let g : b ∷ behind ≡ n ∷ rest = sym front ∙ e ∙ ap (λ (l : List ℕ). l ++ rest) f in
      (cc, cc)
  | inr h ↦ let f = many_groups most n positive h in
      let g : b ∷ behind ≡ (128 + n % 128) ∷ (groups (most - 1) (n / 128) ++ rest) = sym front ∙ e ∙ ap (λ (l : List ℕ). l ++ rest) f in
      let same : b ≡ 128 + n % 128 = cc in
      absurd (omega arith)
]

pub read_more : (most n b high : ℕ) (bytes behind left rest : List ℕ) → 0 < most → 128 ≤ b → n < 2 ^ 64 → n < 128 ^ most
    → bytes ≡ b ∷ behind → bytes ≡ groups most n ++ rest
    → ((m : ℕ) (r : List ℕ) → m < 2 ^ 64 → m < 128 ^ (most - 1) → behind ≡ groups (most - 1) m ++ r → (high ≡ m) × (left ≡ r))
    → (min (min (high * 128) (2 ^ 64 - 1) + (b - 128)) (2 ^ 64 - 1) ≡ n) × (left ≡ rest)
read_more most n b high bytes behind left rest positive large fits within front e reads = elim (cases_lt n 128) [
  | inl h ↦ let f = few_groups most n positive h in
      let g : b ∷ behind ≡ n ∷ rest = sym front ∙ e ∙ ap (λ (l : List ℕ). l ++ rest) f in
      let same : b ≡ n = cc in
      absurd (omega arith)
  | inr h ↦ let f = many_groups most n positive h in
      let g : b ∷ behind ≡ (128 + n % 128) ∷ (groups (most - 1) (n / 128) ++ rest) = sym front ∙ e ∙ ap (λ (l : List ℕ). l ++ rest) f in
      let same : b ≡ 128 + n % 128 = cc in
      let others : behind ≡ groups (most - 1) (n / 128) ++ rest = cc in
      let back = reads (n / 128) rest (omega arith) (smaller most n positive within) others in
      (omega (arith, back.0, same), back.1)
]

-- parts
pub part_zero : (most n : ℕ) → n ≡ 0 → part most n ≡ []
unfolding part
part_zero most n h = rw (eq-eqb n 0 h)

pub part_more : (most n : ℕ) → (n ≡ 0 → ⊥) → part most n ≡ groups most n
unfolding part
part_more most n h = rw (ne_eqb n 0 h)

pub mark_zero : (n : ℕ) → mark n ≡ 0 → n ≡ 0
unfolding mark
mark_zero n h = elim (cases_eq n 0) [
  | inl e ↦ e
  | inr other ↦ let e = rw (ne_eqb n 0 other) at h in absurd (omega (arith, e))
]

pub mark_more : (n : ℕ) → (mark n ≡ 0 → ⊥) → n ≡ 0 → ⊥
unfolding mark
mark_more n h e = h (rw (eq-eqb n 0 e))

pub mark_small : (n : ℕ) → mark n ≤ 1
unfolding mark
mark_small n = elim (cases_eq n 0) [
  | inl e ↦ rw (eq-eqb n 0 e) (omega arith)
  | inr other ↦ rw (ne_eqb n 0 other) (omega arith)
]

pub read_no_part : (most n marked : ℕ) (bytes rest : List ℕ) → marked ≡ 0 → marked ≡ mark n → bytes ≡ part most n ++ rest
    → (0 ≡ n) × (bytes ≡ rest)
read_no_part most n marked bytes rest none same e =
    let zero_is : n ≡ 0 = mark_zero n (sym same ∙ none) in
    (sym zero_is, e ∙ ap (λ (l : List ℕ). l ++ rest) (part_zero most n zero_is))

pub some_part : (most n marked : ℕ) (bytes rest : List ℕ) → (marked ≡ 0 → ⊥) → marked ≡ mark n → bytes ≡ part most n ++ rest
    → bytes ≡ groups most n ++ rest
some_part most n marked bytes rest some same e = e ∙ ap (λ (l : List ℕ). l ++ rest) (part_more most n (mark_more n (λ z. some (same ∙ z))))
