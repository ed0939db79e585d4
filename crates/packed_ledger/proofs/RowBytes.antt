-- Rows as bytes.
use Rattle.std.proofs.Common.{ℕ, ◌≡◌, ◌+◌, ◌*◌, ◌/◌, ◌%◌, ◌≤◌, List, [], ◌∷◌, ◌++◌, append_assoc, ap, ◌∙◌, arith}
use Rattle.std.proofs.lemmas.List.{append-nil}
use Rattle.packed_ledger.specs.declared.rows.Row.{Row}
use Rattle.packed_ledger.specs.inside.Numbers.{part, mark}
use Rattle.packed_ledger.specs.inside.Rows.{marks, row_before}
use Rattle.packed_ledger.proofs.Groups.{mark_small}

abbrev AreBits : (a b c d e f g h : ℕ) → Type 0
AreBits a b c d e f g h = (a ≤ 1) × (b ≤ 1) × (c ≤ 1) × (d ≤ 1) × (e ≤ 1) × (f ≤ 1) × (g ≤ 1) × (h ≤ 1)

module _ (a b c d e f g h : ℕ) (as_bits : AreBits a b c d e f g h) where
  abbrev all : ℕ
  all = a + 2 * b + 4 * c + 8 * d + 16 * e + 32 * f + 64 * g + 128 * h

  bit_1 : all % 2 ≡ a
  bit_1 = omega arith

  bit_2 : all / 2 % 2 ≡ b
  bit_2 = omega arith

  bit_3 : all / 4 % 2 ≡ c
  bit_3 = omega arith

  bit_4 : all / 8 % 2 ≡ d
  bit_4 = omega arith

  bit_5 : all / 16 % 2 ≡ e
  bit_5 = omega arith

  bit_6 : all / 32 % 2 ≡ f
  bit_6 = omega arith

  bit_7 : all / 64 % 2 ≡ g
  bit_7 = omega arith

  bit_8 : all / 128 % 2 ≡ h
  bit_8 = omega arith

-- the marks of a row, bit by bit
pub record AreMarks (r : Row) (m : ℕ) : Type 0 where
  pub first : m % 2 ≡ mark r.first
  pub second : m / 2 % 2 ≡ mark r.second
  pub third : m / 4 % 2 ≡ mark r.third
  pub fourth : m / 8 % 2 ≡ mark r.fourth
  pub fifth : m / 16 % 2 ≡ mark r.fifth
  pub call : m / 32 % 2 ≡ mark r.call
  pub number : m / 64 % 2 ≡ mark r.number
  pub amount : m / 128 % 2 ≡ mark r.amount

pub are_marks : (r : Row) (m : ℕ) → m ≡ marks r → AreMarks r m
unfolding marks
are_marks r m same =
    let a = mark r.first in
    let b = mark r.second in
    let c = mark r.third in
    let d = mark r.fourth in
    let e = mark r.fifth in
    let f = mark r.call in
    let g = mark r.number in
    let h = mark r.amount in
    let small : AreBits a b c d e f g h = (
      mark_small r.first,
      mark_small r.second,
      mark_small r.third,
      mark_small r.fourth,
      mark_small r.fifth,
      mark_small r.call,
      mark_small r.number,
      mark_small r.amount,
    ) in record {
      first = ap (λ (n : ℕ). n % 2) same ∙ bit_1 a b c d e f g h small;
      second = ap (λ (n : ℕ). n / 2 % 2) same ∙ bit_2 a b c d e f g h small;
      third = ap (λ (n : ℕ). n / 4 % 2) same ∙ bit_3 a b c d e f g h small;
      fourth = ap (λ (n : ℕ). n / 8 % 2) same ∙ bit_4 a b c d e f g h small;
      fifth = ap (λ (n : ℕ). n / 16 % 2) same ∙ bit_5 a b c d e f g h small;
      call = ap (λ (n : ℕ). n / 32 % 2) same ∙ bit_6 a b c d e f g h small;
      number = ap (λ (n : ℕ). n / 64 % 2) same ∙ bit_7 a b c d e f g h small;
      amount = ap (λ (n : ℕ). n / 128 % 2) same ∙ bit_8 a b c d e f g h small;
    }

-- more bytes after a row
pub row_with_more : (r : Row) (a b : List ℕ) → row_before r a ++ b ≡ row_before r (a ++ b)
unfolding row_before
row_with_more r a b = simp append_assoc

-- a row that is written part by part
pub row_by_parts : (r : Row) (bytes : List ℕ)
    → ((((((((((bytes ++ r.head ∷ []) ++ marks r ∷ []) ++ part 5 r.first) ++ part 5 r.second) ++ part 5 r.third) ++ part 5 r.fourth) ++
    part 5 r.fifth) ++ part 10 r.call) ++ part 10 r.number) ++ part 10 r.amount)
    ≡ bytes ++ row_before r []
unfolding row_before
row_by_parts r bytes = simp (append_assoc, append-nil)
