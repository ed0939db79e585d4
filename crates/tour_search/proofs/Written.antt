-- Numbers, and how they are written.
use Rattle.std.proofs.Common.{◌≡◌, ◌<◌, ◌≤◌, ◌^◌, ℕ, Bool, true, false, cond, List, refl, sym, ap, subst, ◌∙◌, Some, None, ◌&&◌, arith}
use Rattle.std.specs.Prelude.{decimal, nat_le}
use Rattle.std.specs.Str.{bytes_eq, IsUtf8}
use Rattle.std.specs.Str.Parse.{digits_value}
use Rattle.std.proofs.lemmas.Bool.{and_parts, and_from, cond-true, leb-true, le-leb}
use Rattle.std.proofs.lemmas.Fmt.{decimal_is_IsNumeral, IsAscii-decimal}
use Rattle.std.proofs.lemmas.Slice.Eq.{bytes_eq-Decides}
use Rattle.std.proofs.lemmas.Str.{IsUtf8-from_ascii}
use Rattle.tour_search.specs.Numbers.{number_to}

-- a number below 2^32 is written as text
pub is_text : (w : List ℕ) (n : ℕ) → n < 2 ^ 32 → w ≡ decimal n → IsUtf8 w
is_text w n lt e = subst IsUtf8 (sym e) (IsUtf8-from_ascii (decimal n) (IsAscii-decimal n (omega arith)))

-- the word is a number, or it is not
pub number_is : (most : ℕ) (w : List ℕ) (n : ℕ) → most < 2 ^ 32 → n ≤ most → w ≡ decimal n → number_to most w ≡ Some n
unfolding number_to
number_is most w n small le e =
    let value : digits_value 10 w ≡ n = ap (digits_value 10) e ∙ (decimal_is_IsNumeral n (omega arith)).1 in
    rw value (cond-true (nat_le n most && bytes_eq (decimal n) w) (Some n) None (and_from _ _ (le-leb n most le)
    ((bytes_eq-Decides (decimal n) w).1 (sym e))))

none_if : (b : Bool) (n : ℕ) → (b ≡ true → ⊥) → cond b (Some n) None ≡ None
none_if true n never = absurd (never refl)
none_if false n never = refl

-- what is not written as a number within the limit cannot be read as one
pub no_number : (most : ℕ) (w : List ℕ) → ((n : ℕ) → n ≤ most → w ≡ decimal n → ⊥) → number_to most w ≡ None
unfolding number_to
no_number most w none =
    let n = digits_value 10 w in
    none_if (nat_le n most && bytes_eq (decimal n) w) n (λ both.
    let parts = and_parts (nat_le n most) (bytes_eq (decimal n) w) both in
    none n (leb-true n most parts.0) (sym ((bytes_eq-Decides (decimal n) w).0 parts.1)))

-- a number that is read is no greater
pub number_low : (most : ℕ) (w : List ℕ) (n : ℕ) → number_to most w ≡ Some n → n ≤ most
unfolding number_to
number_low most w n e = at (nat_le (digits_value 10 w) most) (bytes_eq (decimal (digits_value 10 w)) w) refl e
  where
    at : (b d : Bool) → b ≡ nat_le (digits_value 10 w) most → cond (b && d) (Some (digits_value 10 w)) None ≡ Some n → n ≤ most
    at true true h f =
        let same : digits_value 10 w ≡ n = cc in
        subst (λ k. k ≤ most) same (leb-true (digits_value 10 w) most (sym h))
    at true false h f = absurd (cc)
    at false d h f = absurd (cc)
