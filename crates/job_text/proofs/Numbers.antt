-- Numbers up to 255, and how they are written.
use Rattle.std.proofs.Common.{◌≡◌, ◌<◌, ℕ, Bool, true, false, cond, ltb, List, refl, sym, ap, subst, ◌∙◌, Some, None, ◌&&◌, arith}
use Rattle.std.specs.Prelude.{decimal}
use Rattle.std.specs.Str.{bytes_eq, IsUtf8}
use Rattle.std.specs.Str.Parse.{digits_value}
use Rattle.std.proofs.lemmas.Bool.{and_parts, and_from, cond-true, ltb-true, lt-ltb}
use Rattle.std.proofs.lemmas.Fmt.{decimal_is_IsNumeral, IsAscii-decimal}
use Rattle.std.proofs.lemmas.Slice.Eq.{bytes_eq-Decides}
use Rattle.std.proofs.lemmas.Str.{IsUtf8-from_ascii}
use Rattle.job_text.specs.Words.{byte_number}

-- a number below 256 is written as text
pub is_text : (w : List ℕ) (n : ℕ) → n < 256 → w ≡ decimal n → IsUtf8 w
is_text w n lt e = subst IsUtf8 (sym e) (IsUtf8-from_ascii (decimal n) (IsAscii-decimal n (omega arith)))

-- the word is a number, or it is not
pub number_is : (w : List ℕ) (n : ℕ) → n < 256 → w ≡ decimal n → byte_number w ≡ Some n
unfolding byte_number
number_is w n lt e =
    let value : digits_value 10 w ≡ n = ap (digits_value 10) e ∙ (decimal_is_IsNumeral n (omega arith)).1 in
    rw value (cond-true (ltb n 256 && bytes_eq (decimal n) w) (Some n) None (and_from _ _ (lt-ltb n 256 lt)
    ((bytes_eq-Decides (decimal n) w).1 (sym e))))

none_if : (b : Bool) (n : ℕ) → (b ≡ true → ⊥) → cond b (Some n) None ≡ None
none_if true n never = absurd (never refl)
none_if false n never = refl

-- what is not written as a number below 256 cannot be read as one
pub no_number : (w : List ℕ) → ((n : ℕ) → n < 256 → w ≡ decimal n → ⊥) → byte_number w ≡ None
unfolding byte_number
no_number w none =
    let n = digits_value 10 w in
    none_if (ltb n 256 && bytes_eq (decimal n) w) n (λ both.
    let parts = and_parts (ltb n 256) (bytes_eq (decimal n) w) both in
    none n (ltb-true n 256 parts.0) (sym ((bytes_eq-Decides (decimal n) w).0 parts.1)))
