-- What is found of a word, from what its parts were found to be.
use Rattle.std.proofs.Common.{◌≡◌, ℕ, ◌<◌, ◌≤◌, ◌^◌, true, List, ◌∷◌, Result, Ok, Err, Some, None, Option, sym, ap, subst, ◌∙◌}
use Rattle.std.proofs.Common.{append_assoc, arith, ℤ, pos, negsuc}
use Rattle.std.specs.Prelude.{decimal, codes, nat_lt}
use Rattle.std.specs.Fmt.{signed_decimal}
use Rattle.std.specs.Str.{IsUtf8}
use Rattle.std.proofs.lemmas.Bool.{and_parts, ltb-true}
use Rattle.std.proofs.lemmas.Fmt.{IsAscii-decimal, IsAscii-signed, decimal_injective}
use Rattle.std.proofs.lemmas.Str.{IsUtf8-from_ascii}
use lib.Signed.{mag}
use Rattle.ledger_file.specs.declared.faults.LineFault.{LineFault}
use Rattle.ledger_file.specs.declared.faults.LineFault.TheVariants as fault
use Rattle.ledger_file.specs.Fields.{Field, u32, u64, i32, word, in_u32, in_i32, IsWithin}
use Rattle.ledger_file.specs.inside.Reading.{IsCut, first, with_rest, Gives, Finds, Misses}
use Rattle.ledger_file.proofs.Bytes.{above_free, above_less, same_front, decimal_above}
use Rattle.ledger_file.proofs.Plain.{short_is, long_is}
use Rattle.ledger_file.proofs.Readers.{Reads, gives, pair_field}

-- numbers
pub number_utf8 : (w : List ℕ) (a : ℕ) → IsWithin (u64 a) → w ≡ decimal a → IsUtf8 w
number_utf8 w a inside e = subst IsUtf8 (sym e) (IsUtf8-from_ascii (decimal a) (IsAscii-decimal a (long_is a inside)))

pub signed_size : (z : ℤ) → in_i32 z ≡ true → mag z < 2 ^ 31
signed_size (pos n) p = ltb-true _ _ p
signed_size (negsuc n) p = ltb-true _ _ p

pub prio_utf8 : (w : List ℕ) (z : ℤ) → IsWithin (i32 z) → w ≡ signed_decimal z → IsUtf8 w
prio_utf8 w z inside e = let size = signed_size z inside in subst IsUtf8 (sym e) (IsUtf8-from_ascii (signed_decimal z) (IsAscii-signed z
    (omega arith)))

pub too_great : (w : List ℕ) (n a : ℕ) → IsWithin (u64 n) → w ≡ decimal n → 2 ^ 32 ≤ n → IsWithin (u32 a) → w ≡ decimal a → ⊥
too_great w n a inside is great small e =
    let lt : a < 2 ^ 32 = ltb-true _ _ small in
    let same : a ≡ n = decimal_injective a n (short_is a small) (long_is n inside) (sym e ∙ is) in
    omega arith

-- ids
sides : (w left right : List ℕ) (x : ℕ × ℕ) → IsCut 46 w left right → IsWithin (pair_field x) → w ≡ word (pair_field x)
    → (left ≡ decimal x.0) × (right ≡ decimal x.1)
sides w left right x is inside e =
    let both = and_parts (in_u32 x.0) (nat_lt x.1 (2 ^ 64)) inside in
    let digits = above_less 46 47 (decimal x.0) (omega arith) (decimal_above x.0) in
    same_front 46 left (decimal x.0) right (decimal x.1) is.first (above_free 46 (decimal x.0) digits) (sym is.whole ∙ e
    ∙ append_assoc (decimal x.0) (codes ".") (decimal x.1))

pub left_misses : (w left right : List ℕ) (f : LineFault) → IsCut 46 w left right → Misses u32 left f → Misses pair_field w f
left_misses w left right fault.Memory is miss = tt
left_misses w left right fault.Bad is miss = λ x inside e. miss x.0 (and_parts (in_u32 x.0) (nat_lt x.1 (2 ^ 64)) inside).0
    (sides w left right x is inside e).0

pub right_misses : (w left right : List ℕ) (f : LineFault) → IsCut 46 w left right → Misses u64 right f → Misses pair_field w f
right_misses w left right fault.Memory is miss = tt
right_misses w left right fault.Bad is miss = λ x inside e. miss x.1 (and_parts (in_u32 x.0) (nat_lt x.1 (2 ^ 64)) inside).1
    (sides w left right x is inside e).1

-- fields of the first word
pub first_gives : {A : Type 0} (field : A → Field) (read : List ℕ → Option A) → Reads field read
    → (old : List (List ℕ)) (w : List ℕ) (ws : List (List ℕ)) (r : Result A LineFault) → old ≡ w ∷ ws → Finds field w r
    → Gives (λ x. (x, ws)) r (first read old)
first_gives field read reads old w ws (Ok a) is found =
    let one : read w ≡ Some a = gives field read reads w (Ok a) found in
    ap (first read) is ∙ ap (with_rest ws) one
first_gives field read reads old w ws (Err fault.Memory) is found = tt
first_gives field read reads old w ws (Err fault.Bad) is found =
    let none : read w ≡ None = gives field read reads w (Err fault.Bad) found in
    ap (first read) is ∙ ap (with_rest ws) none
