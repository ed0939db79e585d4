-- The bytes of words lie above those of blanks and line feeds.
use Rattle.std.proofs.Common.{◌≡◌, ℕ, suc, ◌/◌, ◌%◌, ◌^◌, ◌<◌, ◌≤◌, true, false, ltb, List, [], ◌∷◌, ◌++◌, map, refl, arith, pos, negsuc, ℤ}
use Rattle.std.proofs.Common.{Some, None}
use Rattle.std.specs.Prelude.{decimal, codes, nat_lt}
use Rattle.std.specs.Fmt.{signed_decimal, digit_glyph}
use Rattle.std.specs.List.{flat_map}
use Rattle.std.proofs.lemmas.Bool.{and_from, ltb-true, lt-ltb}
use Rattle.adlb_unit.specs.declared.names.WorkType.{WorkType}
use Rattle.adlb_unit.specs.declared.names.Target.TheVariants as target
use Rattle.adlb_unit.specs.declared.notes.End.TheVariants as ends
use Rattle.ledger_file.specs.Fields.{Field, u32, u64, i32, id, aim, rank_or_none, prio_or_none, wanted, body, told, hex, word, in_u32}
use Rattle.ledger_file.proofs.Bytes.{above, above_append, above_less, AllAbove, joined_above, decimal_above, glyph_above}

-- a number of 32 bits is one of 64
pub short_is : (n : ℕ) → in_u32 n ≡ true → n < 2 ^ 64
short_is n p = let lt : n < 2 ^ 32 = ltb-true _ _ p in omega arith

pub long_is : (n : ℕ) → nat_lt n (2 ^ 64) ≡ true → n < 2 ^ 64
long_is n p = ltb-true _ _ p

number_plain : (n : ℕ) → above 32 (decimal n) ≡ true
number_plain n = above_less 32 47 (decimal n) (omega arith) (decimal_above n)

signed_plain : (z : ℤ) → above 32 (signed_decimal z) ≡ true
signed_plain (pos n) = number_plain n
signed_plain (negsuc n) = number_plain (suc n)

pub kinds_plain : (j : ℕ) → j ≤ 47 → (kinds : List WorkType) → AllAbove j (map (λ k. decimal k.0) kinds)
kinds_plain j le [] = tt
kinds_plain j le (k ∷ kinds) = (above_less j 47 (decimal k.0) le (decimal_above k.0), kinds_plain j le kinds)

glyph_plain : (d : ℕ) → ltb 32 (digit_glyph false d) ≡ true
glyph_plain d = let high = glyph_above d in lt-ltb 32 (digit_glyph false d) (omega arith)

hex_plain : (bs : List ℕ) → above 32 (flat_map hex bs) ≡ true
hex_plain [] = refl
hex_plain (b ∷ bs) = and_from _ _ (glyph_plain (b / 16)) (and_from _ _ (glyph_plain (b % 16)) (hex_plain bs))

pub word_plain : (f : Field) → above 32 (word f) ≡ true
word_plain (u32 n) = number_plain n
word_plain (u64 n) = number_plain n
word_plain (i32 z) = signed_plain z
word_plain (id rank number) =
    above_append 32 (decimal rank ++ codes ".") (decimal number) (above_append 32 (decimal rank) (codes ".") (number_plain rank) refl)
    (number_plain number)
word_plain (aim target.Any) = refl
word_plain (aim (target.Only rank)) = above_append 32 (codes "only:") (decimal rank.0) refl (number_plain rank.0)
word_plain (aim (target.Soft rank)) = above_append 32 (codes "soft:") (decimal rank.0) refl (number_plain rank.0)
word_plain (rank_or_none None) = refl
word_plain (rank_or_none (Some rank)) = number_plain rank.0
word_plain (prio_or_none None) = refl
word_plain (prio_or_none (Some z)) = signed_plain z
word_plain (wanted None) = refl
word_plain (wanted (Some [])) = refl
word_plain (wanted (Some (k ∷ kinds))) =
    joined_above 32 44 (decimal k.0) (map (λ x. decimal x.0) kinds) refl (kinds_plain 32 (omega arith) (k ∷ kinds))
word_plain (body []) = refl
word_plain (body (b ∷ bs)) = hex_plain (b ∷ bs)
word_plain (told ends.NoMoreWork) = refl
word_plain (told ends.Exhausted) = refl

pub fields_plain : (fs : List Field) → AllAbove 32 (map word fs)
fields_plain [] = tt
fields_plain (f ∷ fs) = (word_plain f, fields_plain fs)
