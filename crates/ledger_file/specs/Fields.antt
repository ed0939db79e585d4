-- The fields of a line: the values of each kind, and how they are written.
use Rattle.std.specs.Prelude.{ℕ, ◌^◌, ◌/◌, ◌%◌, ℤ, Bool, true, false, ◌&&◌, List, [], ◌∷◌, ◌++◌, Option, Some, None, length, map, codes}
use Rattle.std.specs.Prelude.{decimal, nat_lt, nat_le, pos, negsuc, IsTrue}
use Rattle.std.specs.Fmt.{signed_decimal, digit_glyph}
use Rattle.std.specs.List.{flat_map, join_with_byte, list_all}
use Rattle.adlb_unit.specs.Limits.{type_limit}
use Rattle.adlb_unit.specs.declared.names.Rank.{Rank}
use Rattle.adlb_unit.specs.declared.names.WorkType.{WorkType}
use Rattle.adlb_unit.specs.declared.names.Target.{Target}
use Rattle.adlb_unit.specs.declared.names.Target.TheVariants as target
use Rattle.adlb_unit.specs.declared.notes.End.{End}
use Rattle.adlb_unit.specs.declared.notes.End.TheVariants as ends

-- A field by its kind: numbers of 32 and 64 bits, a priority, the id of a unit or batch by its rank and number, a target. Or a rank or a
-- priority that may be missing, the wanted types, bytes, and an end that is told.
pub data Field : Type 0 where
  u32 : ℕ → Field
  u64 : ℕ → Field
  i32 : ℤ → Field
  id : ℕ → ℕ → Field
  aim : Target → Field
  rank_or_none : Option Rank → Field
  prio_or_none : Option ℤ → Field
  wanted : Option (List WorkType) → Field
  body : List ℕ → Field
  told : End → Field

-- two hexadecimal digits
abbrev pub hex : ℕ → List ℕ
hex b = digit_glyph false (b / 16) ∷ digit_glyph false (b % 16) ∷ []

-- how a field is written
abbrev pub word : Field → List ℕ
word (u32 n) = decimal n
word (u64 n) = decimal n
word (i32 z) = signed_decimal z
word (id rank number) = decimal rank ++ codes "." ++ decimal number
word (aim target.Any) = codes "any"
word (aim (target.Only rank)) = codes "only:" ++ decimal rank.0
word (aim (target.Soft rank)) = codes "soft:" ++ decimal rank.0
word (rank_or_none None) = codes "none"
word (rank_or_none (Some rank)) = decimal rank.0
word (prio_or_none None) = codes "none"
word (prio_or_none (Some z)) = signed_decimal z
word (wanted None) = codes "any"
word (wanted (Some kinds)) = join_with_byte 44 (map (λ k. decimal k.0) kinds)
word (body []) = codes "-"
word (body (b ∷ bs)) = flat_map hex (b ∷ bs)
word (told ends.NoMoreWork) = codes "nomore"
word (told ends.Exhausted) = codes "exhausted"

-- a number of 32 bits, and a signed one
abbrev pub in_u32 : ℕ → Bool
in_u32 n = nat_lt n (2 ^ 32)

-- the number fits 32 bits with a sign
abbrev pub in_i32 : ℤ → Bool
in_i32 (pos n) = nat_lt n (2 ^ 31)
in_i32 (negsuc n) = nat_lt n (2 ^ 31)

-- the numbers lie in the ranges of their types, and a list of types has 1 to 16
abbrev pub within : Field → Bool
within (u32 n) = in_u32 n
within (u64 n) = nat_lt n (2 ^ 64)
within (i32 z) = in_i32 z
within (id rank number) = in_u32 rank && nat_lt number (2 ^ 64)
within (aim target.Any) = true
within (aim (target.Only rank)) = in_u32 rank.0
within (aim (target.Soft rank)) = in_u32 rank.0
within (rank_or_none None) = true
within (rank_or_none (Some rank)) = in_u32 rank.0
within (prio_or_none None) = true
within (prio_or_none (Some z)) = in_i32 z
within (wanted None) = true
within (wanted (Some kinds)) = nat_lt 0 (length kinds) && nat_le (length kinds) type_limit && list_all (λ k. in_u32 k.0) kinds
within (body bs) = list_all (λ b. nat_lt b (2 ^ 8)) bs
within (told e) = true

-- the field is within its range
abbrev pub IsWithin : Field → Type 0
IsWithin f = IsTrue (within f)
