-- Lists of types as bytes.
use Rattle.std.proofs.Common.{ℕ, ◌≡◌, ◌+◌, ◌^◌, ◌<◌, min, Option, Some, inl, inr, List, [], ◌∷◌}
use Rattle.std.proofs.Common.{◌++◌, length, get_or, set, take, drop, append_assoc, add-one, drop-cons, sym, ap, ◌∙◌, arith}
use Rattle.std.proofs.lemmas.List.{append-nil, take_all, take_more, take_more_set}
use Rattle.std.proofs.lemmas.Bool.{cases_lt}
use Rattle.std.proofs.lemmas.List.Concat.{flat_map-append}
use Rattle.std.proofs.lemmas.List.Elements.{All-get_or}
use Rattle.std.specs.List.{All, flat_map}
use Rattle.adlb_unit.specs.declared.names.WorkType.{WorkType}
use Rattle.packed_ledger.specs.inside.Numbers.{groups}
use Rattle.packed_ledger.specs.inside.Codes.{kind_code, kind_fits, listed}

abbrev pub no_kind : WorkType
no_kind = record { 0 = 0 }

-- one more is written
pub kind_written : (first bytes after : List ℕ) (kinds : List WorkType) (i : ℕ) → i < length kinds
    → bytes ≡ first ++ flat_map kind_code (take i kinds) → after ≡ bytes ++ groups 5 (get_or kinds i no_kind).0
    → after ≡ first ++ flat_map kind_code (take (i + 1) kinds)
kind_written first bytes after kinds i within before e =
    let kind = get_or kinds i no_kind in
    let one : flat_map kind_code (take (i + 1) kinds) ≡ flat_map kind_code (take i kinds) ++ kind_code kind =
    ap (λ (l : List WorkType). flat_map kind_code l) (take_more kinds i no_kind within)
    ∙ flat_map-append kind_code (take i kinds) (kind ∷ [])
    ∙ ap (λ (l : List ℕ). flat_map kind_code (take i kinds) ++ l) (append-nil (kind_code kind)) in
    e ∙ ap (λ (l : List ℕ). l ++ kind_code kind) before ∙ append_assoc first (flat_map kind_code (take i kinds)) (kind_code kind)
    ∙ ap (λ (l : List ℕ). first ++ l) (sym one)

take_few : (kinds : List WorkType) → take (min (length kinds) 16) kinds ≡ take 16 kinds
take_few kinds = elim (cases_lt 16 (length kinds)) [
  | inl more ↦ let n : min (length kinds) 16 ≡ 16 = omega arith in ap (λ (k : ℕ). take k kinds) n
  | inr few ↦ let n : min (length kinds) 16 ≡ length kinds = omega arith in
      ap (λ (k : ℕ). take k kinds) n ∙ take_all (length kinds) kinds (omega arith) ∙ sym (take_all 16 kinds few)
]

-- the first 16
pub are_listed : (types : Option (List WorkType)) (kinds part : List WorkType) (n : ℕ) → types ≡ Some kinds → n ≡ min (length kinds) 16
    → part ≡ take n kinds → part ≡ listed types
are_listed types kinds part n is count e = e ∙ ap (λ (k : ℕ). take k kinds) count ∙ take_few kinds
    ∙ sym (ap (λ (t : Option (List WorkType)). listed t) is)

-- one more is read
pub kind_read : (i : ℕ) (held kinds : List WorkType) (rest left behind : List ℕ) (value : ℕ) → i < length held → i < length kinds
    → All kind_fits kinds
    → (take i held ≡ take i kinds) × (rest ≡ flat_map kind_code (drop i kinds) ++ left)
    → ((n : ℕ) (r : List ℕ) → n < 2 ^ 32 → rest ≡ groups 5 n ++ r → (value ≡ n) × (behind ≡ r))
    → (take (i + 1) (set held i (record { 0 = value })) ≡ take (i + 1) kinds) × (behind ≡ flat_map kind_code (drop (i + 1) kinds) ++ left)
kind_read i held kinds rest left behind value room within fits before reads =
    let kind = get_or kinds i no_kind in
    let others = flat_map kind_code (drop (i + 1) kinds) in
    let opened : drop i kinds ≡ kind ∷ drop (i + 1) kinds = drop-cons kinds i no_kind within
    ∙ ap (λ (k : ℕ). kind ∷ drop k kinds) (sym (add-one i)) in
    let front : rest ≡ groups 5 kind.0 ++ (others ++ left) =
    before.1 ∙ ap (λ (l : List WorkType). flat_map kind_code l ++ left) opened ∙ append_assoc (groups 5 kind.0) others left in
    let back = reads kind.0 (others ++ left) (All-get_or kind_fits kinds i no_kind within fits) front in
    let read : WorkType = record { 0 = value } in
    let value_is : read ≡ kind = λ j. record { 0 = back.0 j } in (
      take_more_set held i (record { 0 = value }) room
          ∙ (λ j. before.0 j ++ value_is j ∷ [])
          ∙ sym (take_more kinds i no_kind within),
      back.1,
    )
