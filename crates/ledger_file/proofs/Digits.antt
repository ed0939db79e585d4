-- Bytes by their hexadecimal digits, as far as these were read.
use Rattle.std.proofs.Common.{◌≡◌, ℕ, ◌+◌, ◌*◌, ◌/◌, ◌%◌, ◌<◌, ◌^◌, Bool, true, false, List, [], ◌∷◌, ◌++◌, length, refl, sym, ap, ◌∙◌}
use Rattle.std.proofs.Common.{append_assoc, arith}
use Rattle.std.specs.Prelude.{codes, nat_lt}
use Rattle.std.specs.Fmt.{digit_glyph}
use Rattle.std.specs.List.{list_all, flat_map}
use Rattle.std.proofs.lemmas.Bool.{and_parts, and_from, ltb-true, lt-ltb}
use Rattle.std.proofs.lemmas.List.{append-nil}
use Rattle.std.proofs.lemmas.List.Concat.{flat_map-append}
use Rattle.std.proofs.lemmas.List.Folds.{list_all-append}
use Rattle.ledger_file.specs.declared.faults.LineFault.TheVariants as fault
use Rattle.ledger_file.specs.Fields.{body, hex, word, IsWithin}
use Rattle.ledger_file.specs.inside.Reading.{Misses}

abbrev pub are_bytes : List ℕ → Bool
are_bytes bs = list_all (λ b. nat_lt b (2 ^ 8)) bs

-- these bytes were read of a word, and this is left
pub record IsReadOf (word bytes left : List ℕ) : Type 0 where
  pub inside : are_bytes bytes ≡ true
  pub whole : word ≡ flat_map hex bytes ++ left

pub more_bytes : (w bs left rest : List ℕ) (high low x y : ℕ) → IsReadOf w bs left → left ≡ high ∷ low ∷ rest → x < 16
    → high ≡ digit_glyph false x → y < 16 → low ≡ digit_glyph false y → IsReadOf w (bs ++ (x * 16 + y) ∷ []) rest
more_bytes w bs left rest high low x y is next xs hx ys ly =
    let n : ℕ = x * 16 + y in
    let lt : x * 16 + y < 2 ^ 8 = omega arith in
    let front : (x * 16 + y) / 16 ≡ x = omega arith in
    let back : (x * 16 + y) % 16 ≡ y = omega arith in
    let digits : high ∷ low ∷ rest ≡ hex (x * 16 + y) ++ rest = rw (front, back, hx, ly) refl in
    record {
      inside = list_all-append (λ b. nat_lt b (2 ^ 8)) bs ((x * 16 + y) ∷ [])
          ∙ and_from _ _ is.inside (and_from _ true (lt-ltb _ _ lt) refl);
      whole = is.whole ∙ ap (λ (v : List ℕ). flat_map hex bs ++ v) (next ∙ digits)
          ∙ sym (append_assoc (flat_map hex bs) (hex (x * 16 + y)) rest)
          ∙ ap (λ (v : List ℕ). v ++ rest) (sym (flat_map-append hex bs ((x * 16 + y) ∷ [])));
    }

-- what is left of other bytes' digits is the digits of some of them
others_left : (bs cs left : List ℕ) → are_bytes cs ≡ true → flat_map hex cs ≡ flat_map hex bs ++ left
    → (more : List ℕ) × (are_bytes more ≡ true) × (left ≡ flat_map hex more)
others_left [] cs left p e = (cs, p, sym e)
others_left (b ∷ bs) [] left p e = absurd cc
others_left (b ∷ bs) (a ∷ cs) left p e = let rest : flat_map hex cs ≡ flat_map hex bs ++ left = cc in others_left bs cs left (and_parts
    (nat_lt a (2 ^ 8)) (are_bytes cs) p).1 rest

pub two_at_least : (left rest : List ℕ) (a b : ℕ) → left ≡ a ∷ b ∷ rest → length left < 2 → ⊥
two_at_least left rest a b e short = let same : length left ≡ length (a ∷ b ∷ rest) = ap length e in omega arith

-- left begins with no two digits
abbrev pub HasNoByte : List ℕ → Type 0
HasNoByte left = (n : ℕ) (rest : List ℕ) → n < 2 ^ 8 → left ≡ digit_glyph false (n / 16) ∷ digit_glyph false (n % 16) ∷ rest → ⊥

pub digits_miss : (w bs left : List ℕ) → (w ≡ codes "-" → ⊥) → IsReadOf w bs left → 0 < length left → HasNoByte left
    → Misses body w fault.Bad
digits_miss w bs left other is some none = λ a. of_bytes a
  where
    of_more : (more : List ℕ) → are_bytes more ≡ true → left ≡ flat_map hex more → ⊥
    of_more [] p e = let same : length left ≡ 0 = ap length e in omega arith
    of_more (m ∷ more) p e = none m (flat_map hex more) (ltb-true _ _ (and_parts (nat_lt m (2 ^ 8)) (are_bytes more) p).0) e

    of_bytes : (a : List ℕ) → IsWithin (body a) → w ≡ word (body a) → ⊥
    of_bytes [] inside e = other e
    of_bytes (b ∷ a) inside e = let rest = others_left bs (b ∷ a) left inside (sym e ∙ is.whole) in of_more rest.0 rest.1 rest.2

pub not_empty : (w : List ℕ) → w ≡ [] → Misses body w fault.Bad
not_empty w none = λ a. of_bytes a
  where
    of_bytes : (a : List ℕ) → IsWithin (body a) → w ≡ word (body a) → ⊥
    of_bytes [] inside e = absurd cc
    of_bytes (b ∷ a) inside e = absurd cc

pub body_found : (w bs left : List ℕ) → (w ≡ [] → ⊥) → IsReadOf w bs left → left ≡ [] → IsWithin (body bs) × (w ≡ word (body bs))
body_found w [] left some is none = absurd (some (is.whole ∙ none))
body_found w (b ∷ bs) left some is none = (
  is.inside,
  is.whole ∙ ap (λ (v : List ℕ). flat_map hex (b ∷ bs) ++ v) none
      ∙ append-nil (flat_map hex (b ∷ bs)),
)
