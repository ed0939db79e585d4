-- A list of types, as far as its parts were read.
use Rattle.std.proofs.Common.{◌≡◌, ℕ, ◌+◌, ◌<◌, ◌≤◌, Bool, true, ◌&&◌, List, [], ◌∷◌, ◌++◌, length, map, take, set, Some, None, Option}
use Rattle.std.proofs.Common.{Result, Err, refl, sym, ap, ◌∙◌, append_assoc, arith, eqb}
use Rattle.std.specs.Prelude.{decimal, codes, nat_lt, nat_le}
use Rattle.std.specs.List.{list_all, join_with_byte}
use Rattle.std.proofs.lemmas.Bool.{and_parts, and_from, leb-true, lt-ltb, le-leb}
use Rattle.std.proofs.lemmas.List.{take_more_set, map_push, length-set, length-append, append-nil, length-map, length-take}
use Rattle.std.proofs.lemmas.List.Folds.{list_all-append}
use Rattle.std.proofs.lemmas.List.Splits.{join_with_byte-slice_split, length-slice_split}
use Rattle.adlb_unit.specs.declared.names.WorkType.{WorkType}
use Rattle.adlb_unit.specs.declared.wanted.TypesFault.{TypesFault}
use Rattle.adlb_unit.specs.declared.wanted.TypesFault.TheVariants as types
use Rattle.ledger_file.specs.declared.faults.LineFault.{LineFault}
use Rattle.ledger_file.specs.declared.faults.LineFault.TheVariants as fault
use Rattle.ledger_file.specs.Fields.{u32, wanted, word, in_u32, IsWithin}
use Rattle.ledger_file.specs.inside.Reading.{parts_of, Misses}
use Rattle.ledger_file.proofs.Bytes.{split_joined}
use Rattle.ledger_file.proofs.Plain.{kinds_plain}

abbrev pub kind_texts : List WorkType → List (List ℕ)
kind_texts kinds = map (λ k. decimal k.0) kinds

abbrev pub are_short : List WorkType → Bool
are_short kinds = list_all (λ k. in_u32 k.0) kinds

-- the first count of these types were read, and these parts are left
pub record IsReadUpTo (word : List ℕ) (kinds : List WorkType) (count : ℕ) (left : List (List ℕ)) : Type 0 where
  pub few : count ≤ 16
  pub room : length kinds ≡ 16
  pub short : are_short (take count kinds) ≡ true
  pub parts : kind_texts (take count kinds) ++ left ≡ parts_of 44 word

pub read_more : (w : List ℕ) (kinds : List WorkType) (count : ℕ) (old left : List (List ℕ)) (part : List ℕ) (k : WorkType)
    → IsReadUpTo w kinds count old → old ≡ part ∷ left → count < 16 → IsWithin (u32 k.0) → part ≡ decimal k.0
    → IsReadUpTo w (set kinds count k) (count + 1) left
read_more w kinds count old left part k is next lt inside text =
    let room = is.room in
    let more : take (count + 1) (set kinds count k) ≡ take count kinds ++ k ∷ [] = take_more_set kinds count k (omega arith) in
    record {
      few = omega arith;
      room = length-set kinds count k ∙ is.room;
      short = ap are_short more ∙ list_all-append (λ x. in_u32 x.0) (take count kinds) (k ∷ [])
          ∙ and_from _ _ is.short (and_from _ true inside refl);
      parts = ap (λ (ks : List WorkType). kind_texts ks ++ left) more
          ∙ ap (λ (ws : List (List ℕ)). ws ++ left) (map_push (λ (x : WorkType). decimal x.0) (take count kinds) k)
          ∙ append_assoc (kind_texts (take count kinds)) (decimal k.0 ∷ []) left
          ∙ ap (λ (v : List ℕ). kind_texts (take count kinds) ++ v ∷ left) (sym text)
          ∙ ap (λ (ws : List (List ℕ)). kind_texts (take count kinds) ++ ws) (sym next)
          ∙ is.parts;
    }

-- the parts of a list of types
kinds_of : (w : List ℕ) (ks : List WorkType) → IsWithin (wanted (Some ks)) → w ≡ word (wanted (Some ks)) → parts_of 44 w ≡ kind_texts ks
kinds_of w [] inside e = absurd cc
kinds_of w (k ∷ ks) inside e =
    ap (parts_of 44) e ∙ split_joined 44 (decimal k.0) (kind_texts ks) (kinds_plain 44 (omega arith) (k ∷ ks))

some_kind : (front : List (List ℕ)) (part : List ℕ) (left : List (List ℕ)) (ks : List WorkType) → are_short ks ≡ true
    → front ++ part ∷ left ≡ kind_texts ks → (n : ℕ) × (in_u32 n ≡ true) × (part ≡ decimal n)
some_kind [] part left [] p e = absurd cc
some_kind [] part left (k ∷ ks) p e = (k.0, (and_parts (in_u32 k.0) (are_short ks) p).0, cc)
some_kind (v ∷ front) part left [] p e = absurd cc
some_kind (v ∷ front) part left (k ∷ ks) p e = let rest : front ++ part ∷ left ≡ kind_texts ks = cc in some_kind front part left ks
    (and_parts (in_u32 k.0) (are_short ks) p).1 rest

module _ (w : List ℕ) (kinds : List WorkType) (count : ℕ) (old left : List (List ℕ)) (part : List ℕ) (other : w ≡ codes "any" → ⊥)
    (is : IsReadUpTo w kinds count old) (next : old ≡ part ∷ left) where
  whole_is : kind_texts (take count kinds) ++ part ∷ left ≡ parts_of 44 w
  whole_is = ap (λ (ws : List (List ℕ)). kind_texts (take count kinds) ++ ws) (sym next) ∙ is.parts

  pub part_misses : (f : LineFault) → Misses u32 part f → Misses wanted w f
  part_misses fault.Memory miss = tt
  part_misses fault.Bad miss = λ a. of_types a
    where
      of_types : (a : Option (List WorkType)) → IsWithin (wanted a) → w ≡ word (wanted a) → ⊥
      of_types None inside e = other e
      of_types (Some ks) inside e =
          let short = (and_parts _ (are_short ks) inside).1 in
          let found = some_kind (kind_texts (take count kinds)) part left ks short (whole_is ∙ kinds_of w ks inside e) in
          miss found.0 found.1 found.2

  pub too_many : count ≡ 16 → Misses wanted w fault.Bad
  too_many full = λ a. of_types a
    where
      of_types : (a : Option (List WorkType)) → IsWithin (wanted a) → w ≡ word (wanted a) → ⊥
      of_types None inside e = other e
      of_types (Some ks) inside e =
          let room = is.room in
          let sizes = and_parts (nat_lt 0 (length ks)) (nat_le (length ks) 16) (and_parts (nat_lt 0 (length ks) && nat_le
          (length ks) 16) (are_short ks) inside).0 in
          let few : length ks ≤ 16 = leb-true (length ks) 16 sizes.1 in
          let same : length (kind_texts (take count kinds) ++ part ∷ left) ≡ length (kind_texts ks) = ap length (whole_is
          ∙ kinds_of w ks inside e) in
          let long = simp (length-append, length-map, length-take) at same in
          omega (arith, long)

-- when no part is left
pub all_read : (w : List ℕ) (kinds : List WorkType) (count : ℕ) (left : List (List ℕ)) → IsReadUpTo w kinds count left → left ≡ []
    → kind_texts (take count kinds) ≡ parts_of 44 w
all_read w kinds count left is none = sym (append-nil (kind_texts (take count kinds)))
    ∙ ap (λ (ws : List (List ℕ)). kind_texts (take count kinds) ++ ws) (sym none) ∙ is.parts

some_part : (w : List ℕ) → 0 < length (parts_of 44 w)
some_part w = rw (length-slice_split (λ b. eqb b 44) w) (omega arith)

-- one type at least was read
pub one_read : (w : List ℕ) (kinds : List WorkType) (count : ℕ) (left : List (List ℕ)) → IsReadUpTo w kinds count left → left ≡ []
    → 0 < count
one_read w kinds count left is none =
    let same : length (kind_texts (take count kinds)) ≡ length (parts_of 44 w) = ap length (all_read w kinds count left is none) in
    let some = some_part w in
    let long : length (kind_texts (take count kinds)) ≡ length (take count kinds) = length-map (take count kinds) (λ
    (x : WorkType). decimal x.0) in
    omega (arith, length-take count kinds)

pub types_found : (w : List ℕ) (kinds : List WorkType) (count : ℕ) (left : List (List ℕ)) → IsReadUpTo w kinds count left → left ≡ []
    → IsWithin (wanted (Some (take count kinds))) × (w ≡ word (wanted (Some (take count kinds))))
types_found w kinds count left is none =
    let room = is.room in
    let few = is.few in
    let some = one_read w kinds count left is none in
    let long : length (take count kinds) ≡ count = omega (arith, length-take count kinds) in
    let sizes : (nat_lt 0 (length (take count kinds)) && nat_le (length (take count kinds)) 16) ≡ true = and_from _ _ (lt-ltb 0 (length
    (take count kinds)) (omega arith)) (le-leb (length (take count kinds)) 16 (omega arith)) in (
      and_from _ (are_short (take count kinds)) sizes is.short,
      sym (join_with_byte-slice_split 44 w)
          ∙ ap (join_with_byte 44) (sym (all_read w kinds count left is none)),
    )

-- a list of 1 to 16 types is not refused
pub never_refused : {T : Type 0} (e : TypesFault) (kinds : List WorkType) → (◌≡◌ {A = Result T TypesFault} (Err e) (Err types.Empty)
    → kinds ≡ []) → ((n : ℕ) → ◌≡◌ {A = Result T TypesFault} (Err e) (Err (types.TooMany n)) → (16 < length kinds) × (n ≡ length kinds))
    → 0 < length kinds → length kinds ≤ 16 → ⊥
never_refused types.Empty kinds empty many some few = let none : length kinds ≡ 0 = ap length (empty refl) in omega arith
never_refused (types.TooMany n) kinds empty many some few = let great = (many n refl).0 in omega arith

pub sizes_read : (w : List ℕ) (kinds : List WorkType) (count : ℕ) (left : List (List ℕ)) → IsReadUpTo w kinds count left → left ≡ []
    → (0 < length (take count kinds)) × (length (take count kinds) ≤ 16)
sizes_read w kinds count left is none =
    let room = is.room in
    let few = is.few in
    let some = one_read w kinds count left is none in
    let long : length (take count kinds) ≡ count = omega (arith, length-take count kinds) in
    (omega arith, omega arith)
