-- The readers of words read exactly the words of fields.
use Rattle.std.proofs.Common.{◌≡◌, ℕ, suc, ◌+◌, ◌*◌, ◌/◌, ◌%◌, ◌^◌, ◌<◌, true, false, cond, ltb, eqb, ◌&&◌, List, [], ◌∷◌, ◌++◌, get_or}
use Rattle.std.proofs.Common.{map, refl, sym, ap, subst, ◌∙◌, arith, pos, negsuc, ℤ, Some, None, Option, Result, Ok, Err, append_assoc}
use Rattle.std.proofs.Common.{lit<, inl, inr}
use Rattle.std.specs.Prelude.{neg_ℤ, decimal, codes, nat_lt}
use Rattle.std.specs.Char.{digit_value}
use Rattle.std.specs.Fmt.{signed_decimal, digit_glyph}
use Rattle.std.specs.List.{list_all, join_with_byte, flat_map}
use Rattle.std.specs.Str.{bytes_eq}
use Rattle.std.specs.Str.Parse.{digits_value}
use Rattle.std.proofs.lemmas.Bool.{and_parts, and_from, ltb-true, lt-ltb, le-ltb, ne_eqb, cases_lt}
use Rattle.std.proofs.lemmas.Option.{cond_some}
use Rattle.adlb_unit.specs.declared.names.Rank.{Rank}
use Rattle.adlb_unit.specs.declared.names.WorkType.{WorkType}
use Rattle.adlb_unit.specs.declared.names.Target.{Target}
use Rattle.adlb_unit.specs.declared.names.Target.TheVariants as target
use Rattle.adlb_unit.specs.declared.notes.End.{End}
use Rattle.adlb_unit.specs.declared.notes.End.TheVariants as ends
use Rattle.ledger_file.specs.declared.faults.LineFault.{LineFault}
use Rattle.ledger_file.specs.declared.faults.LineFault.TheVariants as fault
use Rattle.ledger_file.specs.Fields.{Field, u32, u64, i32, id, aim, rank_or_none, prio_or_none, wanted, body, told, hex, word, within}
use Rattle.ledger_file.specs.Fields.{in_u32, in_i32, IsWithin}
use Rattle.ledger_file.specs.inside.Reading.{checked, unsigned_guess, signed_guess, kind_guess, before_dot, behind_dot, parts_of}
use Rattle.ledger_file.specs.inside.Reading.{target_guess, answer_guess, top_guess, types_guess, end_guess, unhex, bytes_guess, length_in}
use Rattle.ledger_file.specs.inside.Reading.{number_in, prio_in, pair_in, target_in, answer_in, top_in, types_in, bytes_in, end_in, Gives}
use Rattle.ledger_file.specs.inside.Reading.{Finds}
use Rattle.ledger_file.proofs.Bytes.{same_bytes, bytes_alike, above, split_joined, decimal_above, decimal_back, decimal_some, first_digit}
use Rattle.ledger_file.proofs.Bytes.{first_no_dash, first_joined, glyph_above}
use Rattle.ledger_file.proofs.Plain.{short_is, long_is, kinds_plain}

-- what reads exactly the words of these fields
pub record Reads {A : Type 0} (field : A → Field) (read : List ℕ → Option A) : Type 0 where
  pub again : (a : A) → IsWithin (field a) → read (word (field a)) ≡ Some a
  pub sound : (w : List ℕ) (a : A) → read w ≡ Some a → IsWithin (field a) × (w ≡ word (field a))

some_is : {A : Type 0} {x y : A} → Some x ≡ Some y → x ≡ y
some_is e = cc

module _ {A : Type 0} (field : A → Field) (guess : List ℕ → A) where
  checked_reads : ((a : A) → IsWithin (field a) → guess (word (field a)) ≡ a) → Reads field (checked field guess)
  checked_reads right = record {
    again = λ a inside.
        let w : List ℕ = word (field a) in
        let at_guess : A → Type 0 = λ x. cond (within (field x) && bytes_eq (word (field x)) (word (field a))) (Some x) None ≡ Some a in
        subst at_guess (sym (right a inside)) (ap (λ b. cond b (Some a) None) (and_from _ _ inside (bytes_alike (word (field a)))));
    sound = λ w a e.
        let is = cond_some (within (field (guess w)) && bytes_eq (word (field (guess w))) w) (guess w) a e in
        let both = and_parts (within (field (guess w))) (bytes_eq (word (field (guess w))) w) is.0 in
        let here : A → Type 0 = λ x. IsWithin (field x) × (w ≡ word (field x)) in
        subst here is.1 (both.0, sym (same_bytes (word (field (guess w))) w both.1));
  }

-- numbers
short_back : (n : ℕ) → in_u32 n ≡ true → digits_value 10 (decimal n) ≡ n
short_back n p = decimal_back n (short_is n p)

negative_back : (n : ℕ) → n < 2 ^ 31 → signed_guess (45 ∷ decimal (suc n)) ≡ negsuc n
negative_back n lt = ap (λ (x : ℕ). neg_ℤ (pos x)) (decimal_back (suc n) (omega arith))

signed_back : (z : ℤ) → in_i32 z ≡ true → signed_guess (signed_decimal z) ≡ z
signed_back (pos n) p =
    let small : n < 2 ^ 31 = ltb-true _ _ p in
    let lt : n < 2 ^ 64 = omega arith in
    rw (first_no_dash n lt) (ap pos (decimal_back n lt))
signed_back (negsuc n) p = negative_back n (ltb-true _ _ p)

pub length_reads : Reads u32 length_in
unfolding length_in
length_reads = checked_reads u32 unsigned_guess short_back

pub number_reads : Reads u64 number_in
unfolding number_in
number_reads = checked_reads u64 unsigned_guess (λ n p. decimal_back n (long_is n p))

pub prio_reads : Reads i32 prio_in
unfolding prio_in
prio_reads = checked_reads i32 signed_guess signed_back

-- ids
before_back : (w v : List ℕ) → above 47 w ≡ true → before_dot (w ++ 46 ∷ v) ≡ w
before_back [] v p = refl
before_back (b ∷ w) v p =
    let both = and_parts (ltb 47 b) (above 47 w) p in
    let lt : 47 < b = ltb-true 47 b both.0 in
    let other : eqb b 46 ≡ false = ne_eqb b 46 (λ e. omega arith) in
    rw (other, before_back w v both.1) refl

behind_back : (w v : List ℕ) → above 47 w ≡ true → behind_dot (w ++ 46 ∷ v) ≡ v
behind_back [] v p = refl
behind_back (b ∷ w) v p =
    let both = and_parts (ltb 47 b) (above 47 w) p in
    let lt : 47 < b = ltb-true 47 b both.0 in
    let other : eqb b 46 ≡ false = ne_eqb b 46 (λ e. omega arith) in
    rw other (behind_back w v both.1)

record IdBack (rank number : ℕ) (w : List ℕ) : Type 0 where
  before : digits_value 10 (before_dot w) ≡ rank
  behind : digits_value 10 (behind_dot w) ≡ number

id_back : (rank number : ℕ) → IsWithin (id rank number) → IdBack rank number (word (id rank number))
id_back rank number p =
    let both = and_parts (in_u32 rank) (nat_lt number (2 ^ 64)) p in
    let lt : rank < 2 ^ 64 = short_is rank both.0 in
    let digits = decimal_above rank in
    let parts : word (id rank number) ≡ decimal rank ++ 46 ∷ decimal number = append_assoc (decimal rank) (codes ".") (decimal number) in
    record {
      before = ap (λ (w : List ℕ). digits_value 10 (before_dot w)) parts
          ∙ ap (digits_value 10) (before_back (decimal rank) (decimal number) digits) ∙ decimal_back rank lt;
      behind = ap (λ (w : List ℕ). digits_value 10 (behind_dot w)) parts
          ∙ ap (digits_value 10) (behind_back (decimal rank) (decimal number) digits) ∙ decimal_back number (long_is number both.1);
    }

two : {X Y Z : Type 0} (f : X → Y → Z) {a b : X} {c d : Y} → a ≡ b → c ≡ d → f a c ≡ f b d
two f p q = cc

abbrev pub pair_field : ℕ × ℕ → Field
pair_field x = id x.0 x.1

pub pair_reads : Reads pair_field pair_in
unfolding pair_in
pair_reads = checked_reads pair_field (λ w. (digits_value 10 (before_dot w), digits_value 10 (behind_dot w)))
    (λ x p. let back = id_back x.0 x.1 p in two (λ (r n : ℕ). (r, n)) back.before back.behind)

-- targets, and what may be absent
target_back : (t : Target) → IsWithin (aim t) → target_guess (word (aim t)) ≡ t
target_back target.Any p = refl
target_back (target.Only rank) p = ap (λ (n : ℕ). target.Only (record { 0 = n })) (short_back rank.0 p)
target_back (target.Soft rank) p = ap (λ (n : ℕ). target.Soft (record { 0 = n })) (short_back rank.0 p)

pub target_reads : Reads aim target_in
unfolding target_in
target_reads = checked_reads aim target_guess target_back

answer_back : (o : Option Rank) → IsWithin (rank_or_none o) → answer_guess (word (rank_or_none o)) ≡ o
answer_back None p = refl
answer_back (Some rank) p =
    rw (first_digit rank.0 110 (short_is rank.0 p) (lit< tt)) (ap (λ (n : ℕ). let x : Option Rank = Some (record { 0 = n }) in x)
    (short_back rank.0 p))

pub answer_reads : Reads rank_or_none answer_in
unfolding answer_in
answer_reads = checked_reads rank_or_none answer_guess answer_back

top_back : (o : Option ℤ) → IsWithin (prio_or_none o) → top_guess (word (prio_or_none o)) ≡ o
top_back None p = refl
top_back (Some (pos n)) p =
    let small : n < 2 ^ 31 = ltb-true _ _ p in
    rw (first_digit n 110 (omega arith) (lit< tt)) (ap (λ (z : ℤ). Some z) (signed_back (pos n) p))
top_back (Some (negsuc n)) p = ap (λ (z : ℤ). Some z) (signed_back (negsuc n) p)

pub top_reads : Reads prio_or_none top_in
unfolding top_in
top_reads = checked_reads prio_or_none top_guess top_back

-- lists of types
kinds_back : (kinds : List WorkType) → list_all (λ k. in_u32 k.0) kinds ≡ true → map kind_guess (map (λ k. decimal k.0) kinds) ≡ kinds
kinds_back [] p = refl
kinds_back (k ∷ kinds) p =
    let both = and_parts (in_u32 k.0) (list_all (λ x. in_u32 x.0) kinds) p in
    two (λ (n : ℕ) (rest : List WorkType). let x : WorkType = record { 0 = n } in x ∷ rest) (short_back k.0 both.0)
    (kinds_back kinds both.1)

types_back : (o : Option (List WorkType)) → IsWithin (wanted o) → types_guess (word (wanted o)) ≡ o
types_back None p = refl
types_back (Some []) p = absurd cc
types_back (Some (k ∷ kinds)) p =
    let many = and_parts _ (list_all (λ x. in_u32 x.0) (k ∷ kinds)) p in
    let both = and_parts (in_u32 k.0) (list_all (λ x. in_u32 x.0) kinds) many.1 in
    let lt = short_is k.0 both.0 in
    let texts : List (List ℕ) = map (λ x. decimal x.0) kinds in
    let digit : eqb (get_or (join_with_byte 44 (decimal k.0 ∷ texts)) 0 0) 97 ≡ false =
    ap (λ b. eqb b 97) (first_joined 44 (decimal k.0) texts (decimal_some k.0 lt)) ∙ first_digit k.0 97 lt (lit< tt) in
    let parts : parts_of 44 (join_with_byte 44 (decimal k.0 ∷ texts)) ≡ decimal k.0 ∷ texts =
    split_joined 44 (decimal k.0) texts (kinds_plain 44 (omega arith) (k ∷ kinds)) in
    rw digit (ap (λ (ws : List (List ℕ)). Some (map kind_guess ws)) parts
    ∙ ap (λ (ks : List WorkType). Some ks) (kinds_back (k ∷ kinds) many.1))

pub types_reads : Reads wanted types_in
unfolding types_in
types_reads = checked_reads wanted types_guess types_back

-- bytes
glyph_back : (d : ℕ) → d < 16 → digit_value (digit_glyph false d) ≡ d
glyph_back d lt = elim (cases_lt d 10) [
  | inl small ↦ rw (lt-ltb d 10 small, le-ltb (48 + d) 48 (omega arith), lt-ltb (48 + d) 58 (omega arith)) (omega arith)
  | inr great ↦ rw (
    le-ltb d 10 great,
    le-ltb (87 + d) 48 (omega arith),
    le-ltb (87 + d) 58 (omega arith),
    le-ltb (87 + d) 65
        (omega arith),
    le-ltb (87 + d) 91 (omega arith),
    le-ltb (87 + d) 97 (omega arith),
    lt-ltb (87 + d) 123 (omega arith),
  ) (omega arith)
]

hex_back : (bs : List ℕ) → IsWithin (body bs) → unhex (flat_map hex bs) ≡ bs
hex_back [] p = refl
hex_back (b ∷ bs) p =
    let both = and_parts (ltb b (2 ^ 8)) (list_all (λ x. ltb x (2 ^ 8)) bs) p in
    let lt : b < 2 ^ 8 = ltb-true b (2 ^ 8) both.0 in
    let high = glyph_back (b / 16) (omega arith) in
    let low = glyph_back (b % 16) (omega arith) in
    let byte : digit_value (digit_glyph false (b / 16)) * 16 + digit_value (digit_glyph false (b % 16)) ≡ b = rw (high, low)
    (omega arith) in
    two (λ (x : ℕ) (rest : List ℕ). x ∷ rest) byte (hex_back bs both.1)

bytes_back : (bs : List ℕ) → IsWithin (body bs) → bytes_guess (word (body bs)) ≡ bs
bytes_back [] p = refl
bytes_back (b ∷ bs) p =
    let high = glyph_above (b / 16) in
    let other : eqb (digit_glyph false (b / 16)) 45 ≡ false = ne_eqb (digit_glyph false (b / 16)) 45 (λ e. omega arith) in
    rw other (hex_back (b ∷ bs) p)

pub bytes_reads : Reads body bytes_in
unfolding bytes_in
bytes_reads = checked_reads body bytes_guess bytes_back

end_back : (e : End) → IsWithin (told e) → end_guess (word (told e)) ≡ e
end_back ends.NoMoreWork p = refl
end_back ends.Exhausted p = refl

pub end_reads : Reads told end_in
unfolding end_in
end_reads = checked_reads told end_guess end_back

-- what the code found of a word is what the word is read as
pub gives : {A : Type 0} (field : A → Field) (read : List ℕ → Option A) → Reads field read → (w : List ℕ) (r : Result A LineFault)
    → Finds field w r → Gives (λ a. a) r (read w)
gives field read reads w (Ok a) found = ap read found.1 ∙ reads.again a found.0
gives field read reads w (Err fault.Memory) found = tt
gives field read reads w (Err fault.Bad) found = misses (read w) refl
  where
    misses : (o : Option _) → read w ≡ o → o ≡ None
    misses None e = refl
    misses (Some a) e = let is = reads.sound w a e in absurd (found a is.0 is.1)
