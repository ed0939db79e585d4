-- One definition more: why it is refused, and what it leaves.
use Rattle.std.proofs.Common.{◌≡◌, ◌<◌, ◌≤◌, ◌+◌, ◌==◌, ◌||◌, ◌⊎◌, inl, inr, ℕ, Bool, true, false, cond, ltb, List, [], ◌∷◌, ◌++◌, length}
use Rattle.std.proofs.Common.{not, count_by, Option, Some, None, refl, sym, ap, ◌∙◌, subst, arith}
use Rattle.std.specs.Prelude.{is_some, nat_le}
use Rattle.std.specs.List.{list_any, position_or_len, slice_get}
use Rattle.std.specs.Str.{bytes_eq}
use Rattle.std.proofs.lemmas.Bool.{cases_lt, cond-true, le-leb, le-ltb, leb-false, lt-leb, lt-ltb}
use Rattle.std.proofs.lemmas.Bool.Decides.{nat_tests}
use Rattle.std.proofs.lemmas.List.{length-append}
use Rattle.std.proofs.lemmas.List.Elements.{All-from_get_or}
use Rattle.std.proofs.lemmas.List.Folds.{list_any_at, list_any_none, position_or_len_push}
use Rattle.std.proofs.lemmas.List.Quantifiers.{position-Some}
use Rattle.std.proofs.lemmas.List.Sums.{fails_before_first, prefix_len-le-length, sum_by-append, sum_by-cons}
use Rattle.std.proofs.lemmas.Slice.Eq.{bytes_eq-Decides}
use Rattle.flow_law.specs.Flows.{AreDistinct, Name, name_of}
use Rattle.flow_law.specs.declared.Definition.{Definition}
use Rattle.flow_law.specs.declared.Definition.TheVariants.{Let}
use Rattle.flow_law.proofs.Turns.{named}
use Rattle.flow_app.specs.declared.faults.FlowWhy.TheVariants.{Twice, Many}
use Rattle.flow_app.specs.declared.reading.Reading.{Reading}
use Rattle.flow_app.specs.Kinds.{defines}
use Rattle.flow_app.specs.Reading.{define_fault, definition_limit}
use Rattle.flow_app.specs.Linked.{noted_number, number_of}
use Rattle.flow_app.specs.inside.Read.{Extends, IsRead}
use Rattle.flow_app.proofs.Cuts.{no_place}
use Rattle.flow_app.proofs.Numbered.{number_here}

-- a name has a number if and only if some definition is of that name
any_named : (ds : List Definition) (name : Name) (o : Option ℕ) → number_of ds name ≡ o → list_any (named name) ds ≡ is_some o
any_named ds name (Some i) e =
    let s = position-Some (named name) ds i (Let [] 0) e in
    list_any_at (named name) ds i (Let [] 0) s.0 s.1
any_named ds name None e =
    let at : position_or_len (named name) ds ≡ length ds = no_place (named name) ds e in
    list_any_none (named name) ds (All-from_get_or (λ d. named name d ≡ false) ds (Let [] 0) (λ k lt.
    let before : k < position_or_len (named name) ds = omega arith in fails_before_first (named name) ds k (Let [] 0) before))

module _ (ds : List Definition) (d : Definition) (name : Name) (same : name_of d ≡ name) (o : Option ℕ) (is : o ≡ number_of ds name) where
  any_is : list_any (λ e. bytes_eq (name_of e) (name_of d)) ds ≡ is_some o
  any_is = ap (λ n. list_any (named n) ds) same ∙ any_named ds name o (sym is)

  -- a name that is there is defined twice
  pub twice_is : is_some o ≡ true → define_fault ds d ≡ Some Twice
  twice_is some = ap (λ b. cond b (Some Twice) (cond (nat_le definition_limit (length ds)) (Some Many) None)) (any_is ∙ some)

  -- a new name beyond the limit is one definition too many
  pub many_is : is_some o ≡ false → nat_le definition_limit (length ds) ≡ true → define_fault ds d ≡ Some Many
  many_is none many =
      ap (λ b. cond b (Some Twice) (cond (nat_le definition_limit (length ds)) (Some Many) None)) (any_is ∙ none)
      ∙ ap (λ b. cond b (Some Many) None) many

  -- a new name within the limit is fine
  pub fine_is : is_some o ≡ false → nat_le definition_limit (length ds) ≡ false → define_fault ds d ≡ None
  fine_is none few =
      ap (λ b. cond b (Some Twice) (cond (nat_le definition_limit (length ds)) (Some Many) None)) (any_is ∙ none)
      ∙ ap (λ b. cond b (Some Many) None) few

-- what is not refused is new, and there is room
pub record IsNew (ds : List Definition) (d : Definition) : Type 0 where
  pub none : list_any (named (name_of d)) ds ≡ false
  pub few : nat_le definition_limit (length ds) ≡ false

-- a definition that is fine has a new name
pub new_if_fine : (ds : List Definition) (d : Definition) → define_fault ds d ≡ None → IsNew ds d
new_if_fine ds d e = at (list_any (named (name_of d)) ds) refl (nat_le definition_limit (length ds)) refl e
  where
    at : (b : Bool) → list_any (named (name_of d)) ds ≡ b → (c : Bool) → nat_le definition_limit (length ds) ≡ c →
        cond b (Some Twice) (cond c (Some Many) None) ≡ None → IsNew ds d
    at true is c also e = absurd (cc)
    at false is true also e = absurd (cc)
    at false is false also e = record { none = is; few = also }

-- what is counted of the first and of the rest
count_none : (name : Name) (x : Definition) (ds : List Definition) (b : Bool) → named name x ≡ b →
    (list_any (named name) ds ≡ false → count_by (named name) ds ≡ 0) → (b || list_any (named name) ds) ≡ false →
    count_by (named name) (x ∷ ds) ≡ 0
count_none name x ds true is rest e = absurd (cc)
count_none name x ds false is rest e =
    let later = rest e in
    let here : cond {A = ℕ} (named name x) 1 0 ≡ 0 = ap (λ b. cond {A = ℕ} b 1 0) is in
    omega (arith, later, here, sum_by-cons (λ y. cond {A = ℕ} (named name y) 1 0) x ds)

no_count : (name : Name) (ds : List Definition) → list_any (named name) ds ≡ false → count_by (named name) ds ≡ 0
no_count name [] e = refl
no_count name (x ∷ ds) e = count_none name x ds (named name x) refl (no_count name ds) e

-- with a new definition the names are distinct
pub distinct_more : (ds : List Definition) (d : Definition) → AreDistinct ds → list_any (named (name_of d)) ds ≡ false
    → AreDistinct (ds ++ d ∷ [])
distinct_more ds d distinct new name = at (named name d) refl
  where
    sums : count_by (named name) (ds ++ d ∷ []) ≡ count_by (named name) ds + count_by (named name) (d ∷ [])
    sums = sum_by-append (λ y. cond {A = ℕ} (named name y) 1 0) ds (d ∷ [])

    one : count_by (named name) (d ∷ []) ≡ cond (named name d) 1 0 + count_by (named name) []
    one = sum_by-cons (λ y. cond {A = ℕ} (named name y) 1 0) d []

    at : (b : Bool) → named name d ≡ b → count_by (named name) (ds ++ d ∷ []) ≤ 1
    at true is =
        let same : name_of d ≡ name = (bytes_eq-Decides (name_of d) name).0 is in
        let none : count_by (named name) ds ≡ 0 = no_count name ds (ap (λ n. list_any (named n) ds) (sym same) ∙ new) in
        let here : cond {A = ℕ} (named name d) 1 0 ≡ 1 = ap (λ b. cond {A = ℕ} b 1 0) is in
        omega (arith, sums, one, none, here)
    at false is =
        let here : cond {A = ℕ} (named name d) 1 0 ≡ 0 = ap (λ b. cond {A = ℕ} b 1 0) is in
        omega (arith, sums, one, here, distinct name)

pick : (n m : ℕ) → n < m → cond (ltb n m) (Some n) None ≡ Some n
pick n m lt = cond-true (ltb n m) (Some n) None (lt-ltb n m lt)

pass : (n m : ℕ) → m ≤ n → cond (ltb n m) (Some n) None ≡ None
pass n m le = ap (λ b. cond b (Some n) None) (le-ltb n m le)

-- a definition of another name leaves the number of a name
same_number : (ds : List Definition) (d : Definition) (name : Name) → named name d ≡ false
    → number_of (ds ++ d ∷ []) name ≡ number_of ds name
same_number ds d name isnt = at (cases_lt (position_or_len (named name) ds) (length ds))
  where
    pushed : position_or_len (named name) (ds ++ d ∷ []) ≡
        cond (position_or_len (named name) ds == length ds) (length ds + cond (named name d) 0 1) (position_or_len (named name) ds)
    pushed = position_or_len_push (named name) ds d

    at : (position_or_len (named name) ds < length ds) ⊎ (length ds ≤ position_or_len (named name) ds) →
        number_of (ds ++ d ∷ []) name ≡ number_of ds name
    at (inl lt) =
        let test : (position_or_len (named name) ds == length ds) ≡ false = grind (arith, nat_tests) in
        let new : position_or_len (named name) (ds ++ d ∷ []) ≡ position_or_len (named name) ds =
        pushed ∙ ap (λ b. cond b (length ds + cond (named name d) 0 1) (position_or_len (named name) ds)) test in
        let less : position_or_len (named name) ds < length (ds ++ d ∷ []) = omega (arith, lt, length-append ds (d ∷ [])) in
        ap (λ m. cond (ltb m (length (ds ++ d ∷ []))) (Some m) None) new
        ∙ pick (position_or_len (named name) ds) (length (ds ++ d ∷ [])) less
        ∙ sym (pick (position_or_len (named name) ds) (length ds) lt)
    at (inr le) =
        let same : position_or_len (named name) ds ≡ length ds = omega (arith, le, prefix_len-le-length (λ x. not (named name x)) ds) in
        let test : (position_or_len (named name) ds == length ds) ≡ true = grind (arith, nat_tests) in
        let new : position_or_len (named name) (ds ++ d ∷ []) ≡ length ds + cond (named name d) 0 1 =
        pushed ∙ ap (λ b. cond b (length ds + cond (named name d) 0 1) (position_or_len (named name) ds)) test in
        let one : cond {A = ℕ} (named name d) 0 1 ≡ 1 = ap (λ b. cond {A = ℕ} b 0 1) isnt in
        let past : length (ds ++ d ∷ []) ≤ position_or_len (named name) (ds ++ d ∷ []) = omega (
          arith,
          new,
          one,
          length-append ds (d ∷ []),
        ) in
        pass (position_or_len (named name) (ds ++ d ∷ [])) (length (ds ++ d ∷ [])) past
        ∙ sym (pass (position_or_len (named name) ds) (length ds) le)

last_at : {X : Type 0} (xs : List X) (x : X) → slice_get (xs ++ x ∷ []) (length xs) ≡ Some x
last_at [] x = refl
last_at (y ∷ xs) x = last_at xs x

-- the numbers of names, with one definition more
pub number_more : (ds : List Definition) (d : Definition) → AreDistinct (ds ++ d ∷ []) → (name : Name) →
    cond (bytes_eq (name_of d) name) (Some (length ds)) (number_of ds name) ≡ number_of (ds ++ d ∷ []) name
number_more ds d distinct name = at (named name d) refl
  where
    at : (b : Bool) → named name d ≡ b → cond (named name d) (Some (length ds)) (number_of ds name) ≡ number_of (ds ++ d ∷ []) name
    at true is =
        let same : name_of d ≡ name = (bytes_eq-Decides (name_of d) name).0 is in
        ap (λ b. cond b (Some (length ds)) (number_of ds name)) is
        ∙ sym (ap (number_of (ds ++ d ∷ [])) (sym same) ∙ number_here (ds ++ d ∷ []) distinct (length ds) d (last_at ds d))
    at false is = ap (λ b. cond b (Some (length ds)) (number_of ds name)) is ∙ sym (same_number ds d name is)

-- a number at most another passes the test
pub le_test : (n m : ℕ) → n ≤ m → nat_le n m ≡ true
le_test n m le = le-leb n m le

-- a number above another fails the test
pub lt_test : (n m : ℕ) → m < n → nat_le n m ≡ false
lt_test n m lt = lt-leb n m lt

-- what was read with one definition more
pub extended : (old new : Reading) (d : Definition) (name : Name) (n : ℕ) → IsRead old → define_fault old.definitions.items d ≡ None →
    name ≡ name_of d → n ≡ length old.definitions.items → new.definitions.items ≡ old.definitions.items ++ d ∷ [] →
    ((other : Name) → noted_number new.numbers other ≡ cond (bytes_eq name other) (Some n) (noted_number old.numbers other)) →
    Extends old (defines d) new
extended old new d name n read fine named at more noted =
    let is_new = new_if_fine old.definitions.items d fine in
    let distinct : AreDistinct (old.definitions.items ++ d ∷ []) = distinct_more old.definitions.items d read.distinct is_new.none in
    let below : length old.definitions.items < definition_limit = leb-false definition_limit (length old.definitions.items) is_new.few in
    record {
      read = record {
        distinct = subst AreDistinct (sym more) distinct;
        few = omega (arith, ap length more, length-append old.definitions.items (d ∷ []), below);
        numbers = λ other.
            noted other ∙ ap (λ b. cond (bytes_eq b other) (Some n) (noted_number old.numbers other)) named
            ∙ ap (λ m. cond (bytes_eq (name_of d) other) (Some m) (noted_number old.numbers other)) at
            ∙ ap (λ o. cond (bytes_eq (name_of d) other) (Some (length old.definitions.items)) o) (read.numbers other)
            ∙ number_more old.definitions.items d distinct other ∙ ap (λ l. number_of l other) (sym more);
      };
      fine = fine;
      more = more;
    }
