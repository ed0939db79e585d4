-- What a store holds stays true as values come.
use Rattle.std.proofs.Common.{◌≡◌, ◌≢◌, ◌<◌, ◌≤◌, ◌==◌, ◌+◌, ◌||◌, ◌&&◌, ◌⊎◌, inl, inr, ℕ, zero, suc, Bool, true, false, cond, List}
use Rattle.std.proofs.Common.{[], ◌∷◌, ◌++◌, length, get_or, drop, drop-cons, take, Option, Some, None, refl, sym, ap, ◌∙◌, subst}
use Rattle.std.proofs.Common.{arith}
use Rattle.std.specs.Prelude.{is_none, is_some, nat_lt, slice_set}
use Rattle.std.specs.List.{slice_get}
use Rattle.std.proofs.lemmas.Bool.{and_parts, cases_eq, cases_lt, eq-eqb, eqb-true, lt-ltb, ltb-true}
use Rattle.std.proofs.lemmas.List.{get_or-set_same, get_or-set_other, length-append, length-set}
use Rattle.std.proofs.lemmas.List.Folds.{list_all-append, list_any-append, list_any_at}
use Rattle.flow_law.specs.Flows.{Name, gives, joined}
use Rattle.flow_law.specs.declared.Definition.{Definition}
use Rattle.flow_law.specs.declared.Definition.TheVariants.{Rule}
use Rattle.flow_law.specs.declared.Op.{Op}
use Rattle.flow_law.proofs.Turns.{IsMore, gives_more, some_of}
use Rattle.flow_app.specs.Linked.{are_below, asks, has, inputs_of, is_number, number_of}
use Rattle.flow_app.specs.Stored.{IsDone, IsLaid, first_stays, is_noted, value_at, value_of, worth_in}

-- Values.

-- a value that is there stays when one comes where none was
pub value_stays : (values : List (Option ℕ)) (place v i w : ℕ) → value_at values place ≡ None → value_at values i ≡ Some w →
    value_at (slice_set values place (Some v)) i ≡ Some w
value_stays values place v i w none is = elim (cases_eq i place) [
  | inl same ↦ absurd (let h : None ≡ Some w = sym none ∙ ap (value_at values) (sym same) ∙ is in cc)
  | inr other ↦ get_or-set_other values place i (Some v) None other ∙ is
]

-- a value that is there then is the one that came, or was there
pub value_was : (values : List (Option ℕ)) (place v i w : ℕ) → place < length values
    → value_at (slice_set values place (Some v)) i ≡ Some w →
    ((i ≡ place) × (w ≡ v)) ⊎ (value_at values i ≡ Some w)
value_was values place v i w inside is = elim (cases_eq i place) [
  | inl same ↦
      let new : value_at (slice_set values place (Some v)) place ≡ Some v = get_or-set_same values place (Some v) None inside in
      let here : Some v ≡ Some w = sym new ∙ ap (value_at (slice_set values place (Some v))) (sym same) ∙ is in
      let e : w ≡ v = cc in
      inl (same, e)
  | inr other ↦ inr (sym (get_or-set_other values place i (Some v) None other) ∙ is)
]

-- an input of another number is worth what it was
not_number : (o : Option ℕ) (values : List (Option ℕ)) (place v : ℕ) → is_number o place ≡ false →
    value_of (slice_set values place (Some v)) o ≡ value_of values o
not_number None values place v isnt = refl
not_number (Some n) values place v isnt = get_or-set_other values place n (Some v) None (other n place isnt)
  where
    other : (n place : ℕ) → (n == place) ≡ false → n ≢ place
    other n place isnt same = let h : true ≡ false = sym (eq-eqb n place same) ∙ isnt in cc

worth_more : (flow : List Definition) (values : List (Option ℕ)) (place v : ℕ) → value_at values place ≡ None →
    IsMore (worth_in flow (slice_set values place (Some v))) (worth_in flow values)
worth_more flow values place v none name w is = at (number_of flow name) is
  where
    at : (o : Option ℕ) → value_of values o ≡ Some w → value_of (slice_set values place (Some v)) o ≡ Some w
    at None e = absurd (cc)
    at (Some i) e = value_stays values place v i w none e

gives_stays : (flow : List Definition) (values : List (Option ℕ)) (place v : ℕ) (d : Definition) → value_at values place ≡ None →
    is_some (gives (worth_in flow values) d) ≡ true → is_some (gives (worth_in flow (slice_set values place (Some v))) d) ≡ true
gives_stays flow values place v d none some =
    let s = some_of (gives (worth_in flow values) d) some in
    ap is_some
    (gives_more (worth_in flow values) (worth_in flow (slice_set values place (Some v))) (worth_more flow values place v none) d s.0 s.1)

-- a rule that becomes ready asks for the value that came
gives_was : (flow : List Definition) (values : List (Option ℕ)) (place v : ℕ) (name : Name) (op : Op) (left right : Name) →
    is_some (gives (worth_in flow (slice_set values place (Some v))) (Rule name op left right)) ≡ true →
    (is_some (gives (worth_in flow values) (Rule name op left right)) ≡ true)
    ⊎ (asks (inputs_of flow (Rule name op left right)) place ≡ true)
gives_was flow values place v name op left right some =
    by_left (is_number (number_of flow left) place) refl (is_number (number_of flow right) place) refl
  where
    W : Name → Option ℕ
    W n = worth_in flow values n

    V : Name → Option ℕ
    V n = worth_in flow (slice_set values place (Some v)) n

    by_left : (b : Bool) → is_number (number_of flow left) place ≡ b → (c : Bool) → is_number (number_of flow right) place ≡ c →
        (is_some (gives (worth_in flow values) (Rule name op left right)) ≡ true)
        ⊎ (asks (inputs_of flow (Rule name op left right)) place ≡ true)
    by_left true is c also = inr (ap (λ b. b || is_number (number_of flow right) place) is)
    by_left false is true also = inr (ap (λ b. b || is_number (number_of flow right) place) is ∙ also)
    by_left false is false also =
        let l : worth_in flow (slice_set values place (Some v)) left ≡ worth_in flow values left =
        not_number (number_of flow left) values place v is in
        let r : worth_in flow (slice_set values place (Some v)) right ≡ worth_in flow values right =
        not_number (number_of flow right) values place v also in
        inl (ap (λ o. is_some (joined op o (worth_in flow values right))) (sym l)
        ∙ ap (λ o. is_some (joined op (worth_in flow (slice_set values place (Some v)) left) o)) (sym r) ∙ some)

-- Lists of numbers.

has_none : (i : ℕ) → has [] i ≡ true → ⊥
has_none i e = cc

-- a number of a list is its head or one of the rest
has_cases : (x : ℕ) (xs : List ℕ) (i : ℕ) → has (x ∷ xs) i ≡ true → (x ≡ i) ⊎ (has xs i ≡ true)
has_cases x xs i e = at (x == i) refl e
  where
    at : (b : Bool) → (x == i) ≡ b → (b || has xs i) ≡ true → (x ≡ i) ⊎ (has xs i ≡ true)
    at true is e = inl (eqb-true x i is)
    at false is e = inr e

-- what a list has it has after an append
pub has_append : (xs ys : List ℕ) (i : ℕ) → has xs i ≡ true → has (xs ++ ys) i ≡ true
has_append xs ys i e = list_any-append (λ x. x == i) xs ys ∙ ap (λ b. b || has ys i) e

-- a list has what is pushed
pub has_push : (xs : List ℕ) (i : ℕ) → has (xs ++ i ∷ []) i ≡ true
has_push xs i = list_any-append (λ x. x == i) xs (i ∷ []) ∙ at (has xs i) (i == i) (same i)
  where
    same : (i : ℕ) → (i == i) ≡ true
    same i = eq-eqb i i refl

    at : (b c : Bool) → c ≡ true → (b || (c || false)) ≡ true
    at true c e = refl
    at false true e = refl
    at false false e = absurd (cc)

has_push_cases : (xs : List ℕ) (x i : ℕ) → has (xs ++ x ∷ []) i ≡ true → (has xs i ≡ true) ⊎ (x ≡ i)
has_push_cases xs x i e = at (has xs i) refl (sym (list_any-append (λ y. y == i) xs (x ∷ [])) ∙ e)
  where
    at : (b : Bool) → has xs i ≡ b → (has xs i || has (x ∷ []) i) ≡ true → (has xs i ≡ true) ⊎ (x ≡ i)
    at true is e = inl is
    at false is e = elim (has_cases x [] i (ap (λ b. b || has (x ∷ []) i) (sym is) ∙ e)) [
      | inl same ↦ inr same
      | inr not_there ↦ absurd (has_none i not_there)
    ]

-- a number of two lists end to end is one of either
pub has_append_cases : (xs ys : List ℕ) (i : ℕ) → has (xs ++ ys) i ≡ true → (has xs i ≡ true) ⊎ (has ys i ≡ true)
has_append_cases xs ys i e = at (has xs i) refl (sym (list_any-append (λ y. y == i) xs ys) ∙ e)
  where
    at : (b : Bool) → has xs i ≡ b → (has xs i || has ys i) ≡ true → (has xs i ≡ true) ⊎ (has ys i ≡ true)
    at true is e = inl is
    at false is e = inr (ap (λ b. b || has ys i) (sym is) ∙ e)

-- what is appended to a list it has from then on
pub has_later : (xs ys : List ℕ) (i : ℕ) → has ys i ≡ true → has (xs ++ ys) i ≡ true
has_later xs ys i e = list_any-append (λ x. x == i) xs ys ∙ at (has xs i) (has ys i) e
  where
    at : (b c : Bool) → c ≡ true → (b || c) ≡ true
    at true c is = refl
    at false c is = is

-- what lies past the end is not set
pub set_past : (values : List (Option ℕ)) (i : ℕ) (o : Option ℕ) → length values ≤ i → slice_set values i o ≡ values
set_past [] i o past = refl
set_past (x ∷ values) zero o past = absurd (omega (arith, past))
set_past (x ∷ values) (suc i) o past = ap (λ (l : List (Option ℕ)). x ∷ l) (set_past values i o (omega (arith, past)))

-- two tests that pass do so together
pub both : (b c : Bool) → b ≡ true → c ≡ true → (b && (c && true)) ≡ true
both true true e f = refl
both true false e f = absurd (cc)
both false c e f = absurd (cc)

-- each number of a list passes the test of all of them
pub below_at : (n : ℕ) (xs : List ℕ) (i d : ℕ) → are_below n xs ≡ true → i < length xs → get_or xs i d < n
below_at n [] i d e inside = absurd (omega (arith, inside))
below_at n (x ∷ xs) zero d e inside = ltb-true x n (and_parts (nat_lt x n) (are_below n xs) e).0
below_at n (x ∷ xs) (suc i) d e inside = below_at n xs i d (and_parts (nat_lt x n) (are_below n xs) e).1 (omega (arith, inside))

-- Steps of a store.

-- a value came; the rules that ask for it are to be noted
pub value_came : (flow : List Definition) (values : List (Option ℕ)) (noted : List Bool) (ready : List ℕ) (next : ℕ) (users : List ℕ)
    (place v : ℕ) →
    IsLaid flow values noted ready next [] → place < length flow → value_at values place ≡ None →
    ((q : ℕ) (d : Definition) → slice_get flow q ≡ Some d → asks (inputs_of flow d) place ≡ true → has users q ≡ true) →
    IsLaid flow (slice_set values place (Some v)) noted ready next users
value_came flow values noted ready next users place v s inside none asked_all = record {
  long = length-set values place (Some v) ∙ s.long;
  marks = s.marks;
  inside = s.inside;
  within = s.within;
  rules = λ i name op left r at some. elim (gives_was flow values place v name op left r some) [
    | inl was ↦ elim (s.rules i name op left r at was) [ inl noted ↦ inl noted | inr not_there ↦ absurd (has_none i not_there) ]
    | inr asked ↦ inr (asked_all i (Rule name op left r) at asked)
  ];
  listed = s.listed;
  all = s.all;
  once = s.once;
  grounded = λ i d at noted. gives_stays flow values place v d none (s.grounded i d at noted);
}

-- a rule that is noted already, or whose inputs have no values, need not be noted
pub need_not : (flow : List Definition) (values : List (Option ℕ)) (noted : List Bool) (ready : List ℕ) (next rule : ℕ) (rest : List ℕ) →
    IsLaid flow values noted ready next (rule ∷ rest) →
    ((name : Name) (op : Op) (left right : Name) → slice_get flow rule ≡ Some (Rule name op left right) →
    is_some (gives (worth_in flow values) (Rule name op left right)) ≡ true → is_noted noted rule ≡ true) →
    IsLaid flow values noted ready next rest
need_not flow values noted ready next rule rest s is_in = record {
  long = s.long;
  marks = s.marks;
  inside = s.inside;
  within = s.within;
  rules = λ i name op left r at some. elim (s.rules i name op left r at some) [
    | inl noted ↦ inl noted
    | inr there ↦ elim (has_cases rule rest i there) [
      | inl same ↦
          let here : slice_get flow rule ≡ Some (Rule name op left r) =
          subst (λ k. slice_get flow k ≡ Some (Rule name op left r)) (sym same) at in
          inl (subst (λ k. is_noted noted k ≡ true) same (is_in name op left r here some))
      | inr later ↦ inr later
    ]
  ];
  listed = s.listed;
  all = s.all;
  once = s.once;
  grounded = s.grounded;
}

-- a mark that is set
mark_stays : (noted : List Bool) (rule i : ℕ) → rule < length noted → is_noted noted i ≡ true
    → is_noted (slice_set noted rule true) i ≡ true
mark_stays noted rule i inside is = elim (cases_eq i rule) [
  | inl same ↦ ap (is_noted (slice_set noted rule true)) same ∙ get_or-set_same noted rule true false inside
  | inr other ↦ get_or-set_other noted rule i true false other ∙ is
]

mark_was : (noted : List Bool) (rule i : ℕ) → is_noted (slice_set noted rule true) i ≡ true → (i ≡ rule) ⊎ (is_noted noted i ≡ true)
mark_was noted rule i is = elim (cases_eq i rule) [
  | inl same ↦ inl same
  | inr other ↦ inr (sym (get_or-set_other noted rule i true false other) ∙ is)
]

-- what was to be taken still is, and what is noted now as well
drop_push : (next : ℕ) (ready : List ℕ) (rule : ℕ) → next ≤ length ready → drop next (ready ++ rule ∷ []) ≡ drop next ready ++ rule ∷ []
drop_push zero ready rule le = refl
drop_push (suc next) [] rule le = absurd (omega (arith, le))
drop_push (suc next) (x ∷ ready) rule le = drop_push next ready rule (omega (arith, le))

-- what is in a list that grew by one, and what comes before it
pushed_at : (xs : List ℕ) (x k i : ℕ) → slice_get (xs ++ x ∷ []) k ≡ Some i →
    ((slice_get xs k ≡ Some i) × (take k (xs ++ x ∷ []) ≡ take k xs)) ⊎ ((x ≡ i) × (take k (xs ++ x ∷ []) ≡ xs))
pushed_at [] x zero i at = let same : x ≡ i = cc in inr (same, refl)
pushed_at [] x (suc k) i at = absurd (cc)
pushed_at (y ∷ xs) x zero i at = inl (at, refl)
pushed_at (y ∷ xs) x (suc k) i at = elim (pushed_at xs x k i at) [
  | inl old ↦ inl (old.0, ap (λ (l : List ℕ). y ∷ l) old.1)
  | inr new ↦ inr (new.0, ap (λ (l : List ℕ). y ∷ l) new.1)
]

-- a rule that was not noted is
pub was_noted : (flow : List Definition) (values : List (Option ℕ)) (noted : List Bool) (ready : List ℕ) (next rule : ℕ) (rest : List ℕ) →
    IsLaid flow values noted ready next (rule ∷ rest) → rule < length flow → is_noted noted rule ≡ false →
    ((d : Definition) → slice_get flow rule ≡ Some d → is_some (gives (worth_in flow values) d) ≡ true) →
    IsLaid flow values (slice_set noted rule true) (ready ++ rule ∷ []) next rest
was_noted flow values noted ready next rule rest s inside new worthy =
    let room : rule < length noted = omega (arith, s.marks, inside) in
    let here : is_noted (slice_set noted rule true) rule ≡ true = get_or-set_same noted rule true false room in
    record {
      long = s.long;
      marks = length-set noted rule true ∙ s.marks;
      inside = omega (arith, s.inside, length-append ready (rule ∷ []));
      within = list_all-append (λ x. nat_lt x (length flow)) ready (rule ∷ [])
          ∙ both (are_below (length flow) ready) (nat_lt rule (length flow)) s.within (lt-ltb rule (length flow) inside);
      rules = λ i name op left r at some. elim (s.rules i name op left r at some) [
        | inl noted_i ↦ inl (mark_stays noted rule i room noted_i)
        | inr there ↦ elim (has_cases rule rest i there) [
          | inl same ↦ inl (subst (λ k. is_noted (slice_set noted rule true) k ≡ true) same here)
          | inr later ↦ inr later
        ]
      ];
      listed = λ i there. elim (has_push_cases ready rule i there) [
        | inl was ↦ mark_stays noted rule i room (s.listed i was)
        | inr same ↦ subst (λ k. is_noted (slice_set noted rule true) k ≡ true) same here
      ];
      all = λ i is. elim (mark_was noted rule i is) [
        | inl same ↦ subst (λ k. has (ready ++ rule ∷ []) k ≡ true) (sym same) (has_push ready rule)
        | inr was ↦ has_append ready (rule ∷ []) i (s.all i was)
      ];
      once = λ k i at. elim (pushed_at ready rule k i at) [
        | inl old ↦ ap (λ l. has l i) old.1 ∙ s.once k i old.0
        | inr last ↦ ap (λ l. has l i) last.1 ∙ subst (λ m. has ready m ≡ false) last.0 (fresh (has ready rule) refl)
      ];
      grounded = λ i d at is. elim (mark_was noted rule i is) [
        | inl same ↦ worthy d (subst (λ k. slice_get flow k ≡ Some d) same at)
        | inr was ↦ s.grounded i d at was
      ];
    }
  where
    fresh : (b : Bool) → has ready rule ≡ b → has ready rule ≡ false
    fresh false is = is
    fresh true is = absurd (let e : true ≡ false = sym (s.listed rule is) ∙ new in cc)

-- what is ready next is noted
pub next_noted : (flow : List Definition) (values : List (Option ℕ)) (noted : List Bool) (ready : List ℕ) (next d : ℕ) (rest : List ℕ) →
    IsLaid flow values noted ready next rest → next < length ready → is_noted noted (get_or ready next d) ≡ true
next_noted flow values noted ready next d rest s more =
    s.listed (get_or ready next d) (list_any_at (λ x. x == get_or ready next d) ready next d more (same (get_or ready next d)))
  where
    same : (i : ℕ) → (i == i) ≡ true
    same i = eq-eqb i i refl

-- the next rule was taken
pub was_taken : (flow : List Definition) (values : List (Option ℕ)) (noted : List Bool) (ready : List ℕ) (next : ℕ) (rest : List ℕ) →
    IsLaid flow values noted ready next rest → next < length ready → IsLaid flow values noted ready (next + 1) rest
was_taken flow values noted ready next rest s more = record {
  long = s.long;
  marks = s.marks;
  inside = omega (arith, more);
  within = s.within;
  rules = s.rules;
  listed = s.listed;
  all = s.all;
  once = s.once;
  grounded = s.grounded;
}

-- a rule that has a value was taken
pub taken_done : (values : List (Option ℕ)) (noted : List Bool) (ready : List ℕ) (next d : ℕ) →
    IsDone values noted ready next → next < length ready → is_some (value_at values (get_or ready next d)) ≡ true →
    IsDone values noted ready (next + 1)
taken_done values noted ready next d done more some i noted_i = elim (done i noted_i) [
  | inl there ↦
      let cut : drop next ready ≡ get_or ready next d ∷ drop (suc next) ready = drop-cons ready next d more in
      let later : suc next ≡ next + 1 = omega arith in
      elim (has_cases (get_or ready next d) (drop (suc next) ready) i (ap (λ l. has l i) (sym cut) ∙ there)) [
        | inl same ↦ inr (subst (λ k. is_some (value_at values k) ≡ true) same some)
        | inr rest ↦ inl (subst (λ k. has (drop k ready) i ≡ true) later rest)
      ]
  | inr had ↦ inr had
]

-- what came to be noted since is still to be taken
pub still_done : (flow : List Definition) (old new : List (Option ℕ)) (was noted : List Bool) (first last : List ℕ) (next : ℕ) →
    IsLaid flow old was first next [] → IsLaid flow new noted last next [] → (more : List ℕ) → last ≡ first ++ more →
    ((i w : ℕ) → value_at old i ≡ Some w → value_at new i ≡ Some w) → IsDone old was first next → IsDone new noted last next
still_done flow old new was noted first last next s t more grown stays done i noted_i =
    elim (has_append_cases first more i (ap (λ l. has l i) (sym grown) ∙ t.all i noted_i)) [
      | inl before ↦ elim (done i (s.listed i before)) [
        | inl there ↦ inl (ap (λ l. has l i) cut ∙ has_append (drop next first) more i there)
        | inr some ↦ let w = some_of (value_at old i) some in inr (ap is_some (stays i w.0 w.1))
      ]
      | inr after ↦ inl (ap (λ l. has l i) cut ∙ has_later (drop next first) more i after)
    ]
  where
    dropped : (n : ℕ) (xs ys : List ℕ) → n ≤ length xs → drop n (xs ++ ys) ≡ drop n xs ++ ys
    dropped zero xs ys le = refl
    dropped (suc n) [] ys le = absurd (omega (arith, le))
    dropped (suc n) (x ∷ xs) ys le = dropped n xs ys (omega (arith, le))

    cut : drop next last ≡ drop next first ++ more
    cut = ap (drop next) grown ∙ dropped next first more s.inside

-- the first value of a number that has one stays
pub stays_there : (values : List (Option ℕ)) (i v j w : ℕ) → value_at values j ≡ Some w → value_at (first_stays values i v) j ≡ Some w
stays_there values i v j w is = at (value_at values i) refl
  where
    at : (o : Option ℕ) → value_at values i ≡ o → value_at (cond (is_some o) values (slice_set values i (Some v))) j ≡ Some w
    at (Some x) here = is
    at None here = value_stays values i v j w here is

-- what a number has then, it had, or it is the value that came, where none was
pub came_there : (values : List (Option ℕ)) (i v j w : ℕ) → value_at (first_stays values i v) j ≡ Some w →
    ((j ≡ i) × (w ≡ v) × (value_at values i ≡ None)) ⊎ (value_at values j ≡ Some w)
came_there values i v j w is = at (value_at values i) refl is
  where
    at : (o : Option ℕ) → value_at values i ≡ o → value_at (cond (is_some o) values (slice_set values i (Some v))) j ≡ Some w →
        ((j ≡ i) × (w ≡ v) × (value_at values i ≡ None)) ⊎ (value_at values j ≡ Some w)
    at (Some x) here h = inr h
    at None here h = elim (cases_lt i (length values)) [
      | inl inside ↦ elim (value_was values i v j w inside h) [ inl new ↦ inl (new.0, new.1, here) | inr was ↦ inr was ]
      | inr outside ↦ inr (ap (λ l. value_at l j) (sym (set_past values i (Some v) outside)) ∙ h)
    ]

-- the value that came is there, where none was
pub came_here : (values : List (Option ℕ)) (i v : ℕ) → i < length values → value_at values i ≡ None →
    value_at (first_stays values i v) i ≡ Some v
came_here values i v inside none =
    ap (λ o. value_at (cond (is_some o) values (slice_set values i (Some v))) i) none ∙ get_or-set_same values i (Some v) None inside

-- the next of the rules that are to be noted
pub rest_next : (flow : List Definition) (values : List (Option ℕ)) (noted : List Bool) (ready : List ℕ) (next : ℕ)
    (items : List ℕ) (k : ℕ) →
    k < length items → IsLaid flow values noted ready next (drop k items) →
    IsLaid flow values noted ready next (get_or items k 0 ∷ drop (k + 1) items)
rest_next flow values noted ready next items k inside s =
    let later : suc k ≡ k + 1 = omega arith in
    subst (IsLaid flow values noted ready next) (drop-cons items k 0 inside ∙ ap (λ n. get_or items k 0 ∷ drop n items) later) s

-- an option does not both have a value and lack one
pub not_both : (o : Option ℕ) → is_some o ≡ true → is_none o ≡ true → ⊥
not_both None has none = cc
not_both (Some v) has none = cc

-- an option that does not lack a value has one
pub some_if : (o : Option ℕ) → is_none o ≡ false → is_some o ≡ true
some_if None e = absurd (cc)
some_if (Some v) e = refl
