-- Every name that has a value has it after as many turns as there are definitions.
use Rattle.std.proofs.Common.{◌≡◌, ◌<◌, ◌≤◌, ◌+◌, ◌-◌, ◌⊎◌, ◌↔◌, ℕ, zero, suc, inl, inr, Bool, true, false, cond, List, [], ◌∷◌, length}
use Rattle.std.proofs.Common.{get_or, Option, Some, None, Contains, All, count_by, refl, sym, ap, ◌∙◌, subst, arith}
use Rattle.std.specs.Prelude.{is_some}
use Rattle.std.specs.Str.{bytes_eq}
use Rattle.std.proofs.lemmas.Bool.{cases_lt}
use Rattle.std.proofs.lemmas.List.Elements.{All-cons, All-contains}
use Rattle.std.proofs.lemmas.List.Sums.{count_by-le-length, sum_by-cons}
use Rattle.std.proofs.lemmas.Slice.Eq.{bytes_eq-Decides}
use Rattle.flow_law.specs.Flows.{AreDistinct, HasValue, Name, apply, given, gives, joined, looked_up, name_of, ruled, turn, value}
use Rattle.flow_law.specs.declared.Definition.{Definition}
use Rattle.flow_law.specs.declared.Definition.TheVariants.{Let, Rule}
use Rattle.flow_law.specs.declared.Op.{Op}

-- What names are worth.

-- what each name is worth, if anything
abbrev pub Worth : Type 0
Worth = Name → Option ℕ

-- one knows all that the other knows
abbrev pub IsMore : Worth → Worth → Type 0
IsMore more less = (name : Name) (v : ℕ) → less name ≡ Some v → more name ≡ Some v

-- what both inputs of a rule that has a value are worth
record Inputs (op : Op) (x y : Option ℕ) (v : ℕ) : Type 0 where
  a : ℕ
  b : ℕ
  left : x ≡ Some a
  right : y ≡ Some b
  is : v ≡ apply op a b

inputs_of : (op : Op) (x y : Option ℕ) (v : ℕ) → joined op x y ≡ Some v → Inputs op x y v
inputs_of op (Some a) (Some b) v e = record { a = a; b = b; left = refl; right = refl; is = cc }
inputs_of op None y v e = absurd (cc)
inputs_of op (Some a) None v e = absurd (cc)

-- a definition that has a value has it still where more names have theirs
pub gives_more : (less more : Worth) → IsMore more less → (d : Definition) (v : ℕ) → gives less d ≡ Some v → gives more d ≡ Some v
gives_more less more knows (Let name w) v e = e
gives_more less more knows (Rule name op left right) v e =
    let i = inputs_of op (less left) (less right) v e in
    ap (λ x. joined op x (more right)) (knows left i.a i.left) ∙ ap (λ y. joined op (Some i.a) y) (knows right i.b i.right)
    ∙ ap Some (sym i.is)

-- by whether a definition is of the name
by_name : (b : Bool) (x y z w : Option ℕ) (v : ℕ) → (x ≡ Some v → z ≡ Some v) → (y ≡ Some v → w ≡ Some v) → cond b x y ≡ Some v
    → cond b z w ≡ Some v
by_name true x y z w v first later e = first e
by_name false x y z w v first later e = later e

-- a flow looked up where more is known gives more
pub looked_more : (less more : Worth) → IsMore more less → (flow : List Definition) → IsMore (looked_up more flow) (looked_up less flow)
unfolding looked_up
looked_more less more knows [] name v e = e
looked_more less more knows (d ∷ flow) name v e =
    by_name (bytes_eq (name_of d) name) (gives less d) (looked_up less flow name) (gives more d) (looked_up more flow name) v
    (gives_more less more knows d v) (looked_more less more knows flow name v) e

module _ (flow : List Definition) where
  -- what was known is known a turn later
  pub turn_more : (k : ℕ) → IsMore (turn flow (suc k)) (turn flow k)
  unfolding turn
  turn_more zero name v e = absurd (cc)
  turn_more (suc k) name v e = looked_more (turn flow k) (turn flow (suc k)) (turn_more k) flow name v e

  -- what is known after some turns is known after more
  pub turn_later : (k more : ℕ) → IsMore (turn flow (more + k)) (turn flow k)
  turn_later k zero name v e = rw (zero_plus k) e
    where
      zero_plus : (k : ℕ) → 0 + k ≡ k
      zero_plus k = omega arith
  turn_later k (suc more) name v e =
      rw (suc_plus more k) (turn_more (more + k) name v (turn_later k more name v e))
    where
      suc_plus : (m k : ℕ) → suc m + k ≡ suc (m + k)
      suc_plus m k = omega arith

  -- a turn that adds nothing
  abbrev IsStill : ℕ → Type 0
  IsStill k = IsMore (turn flow k) (turn flow (suc k))

  still_next : (k : ℕ) → IsStill k → IsStill (suc k)
  unfolding turn
  still_next k still = looked_more (turn flow (suc k)) (turn flow k) still flow

  -- and then none adds anything
  still_later : (k more : ℕ) → IsStill k → IsStill (more + k)
  still_later k zero still = subst IsStill (plus_zero k) still
    where
      plus_zero : (k : ℕ) → k ≡ 0 + k
      plus_zero k = omega arith
  still_later k (suc more) still = subst IsStill (plus_suc more k) (still_next (more + k) (still_later k more still))
    where
      plus_suc : (m k : ℕ) → suc (m + k) ≡ suc m + k
      plus_suc m k = omega arith

  back_to : (k more : ℕ) → IsStill k → IsMore (turn flow k) (turn flow (more + k))
  back_to k zero still name v e = subst (λ m. turn flow m name ≡ Some v) (plus_zero k) e
    where
      plus_zero : (k : ℕ) → 0 + k ≡ k
      plus_zero k = omega arith
  back_to k (suc more) still name v e =
      back_to k more still name v (still_later k more still name v (subst (λ m. turn flow m name ≡ Some v) (plus_suc more k) e))
    where
      plus_suc : (m k : ℕ) → suc m + k ≡ suc (m + k)
      plus_suc m k = omega arith

-- How many definitions have a value.

abbrev known : Worth → Definition → Bool
known worth d = is_some (worth (name_of d))

-- an option that is not empty has a value
pub some_of : (o : Option ℕ) → is_some o ≡ true → (v : ℕ) × (o ≡ Some v)
some_of (Some v) e = (v, refl)
some_of None e = absurd (cc)

is_more_known : (less more : Worth) → IsMore more less → (d : Definition) → known less d ≡ true → known more d ≡ true
is_more_known less more knows d e =
    let s = some_of (less (name_of d)) e in
    ap is_some (knows (name_of d) s.0 s.1)

-- a test that passes wherever another does passes at least as often
passes-le : (b c : Bool) → (b ≡ true → c ≡ true) → cond b 1 0 ≤ cond c 1 0
passes-le true true h = omega arith
passes-le true false h = absurd (let e : false ≡ true = h refl in cc)
passes-le false c h = omega arith

count-le : (p q : Definition → Bool) → ((d : Definition) → p d ≡ true → q d ≡ true) → (ds : List Definition) → count_by p ds ≤ count_by q ds
count-le p q more [] = omega arith
count-le p q more (d ∷ ds) =
    let rest = count-le p q more ds in
    let here = passes-le (p d) (q d) (more d) in
    omega (arith, rest, here, sum_by-cons (λ x. cond (p x) 1 0) d ds, sum_by-cons (λ x. cond (q x) 1 0) d ds)

-- if it passes as often, it passes nowhere else
same-one : (b c : Bool) → cond {A = ℕ} b 1 0 ≡ cond c 1 0 → c ≡ true → b ≡ true
same-one true c e t = refl
same-one false true e t = absurd (omega arith)
same-one false false e t = t

count-same : (p q : Definition → Bool) → ((d : Definition) → p d ≡ true → q d ≡ true) → (ds : List Definition)
    → count_by p ds ≡ count_by q ds →
    All (λ d. q d ≡ true → p d ≡ true) ds
count-same p q more [] e = λ k d below. absurd (omega arith)
count-same p q more (d ∷ ds) e =
    let rest = count-le p q more ds in
    let here = passes-le (p d) (q d) (more d) in
    let first : cond (p d) 1 0 ≡ cond (q d) 1 0 =
    omega (arith, rest, here, e, sum_by-cons (λ x. cond (p x) 1 0) d ds, sum_by-cons (λ x. cond (q x) 1 0) d ds) in
    let later : count_by p ds ≡ count_by q ds =
    omega (arith, first, e, sum_by-cons (λ x. cond (p x) 1 0) d ds, sum_by-cons (λ x. cond (q x) 1 0) d ds) in
    All-cons (λ d. q d ≡ true → p d ≡ true) d ds (same-one (p d) (q d) first) (count-same p q more ds later)

-- a name that has a value has a definition
record IsDefined (flow : List Definition) (name : Name) : Type 0 where
  d : Definition
  there : Contains flow d
  named : name_of d ≡ name

defined_later : (d : Definition) (flow : List Definition) (name : Name) → IsDefined flow name → IsDefined (d ∷ flow) name
defined_later d flow name is = record { d = is.d; there = (suc is.there.0, omega (arith, is.there.1), is.there.2); named = is.named }

defined_by : (worth : Worth) (flow : List Definition) (name : Name) (v : ℕ) → looked_up worth flow name ≡ Some v → IsDefined flow name
unfolding looked_up
defined_by worth [] name v e = absurd (cc)
defined_by worth (d ∷ flow) name v e = at (bytes_eq (name_of d) name) refl (λ rest. defined_by worth flow name v rest)
  where
    at : (b : Bool) → b ≡ bytes_eq (name_of d) name → (looked_up worth flow name ≡ Some v → IsDefined flow name) → IsDefined (d ∷ flow) name
    at true is on = record { d = d; there = (0, omega arith, refl); named = (bytes_eq-Decides (name_of d) name).0 (sym is) }
    at false is on = defined_later d flow name (on (ap (λ b. cond b (gives worth d) (looked_up worth flow name)) is ∙ e))

module _ (flow : List Definition) where
  abbrev count_at : ℕ → ℕ
  count_at k = count_by (known (turn flow k)) flow

  -- a turn that makes no more definitions known adds nothing
  still_at : (k : ℕ) → count_at k ≡ count_at (suc k) → IsStill flow k
  unfolding turn
  still_at k same name v e =
      let is = defined_by (turn flow k) flow name v e in
      let all =
      count-same (known (turn flow k)) (known (turn flow (suc k))) (is_more_known (turn flow k) (turn flow (suc k)) (turn_more flow k))
      flow same in
      let later : known (turn flow (suc k)) is.d ≡ true = ap (λ n. is_some (turn flow (suc k) n)) is.named ∙ ap is_some e in
      let now : known (turn flow k) is.d ≡ true =
      All-contains (λ d. known (turn flow (suc k)) d ≡ true → known (turn flow k) d ≡ true) flow is.d all is.there later in
      let w = some_of (turn flow k name) (ap (λ n. is_some (turn flow k n)) (sym is.named) ∙ now) in
      let on : turn flow (suc k) name ≡ Some w.0 = turn_more flow k name w.0 w.1 in
      let same_value : w.0 ≡ v = cc in
      w.1 ∙ ap Some same_value

  -- so some turn up to the number of definitions adds nothing
  either : (k : ℕ) → ((j : ℕ) × (j < k) × IsStill flow j) ⊎ (k ≤ count_at k)
  either zero = inr (omega arith)
  either (suc k) = elim (either k) [
    | inl s ↦ inl (s.0, omega (arith, s.1), s.2)
    | inr many ↦ elim (cases_lt (count_at k) (count_at (suc k))) [
      | inl more ↦ inr (omega arith)
      | inr none ↦
          let le = count-le (known (turn flow k)) (known (turn flow (suc k)))
          (is_more_known (turn flow k) (turn flow (suc k)) (turn_more flow k)) flow in
          inl (k, omega arith, still_at k (omega arith))
    ]
  ]

  still_soon : (j : ℕ) × (j ≤ length flow) × IsStill flow j
  still_soon = elim (either (suc (length flow))) [
    | inl s ↦ (s.0, omega (arith, s.1), s.2)
    | inr many ↦ absurd (omega (arith, count_by-le-length (known (turn flow (suc (length flow)))) flow))
  ]

  -- a value of any turn is that of the last
  pub enough : (k : ℕ) → IsMore (value flow) (turn flow k)
  enough k name v e =
      let s = still_soon in
      let at_k : turn flow (k + length flow) name ≡ Some v =
      subst (λ m. turn flow m name ≡ Some v) (plus_comm (length flow) k) (turn_later flow k (length flow) name v e) in
      let split : k + length flow ≡ (k + (length flow - s.0)) + s.0 = omega (arith, s.1) in
      let at_s : turn flow s.0 name ≡ Some v =
      back_to flow s.0 (k + (length flow - s.0)) s.2 name v (subst (λ m. turn flow m name ≡ Some v) split at_k) in
      let up : (length flow - s.0) + s.0 ≡ length flow = omega (arith, s.1) in
      subst (λ m. turn flow m name ≡ Some v) up (turn_later flow s.0 (length flow - s.0) name v at_s)
    where
      plus_comm : (a b : ℕ) → a + b ≡ b + a
      plus_comm a b = omega arith

-- The two forms.

-- an element of a list is its head or in its tail
pub contains_cases : (y x : Definition) (xs : List Definition) → Contains (y ∷ xs) x → (y ≡ x) ⊎ Contains xs x
contains_cases y x xs there = at there.0 there.1 there.2
  where
    at : (k : ℕ) → k < suc (length xs) → get_or (y ∷ xs) k x ≡ x → (y ≡ x) ⊎ Contains xs x
    at zero below is = inl is
    at (suc k) below is = inr (k, omega arith, is)

-- whether a definition has the name
abbrev pub named : Name → Definition → Bool
named name d = bytes_eq (name_of d) name

-- a head with the name counts one, any other nothing
pub counts_step : (name : Name) (y : Definition) (xs : List Definition) →
    count_by (named name) (y ∷ xs) ≡ cond (named name y) 1 0 + count_by (named name) xs
counts_step name y xs = sum_by-cons (λ d. cond (named name d) 1 0) y xs

-- a definition that is there is counted by its name
pub there_counts : (xs : List Definition) (d : Definition) → Contains xs d → 1 ≤ count_by (named (name_of d)) xs
there_counts [] d there = absurd (omega (arith, there.1))
there_counts (y ∷ xs) d there = elim (contains_cases y d xs there) [
  | inl same ↦
      let yes : named (name_of d) y ≡ true = (bytes_eq-Decides (name_of y) (name_of d)).1 (ap name_of same) in
      let one : cond {A = ℕ} (named (name_of d) y) 1 0 ≡ 1 = ap (λ b. cond {A = ℕ} b 1 0) yes in
      omega (arith, one, counts_step (name_of d) y xs)
  | inr later ↦ omega (arith, there_counts xs d later, counts_step (name_of d) y xs)
]

-- without its first definition a flow has distinct names still
pub distinct_rest : (y : Definition) (xs : List Definition) → AreDistinct (y ∷ xs) → AreDistinct xs
distinct_rest y xs distinct name = omega (arith, distinct name, counts_step name y xs)

-- of distinct definitions each is the one that is looked up
pub found : (worth : Worth) (flow : List Definition) → AreDistinct flow → (d : Definition) → Contains flow d →
    looked_up worth flow (name_of d) ≡ gives worth d
unfolding looked_up
found worth [] distinct d there = absurd (omega (arith, there.1))
found worth (y ∷ flow) distinct d there = elim (contains_cases y d flow there) [
  | inl same ↦
      let yes : named (name_of d) y ≡ true = (bytes_eq-Decides (name_of y) (name_of d)).1 (ap name_of same) in
      ap (λ b. cond b (gives worth y) (looked_up worth flow (name_of d))) yes ∙ ap (gives worth) same
  | inr later ↦
      let no : named (name_of d) y ≡ false =
      none (named (name_of d) y) (omega (arith, distinct (name_of d), there_counts flow d later, counts_step (name_of d) y flow)) in
      ap (λ b. cond b (gives worth y) (looked_up worth flow (name_of d))) no ∙ found worth flow (distinct_rest y flow distinct) d later
]
  where
    none : (b : Bool) → cond {A = ℕ} b 1 0 ≡ 0 → b ≡ false
    none true e = absurd (omega arith)
    none false e = refl

-- a value by the rule has a turn
record AtTurn (flow : List Definition) (name : Name) (v : ℕ) : Type 0 where
  k : ℕ
  is : turn flow k name ≡ Some v

at_turn : (flow : List Definition) → AreDistinct flow → (name : Name) (v : ℕ) → HasValue flow name v → AtTurn flow name v
unfolding turn
at_turn flow distinct _ _ (given name v there) = record { k = 1; is = found (turn flow 0) flow distinct (Let name v) there }
at_turn flow distinct _ _ (ruled name op left right a b there l r) =
    let x = at_turn flow distinct left a l in
    let y = at_turn flow distinct right b r in
    let both : ℕ = x.k + y.k in
    let of_left : turn flow both left ≡ Some a =
    subst (λ m. turn flow m left ≡ Some a) (swap y.k x.k) (turn_later flow x.k y.k left a x.is) in
    let of_right : turn flow both right ≡ Some b = turn_later flow y.k x.k right b y.is in
    record {
      k = suc both;
      is = found (turn flow both) flow distinct (Rule name op left right) there
          ∙ ap (λ o. joined op o (turn flow both right)) of_left ∙ ap (λ o. joined op (Some a) o) of_right;
    }
  where
    swap : (m k : ℕ) → m + k ≡ k + m
    swap m k = omega arith

-- a value that a name has is found in as many turns as there are definitions
pub has_turn : (flow : List Definition) → AreDistinct flow → (name : Name) (v : ℕ) → HasValue flow name v → value flow name ≡ Some v
has_turn flow distinct name v h = let t = at_turn flow distinct name v h in enough flow t.k name v t.is

-- and what a turn gives is a value by the rule
pub gives_has : (flow : List Definition) (worth : Worth) → ((name : Name) (v : ℕ) → worth name ≡ Some v → HasValue flow name v) →
    (d : Definition) (v : ℕ) → Contains flow d → gives worth d ≡ Some v → HasValue flow (name_of d) v
gives_has flow worth has (Let name w) v there e =
    let same : w ≡ v = cc in
    given name v (subst (λ x. Contains flow (Let name x)) same there)
gives_has flow worth has (Rule name op left right) v there e =
    let i = inputs_of op (worth left) (worth right) v e in
    subst (λ x. HasValue flow name x) (sym i.is)
    (ruled name op left right i.a i.b there (has left i.a i.left) (has right i.b i.right))

looked_has : (flow : List Definition) (worth : Worth) → ((name : Name) (v : ℕ) → worth name ≡ Some v → HasValue flow name v) →
    (part : List Definition) → ((d : Definition) → Contains part d → Contains flow d) → (name : Name) (v : ℕ) →
    looked_up worth part name ≡ Some v → HasValue flow name v
unfolding looked_up
looked_has flow worth has [] among name v e = absurd (cc)
looked_has flow worth has (d ∷ part) among name v e =
    at (named name d) refl
    (λ rest. looked_has flow worth has part (λ x there. among x (suc there.0, omega (arith, there.1), there.2)) name v rest)
  where
    at : (b : Bool) → b ≡ named name d → (looked_up worth part name ≡ Some v → HasValue flow name v) → HasValue flow name v
    at true is on =
        let same : name_of d ≡ name = (bytes_eq-Decides (name_of d) name).0 (sym is) in
        let here : gives worth d ≡ Some v = ap (λ b. cond b (gives worth d) (looked_up worth part name)) is ∙ e in
        subst (λ n. HasValue flow n v) same (gives_has flow worth has d v (among d (0, omega arith, refl)) here)
    at false is on = on (ap (λ b. cond b (gives worth d) (looked_up worth part name)) is ∙ e)

-- a value found in some turn is one that the name has
pub turn_has : (flow : List Definition) (k : ℕ) (name : Name) (v : ℕ) → turn flow k name ≡ Some v → HasValue flow name v
unfolding turn
turn_has flow zero name v e = absurd (cc)
turn_has flow (suc k) name v e = looked_has flow (turn flow k) (turn_has flow k) flow (λ d there. there) name v e

-- of distinct definitions the values of the last turn are exactly those by the rule
pub value_law : (flow : List Definition) → AreDistinct flow → (name : Name) (v : ℕ) → (value flow name ≡ Some v) ↔ HasValue flow name v
value_law flow distinct name v = (turn_has flow (length flow) name v, has_turn flow distinct name v)

-- so of distinct definitions a name has one value at most
pub one_value : (flow : List Definition) → AreDistinct flow → (name : Name) (v w : ℕ) → HasValue flow name v → HasValue flow name w → v ≡ w
one_value flow distinct name v w has also =
    let left : value flow name ≡ Some v = has_turn flow distinct name v has in
    let right : value flow name ≡ Some w = has_turn flow distinct name w also in
    cc
