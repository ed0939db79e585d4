-- The value of each `let` is stored, one after the other.
use Rattle.std.proofs.Common.{◌≡◌, ◌≢◌, ◌<◌, ◌≤◌, ◌+◌, inl, inr, ℕ, Bool, true, false, List, [], length, Option, Some, None, refl, sym, ap}
use Rattle.std.proofs.Common.{◌∙◌, arith, drop, subst, Contains}
use Rattle.std.specs.Prelude.{is_some, slice_set}
use Rattle.std.specs.List.{slice_get}
use Rattle.std.proofs.lemmas.Bool.{cases_eq}
use Rattle.std.proofs.lemmas.List.{get_or-set_same, get_or-set_other}
use Rattle.std.proofs.lemmas.Option.{slice_get_within}
use Rattle.flow_law.specs.Flows.{Name, given, gives, joined}
use Rattle.flow_law.specs.declared.Definition.{Definition}
use Rattle.flow_law.specs.declared.Definition.TheVariants.{Let, Rule}
use Rattle.flow_law.specs.declared.Op.{Op}
use Rattle.flow_app.specs.Linked.{are_below, has, number_of}
use Rattle.flow_app.specs.Stored.{AreLetsAlone, HasLets, HasLetsTo, IsDone, IsLaid, IsSound, is_noted, value_at, value_of, worth_in}
use Rattle.flow_app.proofs.Numbered.{there_at}

-- one `let` more
pub let_stored : (flow : List Definition) (values : List (Option ℕ)) (k : ℕ) (name : Name) (v : ℕ) → HasLetsTo flow values k →
    slice_get flow k ≡ Some (Let name v) → k < length values → HasLetsTo flow (slice_set values k (Some v)) (k + 1)
let_stored flow values k name v h at inside = record {
  before = λ i n w below there. elim (cases_eq i k) [
    | inl same ↦
        let here : Some (Let n w) ≡ Some (Let name v) = sym there ∙ ap (slice_get flow) same ∙ at in
        let e : w ≡ v = cc in
        ap (value_at (slice_set values k (Some v))) same ∙ get_or-set_same values k (Some v) None inside ∙ ap Some (sym e)
    | inr other ↦
        let lt : i < k = omega (arith, below, other) in
        get_or-set_other values k i (Some v) None other ∙ h.before i n w lt there
  ];
  fresh = λ i n w above there.
      let other : i ≢ k = omega (arith, above) in
      get_or-set_other values k i (Some v) None other ∙ h.fresh i n w (omega (arith, above)) there;
  alone = λ i n op left right there. elim (cases_eq i k) [
    | inl same ↦
        absurd (let here : Some (Rule n op left right) ≡ Some (Let name v) = sym there ∙ ap (slice_get flow) same ∙ at in cc)
    | inr other ↦ get_or-set_other values k i (Some v) None other ∙ h.alone i n op left right there
  ];
}

-- a rule is no `let`
pub rule_passed : (flow : List Definition) (values : List (Option ℕ)) (k : ℕ) (name : Name) (op : Op) (left right : Name) →
    HasLetsTo flow values k → slice_get flow k ≡ Some (Rule name op left right) → HasLetsTo flow values (k + 1)
rule_passed flow values k name op left right h at = record {
  before = λ i n w below there. elim (cases_eq i k) [
    | inl same ↦
        absurd (let here : Some (Let n w) ≡ Some (Rule name op left right) = sym there ∙ ap (slice_get flow) same ∙ at in cc)
    | inr other ↦ h.before i n w (omega (arith, below, other)) there
  ];
  fresh = λ i n w above there. h.fresh i n w (omega (arith, above)) there;
  alone = h.alone;
}

-- if the lets of all definitions are stored, all lets are
pub all_lets : (flow : List Definition) (values : List (Option ℕ)) (k : ℕ) → HasLetsTo flow values k → length flow ≤ k → HasLets flow values
all_lets flow values k h past i name v at =
    h.before i name v (omega (arith, past, slice_get_within flow i (Let name v) at)) at

-- at the start no let is stored
pub no_lets : (flow : List Definition) (values : List (Option ℕ)) → ((i : ℕ) → value_at values i ≡ None) → HasLetsTo flow values 0
no_lets flow values none = record {
  before = λ i name v below at. absurd (omega (arith, below));
  fresh = λ i name v above at. none i;
  alone = λ i name op left right at. none i;
}

-- values of `let` stay where a value comes to what had none
pub lets_stay : (flow : List Definition) (values : List (Option ℕ)) (place v : ℕ) → value_at values place ≡ None → HasLets flow values →
    HasLets flow (slice_set values place (Some v))
lets_stay flow values place v none lets i name w at = elim (cases_eq i place) [
  | inl same ↦ absurd (let h : None ≡ Some w = sym none ∙ ap (value_at values) (sym same) ∙ lets i name w at in cc)
  | inr other ↦ get_or-set_other values place i (Some v) None other ∙ lets i name w at
]

nothing : (flow : List Definition) (values : List (Option ℕ)) → ((i : ℕ) → value_at values i ≡ None)
    → (name : Name) (op : Op) (left right : Name) →
    is_some (gives (worth_in flow values) (Rule name op left right)) ≡ false
nothing flow values none name op left right =
    ap (λ o. is_some (joined op o (worth_in flow values right))) (at (number_of flow left))
  where
    at : (o : Option ℕ) → value_of values o ≡ None
    at None = refl
    at (Some i) = none i

-- a store in which nothing is known
pub none_stored : (flow : List Definition) (values : List (Option ℕ)) (noted : List Bool) (ready : List ℕ) (next : ℕ)
    → length values ≡ length flow →
    length noted ≡ length flow → ((i : ℕ) → value_at values i ≡ None) → ((i : ℕ) → is_noted noted i ≡ false) → ready ≡ [] → next ≡ 0 →
    IsLaid flow values noted ready next []
none_stored flow values noted ready next long marks none unmarked empty first = record {
  long = long;
  marks = marks;
  inside = omega (arith, first);
  within = ap (are_below (length flow)) empty;
  rules = λ i name op left right at some. absurd (let h : false ≡ true = sym (nothing flow values none name op left right) ∙ some in cc);
  listed = λ i there. absurd (let h : false ≡ true = sym (ap (λ l. has l i) empty) ∙ there in cc);
  all = λ i is. absurd (let h : false ≡ true = sym (unmarked i) ∙ is in cc);
  once = λ k i at. absurd (let h : None ≡ Some i = sym (ap (λ l. slice_get l k) empty) ∙ at in cc);
  grounded = λ i d at is. absurd (let h : false ≡ true = sym (unmarked i) ∙ is in cc);
}

-- values of each `let` and of nothing else are values of the flow
pub lets_sound : (flow : List Definition) (values : List (Option ℕ)) → HasLets flow values → AreLetsAlone flow values → IsSound flow values
lets_sound flow values lets alone i (Let name v) w at is =
    let h : Some v ≡ Some w = sym (lets i name v at) ∙ is in
    let same : v ≡ w = cc in
    given name w (subst (λ z. let c : Definition = Let name z in Contains flow c) same (there_at flow i (Let name v) at))
lets_sound flow values lets alone i (Rule name op left right) w at is =
    absurd (let h : None ≡ Some w = sym (alone i name op left right at) ∙ is in cc)

-- nothing was taken yet
pub none_taken : (flow : List Definition) (values : List (Option ℕ)) (noted : List Bool) (ready : List ℕ) (next : ℕ) →
    IsLaid flow values noted ready next [] → next ≡ 0 → IsDone values noted ready next
none_taken flow values noted ready next s first i is = inl (ap (λ n. has (drop n ready) i) first ∙ s.all i is)
