-- What the rank that has the flow has at its start, and what it brings at its end.
use Rattle.std.proofs.Common.{◌≡◌, ◌<◌, ◌≤◌, ◌+◌, ◌⊎◌, inl, inr, ℕ, zero, suc, true, false, List, [], ◌∷◌, ◌++◌, length, get_or, take}
use Rattle.std.proofs.Common.{Contains}
use Rattle.std.proofs.Common.{Option, Some, None, refl, sym, ap, ◌∙◌, subst, arith}
use Rattle.std.specs.Prelude.{is_some}
use Rattle.std.specs.List.{slice_get}
use Rattle.std.proofs.lemmas.Bool.{cases_eq}
use Rattle.std.proofs.lemmas.List.Elements.{Contains-append_cases, Contains-append_left, Contains-append_right}
use Rattle.std.proofs.lemmas.Option.{slice_get_within}
use Rattle.bag_ledger.specs.declared.entries.Said.{Said}
use Rattle.flow_law.specs.Flows.{Name}
use Rattle.flow_law.specs.declared.Definition.{Definition}
use Rattle.flow_law.specs.declared.Definition.TheVariants.{Let, Rule}
use Rattle.flow_law.specs.declared.Op.{Op}
use Rattle.flow_law.proofs.Turns.{some_of}
use Rattle.flow_app.specs.Linked.{has}
use Rattle.flow_app.specs.Stored.{AreLetsAlone, IsLaidOut, value_at}
use Rattle.flow_run_law.specs.Desk.{Goes, at_start}
use Rattle.flow_run_law.specs.Units.{Forms, IsRule}
use Rattle.flow_work.specs.Follows.{Follows, IsSoFar}
use Rattle.flow_work.specs.Stocks.{AreValuesTo, IsValueOf, rule_value, value_with}
use Rattle.flow_work.specs.Working.{AtHome, Brings, Fresh, Has, IsGoing, IsStopped, Keeping, Stored}
use Rattle.flow_work.specs.declared.stock.Home.{Home}

none_there : {X : Type 0} (x : X) → Contains [] x → ⊥
none_there x there = omega (arith, there.1)

one_there : {X : Type 0} (y x : X) → Contains (y ∷ []) x → y ≡ x
one_there {X} y x there = at there.0 there.1 there.2
  where
    at : (k : ℕ) → k < 1 → get_or (y ∷ []) k x ≡ x → y ≡ x
    at zero below is = is
    at (suc k) below is = absurd (omega (arith, below))

head_there : {X : Type 0} (x : X) (xs : List X) → Contains (x ∷ xs) x
head_there x xs = (0, omega arith, refl)

-- The start.

-- the rank with the flow starts with its lets alone
pub starts_home : (F : Forms) (flow : List Definition) (h : Home) → IsLaidOut flow h.store → AreLetsAlone flow h.store.values.items →
    h.store.next ≡ 0 → h.kept.items ≡ [] → IsGoing F (Some flow) [] (AtHome flow h)
starts_home F flow h out alone first none = record {
  desk = at_start;
  goes = refl;
  free = record { none_owed = refl; none_held = refl; live = refl };
  agrees = (
    record {
      out = out;
      sound = λ i v name op left right rule is.
          absurd (let e : None ≡ Some v = sym (alone i name op left right rule) ∙ is in cc);
      whole = λ i v name op left right rule there. absurd (none_there (i, v) there);
      keeps = sym none;
    },
    record {
      taken = λ i name op left right rule there.
          absurd (let e : false ≡ true = ap (λ k. has (take k h.store.ready.items) i) (sym first) ∙ there in cc);
      all = λ i there. absurd (none_there i there);
    },
  );
}

-- a rank without the flow starts with nothing
pub starts_away : (F : Forms) (answers : List (ℕ × ℕ)) → answers ≡ [] → IsGoing F None [] (Fresh answers)
starts_away F answers none = record {
  desk = at_start;
  goes = refl;
  free = record { none_owed = refl; none_held = refl; live = refl };
  agrees = (sym none, refl);
}

-- at an empty transcript a rank goes on as at its start
pub went : (F : Forms) (flow : Option (List Definition)) (said : List Said) (A : Has) → said ≡ [] → IsGoing F flow [] A →
    IsGoing F flow said A
went F flow said A none is = subst (λ (s : List Said). IsGoing F flow s A) (sym none) is

-- Values, one number after the other.

-- no value is stored up to place 0
pub no_values : (flow : List Definition) (values : List (Option ℕ)) → AreValuesTo flow values [] 0
no_values flow values = record {
  each = λ x there. absurd (none_there x there);
  all = λ i v name op left right rule below is. absurd (omega (arith, below));
}

-- one number more
pub values_more : (flow : List Definition) (values : List (Option ℕ)) (own : List (ℕ × ℕ)) (k : ℕ) (d : Definition) →
    AreValuesTo flow values own k → slice_get flow k ≡ Some d →
    AreValuesTo flow values (own ++ value_with k (rule_value d (value_at values k))) (k + 1)
values_more flow values own k d are at = record {
  each = λ x there. elim (Contains-append_cases own (value_with k (rule_value d (value_at values k))) x there) [
    | inl was ↦ are.each x was
    | inr new ↦ its_value d at (value_at values k) refl x new
  ];
  all = λ i v name op left right rule below is. elim (cases_eq i k) [
    | inl same ↦
        let here : slice_get flow k ≡ Some (Rule name op left right) = subst (λ j. IsRule flow j name op left right) same rule in
        let there : value_at values k ≡ Some v = subst (λ j. value_at values j ≡ Some v) same is in
        let e : Some d ≡ Some (Rule name op left right) = sym at ∙ here in
        let own_is : d ≡ Rule name op left right = cc in
        let with : value_with k (rule_value d (value_at values k)) ≡ (k, v) ∷ [] =
        ap (λ x. value_with k (rule_value x (value_at values k))) own_is ∙ ap (value_with k) there in
        let pair : ℕ → ℕ × ℕ = λ j. (j, v) in
        subst (Contains (own ++ value_with k (rule_value d (value_at values k)))) (ap pair (sym same))
        (Contains-append_right own (value_with k (rule_value d (value_at values k))) (k, v)
        (subst (λ l. Contains l (k, v)) (sym with) (head_there (k, v) [])))
    | inr other ↦
        Contains-append_left own (value_with k (rule_value d (value_at values k))) (i, v)
        (are.all i v name op left right rule (omega (arith, below, other)) is)
  ];
}
  where
    its_value : (d : Definition) → slice_get flow k ≡ Some d → (o : Option ℕ) → value_at values k ≡ o → (x : ℕ × ℕ) →
        Contains (value_with k (rule_value d o)) x → IsValueOf flow values x
    its_value (Let name v) at o is x there = absurd (none_there x there)
    its_value (Rule name op left right) at None is x there = absurd (none_there x there)
    its_value (Rule name op left right) at (Some v) is x there =
        subst (IsValueOf flow values) (one_there (k, v) x there)
        (record { name = name; op = op; left = left; right = right; is = at; value = is })

-- The end.

-- the rank with the flow follows it, and brings the values that it stored
pub home_follows : (F : Forms) (flow : List Definition) (said : List Said) (h : Home) (values : List (ℕ × ℕ)) →
    IsStopped F (Some flow) said (Stored flow h) → Brings flow h values → Follows F (Some flow) said values
home_follows F flow said h values is brings = record {
  last = is.desk;
  goes = is.goes;
  over = is.over;
  own = brings.own;
  stored = record {
    each = λ x there.
        let v = brings.are.each x there in is.agrees.sound x.0 x.1 v.name v.op v.left v.right v.is v.value;
    all = λ i v name op left right rule there.
        let w = some_of (value_at h.store.values.items i) (is.agrees.whole i v name op left right rule there) in
        (w.0, brings.are.all i w.0 name op left right rule (slice_get_within flow i (Rule name op left right) rule) w.1);
  };
  brings = brings.all ∙ ap (λ (l : List (ℕ × ℕ)). brings.own ++ l) (sym is.agrees.keeps);
}

-- a rank without the flow follows it, and brings the answers that it kept
pub away_follows : (F : Forms) (said : List Said) (kept values : List (ℕ × ℕ)) → IsStopped F None said (Keeping kept) → values ≡ kept →
    Follows F None said values
away_follows F said kept values is same = record {
  last = is.desk;
  goes = is.goes;
  over = is.over;
  own = [];
  stored = refl;
  brings = same ∙ sym is.agrees;
}

-- nothing was said
pub empty_so : (F : Forms) (flow : Option (List Definition)) (said : List Said) → said ≡ [] → IsSoFar F flow said
empty_so F flow said none = record {
  last = at_start;
  goes = subst (λ (s : List Said). Goes F flow at_start s at_start) (sym none) refl;
}
