-- Definitions by the numbers of their names.
use Rattle.std.proofs.Common.{◌≡◌, ◌<◌, ◌≤◌, ◌||◌, ◌+◌, inl, inr, ℕ, Bool, true, false, List, [], ◌∷◌, length, map, Option, Some, refl, sym}
use Rattle.std.proofs.Common.{ap, ◌∙◌, subst, arith}
use Rattle.std.specs.Prelude.{option_map}
use Rattle.std.specs.List.{slice_get}
use Rattle.std.specs.Global.{Vec}
use Rattle.std.proofs.lemmas.Bool.{cases_eq}
use Rattle.std.proofs.lemmas.List.{length-map}
use Rattle.std.proofs.lemmas.List.Elements.{All-nil, All-cons}
use Rattle.std.proofs.lemmas.Option.{slice_get-map, slice_get_within}
use Rattle.flow_law.specs.Flows.{AreDistinct, Name}
use Rattle.flow_law.specs.declared.Definition.{Definition}
use Rattle.flow_law.specs.declared.Definition.TheVariants.{Let, Rule}
use Rattle.flow_app.specs.declared.links.Inputs.{Inputs}
use Rattle.flow_app.specs.Reading.{definition_limit}
use Rattle.flow_app.specs.Linked.{IsLinked, are_below, asks, has, inputs_by, inputs_of, is_number, users_at}
use Rattle.flow_app.specs.inside.Users.{AreInside, HasUsers, IsInside}
use Rattle.flow_app.proofs.Numbered.{number_inside}

-- equal numbers of names give equal inputs
inputs_same : (f g : Name → Option ℕ) → ((name : Name) → f name ≡ g name) → (d : Definition) → inputs_by f d ≡ inputs_by g d
inputs_same f g same (Let name v) = refl
inputs_same f g same (Rule name op left right) =
    ap (λ o. let i : Inputs = record { left = o; right = f right } in i) (same left)
    ∙ ap (λ o. let i : Inputs = record { left = g left; right = o } in i) (same right)

-- numberings that agree give the same inputs
pub all_inputs_same : (f g : Name → Option ℕ) → ((name : Name) → f name ≡ g name) → (ds : List Definition) →
    map (inputs_by f) ds ≡ map (inputs_by g) ds
all_inputs_same f g same [] = refl
all_inputs_same f g same (d ∷ ds) =
    ap (λ i. i ∷ map (inputs_by f) ds) (inputs_same f g same d) ∙ ap (λ l. inputs_by g d ∷ l) (all_inputs_same f g same ds)

-- the inputs of a flow's definitions are among them
pub inside_of : (flow : List Definition) (d : Definition) → IsInside (length flow) (inputs_of flow d)
inside_of flow (Let name v) = record { left = λ i e. absurd (cc); right = λ i e. absurd (cc) }
inside_of flow (Rule name op left right) = record {
  left = λ i e. number_inside flow left i e;
  right = λ i e. number_inside flow right i e;
}

inside_from : (flow ds : List Definition) → AreInside (length flow) (map (inputs_of flow) ds)
inside_from flow [] = All-nil (IsInside (length flow))
inside_from flow (d ∷ ds) =
    All-cons (IsInside (length flow)) (inputs_of flow d) (map (inputs_of flow) ds) (inside_of flow d) (inside_from flow ds)

-- inputs of definitions are within the flow
pub are_inside : (flow : List Definition) (inputs : List Inputs) → inputs ≡ map (inputs_of flow) flow → AreInside (length inputs) inputs
are_inside flow inputs is =
    let long : length flow ≡ length inputs = sym (ap length is ∙ length-map flow (inputs_of flow)) in
    subst (λ n. AreInside n inputs) long (subst (AreInside (length flow)) (sym is) (inside_from flow flow))

-- a flow is linked by its inputs and users
pub linked : (flow : List Definition) (inputs : List Inputs) (users : List (Vec ℕ)) → AreDistinct flow → length flow ≤ definition_limit →
    inputs ≡ map (inputs_of flow) flow → HasUsers (length inputs) inputs users → IsLinked flow inputs users
linked flow inputs users distinct few is has_users =
    let long : length inputs ≡ length flow = ap length is ∙ length-map flow (inputs_of flow) in
    record {
      distinct = distinct;
      few = few;
      inputs_are = is;
      long = has_users.long ∙ long;
      within = λ i. subst (λ n. are_below n (users_at users i) ≡ true) long (has_users.within i);
      all = λ i q d at asked.
          let there : slice_get inputs q ≡ Some (inputs_of flow d) =
          ap (λ l. slice_get l q) is ∙ slice_get-map (inputs_of flow) flow q ∙ ap (option_map (inputs_of flow)) at in
          has_users.all i q (inputs_of flow d) there asked;
    }

-- The rules that ask for each number, one rule after the other.

-- those before rule k are noted
pub record HasUsersTo (n k : ℕ) (inputs : List Inputs) (users : List (Vec ℕ)) : Type 0 where
  pub long : length users ≡ n
  pub within : (i : ℕ) → are_below n (users_at users i) ≡ true
  pub all : (i q : ℕ) (asked : Inputs) → q < k → slice_get inputs q ≡ Some asked → asks asked i ≡ true → has (users_at users i) q ≡ true

-- at the start no rule is noted as a user
pub users_start : (n : ℕ) (inputs : List Inputs) (users : List (Vec ℕ)) → length users ≡ n → ((i : ℕ) → users_at users i ≡ []) →
    HasUsersTo n 0 inputs users
users_start n inputs users long none = record {
  long = long;
  within = λ i. ap (are_below n) (none i);
  all = λ i q asked below at is. absurd (omega (arith, below));
}

-- if all rules are noted, the users are whole
pub users_end : (n k : ℕ) (inputs : List Inputs) (users : List (Vec ℕ)) → HasUsersTo n k inputs users → length inputs ≤ k →
    HasUsers n inputs users
users_end n k inputs users h past = record {
  long = h.long;
  within = h.within;
  all = λ i q asked at is. h.all i q asked (omega (arith, past, slice_get_within inputs q asked at)) at is;
}

-- one rule is noted with both its inputs
pub users_more : (n k : ℕ) (inputs : List Inputs) (asked : Inputs) (old mid new : List (Vec ℕ)) → HasUsersTo n k inputs old → k < n →
    slice_get inputs k ≡ Some asked → length mid ≡ length old → length new ≡ length mid →
    ((i : ℕ) → is_number asked.left i ≡ true → has (users_at mid i) k ≡ true) →
    ((i q : ℕ) → has (users_at old i) q ≡ true → has (users_at mid i) q ≡ true) →
    ((m i : ℕ) → k < m → are_below m (users_at old i) ≡ true → are_below m (users_at mid i) ≡ true) →
    ((i : ℕ) → is_number asked.right i ≡ true → has (users_at new i) k ≡ true) →
    ((i q : ℕ) → has (users_at mid i) q ≡ true → has (users_at new i) q ≡ true) →
    ((m i : ℕ) → k < m → are_below m (users_at mid i) ≡ true → are_below m (users_at new i) ≡ true) → HasUsersTo n (k + 1) inputs new
users_more n k inputs asked old mid new h inside at mid_long new_long left kept_left within_left right kept_right within_right = record {
  long = new_long ∙ mid_long ∙ h.long;
  within = λ i. within_right n i inside (within_left n i inside (h.within i));
  all = λ i q a below there is. elim (cases_eq q k) [
    | inl same ↦
        let e : Some a ≡ Some asked = sym there ∙ ap (slice_get inputs) same ∙ at in
        let here : a ≡ asked = cc in
        let is_asked : asks asked i ≡ true = subst (λ x. asks x i ≡ true) here is in
        subst (λ m. has (users_at new i) m ≡ true) (sym same) (by_side i (is_number asked.left i) refl is_asked)
    | inr other ↦ kept_right i q (kept_left i q (h.all i q a (omega (arith, below, other)) there is))
  ];
}
  where
    by_side : (i : ℕ) (b : Bool) → is_number asked.left i ≡ b → asks asked i ≡ true → has (users_at new i) k ≡ true
    by_side i true is asked_is = kept_right i k (left i is)
    by_side i false is asked_is = right i (ap (λ b. b || is_number asked.right i) (sym is) ∙ asked_is)
