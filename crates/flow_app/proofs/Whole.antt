-- A store of which all is taken has the value of each name that has one.
use Rattle.std.proofs.Common.{◌≡◌, ◌≤◌, inl, inr, ℕ, zero, suc, Bool, true, false, List, [], ◌∷◌, length, drop, Option, Some, None, refl}
use Rattle.std.proofs.Common.{sym, ap, ◌∙◌, subst, arith}
use Rattle.std.specs.Prelude.{is_some}
use Rattle.std.specs.List.{slice_get}
use Rattle.flow_law.specs.Flows.{AreDistinct, HasValue, Name, apply, given, gives, joined, name_of, ruled, value}
use Rattle.flow_law.specs.declared.Definition.{Definition}
use Rattle.flow_law.specs.declared.Definition.TheVariants.{Let, Rule}
use Rattle.flow_law.proofs.Turns.{one_value, some_of, value_law}
use Rattle.flow_app.specs.Linked.{has, number_of}
use Rattle.flow_app.specs.Stored.{HasLets, IsDone, IsLaid, IsSound, value_at, value_of, worth_in}
use Rattle.flow_app.proofs.Numbered.{definition_at, number_here, number_inside, number_named, place_of}

drop_past : (n : ℕ) (xs : List ℕ) → length xs ≤ n → drop n xs ≡ []
drop_past zero [] past = refl
drop_past zero (x ∷ xs) past = absurd (omega (arith, past))
drop_past (suc n) [] past = refl
drop_past (suc n) (x ∷ xs) past = drop_past n xs (omega (arith, past))

same_values : (o p : Option ℕ) → ((v : ℕ) → o ≡ Some v → p ≡ Some v) → ((v : ℕ) → p ≡ Some v → o ≡ Some v) → o ≡ p
same_values None None f g = refl
same_values (Some v) p f g = sym (f v refl)
same_values None (Some v) f g = g v refl

module _ (flow : List Definition) (values : List (Option ℕ)) (sound : IsSound flow values) where
  -- what a name is worth is a value of it
  pub worth_has : (name : Name) (v : ℕ) → worth_in flow values name ≡ Some v → HasValue flow name v
  worth_has name v is = at (number_of flow name) refl is
    where
      at : (o : Option ℕ) → number_of flow name ≡ o → value_of values o ≡ Some v → HasValue flow name v
      at None numbered e = absurd (cc)
      at (Some i) numbered e =
          let d = definition_at flow i (number_inside flow name i numbered) in
          subst (λ n. HasValue flow n v) (number_named flow name i d.0 numbered d.1) (sound i d.0 v d.1 e)

  module _ (noted : List Bool) (ready : List ℕ) (next : ℕ) (s : IsLaid flow values noted ready next [])
      (done : IsDone values noted ready next) (distinct : AreDistinct flow) (lets : HasLets flow values) (drained : length ready ≤ next)
    where
      -- and each value of a name is what it is worth
      has_worth : (name : Name) (v : ℕ) → HasValue flow name v → worth_in flow values name ≡ Some v
      has_worth _ _ (given name v there) =
          let p = place_of flow (Let name v) there in
          ap (value_of values) (number_here flow distinct p.0 (Let name v) p.1) ∙ lets p.0 name v p.1
      has_worth _ _ (ruled name op left right a b there l r) =
          let p = place_of flow (Rule name op left right) there in
          let of_left : worth_in flow values left ≡ Some a = has_worth left a l in
          let of_right : worth_in flow values right ≡ Some b = has_worth right b r in
          let given_is : gives (worth_in flow values) (Rule name op left right) ≡ Some (apply op a b) =
          ap (λ o. joined op o (worth_in flow values right)) of_left ∙ ap (λ o. joined op (Some a) o) of_right in
          elim (s.rules p.0 name op left right p.1 (ap is_some given_is)) [
            | inl is_in ↦ elim (done p.0 is_in) [
              | inl later ↦ absurd (let e : false ≡ true = ap (λ l. has l p.0) (sym (drop_past next ready drained)) ∙ later in cc)
              | inr some ↦
                  let w = some_of (value_at values p.0) some in
                  let worth : worth_in flow values name ≡ Some w.0 =
                  ap (value_of values) (number_here flow distinct p.0 (Rule name op left right) p.1) ∙ w.1 in
                  let same : w.0 ≡ apply op a b =
                  one_value flow distinct name w.0 (apply op a b) (worth_has name w.0 worth) (ruled name op left right a b there l r) in
                  worth ∙ ap Some same
            ]
            | inr not_there ↦ absurd (let e : false ≡ true = not_there in cc)
          ]

      -- in a whole store each name is worth its value
      pub worth_is : (name : Name) → worth_in flow values name ≡ value flow name
      worth_is name =
          same_values (worth_in flow values name) (value flow name)
          (λ v is. (value_law flow distinct name v).1 (worth_has name v is))
          (λ v is. has_worth name v ((value_law flow distinct name v).0 is))

      -- the value of a definition
      pub value_is : (i : ℕ) (d : Definition) → slice_get flow i ≡ Some d → value_at values i ≡ value flow (name_of d)
      value_is i d at = ap (value_of values) (sym (number_here flow distinct i d at)) ∙ worth_is (name_of d)
