-- A store whose values are those of the flow, and of which what was taken has a value, stays so.
use Rattle.std.proofs.Common.{◌≡◌, ◌<◌, inl, inr, ℕ, List, [], length, Option, Some, None, Result, Ok, Err, IfOk, OnOk, sym, ap, ◌∙◌, subst}
use Rattle.std.specs.Prelude.{slice_set}
use Rattle.std.specs.List.{slice_get}
use Rattle.flow_law.specs.Flows.{HasValue, name_of}
use Rattle.flow_law.specs.declared.Definition.{Definition}
use Rattle.flow_law.specs.declared.Definition.TheVariants.{Let, Rule}
use Rattle.flow_app.specs.Finishing.{IsItsValue}
use Rattle.flow_app.specs.Stored.{AreLetsAlone, Grows, HasLets, IsDone, IsLaid, IsLaidOut, IsSound, IsWhole, Lays, first_stays, value_at}
use Rattle.flow_app.specs.declared.stores.Store.{Store}
use Rattle.flow_app.proofs.Lets.{lets_sound, lets_stay, none_taken}
use Rattle.flow_app.proofs.Storing.{came_there, stays_there, still_done, value_stays, value_was}

-- one value of a definition more
sound_set : (flow : List Definition) (values : List (Option ℕ)) (place v : ℕ) → IsSound flow values → place < length values →
    ((d : Definition) → slice_get flow place ≡ Some d → HasValue flow (name_of d) v) → IsSound flow (slice_set values place (Some v))
sound_set flow values place v sound inside right i d w at is = elim (value_was values place v i w inside is) [
  | inl here ↦
      let there : slice_get flow place ≡ Some d = subst (λ k. slice_get flow k ≡ Some d) here.0 at in
      subst (HasValue flow (name_of d)) (sym here.1) (right d there)
  | inr was ↦ sound i d w at was
]

laid_at : (flow : List Definition) (s : Store) (n : ℕ) → s.next ≡ n → Lays flow s [] →
    IsLaid flow s.values.items s.noted.items s.ready.items n []
laid_at flow s n e laid = subst (λ k. IsLaid flow s.values.items s.noted.items s.ready.items k []) e laid

done_at : (s : Store) (n : ℕ) → s.next ≡ n → IsDone s.values.items s.noted.items s.ready.items s.next →
    IsDone s.values.items s.noted.items s.ready.items n
done_at s n e done = subst (λ k. IsDone s.values.items s.noted.items s.ready.items k) e done

-- the value of a number that had none is set
pub settled_whole : (flow : List Definition) (old new : Store) (place v : ℕ) → IsWhole flow old → Lays flow new [] →
    place < length old.values.items → value_at old.values.items place ≡ None →
    ((d : Definition) → slice_get flow place ≡ Some d → HasValue flow (name_of d) v) →
    new.values.items ≡ slice_set old.values.items place (Some v) → new.next ≡ old.next → Grows old.ready.items new.ready.items →
    IsWhole flow new
settled_whole flow old new place v whole laid inside none right set next grows = record {
  out = record {
    distinct = whole.out.distinct;
    laid = laid;
    lets = subst (HasLets flow) (sym set) (lets_stay flow old.values.items place v none whole.out.lets);
  };
  sound = subst (IsSound flow) (sym set) (sound_set flow old.values.items place v whole.sound inside right);
  done = λ i noted_i.
      still_done flow old.values.items new.values.items old.noted.items new.noted.items old.ready.items new.ready.items new.next
      (laid_at flow old new.next (sym next) whole.out.laid) laid grows.0 grows.1
      (λ j w is. ap (λ l. value_at l j) set ∙ value_stays old.values.items place v j w none is)
      (done_at old new.next (sym next) whole.done) i noted_i;
}

-- a value of a rule was kept
module _ (flow : List Definition) (values : List (Option ℕ)) (i v : ℕ) (sound : IsSound flow values) (lets : HasLets flow values)
    (right : IsItsValue flow (i, v)) where
  its_value : (j w : ℕ) (d : Definition) → slice_get flow j ≡ Some d → j ≡ i → w ≡ v → value_at values i ≡ None →
      HasValue flow (name_of d) w
  its_value j w (Let name u) at here same none =
      absurd (let h : None ≡ Some u = sym none ∙ ap (value_at values) (sym here) ∙ lets j name u at in cc)
  its_value j w (Rule name op left r) at here same none =
      subst (HasValue flow name) (sym same) (right name op left r (subst (λ k. slice_get flow k ≡ Some (Rule name op left r)) here at))

  kept_sound : IsSound flow (first_stays values i v)
  kept_sound j d w at is = elim (came_there values i v j w is) [
    | inl new ↦ its_value j w d at new.0 new.1 new.2
    | inr was ↦ sound j d w at was
  ]

-- a store stays whole after a right value is stored
pub kept_whole : (flow : List Definition) (old new : Store) (i v : ℕ) → IsWhole flow old → IsItsValue flow (i, v) → IsLaidOut flow new →
    new.values.items ≡ first_stays old.values.items i v → new.next ≡ old.next → Grows old.ready.items new.ready.items → IsWhole flow new
kept_whole flow old new i v whole right out set next grows = record {
  out = out;
  sound = subst (IsSound flow) (sym set) (kept_sound flow old.values.items i v whole.sound whole.out.lets right);
  done = λ j noted_j.
      still_done flow old.values.items new.values.items old.noted.items new.noted.items old.ready.items new.ready.items new.next
      (laid_at flow old new.next (sym next) whole.out.laid) out.laid grows.0 grows.1
      (λ k w is. ap (λ l. value_at l k) set ∙ stays_there old.values.items i v k w is)
      (done_at old new.next (sym next) whole.done) j noted_j;
}

-- as well, if the call that kept it did not fail
pub kept_on : {X E : Type 0} (r : Result X E) (flow : List Definition) (old new : Store) (i v : ℕ) → IsWhole flow old →
    IsItsValue flow (i, v) → OnOk r (IsLaidOut flow new) → OnOk r (new.values.items ≡ first_stays old.values.items i v) →
    OnOk r (new.next ≡ old.next) → OnOk r (Grows old.ready.items new.ready.items) → OnOk r (IsWhole flow new)
kept_on (Ok x) flow old new i v whole right out set next grows = kept_whole flow old new i v whole right out set next grows
kept_on (Err e) flow old new i v whole right out set next grows = tt

-- a store with the values of each `let` alone, of which nothing was taken
pub started_whole : {E : Type 0} (r : Result Store E) (flow : List Definition) → IfOk r (λ s. IsLaidOut flow s) →
    IfOk r (λ s. AreLetsAlone flow s.values.items) → IfOk r (λ s. s.next ≡ 0) → IfOk r (λ s. IsWhole flow s)
started_whole (Ok s) flow out alone first = record {
  out = out;
  sound = lets_sound flow s.values.items out.lets alone;
  done = none_taken flow s.values.items s.noted.items s.ready.items s.next out.laid first;
}
started_whole (Err e) flow out alone first = tt
