-- What a definition gives, as the store works it.
use Rattle.std.proofs.Common.{◌≡◌, ◌<◌, ◌≤◌, ◌+◌, ℕ, zero, suc, Bool, true, false, List, [], ◌∷◌, ◌++◌, length, get_or, Option, Some, None}
use Rattle.std.proofs.Common.{refl, sym, ap, ◌∙◌, subst, arith, append-nil, append_assoc}
use Rattle.std.specs.Prelude.{is_some, slice_set}
use Rattle.std.specs.List.{slice_get}
use Rattle.std.proofs.lemmas.List.{length-append}
use Rattle.flow_law.specs.Flows.{HasValue, gives, name_of}
use Rattle.flow_law.specs.declared.Definition.{Definition}
use Rattle.flow_law.specs.declared.Definition.TheVariants.{Let, Rule}
use Rattle.flow_law.proofs.Turns.{gives_has}
use Rattle.flow_app.specs.declared.links.Inputs.{Inputs}
use Rattle.flow_app.specs.Linked.{inputs_of}
use Rattle.flow_app.specs.Stored.{Grows, HasLetsTo, IsLaid, IsSound, given_by, is_noted, own_value, ready_by, ready_from, value_at}
use Rattle.flow_app.specs.Stored.{worth_in}
use Rattle.flow_app.specs.inside.Users.{IsInside}
use Rattle.flow_app.proofs.Lets.{let_stored, rule_passed}
use Rattle.flow_app.proofs.Linking.{inside_of}
use Rattle.flow_app.proofs.Numbered.{definition_at, there_at}
use Rattle.flow_app.proofs.Whole.{worth_has}

same_definition : (flow : List Definition) (place : ℕ) (d e : Definition) → slice_get flow place ≡ Some e
    → slice_get flow place ≡ Some d → e ≡ d
same_definition flow place d e there at = let h : Some e ≡ Some d = sym there ∙ at in let same : e ≡ d = cc in same

by_inputs : (flow : List Definition) (values : List (Option ℕ)) (d : Definition) →
    given_by values (inputs_of flow d) d ≡ gives (worth_in flow values) d
by_inputs flow values (Let name v) = refl
by_inputs flow values (Rule name op left right) = refl

-- what a definition gives by its inputs' places is what it gives by their names
pub worth_is : (flow : List Definition) (values : List (Option ℕ)) (place : ℕ) (e : Definition) (asked : Inputs)
    → slice_get flow place ≡ Some e →
    ((d : Definition) → slice_get flow place ≡ Some d → asked ≡ inputs_of flow d) → (d : Definition) → slice_get flow place ≡ Some d →
    given_by values asked e ≡ gives (worth_in flow values) d
worth_is flow values place e asked there is d at =
    ap (given_by values asked) (same_definition flow place d e there at) ∙ ap (λ a. given_by values a d) (is d at) ∙ by_inputs flow values d

-- the inputs of a definition are within the flow
pub inside_is : (flow : List Definition) (n place : ℕ) (e : Definition) (asked : Inputs) → n ≡ length flow → slice_get flow place ≡ Some e →
    ((d : Definition) → slice_get flow place ≡ Some d → asked ≡ inputs_of flow d) → IsInside n asked
inside_is flow n place e asked long there is =
    subst (λ m. IsInside m asked) (sym long) (subst (IsInside (length flow)) (sym (is e there)) (inside_of flow e))

ready_by_inputs : (flow : List Definition) (values : List (Option ℕ)) (d : Definition) →
    ready_from values (inputs_of flow d) d ≡ ready_by (worth_in flow values) d
ready_by_inputs flow values (Let name v) = refl
ready_by_inputs flow values (Rule name op left right) = refl

-- a definition is ready by its inputs' places exactly if it is by their names
pub ready_is : (flow : List Definition) (values : List (Option ℕ)) (place : ℕ) (e : Definition) (asked : Inputs)
    → slice_get flow place ≡ Some e →
    ((d : Definition) → slice_get flow place ≡ Some d → asked ≡ inputs_of flow d) → (d : Definition) → slice_get flow place ≡ Some d →
    ready_from values asked e ≡ ready_by (worth_in flow values) d
ready_is flow values place e asked there is d at =
    ap (ready_from values asked) (same_definition flow place d e there at) ∙ ap (λ a. ready_from values a d) (is d at)
    ∙ ready_by_inputs flow values d

-- with its value stored, a let is one of those stored so far
pub lets_after : (flow : List Definition) (values new : List (Option ℕ)) (place : ℕ) (e : Definition) (v : ℕ)
    → HasLetsTo flow values place →
    place < length values → slice_get flow place ≡ Some e → own_value e ≡ Some v → new ≡ slice_set values place (Some v) →
    HasLetsTo flow new (place + 1)
lets_after flow values new place (Let name w) v lets inside there own set =
    let same : w ≡ v = cc in
    subst (λ l. HasLetsTo flow l (place + 1)) (sym set)
    (let_stored flow values place name v lets (there ∙ ap (λ z. let o : Option Definition = Some (Let name z) in o) same) inside)
lets_after flow values new place (Rule name op left right) v lets inside there own set = absurd (cc)

-- a definition without a value of its own is passed
pub lets_passed : (flow : List Definition) (values : List (Option ℕ)) (place : ℕ) (e : Definition) → HasLetsTo flow values place →
    slice_get flow place ≡ Some e → own_value e ≡ None → HasLetsTo flow values (place + 1)
lets_passed flow values place (Let name v) lets there own = absurd (cc)
lets_passed flow values place (Rule name op left right) lets there own = rule_passed flow values place name op left right lets there

-- no value of a `let` is there before its turn
pub none_yet : (flow : List Definition) (values : List (Option ℕ)) (place : ℕ) (e : Definition) (v : ℕ) → HasLetsTo flow values place →
    slice_get flow place ≡ Some e → own_value e ≡ Some v → value_at values place ≡ None
none_yet flow values place (Let name w) v lets there own = lets.fresh place name w (omega arith) there
none_yet flow values place (Rule name op left right) v lets there own = absurd (cc)

-- what a definition gives by the store's values is a value of its name
pub given_right : (flow : List Definition) (values : List (Option ℕ)) (place v : ℕ) → IsSound flow values
    → ((d : Definition) → slice_get flow place ≡ Some d → Some v ≡ gives (worth_in flow values) d) →
    (d : Definition) → slice_get flow place ≡ Some d → HasValue flow (name_of d) v
given_right flow values place v sound is d at =
    gives_has flow (worth_in flow values) (worth_has flow values sound) d v (there_at flow place d at) (sym (is d at))

-- what is noted gives something
pub noted_gives : (flow : List Definition) (values : List (Option ℕ)) (noted : List Bool) (ready : List ℕ) (next place : ℕ) →
    IsLaid flow values noted ready next [] → place < length flow → is_noted noted place ≡ true →
    ((d : Definition) → slice_get flow place ≡ Some d → None ≡ gives (worth_in flow values) d) → ⊥
noted_gives flow values noted ready next place s inside is_in none =
    let d = definition_at flow place inside in
    let some : is_some (gives (worth_in flow values) d.0) ≡ true = s.grounded place d.0 d.1 is_in in
    let e : false ≡ true = ap is_some (none d.0 d.1) ∙ some in
    cc

-- Lists that grow.

-- a list that stays grows
pub grows_not : (l : List ℕ) → Grows l l
grows_not l = ([], sym (append-nil l))

-- growth of a list that grew is growth of the first
pub grows_more : (a b c : List ℕ) → Grows a b → Grows b c → Grows a c
grows_more a b c first second =
    (first.0 ++ second.0, second.1 ∙ ap (λ (l : List ℕ). l ++ second.0) first.1 ∙ append_assoc a first.0 second.0)

-- a list that grew has the old elements at their places
pub grown_at : (old new : List ℕ) (i d : ℕ) → Grows old new → i < length old → get_or new i d ≡ get_or old i d
grown_at old new i d grows inside = ap (λ l. get_or l i d) grows.1 ∙ front old grows.0 i inside
  where
    front : (xs ys : List ℕ) (i : ℕ) → i < length xs → get_or (xs ++ ys) i d ≡ get_or xs i d
    front [] ys i inside = absurd (omega (arith, inside))
    front (x ∷ xs) ys zero inside = refl
    front (x ∷ xs) ys (suc i) inside = front xs ys i (omega (arith, inside))

-- a list that grew is no shorter
pub grown_long : (old new : List ℕ) → Grows old new → length old ≤ length new
grown_long old new grows = omega (arith, ap length grows.1, length-append old grows.0)
