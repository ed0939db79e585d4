-- The numbers of names.
use Rattle.std.proofs.Common.{◌≡◌, ◌<◌, ℕ, zero, suc, Bool, true, false, cond, ltb, List, [], ◌∷◌, length, get_or, Some, None, Contains}
use Rattle.std.proofs.Common.{refl, sym, ap, ◌∙◌, arith}
use Rattle.std.specs.List.{position_or_len, slice_get}
use Rattle.std.proofs.lemmas.Bool.{cond-true, lt-ltb}
use Rattle.std.proofs.lemmas.List.Quantifiers.{position-Some}
use Rattle.std.proofs.lemmas.List.Sums.{position_or_len_is}
use Rattle.std.proofs.lemmas.Option.{get_or_from_slice_get, slice_get-get_or, slice_get_within}
use Rattle.std.proofs.lemmas.Slice.Eq.{bytes_eq-Decides}
use Rattle.flow_law.specs.Flows.{AreDistinct, Name, name_of}
use Rattle.flow_law.specs.declared.Definition.{Definition}
use Rattle.flow_law.specs.declared.Definition.TheVariants.{Let}
use Rattle.flow_law.proofs.Turns.{counts_step, distinct_rest, named, there_counts}
use Rattle.flow_app.specs.Linked.{number_of}

-- what is at a place is in the list, and what is in the list has a place
pub there_at : {X : Type 0} (xs : List X) (i : ℕ) (x : X) → slice_get xs i ≡ Some x → Contains xs x
there_at xs i x e = (i, slice_get_within xs i x e, get_or_from_slice_get xs i x x e)

-- an element of a list has a place in it
pub place_of : {X : Type 0} (xs : List X) (x : X) → Contains xs x → (i : ℕ) × (slice_get xs i ≡ Some x)
place_of xs x there = (there.0, slice_get-get_or xs there.0 x there.1 ∙ ap Some there.2)

none : (b : Bool) → cond {A = ℕ} b 1 0 ≡ 0 → b ≡ false
none true e = absurd (omega arith)
none false e = refl

-- no definition before it has its name
none_before : (flow : List Definition) → AreDistinct flow → (i : ℕ) (d : Definition) → slice_get flow i ≡ Some d → (k : ℕ) → k < i →
    named (name_of d) (get_or flow k d) ≡ false
none_before [] distinct i d e k lt = absurd (cc)
none_before (y ∷ flow) distinct zero d e k lt = absurd (omega (arith, lt))
none_before (y ∷ flow) distinct (suc i) d e zero lt =
    none (named (name_of d) y)
    (omega (arith, distinct (name_of d), there_counts flow d (there_at flow i d e), counts_step (name_of d) y flow))
none_before (y ∷ flow) distinct (suc i) d e (suc k) lt = none_before flow (distinct_rest y flow distinct) i d e k (omega (arith, lt))

-- of distinct definitions each has its place as the number of its name
pub number_here : (flow : List Definition) → AreDistinct flow → (i : ℕ) (d : Definition) → slice_get flow i ≡ Some d →
    number_of flow (name_of d) ≡ Some i
number_here flow distinct i d e =
    let inside : i < length flow = slice_get_within flow i d e in
    let same : get_or flow i d ≡ d = get_or_from_slice_get flow i d d e in
    let yes : named (name_of d) (get_or flow i d) ≡ true = (bytes_eq-Decides (name_of (get_or flow i d)) (name_of d)).1 (ap name_of same) in
    let at : position_or_len (named (name_of d)) flow ≡ i =
    position_or_len_is (named (name_of d)) flow i d (omega arith) (none_before flow distinct i d e) (λ lt. yes) in
    rw at (cond-true (ltb i (length flow)) (Some i) None (lt-ltb i (length flow) inside))

-- a number is a place, of a definition of that name
pub number_inside : (flow : List Definition) (name : Name) (i : ℕ) → number_of flow name ≡ Some i → i < length flow
number_inside flow name i e = (position-Some (named name) flow i (Let [] 0) e).0

-- the definition at the number of a name has that name
pub number_named : (flow : List Definition) (name : Name) (i : ℕ) (d : Definition) → number_of flow name ≡ Some i
    → slice_get flow i ≡ Some d →
    name_of d ≡ name
number_named flow name i d e at =
    let same : get_or flow i d ≡ d = get_or_from_slice_get flow i d d at in
    (bytes_eq-Decides (name_of d) name).0 (ap (named name) (sym same) ∙ (position-Some (named name) flow i d e).1)

-- there is a definition at each place within the flow
pub definition_at : (flow : List Definition) (i : ℕ) → i < length flow → (d : Definition) × (slice_get flow i ≡ Some d)
definition_at flow i inside = (get_or flow i (Let [] 0), slice_get-get_or flow i (Let [] 0) inside)
