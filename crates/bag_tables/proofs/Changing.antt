-- Writing at a place changes the element there.
use Rattle.std.proofs.Common.{◌≡◌, ℕ, zero, suc, ◌<◌, ◌≤◌, List, [], ◌∷◌, length, slice_index_or, slice_set, refl, ap, arith}
use Rattle.std.specs.Prelude.{Result, Ok, Err, OnOk}
use Rattle.bag_ledger.specs.Steps.{change_at}

-- writing the changed element at its place is changing it there
pub set_changes : {X : Type 0} (xs : List X) (place : ℕ) (f : X → X) (d : X) → place < length xs
    → slice_set xs place (f (slice_index_or xs place d)) ≡ change_at f place xs
set_changes [] place f d inside = absurd (omega (arith, inside))
set_changes (x ∷ xs) zero f d inside = refl
set_changes (x ∷ xs) (suc place) f d inside = ap (λ l. x ∷ l) (set_changes xs place f d (omega (arith, inside)))

-- a change past the end changes nothing
pub past_changes : {X : Type 0} (xs : List X) (place : ℕ) (f : X → X) → length xs ≤ place → xs ≡ change_at f place xs
past_changes [] place f past = refl
past_changes (x ∷ xs) zero f past = absurd (omega (arith, past))
past_changes (x ∷ xs) (suc place) f past = ap (λ l. x ∷ l) (past_changes xs place f (omega (arith, past)))

-- what follows from what an `Ok` says is said by it too
pub on_ok : {T E P Q : Type 0} (result : Result T E) → (P → Q) → OnOk result P → OnOk result Q
on_ok (Ok x) follows is = follows is
on_ok (Err e) follows is = tt
