-- An id of which nothing is here.
use Rattle.std.proofs.Common.{◌≡◌, ◌↔◌, ◌==◌, ℕ, true, false, IsTrue, List, Option, Some, None, refl, sym, ap, ◌∙◌}
use Rattle.std.specs.Prelude.{is_some}
use Rattle.std.proofs.lemmas.Bool.{eq-eqb, eqb-true}
use Rattle.adlb_unit.specs.declared.names.UnitId.{UnitId}
use Rattle.bag_ledger.proofs.Tests.{some_is}
use Rattle.work_queue.specs.Queue.{HasNoPromise, HasPromise, HasRoom, Promise}
use Rattle.work_queue.proofs.Conditions.{no_promise, promise_from_room}

-- what is said of room
pub unpromised : (id : UnitId) (promises : List Promise) (o : Option ℕ) → ((n : ℕ) → (o ≡ Some n) ↔ HasRoom id n promises)
    → (is_some o ≡ false) ↔ HasNoPromise id promises
unpromised id promises None told = (λ none. no_promise promises id (λ n has. let some = (told n).1 has in absurd (cc)), λ none. refl)
unpromised id promises (Some n) told = (
  λ none. absurd (cc),
  λ none. let has = (told n).0 refl in absurd (none has.0 has.1 has.2 (ap (λ (p : Promise). p.id) has.3 ∙ has.4.0)),
)

-- an id has room exactly if it has a promise
pub promised : (id : UnitId) (promises : List Promise) (o : Option ℕ) → ((n : ℕ) → (o ≡ Some n) ↔ HasRoom id n promises)
    → (is_some o ≡ true) ↔ HasPromise id promises
promised id promises None told = (
  λ some. absurd (cc),
  λ has. let some = (told has.1.length).1 (has.0, has.1, has.2, has.3, (has.4, refl)) in absurd (cc),
)
promised id promises (Some n) told = (λ some. promise_from_room promises id n ((told n).0 refl), λ has. refl)

-- room of this length
module _ (id : UnitId) (promises : List Promise) (o : Option ℕ) (told : (m : ℕ) → (o ≡ Some m) ↔ HasRoom id m promises) where
  -- the room of an id is its promise's
  pub has_room : (k n : ℕ) → o ≡ Some k → IsTrue (k == n) ↔ HasRoom id n promises
  has_room k n some = (
    λ same. (told n).0 (some ∙ ap (λ m. Some m) (eqb-true k n same)),
    λ has. eq-eqb k n (some_is (sym some ∙ (told n).1 has)),
  )

  -- an id without room has no promise
  pub has_none : (n : ℕ) → o ≡ None → HasRoom id n promises → ⊥
  has_none n none has = let some = sym none ∙ (told n).1 has in absurd (cc)
