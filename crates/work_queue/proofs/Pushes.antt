-- The unit that goes first among those that can be moved.
use Rattle.std.proofs.Common.{◌≡◌, ◌<◌, ◌⊎◌, ◌<ℤ◌, ℕ, ℤ, int_le, true, false, List, Option, Some, None, Any, fold, refl, sym, ap, ◌∙◌}
use Rattle.std.proofs.Common.{subst, inl, inr, is_none, arith}
use Rattle.std.proofs.lemmas.Bool.{and_parts, and_from, false≢true}
use Rattle.std.proofs.lemmas.Int.{ints}
use Rattle.std.proofs.lemmas.Option.{get_or_from_slice_get, slice_get_within}
use Rattle.adlb_unit.specs.declared.names.UnitId.{UnitId}
use Rattle.adlb_unit.specs.declared.names.Target.{Target}
use Rattle.adlb_unit.specs.declared.names.Target.TheVariants as aim
use Rattle.work_queue.proofs.Leading.{Found, IsOrder, IsPick, Leads, found_all, none_may, some_may}
use Rattle.work_queue.proofs.Offers.{free_is}
use Rattle.work_queue.specs.Push.{GoesBefore, IsFirstToPush, IsMovable, candidate, goes_first, is_any, movable, pick_to_push}
use Rattle.work_queue.specs.Queue.{HasFree}
use Rattle.work_queue.specs.declared.placing.Placed.{Placed}
use Rattle.work_queue.specs.declared.pushing.Candidate.{Candidate}

-- a target that passes the test is any rank
pub any_is : (target : Target) → is_any target ≡ true → target ≡ aim.Any
any_is aim.Any test = refl
any_is (aim.Only rank) test = absurd (false≢true test)
any_is (aim.Soft rank) test = absurd (false≢true test)

-- the test tells the units that can be moved
pub movable_is : (p : Placed) → movable p ≡ true → IsMovable p
movable_is p test =
    let parts = and_parts (is_none p.pin) (is_any p.unit.target) test in
    (free_is p.pin parts.0, any_is p.unit.target parts.1)

-- a unit that can be moved passes the test
pub is_movable : (p : Placed) → IsMovable p → movable p ≡ true
is_movable p is = and_from (is_none p.pin) (is_any p.unit.target) (rw is.0 refl) (rw is.1 refl)

not_lower : (a b : ℤ) → int_le b a ≡ false → a <ℤ b
not_lower a b test = grind (arith, ints)

as_low : (a b : ℤ) → int_le b a ≡ true → (b <ℤ a) ⊎ (b ≡ a)
as_low a b test = grind (arith, ints)

below_as_low : (a b c : ℤ) → int_le b a ≡ true → a <ℤ c → b <ℤ c
below_as_low a b c test low = grind (arith, ints)

goes : (a b : ℤ) (Rest : Type 0) → Rest → (b <ℤ a) ⊎ (b ≡ a) → (b <ℤ a) ⊎ ((b ≡ a) × Rest)
goes a b Rest rest (inl low) = inl low
goes a b Rest rest (inr same) = inr (same, rest)

goes_all : (a b c : ℤ) (Was Rest : Type 0) → Rest → int_le b a ≡ true → (a <ℤ c) ⊎ ((a ≡ c) × Was) → (b <ℤ c) ⊎ ((b ≡ c) × Rest)
goes_all a b c Was Rest rest test (inl low) = inl (below_as_low a b c test low)
goes_all a b c Was Rest rest test (inr same) = let low : int_le b c ≡ true = ap (λ x. int_le b x) (sym same.0) ∙ test in
    goes c b Rest rest (as_low c b low)

by_prio : IsOrder candidate goes_first GoesBefore
by_prio = record {
  stays = λ i j u y before test. inl (not_lower u.unit.prio y.unit.prio test);
  passes = λ i j u y before test. goes u.unit.prio y.unit.prio (i < j) before (as_low u.unit.prio y.unit.prio test);
  passes_all = λ i j k u y q before test first. goes_all u.unit.prio y.unit.prio q.unit.prio (k < i) (k < j) before test first;
}

picks : IsPick movable candidate goes_first pick_to_push
picks = record { at_none = λ p. refl; at_some = λ r p. refl }

found_so : (units : List Placed) (found : Option Candidate) → found ≡ fold pick_to_push None units
    → Found movable candidate goes_first GoesBefore pick_to_push by_prio picks units found
found_so units found same =
    let F : Option Candidate → Type 0 = λ o. Found movable candidate goes_first GoesBefore pick_to_push by_prio picks units o in
    subst F (sym same) (found_all movable candidate goes_first GoesBefore pick_to_push by_prio picks units)

module _ (units : List Placed) (c : Candidate) (same : Some c ≡ fold pick_to_push None units) where
  leads : Leads movable candidate goes_first GoesBefore pick_to_push by_prio picks units c
  leads = found_so units (Some c) same

  -- the fold gives the first
  pub first_is : IsFirstToPush units (c.id, c.length)
  first_is = record {
    place = leads.place;
    unit = leads.unit;
    here = leads.here;
    has = ap (λ (r : Candidate). (r.id, r.length)) leads.rated;
    is_movable = movable_is leads.unit leads.is;
    is_first = λ other q at differs may. leads.is_first other q at differs (is_movable q may);
  }

  -- if a first to push is found, some unit can be moved
  pub some_movable : Any IsMovable units
  some_movable =
      let some = some_may movable candidate goes_first GoesBefore pick_to_push by_prio picks units c leads in
      (some.0, some.1, some.2, some.3, movable_is some.1 some.4)

-- the unit that is pushed first is free
pub free_from_push : (units : List Placed) (is : UnitId × ℕ) → IsFirstToPush units is → HasFree is.0 units
free_from_push units is first = (
  first.place,
  first.unit,
  slice_get_within units first.place first.unit first.here,
  get_or_from_slice_get units first.place first.unit first.unit first.here,
  (ap (λ (r : UnitId × ℕ). r.0) first.has, first.is_movable.0),
)

-- if none is found, no unit can be moved
pub none_movable : (units : List Placed) → None ≡ fold pick_to_push None units → Any IsMovable units → ⊥
none_movable units same some = none_may movable candidate goes_first GoesBefore pick_to_push by_prio picks units (found_so units None same)
    (some.0, some.1, some.2, some.3, is_movable some.1 some.4)
