-- Equal ids pass their tests, and those that pass are equal.
use Rattle.std.proofs.Common.{◌≡◌, ◌≢◌, ◌==◌, true, false, refl}
use Rattle.std.proofs.lemmas.Bool.{and_parts, eqb-true, eq-eqb, false_from_ne_true}
use Rattle.adlb_unit.specs.declared.names.BatchId.{BatchId}
use Rattle.adlb_unit.specs.declared.names.UnitId.{UnitId}
use Rattle.adlb_unit.specs.Ids.{same_batch, same_unit}

-- ids of units that pass the test are equal
pub same_unit_is : (a b : UnitId) → same_unit a b ≡ true → a ≡ b
same_unit_is a b e =
    let s = and_parts (a.rank.0 == b.rank.0) (a.number == b.number) e in
    let ranks : a.rank.0 ≡ b.rank.0 = eqb-true a.rank.0 b.rank.0 s.0 in
    let numbers : a.number ≡ b.number = eqb-true a.number b.number s.1 in
    rw (← ranks, ← numbers) refl

-- equal ids of units pass the test
pub same_unit_from : (a b : UnitId) → a ≡ b → same_unit a b ≡ true
same_unit_from a b e = rw (e, eq-eqb b.rank.0 b.rank.0 refl, eq-eqb b.number b.number refl) refl

-- different ids of units fail the test
pub unit_differs : (a b : UnitId) → a ≢ b → same_unit a b ≡ false
unit_differs a b differs = false_from_ne_true (same_unit a b) (λ t. differs (same_unit_is a b t))

-- ids of batches that pass the test are equal
pub same_batch_is : (a b : BatchId) → same_batch a b ≡ true → a ≡ b
same_batch_is a b e =
    let s = and_parts (a.rank.0 == b.rank.0) (a.number == b.number) e in
    let ranks : a.rank.0 ≡ b.rank.0 = eqb-true a.rank.0 b.rank.0 s.0 in
    let numbers : a.number ≡ b.number = eqb-true a.number b.number s.1 in
    rw (← ranks, ← numbers) refl

-- equal ids of batches pass the test
pub same_batch_from : (a b : BatchId) → a ≡ b → same_batch a b ≡ true
same_batch_from a b e = rw (e, eq-eqb b.rank.0 b.rank.0 refl, eq-eqb b.number b.number refl) refl
