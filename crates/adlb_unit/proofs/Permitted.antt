-- Which targets let a rank have a unit, and which units are permitted.
use Rattle.std.proofs.Common.{◌≡◌, ◌<◌, ◌==◌, ◌↔◌, ℕ, Bool, true, false, cond, List, Option, refl, ap, ltb}
use Rattle.std.proofs.lemmas.Bool.{lt-ltb, ltb-true}
use Rattle.adlb_unit.specs.declared.names.Rank.{Rank}
use Rattle.adlb_unit.specs.declared.names.Target.{Target}
use Rattle.adlb_unit.specs.declared.names.Target.TheVariants.{Any, Only, Soft}
use Rattle.adlb_unit.specs.Permit.{IsFor, class_for, is_for}

-- one rank alone is let, by the test
pub for_only : (rank only : Rank) → is_for (Only only) rank ≡ (only.0 == rank.0)
for_only rank only = by_test (only.0 == rank.0)
  where
    by_test : (t : Bool) → ltb (cond t 0 4) 4 ≡ t
    by_test true = refl
    by_test false = refl

-- and each rank, where one is preferred
pub for_soft : (rank first : Rank) → is_for (Soft first) rank ≡ true
for_soft rank first = by_test (first.0 == rank.0)
  where
    by_test : (t : Bool) → ltb (cond t 1 3) 4 ≡ true
    by_test true = refl
    by_test false = refl

-- if the test passes, the target lets the rank have a unit
pub is_for_is : (target : Target) (rank : Rank) → is_for target rank ≡ true → IsFor target rank
is_for_is target rank test = ltb-true (class_for rank target) 4 test

-- if the target lets the rank have a unit, the test passes
pub is_is_for : (target : Target) (rank : Rank) → IsFor target rank → is_for target rank ≡ true
is_is_for target rank is = lt-ltb (class_for rank target) 4 is
