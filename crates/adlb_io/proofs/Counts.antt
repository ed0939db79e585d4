-- A count to which one is added.
use Rattle.std.proofs.Common.{◌≡◌, ◌<◌, ◌≤◌, ℕ, ◌+◌, ◌-◌, ◌^◌, min, Bool, true, false, ltb, inl, inr, refl, arith}
use Rattle.std.proofs.Math.Nat.{min-eq_left, min-eq_right, min-le_right}
use Rattle.std.proofs.lemmas.Bool.{ltb-false, ltb-true}
use Rattle.adlb_io.specs.Outside.{Rises, one_more}

-- it rises, or is at its last value
pub one_more_rises : (n : ℕ) → Rises n (one_more n)
one_more_rises n = by_test (ltb n (2 ^ 64 - 1)) refl
  where
    by_test : (t : Bool) → ltb n (2 ^ 64 - 1) ≡ t → Rises n (one_more n)
    by_test true is =
        let low : n < 2 ^ 64 - 1 = ltb-true n (2 ^ 64 - 1) is in
        let same : one_more n ≡ n + 1 = min-eq_left (omega arith) in
        inl (omega (arith, same))
    by_test false is = inr (min-eq_right (omega (arith, ltb-false n (2 ^ 64 - 1) is)))

-- it is no more than its last value
pub one_more_within : (n : ℕ) → one_more n ≤ 2 ^ 64 - 1
one_more_within n = min-le_right (n + 1) (2 ^ 64 - 1)
