-- The signs of a made puzzle pass each test that the dot and the nine digits pass.
use Rattle.std.proofs.Common.{◌≡◌, ◌∙◌, inl, inr, ℕ, ◌+◌, ◌-◌, Bool, true, List, ap, arith}
use Rattle.std.specs.List.{list_all}
use Rattle.std.proofs.lemmas.Bool.{agree_below, agree_below_at}
use Rattle.std.proofs.lemmas.List.Elements.{All-weaker}
use Rattle.std.proofs.lemmas.List.Sums.{list_all-from_AllPass}
use Rattle.made_jobs.specs.Signs.{IsPuzzle, IsSign}

module _ (passes : ℕ → Bool) (dot : passes 46 ≡ true) (digits : agree_below (λ k. passes (49 + k)) (λ k. true) 9 ≡ true) where
  sign_passes : (sign : ℕ) → IsSign sign → passes sign ≡ true
  sign_passes sign (inl is) = ap passes is ∙ dot
  sign_passes sign (inr digit) =
      let at : sign ≡ 49 + (sign - 49) = omega (arith, digit) in
      ap passes at ∙ agree_below_at (λ k. passes (49 + k)) (λ k. true) 9 (sign - 49) digits (omega (arith, digit))

  pub signs_pass : (signs : List ℕ) → IsPuzzle signs → list_all passes signs ≡ true
  signs_pass signs good =
      list_all-from_AllPass passes signs (All-weaker IsSign (λ sign. passes sign ≡ true) sign_passes signs good.each)
