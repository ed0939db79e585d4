-- Units as they are put: the numbers that code has of them fit their places.
use Rattle.std.proofs.Common.{◌≡◌, ◌<◌, ◌^◌, ◌&&◌, ◌∙◌, ℕ, Bool, true, ap}
use Rattle.std.proofs.lemmas.Bool.{lt-ltb}
use Rattle.flow_law.specs.declared.Op.{Op}
use Rattle.flow_run_law.specs.Units.{Answer, Rule}
use Rattle.flow_units.specs.Bodies.{unit_fits}

both_of : (b c : Bool) → b ≡ true → c ≡ true → (b && c) ≡ true
both_of b c e f = ap (λ x. x && c) e ∙ f

-- a rule of numbers within their limits fits
pub rule_fits : (i : ℕ) (op : Op) (a b : ℕ) → i < 2 ^ 32 → a < 2 ^ 64 → b < 2 ^ 64 → unit_fits (Rule i op a b) ≡ true
rule_fits i op a b low first second =
    both_of _ _ (lt-ltb i (2 ^ 32) low) (both_of _ _ (lt-ltb a (2 ^ 64) first) (lt-ltb b (2 ^ 64) second))

-- an answer of numbers within their limits fits
pub answer_fits : (i v : ℕ) → i < 2 ^ 32 → v < 2 ^ 64 → unit_fits (Answer i v) ≡ true
answer_fits i v low below = both_of _ _ (lt-ltb i (2 ^ 32) low) (lt-ltb v (2 ^ 64) below)
