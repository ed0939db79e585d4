-- What a unit is worth is what its halves are worth.
use Rattle.std.proofs.Common.{◌≡◌, ◌+◌, ◌==◌, ℕ, Bool, cond, List, take, drop, sym}
use Rattle.std.proofs.lemmas.List.Sums.{sum_by-take-drop}
use Rattle.example_template.specs.Worth.{worth}

pub halves : (unit : List ℕ) (n : ℕ) → worth unit ≡ worth (take n unit) + worth (drop n unit)
halves unit n = sym (sum_by-take-drop (λ letter. cond (letter == 101) 1 0) unit n)
