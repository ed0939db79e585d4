use Rattle.std.proofs.Common.{◌≡◌, ◌<◌, ℕ, Bool, true, slice_get, Some}
use Rattle.thread_actors.proofs.rolls.Roll.goes_on.Given as goal

abbrev pub invariant-loop-number : goal.invariant-loop-number
invariant-loop-number l = (k : ℕ) (b : Bool) → k < l.number → slice_get l.fn.self.over k ≡ Some b → b ≡ true
