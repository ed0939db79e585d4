use Rattle.std.proofs.Common.{◌≡◌, ◌<◌, ◌-◌, ◌||◌, ◌&&◌, ℕ, Bool, not, nat_lt, slice_get, Some}
use Rattle.thread_actors.proofs.rolls.Roll.set_absent.Given as goal

abbrev pub invariant-loop-number : goal.invariant-loop-number
invariant-loop-number l = record {
  over : (k : ℕ) (b : Bool) → k < l.fn.ranks → slice_get l.fn.self.over k ≡ Some b
      → slice_get l.self.over k ≡ Some (b || (not (nat_lt k (l.fn.ranks - l.fn.absent)) && nat_lt k l.number));
  waits : l.self.waits ≡ l.fn.self.waits;
}
