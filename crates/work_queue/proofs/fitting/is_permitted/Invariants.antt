use Rattle.std.proofs.Common.{◌≡◌, false, take}
use Rattle.std.specs.List.{list_any}
use Rattle.adlb_unit.specs.Permit.{permitted}
use Rattle.work_queue.proofs.fitting.is_permitted.Given as goal

abbrev pub invariant-loop-rank : goal.invariant-loop-rank
invariant-loop-rank l = list_any (λ a. permitted a.0 a.1 l.entry.kind l.entry.target) (take l.rank-index l.asked) ≡ false
