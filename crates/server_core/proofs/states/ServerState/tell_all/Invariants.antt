use Rattle.server_core.proofs.Prelude.{◌≡◌, HasRoom, [], going_on, length, tells_all, ℕ}
use Rattle.server_core.proofs.states.ServerState.tell_all.Given as goal

abbrev pub invariant-loop-end : goal.invariant-loop-end
invariant-loop-end l = record {
  left : going_on l.out (tells_all l.end [] l.self.kept.parked.waiting) l.self
      ≡ going_on l.fn.out (tells_all l.end [] l.fn.self.kept.parked.waiting) l.fn.self;
  room : HasRoom l.self l.out 0;
  rooms : (more : ℕ) → HasRoom l.fn.self l.fn.out more → HasRoom l.self l.out more;
}

abbrev pub decreases-loop-end : goal.decreases-loop-end
decreases-loop-end l = length l.self.kept.parked.waiting
