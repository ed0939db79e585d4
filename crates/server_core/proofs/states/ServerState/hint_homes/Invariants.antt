use Rattle.server_core.proofs.Prelude.{◌≡◌, HasRoom, going_on, hint_all, length}
use Rattle.server_core.proofs.states.ServerState.hint_homes.Given as goal
use Rattle.adlb_unit.specs.declared.units.Unit.{Unit}

abbrev pub invariant-loop-kind : goal.invariant-loop-kind
invariant-loop-kind l = record {
  left : (unit : Unit) → unit.kind ≡ l.kind → unit.target ≡ l.target
      → going_on l.out (hint_all unit l.self.kept.parked.wishes) l.self
      ≡ going_on l.fn.out (hint_all unit l.fn.self.kept.parked.wishes) l.fn.self;
  room : HasRoom l.self l.out 2;
}

abbrev pub decreases-loop-kind : goal.decreases-loop-kind
decreases-loop-kind l = length l.self.kept.parked.wishes
