use Rattle.server_core.proofs.Prelude.{◌≡◌, all_rest, rest_from}
use Rattle.server_core.proofs.states.ServerState.all_rest.Given as goal

abbrev pub invariant-loop-number : goal.invariant-loop-number
invariant-loop-number l = record {
  left : rest_from l.self l.number-end l.number ≡ all_rest l.self;
  end : l.number-end ≡ l.self.config.ranks;
}
