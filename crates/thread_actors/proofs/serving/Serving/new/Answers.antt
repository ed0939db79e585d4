use Rattle.std.proofs.Common.{ap}
use Rattle.server_law.specs.State.{ServerModel}
use Rattle.thread_actors.proofs.serving.Serving.new.Goals as goal

pub invariant_of-result : goal.invariant_of-result
invariant_of-result g c =
    let state = c.in_ok-state.ensures in
    record {
      run_is = (ap (λ (s : ServerModel). s.config) state, ap (λ (s : ServerModel). s.me) state);
      desk_is = (c.requires.desk.config_is, c.requires.desk.number_is);
    }
