use Rattle.server_core.proofs.Prelude.{ends_goes}
use Rattle.server_core.proofs.states.ServerState.end_event.Goals as goal

pub returns : goal.returns
returns c =
    ends_goes c.args.self.now c.give_notice.new.self c.check_if_wanted.new.self c.args.out.now c.give_notice.new.out
    c.check_if_wanted.new.out c.give_notice.ensures.made c.check_if_wanted.ensures
