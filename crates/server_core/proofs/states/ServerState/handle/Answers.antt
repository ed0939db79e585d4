use Rattle.server_core.proofs.Prelude.{handled_goes, rule, some_there, stays_young}
use Rattle.server_core.proofs.states.ServerState.handle.Goals as goal

pub returns-clause-ok : goal.returns-clause-ok
returns-clause-ok c =
    let p = some_there (rule c.args.self.now c.args.from c.args.message) c.requires.expected in
    handled_goes c.args.self.now c.follow_rule.new.self c.end_event.new.self c.args.out.now c.follow_rule.new.out c.end_event.new.out
    c.args.from c.args.message p.0 p.1 (c.in_ok-follow_rule.ensures.ok p.0 p.1) c.end_event.ensures

pub end_event-requires-clause-young : goal.end_event-requires-clause-young
end_event-requires-clause-young c =
    let p = some_there (rule c.args.self.now c.args.from c.args.message) c.requires.expected in
    stays_young c.args.self.now c.follow_rule.new.self c.args.out.now c.follow_rule.new.out c.args.from c.args.message p.0 p.1
    (c.in_ok-follow_rule.ensures.ok p.0 p.1) c.requires.young
