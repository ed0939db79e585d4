use Rattle.std.proofs.Common.{◌∙◌}
use Rattle.actor_desk.proofs.desk.Desk.dispatch.Goals as goal

pub invariant_of-self : goal.invariant_of-self
invariant_of-self g c =
    let at_desk = c.self.invariant in
    record {
      reach = at_desk.reach;
      post = c.send_all.ensures.sent.number ∙ at_desk.post;
      places_are = c.send_all.ensures.sent.places ∙ at_desk.places_are;
      wide = c.send_all.ensures.sent.wide ∙ at_desk.wide;
      inbox = at_desk.inbox;
      unclosed = at_desk.unclosed;
      senders = at_desk.senders;
      named = at_desk.named;
      kept = at_desk.kept;
    }
