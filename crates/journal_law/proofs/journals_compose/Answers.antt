use Rattle.journal_law.specs.Machines.{Machine}
use Rattle.journal_law.specs.Lists.{lists}
use Rattle.journal_law.proofs.Compose as Compose
use Rattle.journal_law.proofs.Lists.{lists_go_on}
use Rattle.journal_law.proofs.journals_compose.Goals as goal

pub returns : goal.returns
returns g c =
    let machine : Machine g.row.P-State.Denot g.row.P-Letter.Denot g.row.P-Event.Denot = record {
      actors = g.P.Protocol.actors;
      stamp = g.P.Protocol.stamp;
      cause = g.P.Protocol.cause;
      sends = g.P.Protocol.sends;
      letter_stamp = g.P.Protocol.letter_stamp;
      start = g.P.Protocol.start;
      Steps = g.P.Protocol.Steps;
    } in
    λ first journal final events w among compose merged start.
    Compose.events_are_a_run machine (lists machine first) (lists_go_on machine first among) journal final events w compose merged start
