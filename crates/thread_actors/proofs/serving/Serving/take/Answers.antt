use Rattle.rank_mail.specs.declared.posted.Posted.{Posted}
use Rattle.thread_actors.proofs.Cuts.{cut_at}
use Rattle.thread_actors.proofs.serving.Serving.take.Goals as goal

pub returns-clause-cut : goal.returns-clause-cut
returns-clause-cut g c =
    let old = c.args.self.now in let new = c.handle.new.self in let broke = c.in_ok-fault in
    let x : Posted = record { from = c.args.from; letter = c.args.letter } in
    cut_at old.config old.me new.me old.desk new.desk old.state x c.at-roll.result.waits c.at-roll.result.over broke.fault broke.own
    old.desk_is.0 old.run_is.1 c.handle.ensures.me broke.ensures.unsent c.requires.follows c.requires.going broke.ensures.late
    broke.ensures.breaks c.at-roll.ensures
