use Rattle.crossbeam_channel.specs.Claims.{view}
use Rattle.rank_mail.proofs.Steps.{agrees_from}
use Rattle.rank_mail.proofs.inboxes.Inbox.compare.Goals as goal

pub returns-clause-agrees : goal.returns-clause-agrees
returns-clause-agrees c = let t = c.compare.ensures.total in rw (← c.self.view_is) (agrees_from (view c.self.inside.pass) t.0 t.1)
