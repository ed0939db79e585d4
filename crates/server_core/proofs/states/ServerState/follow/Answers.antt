use Rattle.server_core.proofs.Prelude.{Notes_finish, close_goes, fetch_goes, heard_goes, refl, runs}
use Rattle.server_core.proofs.states.ServerState.follow.Goals as goal

pub returns-in-Finish-clause-ok : goal.returns-in-Finish-clause-ok
returns-in-Finish-clause-ok c p is =
    heard_goes (runs c.args.self.now.kept c.args.from) (Notes_finish c.args.from) c.args.self.now c.args.out.now refl refl c.finish.ensures
    p (rw c.in-Finish.is at is)

pub returns-in-Fetch-clause-ok : goal.returns-in-Fetch-clause-ok
returns-in-Fetch-clause-ok c p is =
    fetch_goes c.args.self.now c.args.out.now c.args.from c.in-Fetch.request c.in-Fetch.id _ (rw c.in-Fetch.is at c.requires.awaited)
    c.fetch.ensures.made p (rw c.in-Fetch.is at is)

pub returns-in-CloseBatch-clause-ok : goal.returns-in-CloseBatch-clause-ok
returns-in-CloseBatch-clause-ok c p is =
    let close = c.in-CloseBatch in
    close_goes c.args.self.now c.args.out.now c.args.from close.request close.batch close.accepted _ c.close.ensures.made p
    (rw close.is at is)
