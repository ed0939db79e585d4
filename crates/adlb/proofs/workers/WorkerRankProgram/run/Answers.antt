use Rattle.std.proofs.Common.{rules}
use Rattle.adlb.proofs.Steps.{goes, stops}
use Rattle.adlb.proofs.workers.WorkerRankProgram.run.Goals as goal

pub returns-in-Ended-clause-follows : goal.returns-in-Ended-clause-follows
returns-in-Ended-clause-follows g c = λ eye. stops _ _ _ _ _ _ _ _ (c.in_ok-begin.ensures.passes eye) c.in-Ended.is

pub put_all-requires-clause-going : goal.put_all-requires-clause-going
put_all-requires-clause-going g c = λ eye. goes _ _ _ _ _ _ _ _ (c.in_ok-begin.ensures.passes eye) c.in-More.is

pub returns-in-Ended-2-clause-follows : goal.returns-in-Ended-2-clause-follows
returns-in-Ended-2-clause-follows g c = λ eye. stops _ _ _ _ _ _ _ _ (c.in_ok-put_all.ensures.passes eye) c.in-Ended-2.is

pub rounds-init : goal.rounds-init
rounds-init g c = record {
  going = λ eye. goes _ _ _ _ _ _ _ _ (c.in_ok-put_all.ensures.passes eye) c.in-More-2.is;
  none = search rules;
  free = search rules;
  closed = search rules;
  seat = search rules;
  longer = search rules;
}

pub rounds-preserved : goal.rounds-preserved
rounds-preserved g c = record {
  going = λ eye. goes _ _ _ _ _ _ _ _ (c.in_ok-round.ensures.passes eye) c.in-More-3.is;
  none = search rules;
  free = search rules;
  closed = search rules;
  seat = search rules;
  longer = search rules;
}

pub returns-in-Ended-3-clause-follows : goal.returns-in-Ended-3-clause-follows
returns-in-Ended-3-clause-follows g c = λ eye. stops _ _ _ _ _ _ _ _ (c.in_ok-round.ensures.passes eye) c.in-Ended-3.is
