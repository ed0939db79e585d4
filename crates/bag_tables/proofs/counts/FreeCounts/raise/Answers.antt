use Rattle.bag_tables.specs.Keys.{by_prio}
use Rattle.bag_tables.proofs.Tallying.{shifted_back, unshifted}
use Rattle.bag_tables.proofs.counts.FreeCounts.raise.Goals as goal

pub returns-in-Err-raise-clause-kept : goal.returns-in-Err-raise-clause-kept
returns-in-Err-raise-clause-kept c = record {
  shelves = shifted_back c.in_ok-raise.ensures.raised c.lower-in-Err-raise.ensures;
  targets = shifted_back c.in_default.ensures.raised c.lower-in-Err-raise-2.ensures;
  kinds = c.in-Err-raise.ensures.kept;
  prios = unshifted by_prio c.args.self.now.prios c.requires.tight.prios;
}

pub returns-in-Err-raise-2-clause-kept : goal.returns-in-Err-raise-2-clause-kept
returns-in-Err-raise-2-clause-kept c = record {
  shelves = shifted_back c.in_ok-raise.ensures.raised c.lower-in-Err-raise-2-2.ensures;
  targets = shifted_back c.in_default.ensures.raised c.lower-in-Err-raise-2-3.ensures;
  kinds = shifted_back c.in_default-raise.ensures.raised c.lower-in-Err-raise-2-4.ensures;
  prios = c.in-Err-raise-2.ensures.kept;
}
