use Rattle.std.proofs.Common.{arith}
use Rattle.adlb.proofs.runs.run_each_on.Goals as goal

pub returns-in-Ok-run_ranks-clause-run : goal.returns-in-Ok-run_ranks-clause-run
returns-in-Ok-run_ranks-clause-run g c = record {
  config = c.in-Ok.config;
  programs = c.in-Ok-copies.programs.items;
  ranks_are = c.in-Ok.ensures.ranks;
  long = omega (arith, c.in-Ok-copies.ensures.len);
  all = c.in-Ok-copies.ensures.each;
  run = c.in-Ok-run_ranks.ensures.run;
}
