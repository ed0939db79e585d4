use Rattle.core_inline.proofs.Prelude.{None, rank_in, ◌≡◌}
use Rattle.core_inline.proofs.Exchanging.{HasCome, to_come}
use Rattle.core_inline.proofs.pairs.exchange.Given as goal

abbrev pub invariant-loop-from : goal.invariant-loop-from
invariant-loop-from l = record {
  goes : HasCome (rank_in l.fn.world).transcript l.fn.call l.begun l.world.world;
  whole : l.world.trouble ≡ None;
  config : l.world.world.config ≡ l.fn.world.world.config;
}

abbrev pub decreases-loop-from : goal.decreases-loop-from
decreases-loop-from l = to_come l.world.world
