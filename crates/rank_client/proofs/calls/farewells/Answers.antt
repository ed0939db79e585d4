use Rattle.std.proofs.Common.{◌≤◌, ◌<◌, ◌∙◌, arith, ap, ℕ, get_or, length}
use Rattle.std.proofs.Math.ListN.{length-set}
use Rattle.std.proofs.lemmas.List.Elements.{All-same, All-set}
use Rattle.rank_client.proofs.Farewells.{later_kept, one_more}
use Rattle.rank_client.proofs.calls.farewells.Goals as goal

pub loop-server-preserved : goal.loop-server-preserved
loop-server-preserved c =
    let was = c.loop-server.invariant in
    let here : get_or c.loop-server.sent.items c.loop-server.server 0 < c.args.stamp =
    was.later c.loop-server.server (omega arith) (omega arith) in
    let P : ℕ → Type 0 = λ n. n ≤ c.args.stamp in
    record {
      told = λ x sent clock sends. was.told x sent clock sends
          ∙ one_more x _ _ _ _ _ _ _ _ clock (omega arith) c.write.ensures.counted c.write.ensures.letter c.push_reserved.ensures.items;
      counts = All-same P _ _ c.write.ensures.counted (All-set P _ _ _ (omega (arith, here)) was.counts);
      later = later_kept _ _ _ _ _ _ c.write.ensures.counted was.later;
      len = ap length c.write.ensures.counted ∙ length-set _ _ _ ∙ was.len;
      room = omega arith;
      filled = omega arith;
    }
