use Rattle.std.proofs.Common.{◌≡◌, true}
use Rattle.crossbeam_channel.specs.Claims.{view, IsSeatAt}
use Rattle.crossbeam_channel.specs.Ends.{sends_on}
use Rattle.rank_mail.proofs.rule.send.Given as goal

abbrev pub invariant-loop : goal.invariant-loop
invariant-loop g l = record {
  seat : IsSeatAt (sends_on l.end) l.pass;
  same : view l.pass ≡ view l.initial.pass;
  back : l.back ≡ l.fn.posted;
  sends : (view l.pass).sends ≡ true;
  from : l.back.from ≡ (view l.pass).from;
}
