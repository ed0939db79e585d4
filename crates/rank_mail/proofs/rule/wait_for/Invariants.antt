use Rattle.std.proofs.Common.{◌≡◌, true}
use Rattle.crossbeam_channel.specs.Claims.{view, IsSeatAt}
use Rattle.crossbeam_channel.specs.Ends.{receives_on}
use Rattle.rank_mail.proofs.rule.wait_for.Given as goal

abbrev pub invariant-loop : goal.invariant-loop
invariant-loop g l = record {
  seat : IsSeatAt (receives_on l.end) l.pass;
  same : view l.pass ≡ view l.initial.pass;
  gets : (view l.pass).gets ≡ true;
}
