use Rattle.server_law.proofs.Elsewhere.{servers_stay}
use Rattle.server_law.proofs.OneServer.{none_is_promised, one_has_all}
use Rattle.server_law.proofs.OwnEntries.{acts_are_legal}
use Rattle.server_law.proofs.Resting.{rest_is_settled}
use Rattle.server_law.proofs.agreeing.agreement_laws.Goals as goal

pub returns : goal.returns
returns c = record {
  acts_are_legal = acts_are_legal;
  servers_stay = servers_stay;
  one_has_all = one_has_all;
  none_is_promised = none_is_promised;
  rest_is_settled = rest_is_settled;
}
