use Rattle.std.proofs.Common.{◌<◌, sym, subst}
use Rattle.adlb_unit.specs.declared.configs.Config.{Config}
use Rattle.core_run.specs.World.{start}
use Rattle.core_law.specs.Letters.{kinds}
use Rattle.core_law.specs.Measures.{IsBalanced}
use Rattle.core_law.proofs.Debts.{every_run_paid, letters_of_push, letters_of_this}
use Rattle.core_law.proofs.EveryRun.{every_run_well, run_config}
use Rattle.core_law.proofs.InLine.{every_run_in_line}
use Rattle.core_law.proofs.letters.letter_laws.Goals as goal

pub returns : goal.returns
returns c = record {
  kinds = λ config events w run.
      let its = run_config (start config) w events run in
      subst (λ (k : Config). IsBalanced (kinds k) w) its (every_run_well config events w run).kind;
  one_letter = λ config events w rank run. (every_run_well config events w run).one rank;
  numbered = λ config events w rank next run. (every_run_well config events w run).number rank next;
  remotes = λ config events w home asked rank request run. (every_run_well config events w run).remote home asked rank request;
  finishes = λ config events w rank server there run.
      let here = subst (λ (k : Config). server.0 < k.servers) (sym (run_config (start config) w events run)) there in
      (every_run_well config events w run).finish rank server here;
  in_line = λ config events w from to run. every_run_in_line config events w run from to;
  pushes = λ config events w a there run.
      let here = subst (λ (k : Config). a.0 < k.servers) (sym (run_config (start config) w events run)) there in
      letters_of_push w a (every_run_well config events w run) (every_run_paid config events w run) here;
  pushes_to = λ config events w a to id sent there run.
      let here = subst (λ (k : Config). a.0 < k.servers) (sym (run_config (start config) w events run)) there in
      letters_of_this w a to id sent (every_run_well config events w run) (every_run_paid config events w run) here;
  none_owes = every_run_paid;
  own = λ config events w run. (every_run_well config events w run).own;
}
