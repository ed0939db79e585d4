use Rattle.std.proofs.Common.{refl}
use Rattle.ledger_rules.proofs.Finding.{complained, least_stop, none_is_legal, some_is_illegal}
use Rattle.ledger_rules.proofs.complaints.first_complaint.Goals as goal

pub returns-in-Some-clause-none : goal.returns-in-Some-clause-none
returns-in-Some-clause-none c = (
  λ none. absurd (cc),
  λ legal.
      absurd (some_is_illegal c.args.config.now c.args.ledger.now c.in_ok-machine.machine c.first_stop.new.machine c.in_ok-machine.ensures
      c.in_ok-stop.field-0 c.in_ok-stop.ensures.stop c.in-Some.stop c.in-Some.is legal),
)

pub returns-in-Some-clause-some : goal.returns-in-Some-clause-some
returns-in-Some-clause-some c =
    complained c.args.config.now c.args.ledger.now c.in_ok-machine.machine c.first_stop.new.machine c.in_ok-machine.ensures
    c.in_ok-stop.field-0 c.in_ok-stop.ensures.stop c.in-Some.stop c.in-Some.is c.complain.result c.complain.ensures.place
    c.complain.ensures.entry c.complain.ensures.breaks

pub returns-in-Some-clause-least : goal.returns-in-Some-clause-least
returns-in-Some-clause-least c =
    least_stop c.args.config.now c.args.ledger.now c.in_ok-machine.machine c.first_stop.new.machine c.in_ok-machine.ensures
    c.in_ok-stop.field-0 c.in_ok-stop.ensures.stop c.in-Some.stop c.in-Some.is c.complain.result.place c.complain.ensures.place

pub returns-clause-none : goal.returns-clause-none
returns-clause-none c = (
  λ none. none_is_legal c.args.config.now c.args.ledger.now c.in_ok-machine.machine c.first_stop.new.machine c.in_ok-machine.ensures
      c.in_ok-stop.field-0 c.in_ok-stop.ensures.stop c.in-None.is,
  λ legal. refl,
)
