use Rattle.std.proofs.Common.{◌≡◌, ◌∙◌, ap, Ok}
use Rattle.bag_ledger.specs.Bag.{start}
use Rattle.bag_ledger.specs.Runs.{first_illegal}
use Rattle.ledger_checker.proofs.Places.{legal_found, least_found, place_is}
use Rattle.ledger_checker.proofs.checking.first_illegal.Goals as goal

pub returns-clause-same : goal.returns-clause-same
returns-clause-same c =
    c.place_of.ensures
    ∙ place_is c.in_ok-stop.stop c.in_ok-machine.machine c.first_stop.new.machine c.args.ledger.now c.in_ok-stop.ensures.stop
    ∙ ap (λ b. first_illegal b 0 c.args.ledger.now) c.in_ok-machine.ensures

pub returns-clause-legal : goal.returns-clause-legal
returns-clause-legal c =
    let is = c.place_of.ensures ∙ place_is c.in_ok-stop.stop c.in_ok-machine.machine c.first_stop.new.machine c.args.ledger.now
    c.in_ok-stop.ensures.stop in
    legal_found c.args.config.now c.in_ok-machine.machine c.args.ledger.now (Ok c.place_of.result) c.in_ok-machine.ensures is

pub returns-clause-least : goal.returns-clause-least
returns-clause-least c = λ place.
    let is = c.place_of.ensures ∙ place_is c.in_ok-stop.stop c.in_ok-machine.machine c.first_stop.new.machine c.args.ledger.now
    c.in_ok-stop.ensures.stop in
    least_found c.args.config.now c.in_ok-machine.machine c.args.ledger.now (Ok c.place_of.result) c.in_ok-machine.ensures is place
