use Rattle.std.proofs.Common.{◌≡◌, ◌∙◌, ap, sum_by}
use Rattle.bag_ledger.specs.Bag.{promise_charge}
use Rattle.bag_tables.specs.Charges.{charged_at}
use Rattle.bag_tables.proofs.Slots.{sum_standing}
use Rattle.bag_tables.proofs.promises.Promises.left_of.Goals as goal

pub returns : goal.returns
returns c =
    let same : charged_at c.self.inside.charges c.args.server.0 ≡ sum_by (promise_charge c.args.server) c.args.self.now =
    c.self.invariant.charged.sums c.args.server.0 c.requires ∙ sum_standing c.args.server c.self.inside.slots.items
    ∙ ap (sum_by (promise_charge c.args.server)) c.self.view_is in
    rw (← same) c.left_of.ensures
