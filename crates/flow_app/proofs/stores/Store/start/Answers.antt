use Rattle.std.proofs.Common.{sym}
use Rattle.flow_app.proofs.Working.{none_yet}
use Rattle.flow_app.proofs.stores.Store.start.Goals as goal

pub settle-requires-clause-none : goal.settle-requires-clause-none
settle-requires-clause-none c =
    none_yet c.args.flow.now c.args.self.now.values.items c.args.place c.definition.result.now c.in-Some.value c.requires.lets
    c.definition.ensures (sym c.in-Some.ensures)
