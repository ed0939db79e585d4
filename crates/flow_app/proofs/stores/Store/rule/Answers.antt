use Rattle.std.proofs.Common.{◌∙◌, length}
use Rattle.flow_app.proofs.Working.{inside_is, ready_is}
use Rattle.flow_app.proofs.stores.Store.rule.Goals as goal

pub ready_rule-requires : goal.ready_rule-requires
ready_rule-requires c =
    inside_is c.args.flow.now (length c.args.self.now.values.items) c.args.place c.definition.result.now c.inputs.result c.requires.long
    c.definition.ensures c.inputs.ensures

pub returns : goal.returns
returns c = λ d at.
    c.ready_rule.ensures
    ∙ ready_is c.args.flow.now c.args.self.now.values.items c.args.place c.definition.result.now c.inputs.result c.definition.ensures
    c.inputs.ensures d at
