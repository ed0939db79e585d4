use Rattle.std.proofs.Common.{◌≡◌, map, take}
use Rattle.flow_app.specs.Linked.{inputs_by, noted_number}
use Rattle.flow_app.proofs.flows.all_inputs.Given as goal

abbrev pub invariant-loop-definition : goal.invariant-loop-definition
invariant-loop-definition l = l.inputs.items ≡ map (inputs_by (noted_number l.numbers)) (take l.definition-index l.definitions)
