use Rattle.std.proofs.Common.{◌≡◌, ◌∙◌, sym, ap, Err, Result}
use Rattle.std.proofs.lemmas.Result.{err_from_is_err_and}
use Rattle.flow_app.specs.declared.faults.FlowFault.{FlowFault}
use Rattle.flow_app.specs.declared.faults.FlowFault.TheVariants as fault
use Rattle.flow_app.proofs.Steps.{more_read, refused_next, all_read}
use Rattle.flow_app.proofs.flows.read_flow.Goals as goal

pub returns-in_err-add-clause-refused : goal.returns-in_err-add-clause-refused
returns-in_err-add-clause-refused c = λ n why same.
    let p = err_from_is_err_and c.from_residual.result c.from_residual.ensures.1 in
    let is : c.in_err-add.field-0.0 ≡ fault.Refused n why = cc in
    let to_err : FlowFault → Result (Unit {0}) FlowFault = λ f. Err f in
    let refusal = rw c.without_return.ensures at (c.in_err-add.ensures.refused n why (ap to_err is)) in
    refused_next c.args.bytes.now c.each.reading c.each.lines c.each.number n c.in-Some.line.now _ why c.each.invariant
    c.in-Some.ensures.part refusal.0 refusal.1

pub each-preserved : goal.each-preserved
each-preserved c =
    let more = rw c.without_return.ensures at c.in_ok-add.ensures.extends in
    more_read c.args.bytes.now c.each.reading _ c.each.lines _ c.each.number c.in-Some.line.now c.each.invariant
    more c.in-Some.ensures.part c.in-Some.ensures.room

pub returns-clause-flow : goal.returns-clause-flow
returns-clause-flow c =
    let read = all_read c.args.bytes.now c.each.reading c.each.lines c.each.number c.each.invariant c.in_default.ensures.part in
    (read.0, c.in_ok-whole.ensures ∙ sym read.1)
