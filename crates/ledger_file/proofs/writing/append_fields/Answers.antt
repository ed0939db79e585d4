use Rattle.std.proofs.lemmas.List.{take_all}
use Rattle.std.proofs.lemmas.List.Elements.{All-map, All-more, All-same, recursion_from_All}
use Rattle.std.proofs.Common.{arith, get_or, rules, sym}
use Rattle.std.proofs.lemmas.Grind.{common_steps}
use Rattle.ledger_file.specs.Fields.{IsWithin}
use Rattle.ledger_file.specs.inside.Given.{field_of, fields_of}
use Rattle.ledger_file.proofs.Written.{fields_written}
use Rattle.ledger_file.proofs.writing.append_fields.Goals as goal

pub returns-clause-written : goal.returns-clause-written
returns-clause-written c =
    fields_written c.args.bytes.now.items c.loop-field.bytes.items c.args.fields.now c.loop-field.field-index c.loop-field-test.false
    c.loop-field.invariant.0

pub returns-clause-within : goal.returns-clause-within
returns-clause-within c =
    let fields = c.args.fields.now in
    let whole = take_all c.loop-field.field-index fields c.loop-field-test.false in
    recursion_from_All IsWithin (fields_of fields)
    (All-map IsWithin field_of fields (All-same (λ f. IsWithin (field_of f)) fields _ (sym whole) c.loop-field.invariant.1))

pub loop-field-preserved : goal.loop-field-preserved
loop-field-preserved c =
    let fields = c.args.fields.now in
    let i = c.loop-field.field-index in
    let fits : IsWithin (field_of (get_or fields i c.field-item.result)) = search rules in (
      grind (arith, common_steps),
      All-more (λ f. IsWithin (field_of f)) fields i c.field-item.result c.loop-field-test.true c.loop-field.invariant.1 fits,
    )
