use Rattle.std.proofs.lemmas.Result.{err_from_is_err_and}
use Rattle.std.proofs.Common.{◌≡◌, ◌∙◌, sym}
use Rattle.std.proofs.lemmas.Bool.{false≢true}
use Rattle.ledger_file.specs.Lines.{last_row, words}
use Rattle.ledger_file.specs.inside.Reading.{parts_of}
use Rattle.ledger_file.proofs.LinesRead.{none_begins, line_found, none_is_next, entry_next}
use Rattle.ledger_file.proofs.reading.next_line.Goals as goal

pub returns-in_default : goal.returns-in_default
returns-in_default c = none_begins c.args.bytes.now c.args.count c.in_default.ensures

pub returns-then-is_last : goal.returns-then-is_last
returns-then-is_last c = line_found c.args.bytes.now c.in-Some.text.now c.in-Some.after.now (last_row c.args.count) c.in-Some.ensures
    (c.is_last.ensures.0 c.if-is_last.true)

pub returns-in_err-entry : goal.returns-in_err-entry
returns-in_err-entry c =
    let p = err_from_is_err_and c.from_residual.result c.from_residual.ensures.1 in
    let no : words (last_row c.args.count) ≡ parts_of 32 c.in-Some.text.now → ⊥ = λ same. false≢true (sym c.if-is_last.false
    ∙ c.is_last.ensures.1 same) in
    rw (p.1, p.2) (none_is_next c.args.bytes.now c.in-Some.text.now c.in-Some.after.now c.args.count c.in_err-entry.field-0.0
    c.in-Some.ensures no c.in_err-entry.ensures)

pub returns : goal.returns
returns c = entry_next c.args.bytes.now c.in-Some.text.now c.in-Some.after.now c.in_ok-entry.entry c.in-Some.ensures c.in_ok-entry.ensures
