use Rattle.std.proofs.lemmas.Result.{err_from_is_err_and}
use Rattle.ledger_file.proofs.Parsing.{left_misses, right_misses}
use Rattle.ledger_file.proofs.numbers.id.Goals as goal

pub returns-in_err-short : goal.returns-in_err-short
returns-in_err-short c =
    let p = err_from_is_err_and c.from_residual.result c.from_residual.ensures.1 in
    rw (p.1, p.2) (left_misses c.args.word.now c.in-Some.rank.now c.in-Some.after.now c.in_err-short.field-0.0 c.in-Some.ensures
    c.in_err-short.ensures)

pub returns-in_err-number : goal.returns-in_err-number
returns-in_err-number c =
    let p = err_from_is_err_and c.from_residual-in_err-number.result c.from_residual-in_err-number.ensures.1 in
    rw (p.1, p.2) (right_misses c.args.word.now c.in-Some.rank.now c.in-Some.after.now c.in_err-number.field-0.0 c.in-Some.ensures
    c.in_err-number.ensures)
