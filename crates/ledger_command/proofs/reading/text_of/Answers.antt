use Rattle.std.proofs.lemmas.Result.{err_from_is_err_and}
use Rattle.ledger_command.proofs.Forms.{text_refused}
use Rattle.ledger_command.proofs.reading.text_of.Goals as goal

pub returns-in_err-config-clause-refused : goal.returns-in_err-config-clause-refused
returns-in_err-config-clause-refused c =
    let p = err_from_is_err_and c.from_residual.result c.from_residual.ensures.1 in
    rw (p.1, p.2) (text_refused c.args.bytes.now c.read_ledger.result c.in_err-config.field-0.0 c.read_ledger.ensures.refused
    c.in_err-config.was)
