use Rattle.std.proofs.Common.{◌≡◌, sym, ap, refl, Err, Result, rules}
use Rattle.packed_ledger.specs.declared.ledgers.Ledger.{Ledger}
use Rattle.ledger_file.specs.declared.faults.LineFault.TheVariants as fault
use Rattle.ledger_file.specs.declared.faults.LedgerFault.{LedgerFault}
use Rattle.ledger_file.specs.declared.faults.LedgerFault.TheVariants as ledger_fault
use Rattle.std.proofs.lemmas.Result.{err_from_is_err_and}
use Rattle.ledger_file.proofs.Beginnings.{no_text, no_text_of_two}
use Rattle.ledger_file.proofs.LinesRead.{no_config, bad_behind, text_is, only_memory}
use Rattle.ledger_file.proofs.reading.read_ledger.Goals as goal

pub returns-in-Err-Bad-clause-refused : goal.returns-in-Err-Bad-clause-refused
returns-in-Err-Bad-clause-refused c = λ line same.
    let here : 1 ≡ line = cc in
    let bad : c.in-Err-Bad.field-0 ≡ fault.Bad = search rules in
    no_config c.args.bytes.now c.in-Some.first.now c.in-Some.rest.now line c.in-Some.ensures (c.in-Err-Bad.ensures bad) (sym here)

pub returns-in-Err-Bad-clause-text : goal.returns-in-Err-Bad-clause-text
returns-in-Err-Bad-clause-text c = λ config ledger is.
    let bad : c.in-Err-Bad.field-0 ≡ fault.Bad = search rules in
    absurd (no_text config ledger c.args.bytes.now 1 is
    (no_config c.args.bytes.now c.in-Some.first.now c.in-Some.rest.now 1 c.in-Some.ensures (c.in-Err-Bad.ensures bad) refl))

pub returns-in_err-ledger-clause-refused : goal.returns-in_err-ledger-clause-refused
returns-in_err-ledger-clause-refused c = λ line same.
    let p = err_from_is_err_and c.from_residual.result c.from_residual.ensures.1 in
    let is : c.in_err-ledger.field-0.0 ≡ ledger_fault.Refused line = cc in
    let to_err : LedgerFault → Result Ledger LedgerFault = λ f. Err f in
    bad_behind c.in-Ok.config c.args.bytes.now c.in-Some.first.now c.in-Some.rest.now line c.in-Some.ensures c.in-Ok.ensures
    (c.in_err-ledger.ensures.refused line (ap to_err is))

pub returns-in_err-ledger-clause-text : goal.returns-in_err-ledger-clause-text
returns-in_err-ledger-clause-text c = λ config ledger is.
    let p = err_from_is_err_and c.from_residual.result c.from_residual.ensures.1 in
    rw (p.1, p.2) (only_memory c.in-Ok.config config ledger c.args.bytes.now c.in-Some.first.now c.in-Some.rest.now
    c.in_err-ledger.field-0.0 c.in-Some.ensures c.in-Ok.ensures c.in_err-ledger.ensures.refused is)

pub returns-clause-read : goal.returns-clause-read
returns-clause-read c = text_is c.in-Ok.config c.in_ok-ledger.ledger c.args.bytes.now c.in-Some.first.now c.in-Some.rest.now
    c.in-Some.ensures c.in-Ok.ensures c.in_ok-ledger.ensures.read

pub returns-clause-text : goal.returns-clause-text
returns-clause-text c = λ config ledger is.
    no_text_of_two c.in-Ok.config config c.in_ok-ledger.ledger ledger c.args.bytes.now
    (text_is c.in-Ok.config c.in_ok-ledger.ledger c.args.bytes.now c.in-Some.first.now c.in-Some.rest.now c.in-Some.ensures
    c.in-Ok.ensures c.in_ok-ledger.ensures.read) is
