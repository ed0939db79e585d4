use Rattle.std.proofs.Common.{◌≡◌, ◌+◌, sym, ap, subst, length, rules}
use Rattle.std.proofs.lemmas.Bool.{eqb-false}
use Rattle.ledger_file.specs.declared.faults.LineFault.TheVariants as fault
use Rattle.ledger_file.specs.inside.Next.{IsNoLine}
use Rattle.ledger_file.proofs.LinesRead.{bad_next, bad_after_last}
use Rattle.ledger_file.proofs.reading.entries_of.Goals as goal

pub returns-in-Err-Bad-clause-refused : goal.returns-in-Err-Bad-clause-refused
returns-in-Err-Bad-clause-refused c = λ line same.
    let here : c.len-count.result + 2 ≡ line = cc in
    let bad : c.in-Err-Bad.field-0 ≡ fault.Bad = search rules in
    bad_next c.args.bytes.now c.lines.rest.now c.lines.ledger c.len-count.result line c.lines.invariant c.len-count.ensures.exact (subst
    (IsNoLine c.lines.rest.now c.len-count.result) bad c.in-Err-Bad.ensures) (sym here)

pub returns-then-not-is_empty-clause-refused : goal.returns-then-not-is_empty-clause-refused
returns-then-not-is_empty-clause-refused c = λ line same.
    let here : c.len-count.result + 3 ≡ line = cc in
    bad_after_last c.args.bytes.now c.lines.rest.now c.in-Ok.next.1.now c.lines.ledger c.len-count.result line c.in-Ok.next.0
    c.lines.invariant c.len-count.ensures.exact c.in-Last.is c.in-Ok.ensures
    (λ none. eqb-false _ 0 (sym c.if-not-is_empty.ensures) (ap length none)) (sym here)
