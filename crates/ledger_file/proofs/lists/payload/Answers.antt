use Rattle.std.proofs.Common.{◌≡◌, ap, arith, rules, sym, ℕ, ◌/◌, ◌%◌, List, length, get_or}
use Rattle.std.specs.Prelude.{codes}
use Rattle.std.proofs.lemmas.Bool.{eqb-false}
use Rattle.std.proofs.lemmas.Result.{err_from_is_err_and}
use Rattle.ledger_file.proofs.Digits.{digits_miss, two_at_least}
use Rattle.ledger_file.proofs.lists.payload.Goals as goal

pub returns-in_err-nibble : goal.returns-in_err-nibble
returns-in_err-nibble c =
    let p = err_from_is_err_and c.from_residual.result c.from_residual.ensures.1 in
    let other : c.args.word.now ≡ codes "-" → ⊥ = search rules in
    let long = c.in-len2-up.len_at_least in
    rw (p.1, p.2, c.in_err-nibble.ensures.0)
    (digits_miss c.args.word.now c.loop-rest.bytes.items c.loop-rest.rest.now other c.loop-rest.invariant (omega arith)
    (λ n rest lt e. c.in_err-nibble.ensures.1 (n / 16) (omega arith) (ap (λ (v : List ℕ). get_or v 0 0) e)))

pub returns-in_err-byte : goal.returns-in_err-byte
returns-in_err-byte c =
    let p = err_from_is_err_and c.from_residual-in_err-byte.result c.from_residual-in_err-byte.ensures.1 in
    let other : c.args.word.now ≡ codes "-" → ⊥ = search rules in
    let long = c.in-len2-up.len_at_least in
    rw (p.1, p.2, c.in_err-byte.ensures.0)
    (digits_miss c.args.word.now c.loop-rest.bytes.items c.loop-rest.rest.now other c.loop-rest.invariant (omega arith)
    (λ n rest lt e. c.in_err-byte.ensures.1 (n % 16) (omega arith) (ap (λ (v : List ℕ). get_or v 1 0) e)))

pub returns-then-not-is_empty : goal.returns-then-not-is_empty
returns-then-not-is_empty c =
    let other : c.args.word.now ≡ codes "-" → ⊥ = search rules in
    let short = c.in_default.len_below in
    let some = eqb-false (length c.loop-rest.rest.now) 0 (sym c.if-not-is_empty.ensures) in
    digits_miss c.args.word.now c.loop-rest.bytes.items c.loop-rest.rest.now other c.loop-rest.invariant (omega arith)
    (λ n rest lt e. two_at_least _ _ _ _ e short)
