use Rattle.std.proofs.Common.{ℕ, List, ◌++◌, sym, ap, ◌∙◌, arith}
use Rattle.packed_ledger.proofs.Groups.{none_written, few_groups, many_written}
use Rattle.packed_ledger.proofs.numbers.+push_groups.Goals as goal

pub returns-then-most-eq0-clause-items : goal.returns-then-most-eq0-clause-items
returns-then-most-eq0-clause-items t c = none_written c.args.most c.args.number c.args.bytes.now.items c.if-most-eq0.true

pub returns-then-number-lt128-clause-items : goal.returns-then-number-lt128-clause-items
returns-then-number-lt128-clause-items t c =
    c.push_reserved.ensures.items ∙ ap (λ (l : List ℕ). c.args.bytes.now.items ++ l)
    (sym (few_groups c.args.most c.args.number (omega arith) c.if-number-lt128.true))

pub returns-clause-items : goal.returns-clause-items
returns-clause-items t c = many_written c.args.most c.args.number c.args.bytes.now.items _ _ (omega arith) c.if-number-lt128.false
    c.push_reserved-2.ensures.items c.push_groups.ensures.items
