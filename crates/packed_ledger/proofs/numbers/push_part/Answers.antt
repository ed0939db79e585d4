use Rattle.std.proofs.Common.{ℕ, List, ◌++◌, sym, ap, ◌∙◌}
use Rattle.std.proofs.lemmas.List.{append-nil}
use Rattle.packed_ledger.proofs.Groups.{part_zero, part_more}
use Rattle.packed_ledger.proofs.numbers.push_part.Goals as goal

pub returns-then-number-ne0-clause-items : goal.returns-then-number-ne0-clause-items
returns-then-number-ne0-clause-items c =
    c.push_groups.ensures.items ∙ ap (λ (l : List ℕ). c.args.bytes.now.items ++ l)
    (sym (part_more c.args.most c.args.number c.if-number-ne0.true))

pub returns-else-number-ne0-clause-items : goal.returns-else-number-ne0-clause-items
returns-else-number-ne0-clause-items c =
    let bytes = c.args.bytes.now.items in
    sym (append-nil bytes) ∙ ap (λ (l : List ℕ). bytes ++ l) (sym (part_zero c.args.most c.args.number c.if-number-ne0.false))
