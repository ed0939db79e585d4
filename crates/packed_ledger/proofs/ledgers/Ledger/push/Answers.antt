use Rattle.std.proofs.Common.{List, [], ◌∷◌, ℕ, ◌++◌, length, length-append, ap, ◌∙◌, arith}
use Rattle.packed_ledger.specs.inside.Codes.{IsKept, entry_before}
use Rattle.packed_ledger.proofs.EntryBytes.{codes_long, entry_long, entry_with_more, holds_push}
use Rattle.packed_ledger.proofs.ledgers.Ledger.push.Goals as goal

pub overflow_add-self : goal.overflow_add-self
overflow_add-self c =
    let inside = c.self.inside in
    let holds = c.self.invariant.0 in
    let long = codes_long entry_before IsKept entry_with_more entry_long inside.of.items in
    omega (arith, long, ap length holds.coded, c.self.invariant.1, inside.bytes.ok.0, inside.bytes.ok.1, inside.bytes.small)

pub invariant_of-self-2 : goal.invariant_of-self-2
invariant_of-self-2 c =
    let coded = c.push_entry.ensures.items ∙ ap (λ (l : List ℕ). l ++ entry_before c.args.entry []) c.reserve.ensures.items in (
      holds_push entry_before IsKept entry_with_more entry_long _ _ _ _ c.args.entry c.self.invariant.0 c.push_entry.ensures.kept coded
          c.and-self-inside.ensures,
      omega (arith, c.self.invariant.1, ap length c.and-self-inside.ensures, length-append c.self.inside.of.items (c.args.entry ∷ [])),
    )
