use Rattle.std.proofs.Common.{length, drop, sym, ◌∙◌, arith}
use Rattle.std.proofs.lemmas.Bool.{eqb-true, eqb-false}
use Rattle.packed_ledger.specs.inside.Codes.{IsKept, entry_before}
use Rattle.packed_ledger.proofs.EntryBytes.{entry_long, entry_with_more, next, nothing}
use Rattle.packed_ledger.proofs.ledgers.Entries.next.Goals as goal

pub returns-then-is_empty-clause-next : goal.returns-then-is_empty-clause-next
returns-then-is_empty-clause-next c =
    let inside = c.self.inside in
    let none = nothing entry_before IsKept entry_with_more entry_long inside.rest.now (drop inside.done inside.of.now.items)
    c.self.invariant.0
    (eqb-true (length inside.rest.now) 0 (sym c.is_empty.ensures ∙ c.if-is_empty.true)) in
    (sym c.self.view_is ∙ none, sym c.self.view_is ∙ none)

pub overflow_add-self : goal.overflow_add-self
overflow_add-self c =
    let inside = c.self.inside in
    let read = next entry_before IsKept entry_with_more entry_long inside.rest.now c.in_ok-entry.rest.now inside.of.now.items inside.done
    c.in_ok-entry.entry c.self.invariant.0
    (eqb-false (length inside.rest.now) 0 (sym c.is_empty.ensures ∙ c.if-is_empty.false)) c.in_ok-entry.ensures in
    omega (arith, read.1, c.self.invariant.2)

pub invariant_of-self : goal.invariant_of-self
invariant_of-self c =
    let inside = c.self.inside in
    let read = next entry_before IsKept entry_with_more entry_long inside.rest.now c.in_ok-entry.rest.now inside.of.now.items inside.done
    c.in_ok-entry.entry c.self.invariant.0
    (eqb-false (length inside.rest.now) 0 (sym c.is_empty.ensures ∙ c.if-is_empty.false)) c.in_ok-entry.ensures in
    (read.0, omega (arith, read.1), c.self.invariant.2)

pub returns-clause-next : goal.returns-clause-next
returns-clause-next c =
    let inside = c.self.inside in
    let read = next entry_before IsKept entry_with_more entry_long inside.rest.now c.in_ok-entry.rest.now inside.of.now.items inside.done
    c.in_ok-entry.entry c.self.invariant.0
    (eqb-false (length inside.rest.now) 0 (sym c.is_empty.ensures ∙ c.if-is_empty.false)) c.in_ok-entry.ensures in
    sym c.self.view_is ∙ read.2
