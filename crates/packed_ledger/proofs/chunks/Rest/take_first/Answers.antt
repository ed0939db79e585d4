use Rattle.std.proofs.Common.{length, length-drop, drop, sym, ap, ◌∙◌, arith}
use Rattle.packed_ledger.specs.inside.Codes.{IsKeptStamped, stamped_before}
use Rattle.packed_ledger.proofs.EntryBytes.{nothing, stamped_long, stamped_with_more, taken}
use Rattle.packed_ledger.proofs.chunks.Rest.take_first.Goals as goal

pub returns-then-self-len-clause-first : goal.returns-then-self-len-clause-first
returns-then-self-len-clause-first c =
    let inside = c.self.inside in
    let none = nothing stamped_before IsKeptStamped stamped_with_more stamped_long (drop inside.at inside.bytes.items)
    (drop inside.done inside.of.items) c.self.invariant.0
    (omega (arith, length-drop inside.at inside.bytes.items, c.if-self-len.true, c.len.ensures, inside.bytes.ok.0)) in
    (sym c.self.view_is ∙ none, sym c.self.view_is ∙ none)

pub invariant_of-self : goal.invariant_of-self
invariant_of-self c =
    let inside = c.self.inside in
    let at_rest = c.split_at.ensures.back ∙ ap (drop inside.at) c.as_slice.ensures.value in
    let took = taken stamped_before IsKeptStamped stamped_with_more stamped_long inside.bytes.items inside.of.items inside.at inside.done
    c.in_ok-first.size c.in_ok-first.first c.self.invariant.0 c.self.invariant.1
    (λ empty. c.if-self-len.false (omega
    (arith, empty, length-drop inside.at inside.bytes.items, c.self.invariant.1, c.len.ensures, inside.bytes.ok.0)))
    (λ x rest fits e. let read = c.in_ok-first.ensures.read x rest fits (at_rest ∙ e) in (read.0, read.1 ∙ ap length at_rest)) in
    (took.0, took.1, omega (arith, took.2, c.self.invariant.2))

pub returns-clause-first : goal.returns-clause-first
returns-clause-first c =
    let inside = c.self.inside in
    let at_rest = c.split_at.ensures.back ∙ ap (drop inside.at) c.as_slice.ensures.value in
    let took = taken stamped_before IsKeptStamped stamped_with_more stamped_long inside.bytes.items inside.of.items inside.at inside.done
    c.in_ok-first.size c.in_ok-first.first c.self.invariant.0 c.self.invariant.1
    (λ empty. c.if-self-len.false (omega
    (arith, empty, length-drop inside.at inside.bytes.items, c.self.invariant.1, c.len.ensures, inside.bytes.ok.0)))
    (λ x rest fits e. let read = c.in_ok-first.ensures.read x rest fits (at_rest ∙ e) in (read.0, read.1 ∙ ap length at_rest)) in
    sym c.self.view_is ∙ took.3
