use Rattle.std.proofs.Common.{eqb, drop, length-drop, sym, ◌∙◌, arith}
use Rattle.std.proofs.lemmas.Bool.Decides.{Decides-eqb, Decides-like}
use Rattle.packed_ledger.specs.inside.Codes.{IsKeptStamped, stamped_before}
use Rattle.packed_ledger.proofs.EntryBytes.{nothing, nothing_back, stamped_long, stamped_with_more}
use Rattle.packed_ledger.proofs.chunks.Rest.is_done.Goals as goal

pub returns : goal.returns
returns c =
    let inside = c.self.inside in
    let bytes = drop inside.at inside.bytes.items in
    let entries = drop inside.done inside.of.items in
    let size = length-drop inside.at inside.bytes.items in
    let none = nothing stamped_before IsKeptStamped stamped_with_more stamped_long bytes entries c.self.invariant.0 in
    let back = nothing_back stamped_before IsKeptStamped stamped_with_more stamped_long bytes entries c.self.invariant.0 in
    Decides-like (eqb inside.at c.len.result)
    (λ all. sym c.self.view_is ∙ none (omega (arith, all, size, c.len.ensures, inside.bytes.ok.0)))
    (λ e. let zero = back (c.self.view_is ∙ e) in omega (arith, zero, size, c.self.invariant.1, c.len.ensures, inside.bytes.ok.0))
    (Decides-eqb inside.at c.len.result)
