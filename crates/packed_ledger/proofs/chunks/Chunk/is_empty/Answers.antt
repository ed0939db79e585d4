use Rattle.std.proofs.Common.{sym, ap, ◌∙◌, arith}
use Rattle.std.proofs.lemmas.Bool.Decides.{Decides-at, Decides-eqb, Decides-like}
use Rattle.std.specs.Vec.{vec_len}
use Rattle.packed_ledger.specs.Sizes.{KeptModel}
use Rattle.packed_ledger.specs.inside.Codes.{IsKeptStamped, stamped_before}
use Rattle.packed_ledger.proofs.EntryBytes.{nothing, nothing_back, stamped_long, stamped_with_more}
use Rattle.packed_ledger.proofs.chunks.Chunk.is_empty.Goals as goal

pub returns : goal.returns
returns c =
    let inside = c.self.inside in
    let view = ap (λ (k : KeptModel). k.entries) c.self.view_is in
    let none = nothing stamped_before IsKeptStamped stamped_with_more stamped_long inside.bytes.items inside.of.items c.self.invariant in
    let back = nothing_back stamped_before IsKeptStamped stamped_with_more stamped_long inside.bytes.items inside.of.items
    c.self.invariant in
    Decides-like c.is_empty.result
    (λ zero. sym view ∙ none (omega (arith, zero, inside.bytes.ok.0)))
    (λ e. let zero = back (view ∙ e) in omega (arith, zero, inside.bytes.ok.0))
    (Decides-at c.is_empty.result _ c.is_empty.ensures (Decides-eqb (vec_len inside.bytes) 0))
