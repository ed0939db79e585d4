use Rattle.std.proofs.Common.{Some, length-drop, drop, sym, ap, ◌∙◌, arith}
use Rattle.packed_ledger.specs.Sizes.{first_stamp}
use Rattle.packed_ledger.specs.inside.Codes.{IsKeptStamped, codes, stamped_before}
use Rattle.packed_ledger.proofs.EntryBytes.{front, nothing, stamped_long, stamped_with_more}
use Rattle.packed_ledger.proofs.chunks.Rest.first_stamp.Goals as goal

pub returns-then-self-len : goal.returns-then-self-len
returns-then-self-len c =
    let inside = c.self.inside in
    let none = nothing stamped_before IsKeptStamped stamped_with_more stamped_long (drop inside.at inside.bytes.items)
    (drop inside.done inside.of.items) c.self.invariant.0
    (omega (arith, length-drop inside.at inside.bytes.items, c.if-self-len.true, c.len.ensures, inside.bytes.ok.0)) in
    sym (ap first_stamp (sym c.self.view_is ∙ none))

pub returns : goal.returns
returns c =
    let inside = c.self.inside in
    let one = front stamped_before IsKeptStamped stamped_with_more stamped_long (drop inside.at inside.bytes.items)
    (drop inside.done inside.of.items) c.self.invariant.0
    (λ empty. c.if-self-len.false (omega
    (arith, empty, length-drop inside.at inside.bytes.items, c.self.invariant.1, c.len.ensures, inside.bytes.ok.0))) in
    let is = one.2 in
    let rest = c.split_at.ensures.back ∙ ap (drop inside.at) c.as_slice.ensures.value ∙ is.coded in
    let read = c.read_stamp.ensures one.0 (codes stamped_before one.1) is.fits rest in
    ap Some read ∙ sym (ap first_stamp (sym c.self.view_is ∙ is.list))
