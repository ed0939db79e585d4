use Rattle.std.proofs.Common.{◌≡◌, ◌∙◌, sym, slice_set, ap, arith}
use Rattle.bag_ledger.specs.declared.states.Part.{Part}
use Rattle.bag_ledger.specs.Steps.{change_at}
use Rattle.bag_tables.specs.Changes.{part_changed}
use Rattle.bag_tables.proofs.Changing.{set_changes}
use Rattle.bag_tables.proofs.PartsKept.{charge_fits, charge_changed}
use Rattle.bag_tables.proofs.parts.take_at.Goals as goal

pub shift-requires-clause-room : goal.shift-requires-clause-room
shift-requires-clause-room c =
    charge_fits c.args.charges.now c.args.parts.now.items c.len-n.result c.requires.charged (omega arith) (omega arith)

pub returns-clause-changed : goal.returns-clause-changed
returns-clause-changed c =
    rw c.take.ensures (
    ap (λ (p : Part). slice_set c.args.parts.now.items c.args.at (part_changed c.args.change p)) c.index_mut-part.ensures.value
    ∙ set_changes c.args.parts.now.items c.args.at (part_changed c.args.change) c.index_mut-part.result.now c.requires.inside
    )

pub returns-clause-charged : goal.returns-clause-charged
returns-clause-charged c =
    let changed : slice_set c.args.parts.now.items c.args.at c.take.new.part
    ≡ change_at (part_changed c.args.change) c.args.at c.args.parts.now.items =
    rw c.take.ensures (
    ap (λ (p : Part). slice_set c.args.parts.now.items c.args.at (part_changed c.args.change p)) c.index_mut-part.ensures.value
    ∙ set_changes c.args.parts.now.items c.args.at (part_changed c.args.change) c.index_mut-part.result.now c.requires.inside
    ) in
    rw changed
    (charge_changed c.args.charges.now c.shift.new.self c.args.parts.now.items c.args.at c.index_mut-part.result.now c.args.change
    c.len-n.result c.requires.charged c.requires.inside (sym c.index_mut-part.ensures.value) c.len-n.ensures
    (λ k within. rw (c.kept_at-from.ensures, c.kept_at-to.ensures, c.take.ensures) at (c.shift.ensures k within)))
