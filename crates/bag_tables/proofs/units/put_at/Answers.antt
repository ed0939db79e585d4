use Rattle.std.proofs.Common.{slice_set, ◌∙◌, ap}
use Rattle.bag_ledger.specs.declared.states.Placed.{Placed}
use Rattle.bag_tables.proofs.Changing.{set_changes}
use Rattle.bag_tables.proofs.units.put_at.Goals as goal

pub returns : goal.returns
returns c =
    let f : Placed → Placed = λ u. record u { place = c.args.place } in
    ap (λ (x : Placed). slice_set c.args.units.now.items c.args.at (f x)) c.index_mut-unit.ensures.value
    ∙ set_changes c.args.units.now.items c.args.at f c.index_mut-unit.result.now c.requires
