use Rattle.std.proofs.Common.{◌≡◌, ◌∙◌, not, true, false, ap, sym, arith}
use Rattle.std.proofs.lemmas.List.Filters.{FiltersInPlace-more_no, FiltersInPlace-more_set}
use Rattle.adlb_unit.specs.Ids.{same_unit}
use Rattle.rank_client.proofs.fetches.drop_note.Goals as goal

pub loop-at-preserved-then-eq : goal.loop-at-preserved-then-eq
loop-at-preserved-then-eq c =
    let same : not (same_unit c.index.result.now.id c.args.id) ≡ false = ap not (sym c.eq.ensures ∙ c.if-eq.true) in
    record {
      filters = FiltersInPlace-more_no c.loop-at.invariant.filters (omega arith) same c.index.ensures;
      room = c.loop-at.invariant.room;
    }

pub loop-at-preserved : goal.loop-at-preserved
loop-at-preserved c =
    let other : not (same_unit c.index.result.now.id c.args.id) ≡ true = ap not (sym c.eq.ensures ∙ c.if-eq.false) in
    record {
      filters = FiltersInPlace-more_set c.loop-at.invariant.filters (omega arith) other c.index.ensures;
      room = c.loop-at.invariant.room;
    }
