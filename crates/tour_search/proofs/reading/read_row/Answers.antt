use Rattle.std.proofs.Common.{rules, ◌≡◌, true, subst, sym, ap, ◌∙◌, ◌++◌, ◌∷◌, [], List, ℕ, arith}
use Rattle.std.specs.Bool.{if◌then◌else◌}
use Rattle.std.specs.Result.{is_ok}
use Rattle.tour_search.specs.Reading.{words}
use Rattle.tour_search.proofs.Rows.{RowSoFar, row_bad, row_ends, row_more, row_short, row_start}
use Rattle.tour_search.proofs.reading.read_row.Goals as goal

pub loop-city-init : goal.loop-city-init
loop-city-init c =
    subst (λ (l : List (List ℕ)). RowSoFar c.args.count (words c.args.line.now) c.args.costs.now.items 0 l c.args.costs.now.items)
    (sym c.of-words.ensures.pieces) (row_start c.args.count (words c.args.line.now) c.args.costs.now.items)

pub returns-in_default : goal.returns-in_default
returns-in_default c =
    row_short c.args.count (words c.args.line.now) c.args.costs.now.items c.loop-city._city _ _ c.loop-city.invariant c.loop-city-test.true
    c.in_default.ensures

pub returns-in_default-number_up_to : goal.returns-in_default-number_up_to
returns-in_default-number_up_to c =
    row_bad c.args.count (words c.args.line.now) c.args.costs.now.items c.loop-city._city _ _ _ c.in-Some.word.now c.loop-city.invariant
    c.loop-city-test.true c.in-Some.ensures
    (sym c.in_default-number_up_to.ensures)

pub loop-city-preserved : goal.loop-city-preserved
loop-city-preserved c =
    let ok : is_ok c.push.result ≡ true = search rules in
    row_more c.args.count (words c.args.line.now) c.args.costs.now.items c.loop-city._city _ _ c.loop-city.costs.items _ c.in-Some.word.now
    c.in-Some-number_up_to.cost c.loop-city.invariant c.loop-city-test.true c.in-Some.ensures (sym c.in-Some-number_up_to.ensures)
    (c.push.ensures.items
    ∙ ap (λ b. if b then c.loop-city.costs.items ++ c.in-Some-number_up_to.cost ∷ [] else c.loop-city.costs.items) ok)

pub returns : goal.returns
returns c =
    row_ends c.is_done.result c.args.count (words c.args.line.now) c.args.costs.now.items c.loop-city._city _ _ c.loop-city.invariant
    (omega arith) c.is_done.ensures.done c.is_done.ensures.more
