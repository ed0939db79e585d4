use Rattle.std.proofs.Common.{◌≡◌, ◌+◌, ◌∙◌, [], refl, sym, arith, ap, subst, List, ℕ, Err, Ok, Result}
use Rattle.tour_search.specs.inside.Left.{lines_left}
use Rattle.tour_search.specs.inside.Parts.{RefusedBy, row_read}
use Rattle.tour_search.specs.Reading.{Read, rows_in}
use Rattle.tour_search.specs.declared.faults.CitiesFault.{CitiesFault}
use Rattle.tour_search.specs.declared.faults.CitiesFault.TheVariants.{Memory, Refused}
use Rattle.tour_search.specs.declared.faults.CitiesWhy.{CitiesWhy}
use Rattle.tour_search.proofs.Rows.{RowsSoFar, rows_fault, rows_more, rows_over, rows_start, rows_whole}
use Rattle.tour_search.proofs.reading.read_rows.Goals as goal

-- a fault of a row is one of the rows
row_fault : (row : Read (List ℕ)) (rows : Read (List ℕ)) (fault : CitiesFault) →
    ((line : ℕ) (reason : CitiesWhy) → row ≡ Err (line, reason) → rows ≡ Err (line, reason)) → RefusedBy {Y = List ℕ} row (Err fault) →
    RefusedBy {Y = List ℕ} rows (Err fault)
row_fault row rows (Refused line reason) on is = on line reason is
row_fault row rows Memory on is = tt

pub loop-row-init : goal.loop-row-init
loop-row-init c = record {
  far = subst (λ (l : List ℕ). RowsSoFar c.args.count (lines_left c.args.lines.now) 0 (lines_left c.args.lines.now) l)
      (sym c.new-costs.ensures.items) (rows_start c.args.count (lines_left c.args.lines.now));
  numbered = refl;
}

pub returns-in-Err-clause-refused : goal.returns-in-Err-clause-refused
returns-in-Err-clause-refused c =
    row_fault (row_read c.args.count c.loop-row.number c.next.result)
    (rows_in c.args.count c.args.count 2 (lines_left c.args.lines.now)) c.in-Err.fault
    (λ line reason bad. rows_fault c.args.count (lines_left c.args.lines.now) c.loop-row._row (lines_left c.loop-row.lines) _
    c.loop-row.costs.items c.next.result c.loop-row.number (line, reason) c.loop-row.invariant.far c.loop-row-test.true
    c.loop-row.invariant.numbered c.next.ensures bad) c.in-Err.ensures.refused

pub loop-row-preserved : goal.loop-row-preserved
loop-row-preserved c =
    let row = c.in-Ok.ensures.row in
    record {
      far = rows_more c.args.count (lines_left c.args.lines.now) c.loop-row._row (lines_left c.loop-row.lines) _
          c.loop-row.costs.items _ row.0
          c.next.result c.loop-row.number c.loop-row.invariant.far c.loop-row-test.true c.loop-row.invariant.numbered c.next.ensures row.1
          row.2;
      numbered = omega (arith, c.loop-row.invariant.numbered);
    }

pub returns-in-None-clause-rows : goal.returns-in-None-clause-rows
returns-in-None-clause-rows c =
    rows_whole c.args.count (lines_left c.args.lines.now) c.loop-row._row (lines_left c.loop-row.lines) c.loop-row.costs.items
    c.loop-row.invariant.far (omega arith) c.in-None.ensures

pub returns-in-Some-clause-refused : goal.returns-in-Some-clause-refused
returns-in-Some-clause-refused c =
    rows_over c.args.count (lines_left c.args.lines.now) c.loop-row._row (lines_left c.loop-row.lines) _ c.loop-row.costs.items
    c.in-Some.line.now c.loop-row.number c.extra_why.result c.loop-row.invariant.far (omega arith) c.loop-row.invariant.numbered
    c.in-Some.ensures (sym c.extra_why.ensures)
