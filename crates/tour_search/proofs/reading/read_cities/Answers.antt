use Rattle.std.proofs.Common.{◌≡◌, ◌∙◌, refl, sym, arith, ap, subst, List, ℕ, Ok, Err}
use Rattle.tour_search.specs.inside.Left.{lines_left}
use Rattle.tour_search.specs.inside.Parts.{head_read}
use Rattle.tour_search.specs.Reading.{cities_in, rows_in, with_rows}
use Rattle.tour_search.specs.declared.faults.CitiesFault.{CitiesFault}
use Rattle.tour_search.specs.declared.faults.CitiesFault.TheVariants.{Refused}
use Rattle.tour_search.proofs.Rows.{are_cities, head_is, head_low, head_refused, refused_as}
use Rattle.tour_search.proofs.reading.read_cities.Goals as goal

pub returns-in-Err-clause-refused : goal.returns-in-Err-clause-refused
returns-in-Err-clause-refused c = λ line why e.
    let fault : c.in-Err.fault ≡ Refused line why = cc in
    ap cities_in (sym c.of-lines.ensures)
    ∙ head_refused (lines_left c.of-lines.result) _ c.next.result (line, why) c.next.ensures
    (refused_as (head_read c.next.result) c.in-Err.fault c.in-Err.ensures.refused line why fault)

pub new-requires : goal.new-requires
new-requires c =
    let low = head_low c.next.result c.in-Ok.count c.in-Ok.ensures.count in
    are_cities c.in-Ok.count (lines_left c.next.new.self) c.in-Ok-read_rows.costs.items low.0 low.1 c.in-Ok-read_rows.ensures.rows

pub returns-in-Ok-read_rows-clause-cities : goal.returns-in-Ok-read_rows-clause-cities
returns-in-Ok-read_rows-clause-cities c =
    ap cities_in (sym c.of-lines.ensures)
    ∙ head_is (lines_left c.of-lines.result) _ c.next.result c.in-Ok.count c.next.ensures c.in-Ok.ensures.count
    ∙ ap (with_rows c.in-Ok.count) c.in-Ok-read_rows.ensures.rows ∙ ap Ok (sym c.new.ensures)

pub returns-in-Err-read_rows-clause-refused : goal.returns-in-Err-read_rows-clause-refused
returns-in-Err-read_rows-clause-refused c = λ line why e.
    let fault : c.in-Err-read_rows.fault ≡ Refused line why = cc in
    ap cities_in (sym c.of-lines.ensures)
    ∙ head_is (lines_left c.of-lines.result) _ c.next.result c.in-Ok.count c.next.ensures c.in-Ok.ensures.count
    ∙ ap (with_rows c.in-Ok.count)
    (refused_as (rows_in c.in-Ok.count c.in-Ok.count 2 (lines_left c.next.new.self)) c.in-Err-read_rows.fault
    c.in-Err-read_rows.ensures.refused
    line why fault)
