use Rattle.std.proofs.Common.{rules, ◌≡◌, None, sym, ◌∙◌}
use Rattle.tour_search.proofs.Rows.{count_more, count_none, count_one, count_two}
use Rattle.tour_search.proofs.reading.count_of.Goals as goal

pub returns-in_err-name : goal.returns-in_err-name
returns-in_err-name c =
    let none : c.from_residual.result ≡ None = search rules in
    none ∙ sym (count_none _ (sym c.of-words.ensures.pieces ∙ c.in_err-name.ensures))

pub returns-in_err-number : goal.returns-in_err-number
returns-in_err-number c =
    let none : c.from_residual-in_err-number.result ≡ None = search rules in
    none ∙ sym (count_one _ _ c.in_ok-name.name.now (sym c.of-words.ensures.pieces ∙ c.in_ok-name.ensures) c.in_err-number.ensures)

pub returns-then-not-is_done : goal.returns-then-not-is_done
returns-then-not-is_done c =
    sym (count_more _ _ _ c.in_ok-name.name.now c.in_ok-number.number.now (sym c.of-words.ensures.pieces ∙ c.in_ok-name.ensures)
    c.in_ok-number.ensures (c.is_done.ensures.more c.if-not-is_done.true))

pub returns : goal.returns
returns c =
    c.named_count.ensures
    ∙ sym (count_two _ _ _ c.in_ok-name.name.now c.in_ok-number.number.now (sym c.of-words.ensures.pieces ∙ c.in_ok-name.ensures)
    c.in_ok-number.ensures (c.is_done.ensures.done c.if-not-is_done.false))
