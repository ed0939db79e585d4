use Rattle.std.proofs.Common.{rules, ◌≡◌, ◌∙◌, ◌++◌, [], ap, sym, append_assoc, append-nil}
use Rattle.std.specs.Prelude.{flat_map}
use Rattle.tour_app.specs.Works.{found_in}
use Rattle.tour_app.proofs.desk.Desk.outcome.Goals as goal

pub left-preserved : goal.left-preserved
left-preserved c =
    ap (λ l. l ++ flat_map found_in c.pop_front.new.self.items) c.in_ok-keep.ensures
    ∙ append_assoc c.left.found.items (found_in c.in-Some.unit) (flat_map found_in c.pop_front.new.self.items)
    ∙ ap (λ l. c.left.found.items ++ flat_map found_in l) (sym c.in-Some.ensures.items) ∙ c.left.invariant

pub returns : goal.returns
returns c =
    let none : c.left.waiting.items ≡ [] = search rules in
    sym (append-nil c.left.found.items) ∙ ap (λ l. c.left.found.items ++ flat_map found_in l) (sym none) ∙ c.left.invariant
