use Rattle.server_core.proofs.Prelude.{◌∙◌, no_unit, not-false, not_from_true, sym, unpromised}
use Rattle.server_core.proofs.states.ServerState.is_unknown.Goals as goal

pub returns-then-not-has_unit : goal.returns-then-not-has_unit
returns-then-not-has_unit c =
    let q = c.self.inside.queue in
    let new = no_unit q.units c.args.id (λ has. let there = c.has_unit.ensures.1 has in cc) in
    let told = unpromised c.args.id q.promises c.promised.result c.promised.ensures in
    rw (← c.self.view_is) (
      λ none. (new, told.0 (c.is_none.ensures ∙ not_from_true c.is_none.result none)),
      λ is. not-false c.is_none.result (sym c.is_none.ensures ∙ told.1 is.1),
    )
