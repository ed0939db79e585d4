use Rattle.server_core.proofs.Prelude.{◌∙◌, Act, List, ap, goes_nowhere, going_on, refl, sym}
use Rattle.server_core.proofs.states.ServerState.hint_homes.Goals as goal

pub returns-clause-made : goal.returns-clause-made
returns-clause-made c unit kind target =
    let last = c.loop-kind-test.ensures in
    goes_nowhere c.hint_next.new.out c.hint_next.new.self
    ∙ ap (λ (l : List Act). going_on c.hint_next.new.out l c.hint_next.new.self) (sym (last.last unit kind target refl))
    ∙ last.told unit kind target ∙ c.loop-kind.invariant.left unit kind target
