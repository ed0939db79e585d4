use Rattle.server_core.proofs.Prelude.{◌∙◌, ap, going_unquiet, not, rests_quiet, sym}
use Rattle.server_core.proofs.states.ServerState.is_calm.Goals as goal

pub returns-then-not-is_pushing : goal.returns-then-not-is_pushing
returns-then-not-is_pushing c = c.all_rest.ensures ∙ rests_quiet c.args.self.now (sym c.is_pushing.ensures ∙ c.if-not-is_pushing.true)

pub returns-else-not-is_pushing : goal.returns-else-not-is_pushing
returns-else-not-is_pushing c =
    ap not c.if-not-is_pushing.false ∙ going_unquiet c.args.self.now (sym c.is_pushing.ensures ∙ c.if-not-is_pushing.false)
