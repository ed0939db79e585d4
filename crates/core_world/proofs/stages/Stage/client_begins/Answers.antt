use Rattle.std.proofs.Common.{◌≡◌, ap, sym, ◌∙◌}
use Rattle.std.proofs.lemmas.Result.{on_ok_weaker}
use Rattle.rank_client.specs.State.{ClientModel}
use Rattle.rank_client.specs.Step.{begin}
use Rattle.core_run.specs.World.{World, client_of}
use Rattle.core_world.specs.Stage.{with_client}
use Rattle.core_world.proofs.Stamps.{found_client}
use Rattle.core_world.proofs.stages.Stage.client_begins.Goals as goal

pub returns-clause-begun : goal.returns-clause-begun
returns-clause-begun c =
    let w = c.args.self.now in
    let client = c.index_mut-client.result.now in
    let s = c.begin.new.self in
    let at : client ≡ client_of w c.args.rank =
    found_client c.self.inside w c.args.rank client c.self.view_is c.self.invariant c.requires.there c.index_mut-client.ensures.value in
    on_ok_weaker c.begin.result
    (λ begun. (
      s,
      ap (λ (k : ClientModel). begin k c.args.call) (sym at) ∙ begun,
      ap (λ (v : World). with_client v c.args.rank s) c.self.view_is,
    )) c.begin.ensures.begun
