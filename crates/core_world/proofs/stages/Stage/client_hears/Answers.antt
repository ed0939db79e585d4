use Rattle.std.proofs.Common.{◌≡◌, ◌<◌, ◌^◌, Some, None, ap, sym, ◌∙◌, subst}
use Rattle.std.specs.Prelude.{IsSome}
use Rattle.std.proofs.lemmas.Result.{IfErr-weaker, on_ok_weaker}
use Rattle.adlb_unit.specs.declared.notes.Trouble.{Trouble}
use Rattle.rank_client.specs.State.{ClientModel}
use Rattle.rank_client.specs.Step.{hear, letter_stamp, letter_trouble}
use Rattle.core_run.specs.World.{World, client_of}
use Rattle.core_world.specs.Applied.{Causes}
use Rattle.core_world.specs.Stage.{with_client}
use Rattle.core_world.proofs.Stamps.{found_client, hear_causes, on_time}
use Rattle.core_world.proofs.stages.Stage.client_hears.Goals as goal

pub returns-clause-heard : goal.returns-clause-heard
returns-clause-heard c =
    let w = c.args.self.now in
    let client = c.index_mut-client.result.now in
    let s = c.hear.new.self in
    let at : client ≡ client_of w c.args.rank =
    found_client c.self.inside w c.args.rank client c.self.view_is c.self.invariant c.requires.there c.index_mut-client.ensures.value in
    on_ok_weaker c.hear.result
    (λ heard. (
      s,
      ap (λ (k : ClientModel). hear k c.args.from c.args.letter) (sym at) ∙ heard,
      ap (λ (v : World). with_client v c.args.rank s) c.self.view_is,
    )) c.hear.ensures.heard

pub returns-clause-stamp : goal.returns-clause-stamp
returns-clause-stamp c =
    let w = c.args.self.now in
    let client = c.index_mut-client.result.now in
    let at : client ≡ client_of w c.args.rank =
    found_client c.self.inside w c.args.rank client c.self.view_is c.self.invariant c.requires.there c.index_mut-client.ensures.value in
    on_ok_weaker c.hear.result
    (λ whole. subst (λ (k : ClientModel). letter_stamp k c.args.letter < 2 ^ 48) at (on_time client c.args.letter whole))
    c.hear.ensures.whole

pub returns-clause-cause : goal.returns-clause-cause
returns-clause-cause c =
    let w = c.args.self.now in
    let client = c.index_mut-client.result.now in
    let letter = c.args.letter in
    let at : client ≡ client_of w c.args.rank =
    found_client c.self.inside w c.args.rank client c.self.view_is c.self.invariant c.requires.there c.index_mut-client.ensures.value in
    let P : Trouble → Type 0 = λ t. letter_trouble client letter ≡ Some t in
    let whole : client.trouble ≡ None = ap (λ (k : ClientModel). k.trouble) at ∙ c.requires.whole in
    let expected : IsSome (hear client c.args.from letter) =
    subst (λ (k : ClientModel). IsSome (hear k c.args.from letter)) (sym at) c.requires.expected in
    IfErr-weaker c.hear.result P (Causes (letter_stamp (client_of w c.args.rank) letter))
    (λ t is. subst (λ (k : ClientModel). Causes (letter_stamp k letter) t) at (hear_causes client c.args.from letter t whole expected is))
    c.hear.ensures.troubled
