use Rattle.std.proofs.Common.{◌≡◌, ◌<◌, ◌^◌, Some, ap, sym, ◌∙◌, subst}
use Rattle.std.proofs.lemmas.Result.{IfErr-weaker, IfOk-weaker, on_ok_weaker}
use Rattle.adlb_unit.specs.declared.notes.Trouble.{Trouble}
use Rattle.server_core.specs.declared.steps.Step.{Step}
use Rattle.server_law.specs.State.{ServerModel}
use Rattle.server_law.specs.Step.{next_stamp, serve}
use Rattle.core_run.specs.World.{World, pool_of}
use Rattle.core_world.specs.Applied.{Causes}
use Rattle.core_world.specs.Stage.{with_server}
use Rattle.core_world.proofs.Stamps.{found_pool, step_causes, step_on_time}
use Rattle.core_world.proofs.stages.Stage.server_steps.Goals as goal

pub returns-clause-served : goal.returns-clause-served
returns-clause-served c =
    let w = c.args.self.now in
    let pool = c.index_mut-server.result.now in
    let s = c.step.new.self in
    let at : pool ≡ pool_of w c.args.server =
    found_pool c.self.inside w c.args.server pool c.self.view_is c.self.invariant c.requires.there c.index_mut-server.ensures.value in
    let P : Step → Type 0 =
    λ x. serve pool c.args.from c.args.letter ≡ Some (record { state = s; sends = x.sends.items; entries = x.entries.items }) in
    IfOk-weaker c.step.result P _
    (λ x served. (
      s,
      ap (λ (k : ServerModel). serve k c.args.from c.args.letter) (sym at) ∙ served,
      ap (λ (v : World). with_server v c.args.server s) c.self.view_is,
    )) c.step.ensures.served

pub returns-clause-stamp : goal.returns-clause-stamp
returns-clause-stamp c =
    let w = c.args.self.now in
    let pool = c.index_mut-server.result.now in
    let at : pool ≡ pool_of w c.args.server =
    found_pool c.self.inside w c.args.server pool c.self.view_is c.self.invariant c.requires.there c.index_mut-server.ensures.value in
    on_ok_weaker c.step.result (λ early. subst (λ (k : ServerModel). next_stamp k c.args.letter < 2 ^ 48) at early)
    (step_on_time c.step.result (next_stamp pool c.args.letter) c.step.ensures.too_long)

pub returns-clause-cause : goal.returns-clause-cause
returns-clause-cause c =
    let w = c.args.self.now in
    let pool = c.index_mut-server.result.now in
    let at : pool ≡ pool_of w c.args.server =
    found_pool c.self.inside w c.args.server pool c.self.view_is c.self.invariant c.requires.there c.index_mut-server.ensures.value in
    IfErr-weaker c.step.result (Causes (next_stamp pool c.args.letter)) (Causes (next_stamp (pool_of w c.args.server) c.args.letter))
    (λ t caused. subst (λ (k : ServerModel). Causes (next_stamp k c.args.letter) t) at caused)
    (step_causes c.step.result (next_stamp pool c.args.letter) c.step.ensures.too_long)

pub returns-clause-failed : goal.returns-clause-failed
returns-clause-failed c =
    let s = c.step.new.self in
    let P : Trouble → Type 0 = λ t. s.trouble ≡ Some t in
    IfErr-weaker c.step.result P _ (λ t broken. (s, ap (λ (v : World). with_server v c.args.server s) c.self.view_is)) c.step.ensures.broken
