use Rattle.thread_actors.proofs.Prelude.{ClientModel, RankLink, ap, sym, ◌∙◌}
use Rattle.thread_actors.proofs.RankBegun.{fail_left, still_up}
use Rattle.thread_actors.proofs.Limits.{again_limit}
use Rattle.thread_actors.proofs.RankSteps.{fail_rests}
use Rattle.thread_actors.proofs.Walks.{again_cut}
use Rattle.thread_actors.specs.Run.{left_begun}
use Rattle.thread_actors.proofs.links.ThreadedLink.fail.Goals as goal

pub invariant_of-self : goal.invariant_of-self
invariant_of-self g c =
    let w = c.self.inside.wire in
    let e = c.fail.ensures in
    let met = ap (λ (l : RankLink). l.core.trouble) c.self.view_is in (
      ap (λ (s : ClientModel). s.me) e.failed ∙ c.self.invariant.0,
      fail_rests w.core c.fail.new.self c.fail.result c.args.trouble e.failed e.first
          (λ whole stamp is. absurd (c.requires.other (sym met ∙ whole) stamp is))
          c.self.invariant.1,
      λ whole. absurd (let failed = ap (λ (s : ClientModel). s.trouble) e.failed in cc (failed, whole)),
      again_cut w.desk w.core c.fail.new.self w.unexpected c.fail.result c.args.trouble e.failed e.first c.self.invariant.3,
      still_up w.desk w.core c.fail.new.self c.fail.result e.failed c.self.invariant.4,
      λ own. again_limit w.desk w.core c.fail.new.self c.fail.result c.args.trouble e.failed e.first
          (λ whole. c.requires.other (sym met ∙ whole))
          (c.self.invariant.5 own),
      c.self.invariant.6,
    )

pub returns-clause-begun : goal.returns-clause-begun
returns-clause-begun g c =
    fail_left c.self.inside.wire.core c.fail.new.self c.fail.result c.fail.ensures.failed c.self.invariant.1 ∙ ap left_begun c.self.view_is
