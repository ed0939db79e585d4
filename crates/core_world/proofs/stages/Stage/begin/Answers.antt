use Rattle.std.proofs.Common.{◌≡◌, None, ap, ◌∙◌}
use Rattle.std.proofs.lemmas.Result.{err_from_is_err_and}
use Rattle.rank_client.specs.inside.{gives}
use Rattle.core_run.specs.World.{World, client_of}
use Rattle.core_world.proofs.Stopping.{call_stops}
use Rattle.core_progress_law.proofs.Clocks.{begin_leaves}
use Rattle.core_world.proofs.Wholes.{whole_client, whole_rank}
use Rattle.core_world.proofs.stages.Stage.begin.Goals as goal

pub returns-in_err-client_begins-clause-stops : goal.returns-in_err-client_begins-clause-stops
returns-in_err-client_begins-clause-stops c =
    let p = err_from_is_err_and c.from_residual.result c.from_residual.ensures.1 in
    rw (
      p.1,
      p.2,
    ) (call_stops c.args.self.now c.client_begins.new.self c.args.rank c.args.call c.in_err-client_begins.field-0.0 c.in_err-client_begins.ensures.cause
    c.in_err-client_begins.ensures.failed)

pub returns-clause-whole : goal.returns-clause-whole
returns-clause-whole c =
    let w = c.args.self.now in
    let b = c.in_ok-client_begins.ensures.begun in
    let fine : b.0.trouble ≡ None = (begin_leaves (client_of w c.args.rank) c.args.call (gives b.0 c.client_begins.new.step) b.1).0
    ∙ whole_rank w c.args.rank c.requires.whole in
    let is = c.in_ok-give.ensures.given in
    whole_client w c.client_begins.new.self c.give.new.self c.args.rank b.0 c.requires.whole fine b.2 (ap (λ (v : World). v.ranks) is)
    (ap (λ (v : World). v.servers) is)
