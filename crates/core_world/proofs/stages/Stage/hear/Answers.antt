use Rattle.std.proofs.Common.{◌≡◌, None, ap, ◌∙◌}
use Rattle.std.proofs.lemmas.Result.{err_from_is_err_and}
use Rattle.rank_client.specs.inside.{gives}
use Rattle.core_run.specs.World.{World, client_of}
use Rattle.core_world.specs.Stage.{IsWhole}
use Rattle.core_world.proofs.Stopping.{answer_stops, hear_expected}
use Rattle.core_progress_law.proofs.Clocks.{hear_leaves}
use Rattle.core_world.proofs.Wholes.{whole_client, whole_rank, whole_taken}
use Rattle.core_world.proofs.stages.Stage.hear.Goals as goal

pub client_hears-requires-clause-expected : goal.client_hears-requires-clause-expected
client_hears-requires-clause-expected c =
    let t = c.take-letter.ensures in
    hear_expected c.args.self.now c.take-letter.new.self c.args.from c.args.to c.take-letter.result t.0 c.requires.enabled t.1 t.2

pub returns-in_err-client_hears-clause-stops : goal.returns-in_err-client_hears-clause-stops
returns-in_err-client_hears-clause-stops c =
    let p = err_from_is_err_and c.from_residual.result c.from_residual.ensures.1 in
    let t = c.take-letter.ensures in
    rw (
      p.1,
      p.2,
    ) (answer_stops c.args.self.now c.take-letter.new.self c.client_hears.new.self c.args.from c.args.to c.take-letter.result t.0
    c.in_err-client_hears.field-0.0 t.1 t.2 c.in_err-client_hears.ensures.cause c.in_err-client_hears.ensures.failed)

pub returns-clause-whole : goal.returns-clause-whole
returns-clause-whole c =
    let w = c.take-letter.new.self in
    let b = c.in_ok-client_hears.ensures.heard in
    let whole : IsWhole w = whole_taken c.args.self.now w _ c.requires.whole c.take-letter.ensures.2 in
    let fine : b.0.trouble ≡ None =
    (hear_leaves (client_of w c.args.to) c.args.from c.take-letter.result (gives b.0 c.client_hears.new.step) b.1).0
    ∙ whole_rank w c.args.to whole in
    let is = c.in_ok-give.ensures.given in
    whole_client w c.client_hears.new.self c.give.new.self c.args.to b.0 whole fine b.2 (ap (λ (v : World). v.ranks) is)
    (ap (λ (v : World). v.servers) is)
