use Rattle.std.proofs.Common.{◌≡◌, None, ap, ◌∙◌}
use Rattle.std.proofs.lemmas.Result.{err_from_is_err_and}
use Rattle.core_run.specs.World.{World, pool_of}
use Rattle.core_world.specs.Stage.{IsWhole}
use Rattle.core_world.proofs.Stopping.{given_happens, half_stops, request_stops, serve_expected}
use Rattle.core_progress_law.proofs.Clocks.{serve_stays}
use Rattle.core_world.proofs.Wholes.{whole_server, whole_pool, whole_taken}
use Rattle.core_world.proofs.stages.Stage.serve.Goals as goal

pub server_steps-requires-clause-expected : goal.server_steps-requires-clause-expected
server_steps-requires-clause-expected c =
    let t = c.take-letter.ensures in
    serve_expected c.args.self.now c.take-letter.new.self c.args.from c.args.to c.take-letter.result t.0 c.requires.enabled t.1 t.2

pub returns-in_err-sends-clause-stops : goal.returns-in_err-sends-clause-stops
returns-in_err-sends-clause-stops c =
    let p = err_from_is_err_and c.from_residual.result c.from_residual.ensures.1 in
    let t = c.take-letter.ensures in
    let f = c.in_err-sends.ensures.failed in
    rw (
      p.1,
      p.2,
    ) (request_stops c.args.self.now c.take-letter.new.self c.server_steps.new.self c.args.from c.args.to c.take-letter.result t.0
    c.in_err-sends.field-0.0 t.1 t.2 c.in_err-sends.ensures.cause f.0 f.1)

pub returns-clause-whole : goal.returns-clause-whole
returns-clause-whole c =
    let w = c.take-letter.new.self in
    let b = c.in_ok-sends.ensures.served in
    let whole : IsWhole w = whole_taken c.args.self.now w _ c.requires.whole c.take-letter.ensures.2 in
    let fine : b.0.trouble ≡ None = (serve_stays (pool_of w c.args.to) c.args.from c.take-letter.result _ b.1).0
    ∙ whole_pool w c.args.to whole in
    let is = c.in_ok-give_and_keep.ensures.given in
    whole_server w c.server_steps.new.self c.give_and_keep.new.self c.args.to b.0 whole fine b.2 (ap (λ (v : World). v.ranks) is)
    (ap (λ (v : World). v.servers) is)

pub returns-clause-happened : goal.returns-clause-happened
returns-clause-happened c =
    let t = c.take-letter.ensures in
    let b = c.in_ok-sends.ensures.served in
    given_happens c.args.self.now c.take-letter.new.self c.server_steps.new.self c.args.from c.args.to c.take-letter.result t.0 b.0 _ _
    c.requires.enabled t.1 t.2 b.1 b.2 c.give_and_keep.new.self c.in_ok-give_and_keep.ensures.given

pub returns-in_err-give_and_keep-clause-stops : goal.returns-in_err-give_and_keep-clause-stops
returns-in_err-give_and_keep-clause-stops c =
    let p = err_from_is_err_and c.from_residual-in_err-give_and_keep.result c.from_residual-in_err-give_and_keep.ensures.1 in
    let t = c.take-letter.ensures in
    let b = c.in_ok-sends.ensures.served in
    let cut = c.in_err-give_and_keep.ensures.cut in
    rw (
      p.1,
      p.2,
      cut.0,
    ) (half_stops c.args.self.now c.take-letter.new.self c.server_steps.new.self c.args.from c.args.to c.take-letter.result t.0 b.0 _ _
    c.requires.enabled t.1 t.2 b.1 b.2 c.give_and_keep.new.self c.in_ok-sends.ensures.stamp cut.1)
