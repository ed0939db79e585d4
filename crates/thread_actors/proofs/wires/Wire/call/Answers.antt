use Rattle.thread_actors.proofs.Prelude.{sym, ◌∙◌}
use Rattle.thread_actors.proofs.RankBegun.{came_up}
use Rattle.thread_actors.proofs.Called.{come_before, come_now}
use Rattle.thread_actors.proofs.Walks.{not_cut}
use Rattle.thread_actors.proofs.Limits.{came_limit}
use Rattle.thread_actors.proofs.wires.Wire.call.Goals as goal

pub returns-in-Some-clause-came : goal.returns-in-Some-clause-came
returns-in-Some-clause-came g c =
    come_before c.args.self.now.core c.args.call c.requires.running _ (sym c.failed.ensures ∙ c.in-Some.is) c.requires.rests

pub exchange-requires-clause-can : goal.exchange-requires-clause-can
exchange-requires-clause-can g c = c.requires.can (sym c.failed.ensures ∙ c.in-None.is)

pub exchange-requires-clause-expected : goal.exchange-requires-clause-expected
exchange-requires-clause-expected g c =
    let w = c.args.self.now in not_cut w.desk w.core _ c.requires.cut (sym c.failed.ensures ∙ c.in-None.is)

pub returns-in-None-clause-came : goal.returns-in-None-clause-came
returns-in-None-clause-came g c =
    let w = c.args.self.now in
    let t = c.exchange.new.self in
    let e = c.exchange.ensures in
    come_now w.core c.args.call c.requires.running t.core c.exchange.result (sym c.failed.ensures ∙ c.in-None.is)
    (t.run_is ∙ e.config ∙ sym w.run_is) e.me e.answered e.failed e.rests

pub returns-in-None-clause-begun : goal.returns-in-None-clause-begun
returns-in-None-clause-begun g c =
    let t = c.exchange.new.self in
    let e = c.exchange.ensures in
    came_up t.desk c.args.self.now.core.transcript c.args.call t.core c.exchange.result e.answered e.begun e.recorded

pub returns-in-None-clause-limit : goal.returns-in-None-clause-limit
returns-in-None-clause-limit g c =
    let t = c.exchange.new.self in
    let e = c.exchange.ensures in
    came_limit t.desk c.args.self.now.core.transcript c.args.call t.core t.told c.exchange.result e.answered e.limit
