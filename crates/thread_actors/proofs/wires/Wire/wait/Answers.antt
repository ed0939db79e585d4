use Rattle.thread_actors.proofs.Prelude.{DeskModel, ap, ◌∙◌}
use Rattle.thread_actors.proofs.wires.Wire.wait.Goals as goal

pub hear-requires-clause-came : goal.hear-requires-clause-came
hear-requires-clause-came g c =
    (c.loop.self.desk.got, ap (λ (d : DeskModel). d.got) c.receive-from.ensures.got, c.loop.invariant.told)

pub returns-in-Some-2-clause-answered : goal.returns-in-Some-2-clause-answered
returns-in-Some-2-clause-answered g c =
    let h = c.in_ok-answer.ensures in
    record { answered = (rw c.in-Some-2.is at h.says) _ _ c.loop.invariant.waits; whole = h.whole }

pub returns-in-Some-2-clause-rests : goal.returns-in-Some-2-clause-rests
returns-in-Some-2-clause-rests g c =
    let h = c.in_ok-answer.ensures in
    record { knows = h.knows; idle = λ whole. ((rw c.in-Some-2.is at h.says) _ _ c.loop.invariant.waits).idle }

pub loop-preserved : goal.loop-preserved
loop-preserved g c =
    let was = c.loop.invariant in
    let h = c.in_ok-answer.ensures in
    record {
      waits = (rw c.in_default.is at h.says) _ _ was.waits;
      whole = h.whole;
      knows = h.knows;
      recorded = h.recorded;
      expected = h.expected;
      told = h.told;
      config = h.config ∙ was.config;
      me = h.me ∙ was.me;
    }
