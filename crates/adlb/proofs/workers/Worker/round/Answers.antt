use Rattle.std.proofs.Common.{[], ap, arith, sum_by}
use Rattle.adlb_rank.specs.declared.replies.Taken.TheVariants.{Ended, Unit}
use Rattle.adlb.proofs.Steps.{ended_now, taken_now, took}
use Rattle.adlb.proofs.workers.Worker.round.Goals as goal

pub put_all-requires-clause-going : goal.put_all-requires-clause-going
put_all-requires-clause-going g c = λ eye.
    let none = ap (λ l. sum_by (g.D.Duty.worth c.args.self.now.duty eye []) l) c.requires.none in
    taken_now _ _ _ _ _ _ _ _ c.in-Unit.note c.in-Unit.body
    (took _ _ _ _ (Unit c.in-Unit.note c.in-Unit.body) c.in_ok-note.ensures.takes c.any.ensures c.in-Unit.is).0 (c.requires.going eye)
    (omega (arith, c.in-Ok.ensures.work eye, none)) (c.in-Ok.ensures.few eye)

pub returns-clause-passes : goal.returns-clause-passes
returns-clause-passes g c = λ eye.
    ended_now _ _ _ _ _ _ c.in-Ended.field-0
    (took _ _ _ _ (Ended c.in-Ended.field-0) c.in_ok-note.ensures.takes c.any.ensures c.in-Ended.is) (c.requires.going eye)
    (g.met.R.Rank.short c.args.link.now)
