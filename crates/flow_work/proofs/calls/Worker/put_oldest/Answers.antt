use Rattle.std.proofs.Common.{None, refl, true, false, ◌∷◌}
use Rattle.adlb_rank.specs.declared.replies.Reply.TheVariants as replies
use Rattle.work_law.specs.Work.{put_of}
use Rattle.flow_run_law.specs.Units.{Answer, flows}
use Rattle.flow_units.specs.Bodies.{forms}
use Rattle.flow_work.specs.Working.{Fresh, HasTried, Keeping}
use Rattle.flow_work.proofs.Calling.{so_open}
use Rattle.flow_work.proofs.Making.{replied_by}
use Rattle.flow_work.proofs.Steps.{again_kept, again_left, again_left_so, again_paid, again_so, again_way, going_so, passes_by}
use Rattle.flow_work.proofs.Ways.{whole_way}
use Rattle.flow_work.proofs.calls.Worker.put_oldest.Goals as goal

pub put-requires-clause-running : goal.put-requires-clause-running
put-requires-clause-running g c =
    so_open (forms c.args.self.now.ranks) None _ (going_so (forms c.args.self.now.ranks) None _ _ (Fresh ((
      c.args.answer.number,
      c.args.answer.value,
    ) ∷ c.args.kept.now.items)) c.requires.going refl)

pub returns-in_err-put-clause-so_far : goal.returns-in_err-put-clause-so_far
returns-in_err-put-clause-so_far g c =
    again_way (forms c.args.self.now.ranks) _ c.args.kept.now.items (c.args.answer.number, c.args.answer.value) c.requires.going
    c.put.ensures.fits _ _ c.in_err-put.ensures.same c.put.ensures.begun

pub returns-in-Accepted-clause-told : goal.returns-in-Accepted-clause-told
returns-in-Accepted-clause-told g c =
    again_paid (forms c.args.self.now.ranks) _ c.args.kept.now.items (c.args.answer.number, c.args.answer.value) c.requires.going
    c.put.ensures.fits _
    (replied_by _ _ (put_of (flows (forms c.args.self.now.ranks)) (Answer c.args.answer.number c.args.answer.value)) _ replies.Accepted
    c.in_ok-put.ensures.says c.in-Accepted.is)

pub returns-in-Accepted-clause-so_far : goal.returns-in-Accepted-clause-so_far
returns-in-Accepted-clause-so_far g c =
    whole_way (forms c.args.self.now.ranks) None _ _ _ c.in_ok-put.ensures.kept.whole
    (going_so (forms c.args.self.now.ranks) None _ _ (HasTried c.args.kept.now.items)
    (again_paid (forms c.args.self.now.ranks) _ c.args.kept.now.items (c.args.answer.number, c.args.answer.value) c.requires.going
    c.put.ensures.fits _
    (replied_by _ _ (put_of (flows (forms c.args.self.now.ranks)) (Answer c.args.answer.number c.args.answer.value)) _ replies.Accepted
    c.in_ok-put.ensures.says c.in-Accepted.is)) refl)

pub returns-in-Rejected-clause-told : goal.returns-in-Rejected-clause-told
returns-in-Rejected-clause-told g c =
    passes_by (forms c.args.self.now.ranks) None _ (HasTried c.keep_first.new.kept.items) (Keeping c.keep_first.new.kept.items) true
    c.keep_first.result
    (λ more. again_kept (forms c.args.self.now.ranks) _ c.args.kept.now.items (c.args.answer.number, c.args.answer.value) c.requires.going
    c.put.ensures.fits _ c.keep_first.new.kept.items more
    (replied_by _ _ (put_of (flows (forms c.args.self.now.ranks)) (Answer c.args.answer.number c.args.answer.value)) _ replies.Rejected
    c.in_ok-put.ensures.says c.in-Rejected.is))
    c.keep_first.ensures.kept

pub returns-in-Rejected-clause-so_far : goal.returns-in-Rejected-clause-so_far
returns-in-Rejected-clause-so_far g c =
    whole_way (forms c.args.self.now.ranks) None _ _ _ c.in_ok-put.ensures.kept.whole
    (again_so (forms c.args.self.now.ranks) _ c.args.kept.now.items (c.args.answer.number, c.args.answer.value) c.requires.going
    c.put.ensures.fits _
    (replied_by _ _ (put_of (flows (forms c.args.self.now.ranks)) (Answer c.args.answer.number c.args.answer.value)) _ replies.Rejected
    c.in_ok-put.ensures.says c.in-Rejected.is))

pub returns-in-Ended-clause-told : goal.returns-in-Ended-clause-told
returns-in-Ended-clause-told g c =
    passes_by (forms c.args.self.now.ranks) None _ (HasTried c.keep_first-in-Ended.new.kept.items) (Keeping
    c.keep_first-in-Ended.new.kept.items) false c.keep_first-in-Ended.result
    (λ more. again_left (forms c.args.self.now.ranks) _ c.args.kept.now.items (c.args.answer.number, c.args.answer.value) c.requires.going
    c.put.ensures.fits _ c.in-Ended.field-0 c.keep_first-in-Ended.new.kept.items more
    (replied_by _ _ (put_of (flows (forms c.args.self.now.ranks)) (Answer c.args.answer.number c.args.answer.value)) _ (replies.Ended
    c.in-Ended.field-0) c.in_ok-put.ensures.says c.in-Ended.is))
    c.keep_first-in-Ended.ensures.kept

pub returns-in-Ended-clause-so_far : goal.returns-in-Ended-clause-so_far
returns-in-Ended-clause-so_far g c =
    whole_way (forms c.args.self.now.ranks) None _ _ _ c.in_ok-put.ensures.kept.whole
    (again_left_so (forms c.args.self.now.ranks) _ c.args.kept.now.items (c.args.answer.number, c.args.answer.value) c.requires.going
    c.put.ensures.fits _ c.in-Ended.field-0
    (replied_by _ _ (put_of (flows (forms c.args.self.now.ranks)) (Answer c.args.answer.number c.args.answer.value)) _ (replies.Ended
    c.in-Ended.field-0) c.in_ok-put.ensures.says c.in-Ended.is))
