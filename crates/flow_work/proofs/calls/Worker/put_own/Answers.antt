use Rattle.std.proofs.Common.{Some, refl, ◌≡◌, ◌++◌, ◌∷◌, [], arith, rules}
use Rattle.std.proofs.lemmas.Grind.{common_steps}
use Rattle.adlb_rank.specs.declared.replies.Reply.TheVariants as replies
use Rattle.work_law.specs.Work.{put_of}
use Rattle.flow_run_law.specs.Units.{Answer, flows}
use Rattle.flow_units.specs.Bodies.{forms}
use Rattle.flow_work.specs.Working.{AtHome, Stored}
use Rattle.flow_work.proofs.Calling.{so_open}
use Rattle.flow_work.proofs.Making.{replied_by}
use Rattle.flow_work.proofs.Steps.{answer_kept, answer_left, answer_so, answer_way, going_so, left_so, owes_so, paid_is, stopped_so}
use Rattle.flow_work.proofs.Ways.{whole_way}
use Rattle.flow_work.proofs.calls.Worker.put_own.Goals as goal

pub put-requires-clause-running : goal.put-requires-clause-running
put-requires-clause-running g c =
    so_open (forms c.args.self.now.ranks) (Some c.args.flow.now) _ (owes_so (forms c.args.self.now.ranks) (Some c.args.flow.now) _ (AtHome
    c.args.flow.now c.args.home.now) (c.args.answer.number, c.args.answer.value) c.requires.owes)

pub returns-in_err-put-clause-so_far : goal.returns-in_err-put-clause-so_far
returns-in_err-put-clause-so_far g c =
    answer_way (forms c.args.self.now.ranks) (Some c.args.flow.now) _ (AtHome c.args.flow.now c.args.home.now) (
      c.args.answer.number,
      c.args.answer.value,
    ) c.requires.owes c.put.ensures.fits _ _ c.in_err-put.ensures.same c.put.ensures.begun

pub returns-in_default-clause-so_far : goal.returns-in_default-clause-so_far
returns-in_default-clause-so_far g c =
    whole_way (forms c.args.self.now.ranks) (Some c.args.flow.now) _ _ _ c.in_ok-put.ensures.kept.whole
    (answer_so (forms c.args.self.now.ranks) (Some c.args.flow.now) _ (AtHome c.args.flow.now c.args.home.now) (
      c.args.answer.number,
      c.args.answer.value,
    ) c.requires.owes c.put.ensures.fits _
    (replied_by _ _ (put_of (flows (forms c.args.self.now.ranks)) (Answer c.args.answer.number c.args.answer.value)) _ replies.Rejected
    c.in_ok-put.ensures.says c.in-Rejected.is))

pub returns-in_default-or_no_memory-clause-so_far : goal.returns-in_default-or_no_memory-clause-so_far
returns-in_default-or_no_memory-clause-so_far g c =
    whole_way (forms c.args.self.now.ranks) (Some c.args.flow.now) _ _ _ c.in_ok-put.ensures.kept.whole
    (left_so (forms c.args.self.now.ranks) (Some c.args.flow.now) _ (AtHome c.args.flow.now c.args.home.now) (
      c.args.answer.number,
      c.args.answer.value,
    ) c.requires.owes c.put.ensures.fits _ c.in-Ended.field-0
    (replied_by _ _ (put_of (flows (forms c.args.self.now.ranks)) (Answer c.args.answer.number c.args.answer.value)) _ (replies.Ended
    c.in-Ended.field-0) c.in_ok-put.ensures.says c.in-Ended.is))

pub returns-in-Accepted-clause-told : goal.returns-in-Accepted-clause-told
returns-in-Accepted-clause-told g c =
    paid_is (forms c.args.self.now.ranks) (Some c.args.flow.now) _ (AtHome c.args.flow.now c.args.home.now) (
      c.args.answer.number,
      c.args.answer.value,
    ) c.requires.owes c.put.ensures.fits _
    (replied_by _ _ (put_of (flows (forms c.args.self.now.ranks)) (Answer c.args.answer.number c.args.answer.value)) _ replies.Accepted
    c.in_ok-put.ensures.says c.in-Accepted.is)

pub returns-in-Accepted-clause-so_far : goal.returns-in-Accepted-clause-so_far
returns-in-Accepted-clause-so_far g c =
    whole_way (forms c.args.self.now.ranks) (Some c.args.flow.now) _ _ _ c.in_ok-put.ensures.kept.whole
    (going_so (forms c.args.self.now.ranks) (Some c.args.flow.now) _ _ (AtHome c.args.flow.now c.args.home.now)
    (paid_is (forms c.args.self.now.ranks) (Some c.args.flow.now) _ (AtHome c.args.flow.now c.args.home.now) (
      c.args.answer.number,
      c.args.answer.value,
    ) c.requires.owes c.put.ensures.fits _
    (replied_by _ _ (put_of (flows (forms c.args.self.now.ranks)) (Answer c.args.answer.number c.args.answer.value)) _ replies.Accepted
    c.in_ok-put.ensures.says c.in-Accepted.is)) refl)

pub returns-in-Ok-clause-told : goal.returns-in-Ok-clause-told
returns-in-Ok-clause-told g c =
    answer_kept (forms c.args.self.now.ranks) c.args.flow.now c.args.home.now c.keep.new.self c.args.answer.number c.args.answer.value
    c.in-Ok.ensures.out
    c.in-Ok.ensures.values c.in-Ok.ensures.next c.in-Ok.ensures.grows _ _ c.requires.owes c.put.ensures.fits
    (replied_by _ _ (put_of (flows (forms c.args.self.now.ranks)) (Answer c.args.answer.number c.args.answer.value)) _ replies.Rejected
    c.in_ok-put.ensures.says c.in-Rejected.is)

pub returns-in-Ok-clause-so_far : goal.returns-in-Ok-clause-so_far
returns-in-Ok-clause-so_far g c =
    whole_way (forms c.args.self.now.ranks) (Some c.args.flow.now) _ _ _ c.in_ok-put.ensures.kept.whole
    (going_so (forms c.args.self.now.ranks) (Some c.args.flow.now) _ _ (AtHome c.args.flow.now (record c.args.home.now {
      store =
          c.keep.new.self;
    }))
    (answer_kept (forms c.args.self.now.ranks) c.args.flow.now c.args.home.now c.keep.new.self c.args.answer.number c.args.answer.value
    c.in-Ok.ensures.out
    c.in-Ok.ensures.values c.in-Ok.ensures.next c.in-Ok.ensures.grows _ _ c.requires.owes c.put.ensures.fits
    (replied_by _ _ (put_of (flows (forms c.args.self.now.ranks)) (Answer c.args.answer.number c.args.answer.value)) _ replies.Rejected
    c.in_ok-put.ensures.says c.in-Rejected.is)) refl)

pub returns-in-Ok-or_no_memory-clause-told : goal.returns-in-Ok-or_no_memory-clause-told
returns-in-Ok-or_no_memory-clause-told g c =
    let grown : c.push.new.self.items ≡ c.args.home.now.kept.items ++ (c.args.answer.number, c.args.answer.value) ∷ [] = first_of (
      cc,
      search rules,
      grind (arith, common_steps),
    ) in
    answer_left (forms c.args.self.now.ranks) c.args.flow.now c.args.home.now c.push.new.self (c.args.answer.number, c.args.answer.value)
    grown _ _ c.requires.owes c.put.ensures.fits c.in-Ended.field-0
    (replied_by _ _ (put_of (flows (forms c.args.self.now.ranks)) (Answer c.args.answer.number c.args.answer.value)) _ (replies.Ended
    c.in-Ended.field-0) c.in_ok-put.ensures.says c.in-Ended.is)

pub returns-in-Ok-or_no_memory-clause-so_far : goal.returns-in-Ok-or_no_memory-clause-so_far
returns-in-Ok-or_no_memory-clause-so_far g c =
    let grown : c.push.new.self.items ≡ c.args.home.now.kept.items ++ (c.args.answer.number, c.args.answer.value) ∷ [] = first_of (
      cc,
      search rules,
      grind (arith, common_steps),
    ) in
    whole_way (forms c.args.self.now.ranks) (Some c.args.flow.now) _ _ _ c.in_ok-put.ensures.kept.whole
    (stopped_so (forms c.args.self.now.ranks) (Some c.args.flow.now) _ (Stored c.args.flow.now (record c.args.home.now {
      kept =
          c.push.new.self;
    }))
    (answer_left (forms c.args.self.now.ranks) c.args.flow.now c.args.home.now c.push.new.self (c.args.answer.number, c.args.answer.value)
    grown _ _ c.requires.owes c.put.ensures.fits c.in-Ended.field-0
    (replied_by _ _ (put_of (flows (forms c.args.self.now.ranks)) (Answer c.args.answer.number c.args.answer.value)) _ (replies.Ended
    c.in-Ended.field-0) c.in_ok-put.ensures.says c.in-Ended.is)))
