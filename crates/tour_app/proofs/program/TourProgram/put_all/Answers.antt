use Rattle.std.proofs.Common.{◌∙◌, refl}
use Rattle.adlb_rank.specs.declared.replies.Reply.TheVariants as replies
use Rattle.work_law.specs.Work.{put_of}
use Rattle.tour_app.specs.Works.{tours}
use Rattle.tour_app.specs.declared.desk.Desk.{Desk}
use Rattle.tour_app.proofs.Calling.{so_open}
use Rattle.tour_app.proofs.Lists.{grows}
use Rattle.tour_app.proofs.Steps.{Popped, PutBack, accepted_is, ended_so, going_so, rejected_is, rejected_so, replied, stopped_is}
use Rattle.tour_app.proofs.Steps.{stopped_so}
use Rattle.tour_app.proofs.Ways.{put_way, whole_way}
use Rattle.tour_app.proofs.program.TourProgram.put_all.Goals as goal

pub put-requires-clause-running : goal.put-requires-clause-running
put-requires-clause-running g c =
    let at = c.requires.going in
    so_open c.args.self.now _ (going_so c.args.self.now _ _ c.puts.desk at.0 at.1 (c.puts.invariant.going at.0 at.1 at.2 at.3) refl)

pub returns-in_err-put-clause-so_far : goal.returns-in_err-put-clause-so_far
returns-in_err-put-clause-so_far g c =
    let at = c.requires.going in
    let rest : Desk = record c.puts.desk { waiting = c.pop_front.new.self } in
    let popped : Popped c.in-Some.unit c.puts.desk rest = record { first = c.in-Some.ensures.items; same = refl } in
    put_way c.args.self.now _ _ c.puts.desk rest c.in-Some.unit at.0 at.1 _
    (c.puts.invariant.going at.0 at.1 at.2 at.3) popped c.in_err-put.ensures.same c.in_err-put.ensures.begun

pub returns-clause-so_far : goal.returns-clause-so_far
returns-clause-so_far g c =
    let at = c.requires.going in
    whole_way c.args.self.now _ _ _ c.puts.invariant.whole
    (going_so c.args.self.now _ _ c.puts.desk at.0 at.1 (c.puts.invariant.going at.0 at.1 at.2 at.3) refl)

pub puts-preserved-in-Accepted : goal.puts-preserved-in-Accepted
puts-preserved-in-Accepted g c =
    let rest : Desk = record c.puts.desk { waiting = c.pop_front.new.self } in
    let popped : Popped c.in-Some.unit c.puts.desk rest = record { first = c.in-Some.ensures.items; same = refl } in
    let one = replied _ _ (put_of tours c.in-Some.unit) _ replies.Accepted c.in_ok-put.ensures.says c.in-Accepted.is in record {
      going = λ after on bytes start. accepted_is c.args.self.now _ _ c.puts.desk rest c.in-Some.unit after on
          (c.puts.invariant.going after on bytes start) popped c.in_ok-put.ensures.form one;
      whole = c.in_ok-put.ensures.kept.whole;
      more = grows _ _ _ _ c.puts.invariant.more one;
      seat = c.in_ok-put.ensures.kept.seat ∙ c.puts.invariant.seat;
      batch = c.in_ok-put.ensures.kept.batch ∙ c.puts.invariant.batch;
    }

pub puts-preserved-in-Accepted-2 : goal.puts-preserved-in-Accepted-2
puts-preserved-in-Accepted-2 g c =
    let rest : Desk = record c.puts.desk { waiting = c.pop_front.new.self } in
    let popped : Popped c.in-Some.unit c.puts.desk rest = record { first = c.in-Some.ensures.items; same = refl } in
    let one = replied _ _ (put_of tours c.in-Some.unit) _ replies.Accepted c.in_ok-put.ensures.says c.in-Accepted.is in record {
      going = λ after on bytes start. accepted_is c.args.self.now _ _ c.puts.desk rest c.in-Some.unit after on
          (c.puts.invariant.going after on bytes start) popped c.in_ok-put.ensures.form one;
      whole = c.in_ok-put.ensures.kept.whole;
      more = grows _ _ _ _ c.puts.invariant.more one;
      seat = c.in_ok-put.ensures.kept.seat ∙ c.puts.invariant.seat;
      batch = c.in_ok-put.ensures.kept.batch ∙ c.puts.invariant.batch;
    }

pub puts-preserved : goal.puts-preserved
puts-preserved g c =
    let rest : Desk = record c.puts.desk { waiting = c.pop_front.new.self } in
    let popped : Popped c.in-Some.unit c.puts.desk rest = record { first = c.in-Some.ensures.items; same = refl } in
    let one = replied _ _ (put_of tours c.in-Some.unit) _ replies.Rejected c.in_ok-put.ensures.says c.in-Rejected.is in record {
      going = λ after on bytes start. rejected_is c.args.self.now _ _ c.puts.desk rest c.receive.new.self c.in-Some.unit c.args.common.now
          after on (c.puts.invariant.going after on bytes start) bytes popped one c.in-Ok.ensures;
      whole = c.in_ok-put.ensures.kept.whole;
      more = grows _ _ _ _ c.puts.invariant.more one;
      seat = c.in_ok-put.ensures.kept.seat ∙ c.puts.invariant.seat;
      batch = c.in_ok-put.ensures.kept.batch ∙ c.puts.invariant.batch;
    }

pub returns-in_default-receive-clause-so_far : goal.returns-in_default-receive-clause-so_far
returns-in_default-receive-clause-so_far g c =
    let at = c.requires.going in
    let rest : Desk = record c.puts.desk { waiting = c.pop_front.new.self } in
    let popped : Popped c.in-Some.unit c.puts.desk rest = record { first = c.in-Some.ensures.items; same = refl } in
    whole_way c.args.self.now _ _ _ c.in_ok-put.ensures.kept.whole
    (rejected_so c.args.self.now _ _ c.puts.desk rest c.in-Some.unit at.0 at.1 (c.puts.invariant.going at.0 at.1 at.2 at.3) popped
    (replied _ _ (put_of tours c.in-Some.unit) _ replies.Rejected c.in_ok-put.ensures.says c.in-Rejected.is))

pub returns-in_default-put_back-clause-so_far : goal.returns-in_default-put_back-clause-so_far
returns-in_default-put_back-clause-so_far g c =
    let at = c.requires.going in
    let rest : Desk = record c.puts.desk { waiting = c.pop_front.new.self } in
    let popped : Popped c.in-Some.unit c.puts.desk rest = record { first = c.in-Some.ensures.items; same = refl } in
    whole_way c.args.self.now _ _ _ c.in_ok-put.ensures.kept.whole
    (stopped_so c.args.self.now _ _ c.puts.desk rest c.in-Some.unit c.in-Ended.field-0 at.0 at.1
    (c.puts.invariant.going at.0 at.1 at.2 at.3)
    popped (replied _ _ (put_of tours c.in-Some.unit) _ (replies.Ended c.in-Ended.field-0) c.in_ok-put.ensures.says c.in-Ended.is))

pub returns-in-Ended-clause-told : goal.returns-in-Ended-clause-told
returns-in-Ended-clause-told g c =
    let rest : Desk = record c.puts.desk { waiting = c.pop_front.new.self } in
    let popped : Popped c.in-Some.unit c.puts.desk rest = record { first = c.in-Some.ensures.items; same = refl } in
    let back : PutBack c.in-Some.unit rest c.put_back.new.self = record {
      first = c.in-Ok-put_back.ensures.waiting;
      same = c.put_back.ensures.found;
    } in
    λ on bytes after start. stopped_is c.args.self.now _ _ c.puts.desk rest c.put_back.new.self c.in-Some.unit c.in-Ended.field-0 after on
    (c.puts.invariant.going after on bytes start) popped back
    (replied _ _ (put_of tours c.in-Some.unit) _ (replies.Ended c.in-Ended.field-0) c.in_ok-put.ensures.says c.in-Ended.is)

pub returns-in-Ended-clause-so_far : goal.returns-in-Ended-clause-so_far
returns-in-Ended-clause-so_far g c =
    let at = c.requires.going in
    let rest : Desk = record c.puts.desk { waiting = c.pop_front.new.self } in
    let popped : Popped c.in-Some.unit c.puts.desk rest = record { first = c.in-Some.ensures.items; same = refl } in
    whole_way c.args.self.now _ _ _ c.in_ok-put.ensures.kept.whole
    (stopped_so c.args.self.now _ _ c.puts.desk rest c.in-Some.unit c.in-Ended.field-0 at.0 at.1
    (c.puts.invariant.going at.0 at.1 at.2 at.3)
    popped (replied _ _ (put_of tours c.in-Some.unit) _ (replies.Ended c.in-Ended.field-0) c.in_ok-put.ensures.says c.in-Ended.is))
