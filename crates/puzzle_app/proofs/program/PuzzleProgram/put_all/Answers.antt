use Rattle.std.proofs.Common.{◌∙◌, refl}
use Rattle.job_units.specs.Puts.{put_of}
use Rattle.puzzle_app.specs.declared.calls.Reply.TheVariants as replies
use Rattle.puzzle_app.specs.declared.desk.Desk.{Desk}
use Rattle.puzzle_app.proofs.Calling.{so_open}
use Rattle.puzzle_app.proofs.Steps.{Popped, accepted_is, going_so, grows, popped_off, rejected_is, rejected_so, replied, room_is}
use Rattle.puzzle_app.proofs.Steps.{stopped_is, stopped_so}
use Rattle.puzzle_app.proofs.UnderWay.{put_way, whole_way}
use Rattle.puzzle_app.proofs.program.PuzzleProgram.put_all.Goals as goal

pub put-requires-clause-running : goal.put-requires-clause-running
put-requires-clause-running g c =
    let at = c.requires.going in
    so_open c.args.self.now _ (going_so c.args.self.now _ _ c.puts.desk at.0 at.1 (c.puts.invariant.going at.0 at.1 at.2 at.3) refl)

pub returns-in_err-put-clause-so_far : goal.returns-in_err-put-clause-so_far
returns-in_err-put-clause-so_far g c =
    let at = c.requires.going in
    let rest : Desk = record c.puts.desk { waiting = c.pop_front.new.self } in
    let popped : Popped c.in-Some.made c.puts.desk rest = popped_off c.in-Some.made c.puts.desk rest c.in-Some.ensures.items in
    put_way c.args.self.now _ _ c.puts.desk rest c.in-Some.made at.0 at.1 _
    (c.puts.invariant.going at.0 at.1 at.2 at.3) popped c.in_err-put.ensures.same c.in_err-put.ensures.begun
    c.in_err-put.ensures.begun_form

pub returns-clause-so_far : goal.returns-clause-so_far
returns-clause-so_far g c =
    let at = c.requires.going in
    whole_way c.args.self.now _ _ _ c.puts.invariant.whole
    (going_so c.args.self.now _ _ c.puts.desk at.0 at.1 (c.puts.invariant.going at.0 at.1 at.2 at.3) refl)

pub receive-requires-clause-room : goal.receive-requires-clause-room
receive-requires-clause-room g c =
    let at = c.requires.going in
    let rest : Desk = record c.puts.desk { waiting = c.pop_front.new.self } in
    room_is c.args.self.now _ c.puts.desk rest at.0 at.1 (c.puts.invariant.going at.0 at.1 at.2 at.3)
    (record { kept = refl; answers = refl; overs = refl; boards = refl; found = refl; jobs = refl; answered = refl })
    (g.met.A.Adlb.short c.puts.link)

pub puts-preserved-in-Accepted : goal.puts-preserved-in-Accepted
puts-preserved-in-Accepted g c =
    let rest : Desk = record c.puts.desk { waiting = c.pop_front.new.self } in
    let popped : Popped c.in-Some.made c.puts.desk rest = popped_off c.in-Some.made c.puts.desk rest c.in-Some.ensures.items in
    let one = replied _ _ (put_of c.in-Some.made) _ replies.Accepted c.in_ok-put.ensures.says c.in-Accepted.is in record {
      going = λ after on bytes start. accepted_is c.args.self.now _ _ c.puts.desk rest c.in-Some.made after on
          (c.puts.invariant.going after on bytes start) popped
          c.in_ok-put.ensures.form one;
      whole = c.in_ok-put.ensures.kept.whole;
      more = grows _ _ _ _ c.puts.invariant.more one;
      seat = c.in_ok-put.ensures.kept.seat ∙ c.puts.invariant.seat;
      batch = c.in_ok-put.ensures.kept.batch ∙ c.puts.invariant.batch;
    }

pub puts-preserved : goal.puts-preserved
puts-preserved g c =
    let rest : Desk = record c.puts.desk { waiting = c.pop_front.new.self } in
    let popped : Popped c.in-Some.made c.puts.desk rest = popped_off c.in-Some.made c.puts.desk rest c.in-Some.ensures.items in
    let one = replied _ _ (put_of c.in-Some.made) _ replies.Rejected c.in_ok-put.ensures.says c.in-Rejected.is in record {
      going = λ after on bytes start. rejected_is c.args.self.now _ _ c.puts.desk rest c.receive.new.self c.in-Some.made c.args.common.now
          after on
          (c.puts.invariant.going after on bytes start) bytes popped c.in_ok-put.ensures.form one c.in-Ok.ensures;
      whole = c.in_ok-put.ensures.kept.whole;
      more = grows _ _ _ _ c.puts.invariant.more one;
      seat = c.in_ok-put.ensures.kept.seat ∙ c.puts.invariant.seat;
      batch = c.in_ok-put.ensures.kept.batch ∙ c.puts.invariant.batch;
    }

pub returns-in_default-receive-clause-so_far : goal.returns-in_default-receive-clause-so_far
returns-in_default-receive-clause-so_far g c =
    let at = c.requires.going in
    let rest : Desk = record c.puts.desk { waiting = c.pop_front.new.self } in
    let popped : Popped c.in-Some.made c.puts.desk rest = popped_off c.in-Some.made c.puts.desk rest c.in-Some.ensures.items in
    whole_way c.args.self.now _ _ _ c.in_ok-put.ensures.kept.whole
    (rejected_so c.args.self.now _ _ c.puts.desk rest c.in-Some.made at.0 at.1 (c.puts.invariant.going at.0 at.1 at.2 at.3) popped
    c.in_ok-put.ensures.form (replied _ _ (put_of c.in-Some.made) _ replies.Rejected c.in_ok-put.ensures.says c.in-Rejected.is))

pub returns-in-Ended-clause-told : goal.returns-in-Ended-clause-told
returns-in-Ended-clause-told g c =
    let rest : Desk = record c.puts.desk { waiting = c.pop_front.new.self } in
    let popped : Popped c.in-Some.made c.puts.desk rest = popped_off c.in-Some.made c.puts.desk rest c.in-Some.ensures.items in
    λ on bytes after start. stopped_is c.args.self.now _ _ c.puts.desk rest c.in-Some.made c.in-Ended.field-0 after on
    (c.puts.invariant.going after on bytes start) popped c.in_ok-put.ensures.form
    (replied _ _ (put_of c.in-Some.made) _ (replies.Ended c.in-Ended.field-0) c.in_ok-put.ensures.says c.in-Ended.is)

pub returns-in-Ended-clause-so_far : goal.returns-in-Ended-clause-so_far
returns-in-Ended-clause-so_far g c =
    let at = c.requires.going in
    let rest : Desk = record c.puts.desk { waiting = c.pop_front.new.self } in
    let popped : Popped c.in-Some.made c.puts.desk rest = popped_off c.in-Some.made c.puts.desk rest c.in-Some.ensures.items in
    whole_way c.args.self.now _ _ _ c.in_ok-put.ensures.kept.whole
    (stopped_so c.args.self.now _ rest at.1
    (stopped_is c.args.self.now _ _ c.puts.desk rest c.in-Some.made c.in-Ended.field-0 at.0 at.1
    (c.puts.invariant.going at.0 at.1 at.2 at.3) popped c.in_ok-put.ensures.form
    (replied _ _ (put_of c.in-Some.made) _ (replies.Ended c.in-Ended.field-0) c.in_ok-put.ensures.says c.in-Ended.is)))
