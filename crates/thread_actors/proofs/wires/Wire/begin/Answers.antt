use Rattle.thread_actors.proofs.Prelude.{DeskModel, Err, [], ap, arith, gives, refl, sym, ◌∙◌}
use Rattle.thread_actors.proofs.RankBegun.{any_err, failed_up}
use Rattle.thread_actors.proofs.Few.{begin_few}
use Rattle.thread_actors.proofs.RankSteps.{begun, begun_says}
use Rattle.thread_actors.proofs.Walks.{entered_numbers, step_recorded}
use Rattle.merge_history.specs.declared.causes.Cause.TheVariants as causes
use Rattle.thread_actors.proofs.Limits.{call_limit, memory_limit}
use Rattle.thread_actors.proofs.RankSteps.{first_fail}
use Rattle.thread_actors.proofs.wires.Wire.begin.Goals as goal

pub invariant_of-self-2 : goal.invariant_of-self-2
invariant_of-self-2 g c =
    let w = c.args.self.now in
    let b = c.in_ok-begin.ensures in
    let x = gives c.begin.new.self c.begin.new.step in
    let begins = rw c.called-cause.ensures.call at b.begun in
    let h = begun w.core c.args.call c.requires.rests.knows x begins c.requires.whole b.whole in
    let numbers =
    entered_numbers w.desk c.make_room_for.new.desk c.enter.new.desk c.make_room_for.ensures.same _ c.enter.ensures.entered in
    record { run_is = h.config ∙ w.run_is; desk_is = (numbers.0 ∙ w.desk_is.0, numbers.1 ∙ w.desk_is.1 ∙ sym (ap (λ r. r.0) h.me)) }

pub enter-requires : goal.enter-requires
enter-requires g c =
    let begins = rw c.called-cause.ensures.call at c.in_ok-begin.ensures.begun in
    let few = begin_few c.args.self.now.core c.args.call (gives c.begin.new.self c.begin.new.step) begins in
    let room = c.in_default.ensures.room in
    omega (arith, few, room)

pub returns : goal.returns
returns g c =
    let w = c.args.self.now in
    let b = c.in_ok-begin.ensures in
    let x = gives c.begin.new.self c.begin.new.step in
    let begins = rw c.called-cause.ensures.call at b.begun in
    let h = begun w.core c.args.call c.requires.rests.knows x begins c.requires.whole b.whole in
    let e = c.enter.ensures in
    record {
      says = rw e.answer (begun_says w.core c.args.call c.requires.rests.knows x begins);
      whole = h.whole;
      failed = tt;
      knows = h.knows;
      recorded =
          step_recorded w.desk c.make_room_for.new.desk c.enter.new.desk w.core c.begin.new.self (causes.Called c.args.call)
          c.begin.new.step c.make_room_for.ensures.same c.requires.whole c.requires.recorded begins b.stamp h.me _
          c.called-cause.ensures.cause e.entered e.tallies;
      expected = refl;
      begun = tt;
      limit = tt;
      told = refl;
      got = e.entered.got ∙ ap (λ (d : DeskModel). d.got) c.make_room_for.ensures.same;
      config = refl;
      me = h.me;
    }

pub returns-in-Err-clause-begun : goal.returns-in-Err-clause-begun
returns-in-Err-clause-begun g c =
    let w = c.args.self.now in
    failed_up w.desk c.make_room_for.new.desk [] w.core c.fail.new.self c.fail.result c.requires.whole c.requires.recorded
    c.make_room_for.ensures.same c.fail.ensures.failed

pub returns-in_err-begin-clause-begun : goal.returns-in_err-begin-clause-begun
returns-in_err-begin-clause-begun g c =
    let w = c.args.self.now in
    any_err c.from_residual.result
    (failed_up w.desk c.make_room_for.new.desk [] w.core c.begin.new.self _ c.requires.whole c.requires.recorded
    c.make_room_for.ensures.same c.in_err-begin.ensures.failed)

pub returns-in-Err-clause-limit : goal.returns-in-Err-clause-limit
returns-in-Err-clause-limit g c =
    let w = c.args.self.now in
    memory_limit c.make_room_for.new.desk w.core c.fail.new.self c.fail.result c.fail.ensures.failed
    (first_fail w.core.trouble _ c.fail.result c.requires.whole c.fail.ensures.first)

pub returns-in_err-begin-clause-limit : goal.returns-in_err-begin-clause-limit
returns-in_err-begin-clause-limit g c =
    let w = c.args.self.now in
    any_err c.from_residual.result
    (call_limit w.core c.begin.new.self c.called-cause.result.1 (Err _) _ c.requires.whole refl
    c.in_err-begin.ensures.troubled c.in_err-begin.ensures.memory c.make_room_for.new.desk c.in_err-begin.ensures.failed)
