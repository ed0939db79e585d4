use Rattle.thread_actors.proofs.Prelude.{DeskModel, ap, arith, gives, received, refl, sym, ◌∙◌}
use Rattle.thread_actors.proofs.RankBegun.{any_err, failed_up}
use Rattle.thread_actors.proofs.Few.{hear_few}
use Rattle.thread_actors.proofs.RankSteps.{heard, heard_says, letter_fails}
use Rattle.thread_actors.proofs.Walks.{entered_numbers, got_step, step_recorded}
use Rattle.adlb_unit.specs.declared.actors.Actor.TheVariants as by
use Rattle.merge_history.specs.declared.causes.Cause.TheVariants as causes
use Rattle.thread_actors.proofs.Limits.{letter_limit, memory_limit}
use Rattle.thread_actors.proofs.RankSteps.{first_fail}
use Rattle.thread_actors.proofs.wires.Wire.take_in.Goals as goal

pub invariant_of-self-2 : goal.invariant_of-self-2
invariant_of-self-2 g c =
    let w = c.args.self.now in
    let b = c.in_ok-hear.ensures in
    let x = gives c.hear.new.self c.hear.new.step in
    let h = heard w.core c.args.from c.got-cause.result.1 c.requires.knows x b.heard c.requires.whole b.whole in
    let numbers =
    entered_numbers w.desk c.make_room.new.self c.enter.new.desk c.make_room.ensures.same _ c.enter.ensures.entered in
    record { run_is = h.config ∙ w.run_is; desk_is = (numbers.0 ∙ w.desk_is.0, numbers.1 ∙ w.desk_is.1 ∙ sym (ap (λ r. r.0) h.me)) }

pub enter-requires : goal.enter-requires
enter-requires g c =
    let few =
    hear_few c.args.self.now.core c.args.from c.got-cause.result.1 (gives c.hear.new.self c.hear.new.step) c.in_ok-hear.ensures.heard in
    let room = c.in_default.ensures.room in
    omega (arith, few, room)

pub returns : goal.returns
returns g c =
    let w = c.args.self.now in
    let b = c.in_ok-hear.ensures in
    let x = gives c.hear.new.self c.hear.new.step in
    let hears = rw c.got-cause.ensures.letter at b.heard in
    let untroubled = rw c.got-cause.ensures.letter at b.whole in
    let h = heard w.core c.args.from c.args.letter c.requires.knows x hears c.requires.whole untroubled in
    let e = c.enter.ensures in
    record {
      says = rw e.answer (heard_says w.core c.args.from c.args.letter c.requires.knows x hears);
      whole = h.whole;
      failed = tt;
      knows = h.knows;
      recorded =
          step_recorded w.desk c.make_room.new.self c.enter.new.desk w.core c.hear.new.self
          (causes.Got (by.Server c.args.from) c.args.letter) c.hear.new.step c.make_room.ensures.same c.requires.whole c.requires.recorded
          (got_step w.desk.config w.core c.args.from c.args.letter _ c.requires.server hears) b.stamp h.me _ c.got-cause.ensures.cause
          e.entered e.tallies;
      expected = refl;
      begun = tt;
      limit = tt;
      told = refl;
      got = e.entered.got ∙ ap (λ (d : DeskModel). d.got) c.make_room.ensures.same;
      config = refl;
      me = h.me;
    }

pub returns-in-Err-clause-begun : goal.returns-in-Err-clause-begun
returns-in-Err-clause-begun g c =
    let w = c.args.self.now in
    failed_up w.desk c.make_room.new.self (received w.desk.config (causes.Got (by.Server c.args.from) c.args.letter)) w.core
    c.fail.new.self c.fail.result c.requires.whole c.requires.recorded c.make_room.ensures.same c.fail.ensures.failed

pub returns-in_err-hear-clause-begun : goal.returns-in_err-hear-clause-begun
returns-in_err-hear-clause-begun g c =
    let w = c.args.self.now in
    any_err c.from_residual.result
    (failed_up w.desk c.make_room.new.self (received w.desk.config (causes.Got (by.Server c.args.from) c.args.letter)) w.core
    c.hear.new.self _ c.requires.whole c.requires.recorded c.make_room.ensures.same c.in_err-hear.ensures.failed)

pub returns-in_err-hear-clause-knows : goal.returns-in_err-hear-clause-knows
returns-in_err-hear-clause-knows g c =
    let troubled = rw c.got-cause.ensures.letter at c.in_err-hear.ensures.troubled in
    letter_fails c.args.self.now.core c.hear.new.self c.args.letter _ c.in_err-hear.ensures.failed
    c.requires.whole c.requires.untold troubled
    c.requires.knows

pub returns-in-Err-clause-limit : goal.returns-in-Err-clause-limit
returns-in-Err-clause-limit g c =
    let w = c.args.self.now in
    memory_limit c.make_room.new.self w.core c.fail.new.self c.fail.result c.fail.ensures.failed
    (first_fail w.core.trouble _ c.fail.result c.requires.whole c.fail.ensures.first)

pub returns-in_err-hear-clause-limit : goal.returns-in_err-hear-clause-limit
returns-in_err-hear-clause-limit g c =
    let w = c.args.self.now in
    let troubled = rw c.got-cause.ensures.letter at c.in_err-hear.ensures.troubled in
    any_err c.from_residual.result
    (letter_limit w.desk c.make_room.new.self w.core c.hear.new.self c.args.from c.args.letter _ c.requires.whole c.requires.recorded
    c.make_room.ensures.same c.requires.server c.requires.expected c.requires.untold troubled c.in_err-hear.ensures.failed)
