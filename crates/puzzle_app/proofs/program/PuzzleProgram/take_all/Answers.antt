use Rattle.std.proofs.Common.{◌∙◌, subst, sym, refl, None, []}
use Rattle.puzzle_app.specs.Calls.{Takes}
use Rattle.puzzle_app.proofs.Calling.{so_open}
use Rattle.puzzle_app.proofs.Steps.{all_is, brought_is, brought_so, going_so, not_all_is, room_is, stopped_so, told_is}
use Rattle.puzzle_app.proofs.Tallies.{as_it_was}
use Rattle.puzzle_app.proofs.UnderWay.{take_way, whole_way}
use Rattle.puzzle_app.proofs.program.PuzzleProgram.take_all.Goals as goal

pub take-requires-clause-running : goal.take-requires-clause-running
take-requires-clause-running g c = so_open c.args.self.now _
    (going_so c.args.self.now _ _ c.rounds.desk [] None c.rounds.invariant.going.going refl)

pub returns-in_err-note-clause-so_far : goal.returns-in_err-note-clause-so_far
returns-in_err-note-clause-so_far g c = take_way c.args.self.now _ _ c.rounds.desk _ c.rounds.invariant.going c.in_err-note.ensures.part

pub bring-requires-clause-room : goal.bring-requires-clause-room
bring-requires-clause-room g c =
    room_is c.args.self.now _ c.rounds.desk c.rounds.desk [] None c.rounds.invariant.going.going (as_it_was c.rounds.desk)
    (g.met.A.Adlb.short c.rounds.link)

pub returns-in_default-clause-so_far : goal.returns-in_default-clause-so_far
returns-in_default-clause-so_far g c =
    whole_way c.args.self.now _ _ _ c.in_ok-note.ensures.kept.whole
    (brought_so c.args.self.now _ _ c.rounds.desk c.in-Unit.note c.in-Unit.body c.rounds.invariant.going
    (subst (λ t. Takes (g.A.Adlb.link c.rounds.link).said
    (g.A.Adlb.link c.take.new.link).said t) c.in-Unit.is c.in_ok-note.ensures.takes))

pub put_all-requires-clause-going : goal.put_all-requires-clause-going
put_all-requires-clause-going g c = (
  [],
  None,
  sym c.as_slice.ensures,
  brought_is c.args.self.now _ _ c.rounds.desk c.bring.new.self c.in-Unit.note c.in-Unit.body c.rounds.invariant.going
      (subst (λ t. Takes (g.A.Adlb.link c.rounds.link).said
      (g.A.Adlb.link c.take.new.link).said t) c.in-Unit.is c.in_ok-note.ensures.takes) c.in-Ok.ensures,
)

pub returns-then-not-branch-clause-stopped : goal.returns-then-not-branch-clause-stopped
returns-then-not-branch-clause-stopped g c =
    not_all_is _ _ _ c.if-not-branch.true (c.in_ok-put_all-in-Unit.ensures.told None (sym c.as_slice.ensures) []
    (brought_is c.args.self.now _ _ c.rounds.desk c.bring.new.self c.in-Unit.note c.in-Unit.body c.rounds.invariant.going
    (subst (λ t. Takes (g.A.Adlb.link c.rounds.link).said
    (g.A.Adlb.link c.take.new.link).said t) c.in-Unit.is c.in_ok-note.ensures.takes) c.in-Ok.ensures))

pub rounds-preserved : goal.rounds-preserved
rounds-preserved g c = record {
  going = all_is _ _ _ c.if-not-branch.false (c.in_ok-put_all-in-Unit.ensures.told None (sym c.as_slice.ensures) []
      (brought_is c.args.self.now _ _ c.rounds.desk c.bring.new.self c.in-Unit.note c.in-Unit.body c.rounds.invariant.going
      (subst (λ t. Takes (g.A.Adlb.link c.rounds.link).said
      (g.A.Adlb.link c.take.new.link).said t) c.in-Unit.is c.in_ok-note.ensures.takes) c.in-Ok.ensures));
  whole = c.in_ok-put_all-in-Unit.ensures.kept.whole;
  seat = c.in_ok-put_all-in-Unit.ensures.kept.seat ∙ c.in_ok-note.ensures.kept.seat ∙ c.rounds.invariant.seat;
  batch = c.in_ok-put_all-in-Unit.ensures.kept.batch ∙ c.in_ok-note.ensures.kept.batch ∙ c.rounds.invariant.batch;
}

pub returns-in-Ended-clause-stopped : goal.returns-in-Ended-clause-stopped
returns-in-Ended-clause-stopped g c =
    told_is c.args.self.now _ _ c.rounds.desk c.in-Ended.field-0 c.rounds.invariant.going
    (subst (λ t. Takes (g.A.Adlb.link c.rounds.link).said
    (g.A.Adlb.link c.take.new.link).said t) c.in-Ended.is c.in_ok-note.ensures.takes)

pub returns-in-Ended-clause-so_far : goal.returns-in-Ended-clause-so_far
returns-in-Ended-clause-so_far g c =
    whole_way c.args.self.now _ _ _ c.in_ok-note.ensures.kept.whole (stopped_so c.args.self.now _ c.rounds.desk None
    (told_is c.args.self.now _ _ c.rounds.desk c.in-Ended.field-0 c.rounds.invariant.going
    (subst (λ t. Takes (g.A.Adlb.link c.rounds.link).said
    (g.A.Adlb.link c.take.new.link).said t) c.in-Ended.is c.in_ok-note.ensures.takes)))
