use Rattle.std.proofs.Common.{◌≡◌, refl, sym, subst, Some, None, [], ◌∷◌, ◌∙◌, ap, List, ℕ}
use Rattle.adlb_rank.specs.declared.replies.Reply.TheVariants as replies
use Rattle.bag_ledger.specs.declared.entries.Call.TheVariants.{BeginBatch}
use Rattle.work_law.specs.Books.{End}
use Rattle.tour_app.specs.Desk.{TakesOver}
use Rattle.tour_app.specs.Works.{pairs}
use Rattle.tour_app.specs.Working.{IsGoing}
use Rattle.tour_app.specs.declared.desk.Desk.{Desk}
use Rattle.tour_app.specs.declared.units.TourUnit.{TourUnit}
use Rattle.tour_app.proofs.Calling.{so_open}
use Rattle.tour_app.proofs.Steps.{Filled, begun_is, ended_so, going_so, refused_is, refused_so, replied, unbegun_is}
use Rattle.tour_app.proofs.Ways.{begin_way, whole_way}
use Rattle.tour_app.proofs.program.TourProgram.put_batch.Goals as goal

pub begin-requires-clause-running : goal.begin-requires-clause-running
begin-requires-clause-running g c =
    so_open c.args.self.now _ (going_so c.args.self.now _ _ c.args.desk.now _ None c.requires.going refl)

pub returns-in_err-begin-clause-so_far : goal.returns-in_err-begin-clause-so_far
returns-in_err-begin-clause-so_far g c =
    begin_way c.args.self.now _ _ c.args.desk.now c.args.common.now (pairs c.args.count) _ c.requires.going c.requires.none
    c.in_err-begin.ensures.same c.in_err-begin.ensures.begun

pub put_kept-requires-clause-going : goal.put_kept-requires-clause-going
put_kept-requires-clause-going g c =
    let filled : Desk = record c.args.desk.now { waiting = c.in-Ok.pairs } in
    subst (λ (bytes : List ℕ). IsGoing c.args.self.now (g.R.Rank.link c.begin.new.link).said filled (End ∷ []) (Some bytes))
    (sym c.bytes.ensures)
    (begun_is c.args.self.now _ _ c.args.desk.now filled c.args.common.now (pairs c.args.count) c.requires.going c.requires.none
    (record { waiting = c.in-Ok.ensures; same = refl })
    (replied _ _ (BeginBatch c.args.common.now) _ replies.Accepted c.in_ok-begin.ensures.says c.in-Accepted.is))

over_units : {common bytes : List ℕ} {units all : List TourUnit} {d e : Desk} → bytes ≡ common → units ≡ all → TakesOver bytes units d e →
    TakesOver common all d e
over_units {common} {bytes} {units} {all} {d} {e} same is over =
    subst (λ (u : List TourUnit). TakesOver common u d e) is (subst (λ (b : List ℕ). TakesOver b units d e) same over)

pub returns-in_default-take_over-clause-so_far : goal.returns-in_default-take_over-clause-so_far
returns-in_default-take_over-clause-so_far g c =
    whole_way c.args.self.now _ _ _ c.in_ok-begin.ensures.fine
    (refused_so c.args.self.now _ _ c.args.desk.now c.args.common.now (pairs c.args.count) c.requires.going c.requires.none
    (replied _ _ (BeginBatch c.args.common.now) _ replies.Rejected c.in_ok-begin.ensures.says c.in-Rejected.is))

pub put_all-requires-clause-going : goal.put_all-requires-clause-going
put_all-requires-clause-going g c = (
  [],
  None,
  sym c.as_slice.ensures,
  refused_is c.args.self.now _ _ c.args.desk.now c.take_over.new.self c.args.common.now (pairs c.args.count) c.requires.going
      c.requires.none
      (replied _ _ (BeginBatch c.args.common.now) _ replies.Rejected c.in_ok-begin.ensures.says c.in-Rejected.is)
      (over_units c.bytes-in-Rejected.ensures c.in-Ok.ensures c.in-Ok-take_over.ensures),
)

pub returns-in-Ok-take_over-clause-told : goal.returns-in-Ok-take_over-clause-told
returns-in-Ok-take_over-clause-told g c =
    c.put_all.ensures.told None (sym c.as_slice.ensures) []
    (refused_is c.args.self.now _ _ c.args.desk.now c.take_over.new.self c.args.common.now (pairs c.args.count) c.requires.going
    c.requires.none
    (replied _ _ (BeginBatch c.args.common.now) _ replies.Rejected c.in_ok-begin.ensures.says c.in-Rejected.is)
    (over_units c.bytes-in-Rejected.ensures c.in-Ok.ensures c.in-Ok-take_over.ensures))

pub returns-in-Ended-clause-told : goal.returns-in-Ended-clause-told
returns-in-Ended-clause-told g c =
    let filled : Desk = record c.args.desk.now { waiting = c.in-Ok.pairs } in
    unbegun_is c.args.self.now _ _ c.args.desk.now filled c.args.common.now (pairs c.args.count) c.in-Ended.field-0 c.requires.going
    c.requires.none (record { waiting = c.in-Ok.ensures; same = refl })
    (replied _ _ (BeginBatch c.args.common.now) _ (replies.Ended c.in-Ended.field-0) c.in_ok-begin.ensures.says c.in-Ended.is)

pub returns-in-Ended-clause-so_far : goal.returns-in-Ended-clause-so_far
returns-in-Ended-clause-so_far g c =
    let filled : Desk = record c.args.desk.now { waiting = c.in-Ok.pairs } in
    whole_way c.args.self.now _ _ _ c.in_ok-begin.ensures.fine (ended_so c.args.self.now _ filled None
    (unbegun_is c.args.self.now _ _ c.args.desk.now filled c.args.common.now (pairs c.args.count) c.in-Ended.field-0 c.requires.going
    c.requires.none (record { waiting = c.in-Ok.ensures; same = refl })
    (replied _ _ (BeginBatch c.args.common.now) _ (replies.Ended c.in-Ended.field-0) c.in_ok-begin.ensures.says c.in-Ended.is)))
