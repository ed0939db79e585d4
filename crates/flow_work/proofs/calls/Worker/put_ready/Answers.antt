use Rattle.std.proofs.Common.{Some, refl, sym, subst, ap, ◌∙◌, arith}
use Rattle.std.specs.Prelude.{slice_get}
use Rattle.adlb_rank.specs.declared.replies.Reply.TheVariants as replies
use Rattle.work_law.specs.Work.{put_of}
use Rattle.flow_app.specs.Stored.{first_stays}
use Rattle.flow_app.specs.declared.stores.Store.{Store}
use Rattle.flow_run_law.specs.Units.{Rule, flows}
use Rattle.flow_units.specs.Bodies.{forms}
use Rattle.flow_work.specs.Working.{AtHome, IsGoing, Stored}
use Rattle.flow_work.proofs.Calling.{so_open}
use Rattle.flow_work.proofs.Homes.{get_grown, get_within, passed_less}
use Rattle.flow_work.proofs.Making.{replied_by}
use Rattle.flow_work.proofs.Steps.{going_so, rule_over_is, rule_so, rule_taken_is, rule_way, rule_worked_is, stopped_so}
use Rattle.flow_work.proofs.Ways.{whole_way}
use Rattle.flow_work.proofs.calls.Worker.put_ready.Goals as goal

pub put-requires-clause-running : goal.put-requires-clause-running
put-requires-clause-running g c =
    so_open (forms c.args.self.now.ranks) (Some c.args.flow.now) _ (going_so (forms c.args.self.now.ranks) (Some c.args.flow.now) _ _
    (AtHome c.args.flow.now c.args.home.now)
    c.requires.going refl)

pub returns-in_err-put-clause-so_far : goal.returns-in_err-put-clause-so_far
returns-in_err-put-clause-so_far g c =
    rule_way (forms c.args.self.now.ranks) c.args.flow.now _ c.args.home.now c.requires.going c.args.unit c.requires.next
    c.requires.carries c.put.ensures.fits _ _ c.in_err-put.ensures.same c.put.ensures.begun

pub pass-requires : goal.pass-requires
pass-requires g c =
    record { more = get_within c.args.home.now.store.ready.items c.args.home.now.store.next c.args.unit.number c.requires.next }

pub returns-in_default-clause-so_far : goal.returns-in_default-clause-so_far
returns-in_default-clause-so_far g c =
    whole_way (forms c.args.self.now.ranks) (Some c.args.flow.now) _ _ _ c.in_ok-put.ensures.kept.whole
    (rule_so (forms c.args.self.now.ranks) c.args.flow.now _ c.args.home.now c.requires.going c.args.unit c.requires.next
    c.requires.carries c.put.ensures.fits _
    (replied_by _ _ (put_of (flows (forms c.args.self.now.ranks)) (Rule c.args.unit.number c.args.unit.op c.args.unit.left
    c.args.unit.right)) _ replies.Rejected c.in_ok-put.ensures.says c.in-Rejected.is))

pub pass-requires-in-Rejected : goal.pass-requires-in-Rejected
pass-requires-in-Rejected g c =
    record {
      more = get_within c.keep.new.self.ready.items c.keep.new.self.next c.args.unit.number
          (ap (slice_get c.keep.new.self.ready.items) c.in-Ok.ensures.next
          ∙ get_grown c.args.home.now.store.ready.items c.keep.new.self.ready.items c.args.home.now.store.next c.args.unit.number
          c.in-Ok.ensures.grows c.requires.next);
    }

pub returns-in-Accepted-clause-told : goal.returns-in-Accepted-clause-told
returns-in-Accepted-clause-told g c =
    subst (λ (s : Store). IsGoing (forms c.args.self.now.ranks) (Some c.args.flow.now) (g.R.Rank.link c.put.new.link).said
    (AtHome c.args.flow.now (record c.args.home.now { store = s }))) (sym c.pass.ensures)
    (rule_taken_is (forms c.args.self.now.ranks) c.args.flow.now _ c.args.home.now c.requires.going c.args.unit c.requires.next
    c.requires.carries c.put.ensures.fits _
    (replied_by _ _ (put_of (flows (forms c.args.self.now.ranks)) (Rule c.args.unit.number c.args.unit.op c.args.unit.left
    c.args.unit.right)) _ replies.Accepted c.in_ok-put.ensures.says c.in-Accepted.is))

pub returns-in-Accepted-clause-so_far : goal.returns-in-Accepted-clause-so_far
returns-in-Accepted-clause-so_far g c =
    whole_way (forms c.args.self.now.ranks) (Some c.args.flow.now) _ _ _ c.in_ok-put.ensures.kept.whole
    (going_so (forms c.args.self.now.ranks) (Some c.args.flow.now) _ _ (AtHome c.args.flow.now (record c.args.home.now {
      store =
          c.pass.new.self;
    }))
    (subst (λ (s : Store). IsGoing (forms c.args.self.now.ranks) (Some c.args.flow.now) (g.R.Rank.link c.put.new.link).said
    (AtHome c.args.flow.now (record c.args.home.now { store = s }))) (sym c.pass.ensures)
    (rule_taken_is (forms c.args.self.now.ranks) c.args.flow.now _ c.args.home.now c.requires.going c.args.unit c.requires.next
    c.requires.carries c.put.ensures.fits _
    (replied_by _ _ (put_of (flows (forms c.args.self.now.ranks)) (Rule c.args.unit.number c.args.unit.op c.args.unit.left
    c.args.unit.right)) _ replies.Accepted c.in_ok-put.ensures.says c.in-Accepted.is))) refl)

pub returns-in-Accepted-clause-less : goal.returns-in-Accepted-clause-less
returns-in-Accepted-clause-less g c =
    λ e. passed_less c.args.home.now.store c.pass.new.self c.pass.ensures
    (get_within c.args.home.now.store.ready.items c.args.home.now.store.next c.args.unit.number c.requires.next)

pub returns-in-Ok-clause-told : goal.returns-in-Ok-clause-told
returns-in-Ok-clause-told g c =
    subst (λ (s : Store). IsGoing (forms c.args.self.now.ranks) (Some c.args.flow.now) (g.R.Rank.link c.put.new.link).said
    (AtHome c.args.flow.now (record c.args.home.now { store = s }))) (sym c.pass-in-Rejected.ensures)
    (rule_worked_is (forms c.args.self.now.ranks) c.args.flow.now _ c.args.home.now c.requires.going c.args.unit c.requires.next
    c.requires.carries c.put.ensures.fits _ c.keep.new.self
    (replied_by _ _ (put_of (flows (forms c.args.self.now.ranks)) (Rule c.args.unit.number c.args.unit.op c.args.unit.left
    c.args.unit.right)) _ replies.Rejected c.in_ok-put.ensures.says c.in-Rejected.is) c.in-Ok.ensures.out
    (c.in-Ok.ensures.values ∙ ap (first_stays c.args.home.now.store.values.items c.args.unit.number) c.apply-value.ensures)
    c.in-Ok.ensures.next c.in-Ok.ensures.grows)

pub returns-in-Ok-clause-so_far : goal.returns-in-Ok-clause-so_far
returns-in-Ok-clause-so_far g c =
    whole_way (forms c.args.self.now.ranks) (Some c.args.flow.now) _ _ _ c.in_ok-put.ensures.kept.whole
    (going_so (forms c.args.self.now.ranks) (Some c.args.flow.now) _ _
    (AtHome c.args.flow.now (record c.args.home.now { store = c.pass-in-Rejected.new.self }))
    (subst (λ (s : Store). IsGoing (forms c.args.self.now.ranks) (Some c.args.flow.now) (g.R.Rank.link c.put.new.link).said
    (AtHome c.args.flow.now (record c.args.home.now { store = s }))) (sym c.pass-in-Rejected.ensures)
    (rule_worked_is (forms c.args.self.now.ranks) c.args.flow.now _ c.args.home.now c.requires.going c.args.unit c.requires.next
    c.requires.carries c.put.ensures.fits _ c.keep.new.self
    (replied_by _ _ (put_of (flows (forms c.args.self.now.ranks)) (Rule c.args.unit.number c.args.unit.op c.args.unit.left
    c.args.unit.right)) _ replies.Rejected c.in_ok-put.ensures.says c.in-Rejected.is) c.in-Ok.ensures.out
    (c.in-Ok.ensures.values ∙ ap (first_stays c.args.home.now.store.values.items c.args.unit.number) c.apply-value.ensures)
    c.in-Ok.ensures.next c.in-Ok.ensures.grows)) refl)

pub returns-in-Ok-clause-less : goal.returns-in-Ok-clause-less
returns-in-Ok-clause-less g c =
    λ e.
    let less = passed_less c.keep.new.self c.pass-in-Rejected.new.self c.pass-in-Rejected.ensures
    (get_within c.keep.new.self.ready.items c.keep.new.self.next c.args.unit.number
    (ap (slice_get c.keep.new.self.ready.items) c.in-Ok.ensures.next
    ∙ get_grown c.args.home.now.store.ready.items c.keep.new.self.ready.items c.args.home.now.store.next c.args.unit.number
    c.in-Ok.ensures.grows c.requires.next)) in
    omega (arith, less, c.in-Ok.ensures.left)

pub returns-in-Ended-clause-told : goal.returns-in-Ended-clause-told
returns-in-Ended-clause-told g c =
    rule_over_is (forms c.args.self.now.ranks) c.args.flow.now _ c.args.home.now c.requires.going c.args.unit c.requires.next
    c.requires.carries c.put.ensures.fits _ c.in-Ended.field-0
    (replied_by _ _ (put_of (flows (forms c.args.self.now.ranks)) (Rule c.args.unit.number c.args.unit.op c.args.unit.left
    c.args.unit.right)) _ (replies.Ended c.in-Ended.field-0) c.in_ok-put.ensures.says c.in-Ended.is)

pub returns-in-Ended-clause-so_far : goal.returns-in-Ended-clause-so_far
returns-in-Ended-clause-so_far g c =
    whole_way (forms c.args.self.now.ranks) (Some c.args.flow.now) _ _ _ c.in_ok-put.ensures.kept.whole
    (stopped_so (forms c.args.self.now.ranks) (Some c.args.flow.now) _ (Stored c.args.flow.now c.args.home.now) (rule_over_is (forms
    c.args.self.now.ranks) c.args.flow.now _ c.args.home.now c.requires.going c.args.unit c.requires.next c.requires.carries
    c.put.ensures.fits _ c.in-Ended.field-0
    (replied_by _ _ (put_of (flows (forms c.args.self.now.ranks)) (Rule c.args.unit.number c.args.unit.op c.args.unit.left
    c.args.unit.right)) _ (replies.Ended c.in-Ended.field-0) c.in_ok-put.ensures.says c.in-Ended.is)))
