use Rattle.std.proofs.Common.{Some, None, Option, refl, sym, subst}
use Rattle.adlb_rank.specs.Calls.{Takes}
use Rattle.bag_ledger.specs.declared.entries.Call.TheVariants.{Reserve}
use Rattle.flow_run_law.specs.Units.{FlowUnit}
use Rattle.flow_units.specs.Bodies.{forms}
use Rattle.flow_work.specs.Working.{AllPut, AtHome, HasCome, Stored}
use Rattle.flow_work.proofs.Calling.{so_open}
use Rattle.flow_work.proofs.Steps.{home_may, come_so, going_so, stopped_so, take_way, told_is, took_is}
use Rattle.flow_work.proofs.Ways.{whole_way}
use Rattle.flow_work.proofs.calls.Worker.take_home.Goals as goal

pub take-requires-clause-running : goal.take-requires-clause-running
take-requires-clause-running g c =
    so_open (forms c.args.self.now.ranks) (Some c.args.flow.now) _ (going_so (forms c.args.self.now.ranks) (Some c.args.flow.now) _ _
    (AllPut c.args.flow.now c.args.home.now) c.requires.going refl)

pub returns-in_err-note-clause-so_far : goal.returns-in_err-note-clause-so_far
returns-in_err-note-clause-so_far g c =
    take_way (forms c.args.self.now.ranks) (Some c.args.flow.now) _ (AllPut c.args.flow.now c.args.home.now) c.requires.going (home_may
    (forms c.args.self.now.ranks) c.args.flow.now _ c.args.home.now c.requires.going) _ _ c.in_err-note.ensures.part

pub returns-in_default-clause-so_far : goal.returns-in_default-clause-so_far
returns-in_default-clause-so_far g c =
    whole_way (forms c.args.self.now.ranks) (Some c.args.flow.now) _ _ _ c.in_ok-note.ensures.kept.whole
    (come_so (forms c.args.self.now.ranks) (Some c.args.flow.now) _ (AtHome c.args.flow.now c.args.home.now) _ (took_is (forms
    c.args.self.now.ranks) (Some c.args.flow.now) _ (AllPut c.args.flow.now c.args.home.now) c.requires.going (home_may (forms
    c.args.self.now.ranks) c.args.flow.now _ c.args.home.now c.requires.going) _ c.in-Unit.note c.in-Unit.body (AtHome c.args.flow.now
    c.args.home.now) (c.requires.going.agrees.0, c.requires.going.agrees.1)
    (subst (λ t. Takes (Reserve None) (g.R.Rank.link c.args.link.now).said (g.R.Rank.link c.take.new.link).said t) c.in-Unit.is
    c.in_ok-note.ensures.takes).0))

pub receive_home-requires-clause-came : goal.receive_home-requires-clause-came
receive_home-requires-clause-came g c =
    subst (λ (u : Option FlowUnit). HasCome (forms c.args.self.now.ranks) (Some c.args.flow.now) (g.R.Rank.link c.take.new.link).said
    (AtHome c.args.flow.now c.args.home.now) u) (sym c.in-Ok.ensures)
    (took_is (forms c.args.self.now.ranks) (Some c.args.flow.now) _ (AllPut c.args.flow.now c.args.home.now) c.requires.going (home_may
    (forms c.args.self.now.ranks) c.args.flow.now _ c.args.home.now c.requires.going) _ c.in-Unit.note c.in-Unit.body (AtHome
    c.args.flow.now c.args.home.now) (c.requires.going.agrees.0, c.requires.going.agrees.1)
    (subst (λ t. Takes (Reserve None) (g.R.Rank.link c.args.link.now).said (g.R.Rank.link c.take.new.link).said t) c.in-Unit.is
    c.in_ok-note.ensures.takes).0)

pub returns-in-Ended-clause-told : goal.returns-in-Ended-clause-told
returns-in-Ended-clause-told g c =
    told_is (forms c.args.self.now.ranks) (Some c.args.flow.now) _ (AllPut c.args.flow.now c.args.home.now) c.requires.going (home_may
    (forms c.args.self.now.ranks) c.args.flow.now _ c.args.home.now c.requires.going) _ c.in-Ended.field-0 (Stored c.args.flow.now
    c.args.home.now) c.requires.going.agrees c.requires.going.agrees.0
    (subst (λ t. Takes (Reserve None) (g.R.Rank.link c.args.link.now).said (g.R.Rank.link c.take.new.link).said t) c.in-Ended.is
    c.in_ok-note.ensures.takes)

pub returns-in-Ended-clause-so_far : goal.returns-in-Ended-clause-so_far
returns-in-Ended-clause-so_far g c =
    whole_way (forms c.args.self.now.ranks) (Some c.args.flow.now) _ _ _ c.in_ok-note.ensures.kept.whole
    (stopped_so (forms c.args.self.now.ranks) (Some c.args.flow.now) _ (Stored c.args.flow.now c.args.home.now) (told_is (forms
    c.args.self.now.ranks) (Some c.args.flow.now) _ (AllPut c.args.flow.now c.args.home.now) c.requires.going (home_may (forms
    c.args.self.now.ranks) c.args.flow.now _ c.args.home.now c.requires.going) _ c.in-Ended.field-0 (Stored c.args.flow.now
    c.args.home.now) c.requires.going.agrees c.requires.going.agrees.0
    (subst (λ t. Takes (Reserve None) (g.R.Rank.link c.args.link.now).said (g.R.Rank.link c.take.new.link).said t) c.in-Ended.is
    c.in_ok-note.ensures.takes)))
