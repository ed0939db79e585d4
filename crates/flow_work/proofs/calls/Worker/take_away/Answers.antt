use Rattle.std.proofs.Common.{Some, None, Option, refl, sym, subst}
use Rattle.adlb_rank.specs.Calls.{Takes}
use Rattle.bag_ledger.specs.declared.entries.Call.TheVariants.{Reserve}
use Rattle.flow_run_law.specs.Units.{FlowUnit}
use Rattle.flow_units.specs.Bodies.{forms}
use Rattle.flow_work.specs.Working.{Fresh, HasCome, HasTried, Keeping}
use Rattle.flow_work.proofs.Calling.{so_open}
use Rattle.flow_work.proofs.Steps.{away_may, come_so, going_so, stopped_so, take_way, told_is, took_is}
use Rattle.flow_work.proofs.Ways.{whole_way}
use Rattle.flow_work.proofs.calls.Worker.take_away.Goals as goal

pub take-requires-clause-running : goal.take-requires-clause-running
take-requires-clause-running g c =
    so_open (forms c.args.self.now.ranks) None _ (going_so (forms c.args.self.now.ranks) None _ _ (HasTried c.args.kept.now.items)
    c.requires.going refl)

pub returns-in_err-note-clause-so_far : goal.returns-in_err-note-clause-so_far
returns-in_err-note-clause-so_far g c =
    take_way (forms c.args.self.now.ranks) None _ (HasTried c.args.kept.now.items) c.requires.going (away_may (forms
    c.args.self.now.ranks) _ c.args.kept.now.items c.requires.going) _ _ c.in_err-note.ensures.part

pub returns-in_default-clause-so_far : goal.returns-in_default-clause-so_far
returns-in_default-clause-so_far g c =
    whole_way (forms c.args.self.now.ranks) None _ _ _ c.in_ok-note.ensures.kept.whole
    (come_so (forms c.args.self.now.ranks) None _ (Fresh c.args.kept.now.items) _ (took_is (forms c.args.self.now.ranks) None _ (HasTried
    c.args.kept.now.items) c.requires.going (away_may (forms c.args.self.now.ranks) _ c.args.kept.now.items c.requires.going) _
    c.in-Unit.note c.in-Unit.body (Fresh c.args.kept.now.items) (c.requires.going.agrees.0, refl)
    (subst (λ t. Takes (Reserve None) (g.R.Rank.link c.args.link.now).said (g.R.Rank.link c.take.new.link).said t) c.in-Unit.is
    c.in_ok-note.ensures.takes).0))

pub receive_away-requires-clause-came : goal.receive_away-requires-clause-came
receive_away-requires-clause-came g c =
    subst (λ (u : Option FlowUnit). HasCome (forms c.args.self.now.ranks) None (g.R.Rank.link c.take.new.link).said (Fresh
    c.args.kept.now.items) u) (sym c.in-Ok.ensures)
    (took_is (forms c.args.self.now.ranks) None _ (HasTried c.args.kept.now.items) c.requires.going (away_may (forms
    c.args.self.now.ranks) _ c.args.kept.now.items c.requires.going) _ c.in-Unit.note c.in-Unit.body (Fresh c.args.kept.now.items)
    (c.requires.going.agrees.0, refl)
    (subst (λ t. Takes (Reserve None) (g.R.Rank.link c.args.link.now).said (g.R.Rank.link c.take.new.link).said t) c.in-Unit.is
    c.in_ok-note.ensures.takes).0)

pub returns-in-Ended-clause-told : goal.returns-in-Ended-clause-told
returns-in-Ended-clause-told g c =
    told_is (forms c.args.self.now.ranks) None _ (HasTried c.args.kept.now.items) c.requires.going (away_may (forms c.args.self.now.ranks)
    _ c.args.kept.now.items c.requires.going) _ c.in-Ended.field-0 (Keeping c.args.kept.now.items) c.requires.going.agrees
    c.requires.going.agrees.0
    (subst (λ t. Takes (Reserve None) (g.R.Rank.link c.args.link.now).said (g.R.Rank.link c.take.new.link).said t) c.in-Ended.is
    c.in_ok-note.ensures.takes)

pub returns-in-Ended-clause-so_far : goal.returns-in-Ended-clause-so_far
returns-in-Ended-clause-so_far g c =
    whole_way (forms c.args.self.now.ranks) None _ _ _ c.in_ok-note.ensures.kept.whole
    (stopped_so (forms c.args.self.now.ranks) None _ (Keeping c.args.kept.now.items) (told_is (forms c.args.self.now.ranks) None _
    (HasTried c.args.kept.now.items) c.requires.going (away_may (forms c.args.self.now.ranks) _ c.args.kept.now.items c.requires.going) _
    c.in-Ended.field-0 (Keeping c.args.kept.now.items) c.requires.going.agrees c.requires.going.agrees.0
    (subst (λ t. Takes (Reserve None) (g.R.Rank.link c.args.link.now).said (g.R.Rank.link c.take.new.link).said t) c.in-Ended.is
    c.in_ok-note.ensures.takes)))
