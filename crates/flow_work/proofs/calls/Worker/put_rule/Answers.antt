use Rattle.std.proofs.Common.{Some, refl, sym, subst}
use Rattle.flow_app.specs.declared.stores.Store.{Store}
use Rattle.flow_units.specs.Bodies.{forms}
use Rattle.flow_work.specs.Working.{AtHome, IsGoing}
use Rattle.flow_work.proofs.Homes.{carries_by, get_within, passed_less, ready_inside}
use Rattle.flow_work.proofs.Steps.{going_so, passed_is}
use Rattle.flow_work.proofs.Ways.{whole_way}
use Rattle.flow_work.proofs.calls.Worker.put_rule.Goals as goal

pub rule-requires-clause-inside : goal.rule-requires-clause-inside
rule-requires-clause-inside g c =
    ready_inside c.args.flow.now c.args.home.now.store c.args.number c.requires.going.agrees.0.out c.requires.next

pub put_ready-requires-clause-carries : goal.put_ready-requires-clause-carries
put_ready-requires-clause-carries g c =
    carries_by c.args.flow.now c.args.home.now.store c.args.number c.in-Some.rule
    (ready_inside c.args.flow.now c.args.home.now.store c.args.number c.requires.going.agrees.0.out c.requires.next) c.in-Some.ensures

pub pass-requires : goal.pass-requires
pass-requires g c =
    record { more = get_within c.args.home.now.store.ready.items c.args.home.now.store.next c.args.number c.requires.next }

pub returns-in-None-clause-told : goal.returns-in-None-clause-told
returns-in-None-clause-told g c =
    subst (λ (s : Store). IsGoing (forms c.args.self.now.ranks) (Some c.args.flow.now) (g.R.Rank.link c.args.link.now).said
    (AtHome c.args.flow.now (record c.args.home.now { store = s }))) (sym c.pass.ensures)
    (passed_is (forms c.args.self.now.ranks) c.args.flow.now _ c.args.home.now c.requires.going c.args.number c.requires.next
    c.in-None.ensures)

pub returns-in-None-clause-so_far : goal.returns-in-None-clause-so_far
returns-in-None-clause-so_far g c =
    whole_way (forms c.args.self.now.ranks) (Some c.args.flow.now) _ _ _ c.requires.ready.whole
    (going_so (forms c.args.self.now.ranks) (Some c.args.flow.now) _ _ (AtHome c.args.flow.now (record c.args.home.now {
      store =
          c.pass.new.self;
    }))
    (subst (λ (s : Store). IsGoing (forms c.args.self.now.ranks) (Some c.args.flow.now) (g.R.Rank.link c.args.link.now).said
    (AtHome c.args.flow.now (record c.args.home.now { store = s }))) (sym c.pass.ensures)
    (passed_is (forms c.args.self.now.ranks) c.args.flow.now _ c.args.home.now c.requires.going c.args.number c.requires.next
    c.in-None.ensures)) refl)

pub returns-in-None-clause-less : goal.returns-in-None-clause-less
returns-in-None-clause-less g c =
    λ e. passed_less c.args.home.now.store c.pass.new.self c.pass.ensures (get_within c.args.home.now.store.ready.items
    c.args.home.now.store.next c.args.number c.requires.next)
