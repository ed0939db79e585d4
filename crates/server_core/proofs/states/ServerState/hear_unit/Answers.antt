use Rattle.bag_ledger.specs.declared.entries.Entry.TheVariants as enters
use Rattle.server_core.proofs.Prelude.{◌≡◌, Out, Queue, arrives_goes, going_on, made, moved, refl, settled_config, settles, state_of, subst}
use Rattle.server_core.proofs.Prelude.{with_entry}
use Rattle.server_core.proofs.states.ServerState.hear_unit.Goals as goal

pub arrive-requires-clause-promised : goal.arrive-requires-clause-promised
arrive-requires-clause-promised c = (rw (← c.self.view_is) at c.requires.awaited).1

pub say-requires-clause-actor : goal.say-requires-clause-actor
say-requires-clause-actor c =
    let v = moved (state_of c.self.inside) c.arrive.new.self c.self.inside.pushes.pushing in
    let same = settled_config c.args.unit.id v c.settle.new.self c.enter.new.self c.settle.new.out c.settle.ensures.made in
    rw same (rw (← c.self.view_is) at c.requires.server)

pub returns-clause-made : goal.returns-clause-made
returns-clause-made c =
    let s = state_of c.self.inside in
    let Settled : Queue → Out → Type 0 = λ q o.
    let v = moved s q s.kept.pushing in
    made c.settle.new.self c.settle.new.out ≡ going_on o (settles c.args.unit.id v) v in
    let entered = subst (Settled c.arrive.new.self) c.enter.ensures c.settle.ensures.made in
    let settled = subst (λ q. Settled q (with_entry c.args.out.now (enters.Arrived s.me c.args.unit.id))) c.arrive.ensures entered in
    rw (← c.self.view_is)
    (arrives_goes s c.args.out.now c.args.from c.args.unit refl c.settle.new.self c.settle.new.out settled _ _ c.say.ensures.counted
    c.say.ensures.told)
