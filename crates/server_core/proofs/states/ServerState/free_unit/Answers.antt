use Rattle.server_core.proofs.Prelude.{◌≡◌, All-contains, HasFree, Placed, UnitFacts, ap, facts_of, free_is, free_there, id_of, none_free}
use Rattle.server_core.proofs.Prelude.{refl}
use Rattle.server_core.proofs.states.ServerState.free_unit.Goals as goal

pub returns-then-not-is_free : goal.returns-then-not-is_free
returns-then-not-is_free c =
    let unfree : HasFree c.args.id c.self.inside.queue.units → ⊥ = λ free. let there = c.is_free.ensures.1 free in absurd (cc) in
    rw (← c.self.view_is, none_free c.args.id c.self.inside.queue.units unfree) refl

pub returns : goal.returns
returns c =
    let units = c.self.inside.queue.units in
    let p = free_there c.args.id units (c.is_free.ensures.0 c.if-not-is_free.false) in
    let is = free_is c.args.id units p.0 p.1 in
    let Tells : Placed → Type 0 = λ u. id_of u ≡ c.args.id → c.facts-target.result.0 ≡ facts_of u in
    let Aims : Placed → Type 0 = λ u. id_of u ≡ c.args.id → c.facts-target.result.1 ≡ u.unit.target in
    let kind = ap (λ (f : UnitFacts). f.kind) (All-contains Tells units p.0 c.facts-target.ensures.facts is.2 is.0) in
    let aim = All-contains Aims units p.0 c.facts-target.ensures.target is.2 is.0 in
    rw (← c.self.view_is, p.1, kind, aim) refl
