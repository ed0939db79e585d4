use Rattle.std.proofs.Common.{◌∙◌, ap, sym}
use Rattle.server_components.proofs.Lookups.{by_order_is}
use Rattle.server_components.proofs.Ordered.{absent_is, written_is}
use Rattle.server_components.specs.Store.{Store, closed, with_turned}
use Rattle.server_components.specs.declared.tables.Table.TheInside.{Inside}
use Rattle.server_components.proofs.tables.Table.close.Goals as goal
use Rattle.server_components.proofs.tables.Table.close.Goals.{in-Some, in_default}

pub returns : goal.returns
returns c =
    let held = c.self.inside.held.entries in
    let f = closed c.args.accepted in
    let seen = by_order_is held c.args.batch in
    elim c.match-get_mut.branch [
      | in-Some w ↦
          ap (λ (i : Inside). i.held.entries) w.self-inside-is ∙ (c.get_mut.follows.holds _).0
          ∙ written_is f c.args.batch held w.in-Some.part.now c.self.invariant (sym seen ∙ sym w.in-Some.ensures.value)
          ∙ ap (λ (s : Store). with_turned s c.args.batch f) c.self.view_is
      | in_default w ↦
          ap (λ (i : Inside). i.held.entries) (w.self-inside-is) ∙ ap (λ (m : _). m.entries) c.get_mut.follows.holds-at-none
          ∙ sym (absent_is f c.args.batch held (sym seen ∙ sym w.in_default.ensures.value))
          ∙ ap (λ (s : Store). with_turned s c.args.batch f) c.self.view_is
    ]
