use Rattle.std.proofs.Common.{◌∙◌, ap, sym}
use Rattle.std.proofs.Math.Facts.{Fits-of_lt}
use Rattle.server_components.proofs.Lookups.{by_order_is}
use Rattle.server_components.proofs.Ordered.{absent_is, written_is}
use Rattle.server_components.specs.Store.{Store, fetched, part_in, with_turned}
use Rattle.server_components.specs.declared.tables.Table.TheInside.{Inside}
use Rattle.server_components.proofs.tables.Table.fetch.Goals as goal
use Rattle.server_components.proofs.tables.Table.fetch.Goals.{in-Some, in_default}

pub overflow_add-part : goal.overflow_add-part
overflow_add-part c =
    let seen = by_order_is c.self.inside.held.entries c.args.batch in
    Fits-of_lt (c.requires c.in-Some.part.now (ap (λ (s : Store). part_in s c.args.batch) (sym c.self.view_is) ∙ sym seen
    ∙ sym c.in-Some.ensures.value))

pub returns : goal.returns
returns c =
    let held = c.self.inside.held.entries in
    let seen = by_order_is held c.args.batch in
    elim c.match-get_mut.branch [
      | in-Some w ↦
          ap (λ (i : Inside). i.held.entries) w.self-inside-is ∙ (c.get_mut.follows.holds _).0
          ∙ written_is fetched c.args.batch held w.in-Some.part.now c.self.invariant (sym seen ∙ sym w.in-Some.ensures.value)
          ∙ ap (λ (s : Store). with_turned s c.args.batch fetched) c.self.view_is
      | in_default w ↦
          ap (λ (i : Inside). i.held.entries) w.self-inside-is ∙ ap (λ (m : _). m.entries) c.get_mut.follows.holds-at-none
          ∙ sym (absent_is fetched c.args.batch held (sym seen ∙ sym w.in_default.ensures.value))
          ∙ ap (λ (s : Store). with_turned s c.args.batch fetched) c.self.view_is
    ]
