use Rattle.std.proofs.Common.{◌≡◌, ◌<◌, IsSome, None, Some, ap, ◌∙◌, arith, get_or, is_some, length, sym, true}
use Rattle.std.proofs.lemmas.Bool.{false≢true}
use Rattle.std.proofs.lemmas.List.{get_or_default}
use Rattle.std.proofs.lemmas.Option.{same_Some, slice_get_within}
use Rattle.slab.specs.Slab.{get}
use Rattle.work_queue.proofs.Units.{length-units, unit_under}
use Rattle.work_queue.specs.declared.placing.Placed.{Placed}
use Rattle.work_queue.proofs.searching.stamped.Goals as goal

pub unreachable-requires : goal.unreachable-requires
unreachable-requires c =
    let order = c.args.order.now.items in
    let k = c.requires.known in
    let place = c.place_of-place.result in
    let within : place < length order = omega (arith, c.place_of-place.ensures k.0 c.args.stamp k.1 k.2, k.1, c.requires.long) in
    let key = c.at.result in
    let some : IsSome (get c.args.slots.now key) = rw (sym c.at.ensures) at (c.requires.there place key within) in
    let none : None ≡ get c.args.slots.now key = c.in_default.ensures in
    let no : is_some {T = Placed} None ≡ true = rw (sym none) at some in
    false≢true no

pub returns : goal.returns
returns c place p at is =
    let order = c.args.order.now.items in
    let long = length-units c.args.slots.now order c.requires.there in
    let inside = slice_get_within _ place p at in
    let within : place < length order = omega (arith, long, inside) in
    let same = c.place_of-place.ensures place 0 (omega (arith, within, c.requires.long)) is in
    let key = c.at.result in
    let key_is : key ≡ get_or order place 0 = c.at.ensures ∙ ap (λ k. get_or order k key) same ∙ get_or_default order place key 0 within in
    let found : Some c.in-Some.placed.now ≡ get c.args.slots.now key = c.in-Some.ensures in
    same_Some c.in-Some.placed.now p
    (found ∙ ap (λ k. get c.args.slots.now k) key_is ∙ sym (unit_under c.args.slots.now order c.requires.there place within) ∙ at)
