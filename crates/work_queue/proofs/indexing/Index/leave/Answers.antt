use Rattle.std.proofs.Common.{◌≡◌, arith, true}
use Rattle.std.proofs.lemmas.Bool.{false≢true}
use Rattle.std.proofs.lemmas.List.Quantifiers.{all_pairs_remove}
use Rattle.std.proofs.lemmas.List.Sorted.{IsPermutation-remove}
use Rattle.work_queue.proofs.Orders.{before_self}
use Rattle.work_queue.proofs.Sorted.{stands_at, stands_once}
use Rattle.work_queue.specs.inside.Index.{goes_before}
use Rattle.work_queue.specs.declared.entries.Entry.{Entry}
use Rattle.work_queue.proofs.indexing.Index.leave.Goals as goal

pub returns-clause-entries : goal.returns-clause-entries
returns-clause-entries c =
    let here = stands_at goes_before before_self c.args.self.now.entries.items c.args.entry.now c.place_for-place.result c.requires.order
    c.place_for-place.ensures.within c.place_for-place.ensures.point c.requires.there in
    rw c.in-Some.ensures.items (IsPermutation-remove c.args.self.now.entries.items c.place_for-place.result c.args.entry.now here.0 here.1)

pub returns-clause-order : goal.returns-clause-order
returns-clause-order c =
    let R : Entry → Entry → Type 0 = λ a b. goes_before a b ≡ true in
    let here = stands_at goes_before before_self c.args.self.now.entries.items c.args.entry.now c.place_for-place.result c.requires.order
    c.place_for-place.ensures.within c.place_for-place.ensures.point c.requires.there in
    rw c.in-Some.ensures.items (all_pairs_remove R c.args.self.now.entries.items c.place_for-place.result here.0 c.requires.order)

pub returns-clause-gone : goal.returns-clause-gone
returns-clause-gone c =
    rw c.in-Some.ensures.items
    (stands_once goes_before before_self c.args.self.now.entries.items c.args.entry.now c.place_for-place.result c.requires.order
    c.place_for-place.ensures.within c.place_for-place.ensures.point c.requires.there)

pub unreachable-requires : goal.unreachable-requires
unreachable-requires c =
    let here = stands_at goes_before before_self c.args.self.now.entries.items c.args.entry.now c.place_for-place.result c.requires.order
    c.place_for-place.ensures.within c.place_for-place.ensures.point c.requires.there in
    let within = here.0 in
    false≢true (c.in-None.ensures.variant.1 (omega (arith, within)))
