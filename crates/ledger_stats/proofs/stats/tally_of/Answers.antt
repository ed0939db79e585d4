use Rattle.std.proofs.Common.{◌≡◌, [], length, count_by, ap, arith}
use Rattle.std.proofs.lemmas.List.{nil_from_length}
use Rattle.ledger_stats.specs.inside.{told}
use Rattle.ledger_stats.specs.Stats.{counts}
use Rattle.ledger_stats.proofs.Tallying.{counted_few, counted_more, none_told}
use Rattle.ledger_stats.proofs.stats.tally_of.Goals as goal

pub loop-init : goal.loop-init
loop-init c =
    let same = c.entries-entries.ensures in
    record {
      read = let long = ap length same in omega (arith, long);
      counted = λ s. let none = none_told s in let all = ap (λ l. count_by (counts s) l) same in omega (arith, none, all);
    }

pub unreachable-requires : goal.unreachable-requires
unreachable-requires c =
    let none = rw c.in_default.is at c.in_ok-entry.ensures.next in
    let long = ap length none.0 in
    let read = c.loop.invariant.read in
    let len = c.len-end.ensures.exact in
    let within = c.loop-test.true in omega (arith, long, read, len, within)

pub add-requires : goal.add-requires
add-requires c = λ s.
    let next = rw c.in-Some.is at c.in_ok-entry.ensures.next in
    let few = counted_few (counts s) (told c.loop.tally s) c.in-Some.entry c.loop.entries c.next.new.self c.args.ledger.now next
    (c.loop.invariant.counted s) in
    let len = c.len-end.ensures.exact in omega (arith, few, len)

pub loop-preserved : goal.loop-preserved
loop-preserved c =
    let next = rw c.in-Some.is at c.in_ok-entry.ensures.next in
    let long = ap length next in
    let read = c.loop.invariant.read in
    record {
      read = omega (arith, long, read);
      counted = λ s.
          counted_more (counts s) (told c.loop.tally s) (told c.add.new.self s) c.in-Some.entry c.loop.entries c.next.new.self
          c.args.ledger.now next (c.loop.invariant.counted s) (c.add.ensures s);
    }

pub returns : goal.returns
returns c = λ s.
    let read = c.loop.invariant.read in
    let len = c.len-end.ensures.exact in
    let over = c.loop-test.false in
    let none : c.loop.entries ≡ [] = nil_from_length c.loop.entries (omega (arith, read, len, over)) in
    let counted = c.loop.invariant.counted s in
    let rest = ap (λ l. count_by (counts s) l) none in omega (arith, counted, rest)
