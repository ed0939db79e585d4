use Rattle.std.proofs.Common.{◌≡◌, ◌∙◌, ◌+◌, ◌∷◌, [], Some, length, arith, sym, ap}
use Rattle.std.proofs.lemmas.List.{nil_from_length}
use Rattle.bag_ledger.specs.Step.{step}
use Rattle.ledger_checker.specs.Stops.{first_stop}
use Rattle.ledger_checker.proofs.Places.{room_behind, stop_behind}
use Rattle.ledger_checker.proofs.checking.first_stop.Goals as goal

pub loop-place-init : goal.loop-place-init
loop-place-init g c =
    let same = c.entries-entries.ensures in
    record {
      read = let long = ap length same in omega (arith, long);
      same = ap (first_stop c.args.machine.now 0) same;
      room = c.requires;
    }

pub unreachable-requires : goal.unreachable-requires
unreachable-requires g c =
    let none = rw c.in_default.is at c.in_ok-entry.ensures.next in
    let long = ap length none.0 in
    let read = c.loop-place.invariant.read in
    let len = c.len-place-end.ensures.exact in
    let within = c.loop-place-test.true in omega (arith, long, read, len, within)

pub loop-place-preserved : goal.loop-place-preserved
loop-place-preserved g c =
    let next : c.loop-place.entries ≡ c.in-Some.entry ∷ c.next.new.self = rw c.in-Some.is at c.in_ok-entry.ensures.next in
    let long = ap length next in
    let read = c.loop-place.invariant.read in
    let is : step c.loop-place.machine c.in-Some.entry ≡ Some c.apply.new.self = rw c.if-not-branch.false at c.in_ok-apply.ensures in
    record {
      read = omega (arith, long, read);
      same = stop_behind c.loop-place.machine c.apply.new.self c.in-Some.entry c.loop-place.place c.next.new.self is
          ∙ ap (first_stop c.loop-place.machine c.loop-place.place) (sym next) ∙ c.loop-place.invariant.same;
      room = room_behind c.loop-place.machine c.apply.new.self c.in-Some.entry c.loop-place.place is c.loop-place.invariant.room;
    }

pub returns-clause-stop : goal.returns-clause-stop
returns-clause-stop g c =
    let read = c.loop-place.invariant.read in
    let len = c.len-place-end.ensures.exact in
    let over = c.loop-place-test.false in
    let none : c.loop-place.entries ≡ [] = nil_from_length c.loop-place.entries (omega (arith, read, len, over)) in
    sym (ap (first_stop c.loop-place.machine c.loop-place.place) none) ∙ c.loop-place.invariant.same
