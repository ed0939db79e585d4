use Rattle.std.proofs.Common.{◌≡◌, ◌++◌, List}
use Rattle.std.specs.Vec.{vec_capacity}
use Rattle.std.specs.Vec.Iter.{drain_capacity, drain_items}
use Rattle.bag_ledger.specs.declared.entries.Entry.{Entry}
use Rattle.core_world.proofs.steps.enter.Given as goal

-- the entries that were entered, those that are left, and the list's room
abbrev pub invariant-loop-entry : goal.invariant-loop-entry
invariant-loop-entry l =
    (front : List Entry) × (l.fn.entries.items ≡ front ++ drain_items l.entry-iterator) × (l.ledger ≡ l.fn.ledger ++ front)
    × (drain_capacity l.entry-iterator ≡ vec_capacity l.fn.entries)
