use Rattle.std.proofs.Common.{◌≡◌, ◌+◌, ◌*◌, ◌≤◌, ◌++◌, take}
use Rattle.std.specs.List.{All, flat_map}
use Rattle.std.specs.Vec.{vec_capacity, vec_len}
use Rattle.packed_ledger.specs.inside.Codes.{kind_code, kind_fits}
use Rattle.packed_ledger.proofs.codes.push_kinds.Given as goal

abbrev pub invariant-loop-kind : goal.invariant-loop-kind
invariant-loop-kind l =
    (l.bytes.items ≡ l.initial.bytes.items ++ flat_map kind_code (take l.kind-index l.kinds))
    × (vec_len l.bytes ≤ vec_len l.initial.bytes + 5 * l.kind-index)
    × (vec_capacity l.bytes ≡ vec_capacity l.initial.bytes)
    × All kind_fits (take l.kind-index l.kinds)
