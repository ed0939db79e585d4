use Rattle.std.proofs.Common.{ℕ, ◌≡◌, ◌++◌, List, length, take, drop}
use Rattle.std.specs.List.{All, flat_map}
use Rattle.adlb_unit.specs.declared.names.WorkType.{WorkType}
use Rattle.packed_ledger.specs.inside.Codes.{kind_code, kind_fits}
use Rattle.packed_ledger.proofs.codes.read_types.Given as goal

abbrev pub invariant-loop-i : goal.invariant-loop-i
invariant-loop-i l =
    (length l.kinds ≡ 16)
    × ((kinds : List WorkType) (left : List ℕ) → l.fn.count ≡ length kinds → All kind_fits kinds
    → l.fn.bytes ≡ flat_map kind_code kinds ++ left
    → (take l.i l.kinds ≡ take l.i kinds) × (l.rest ≡ flat_map kind_code (drop l.i kinds) ++ left))
