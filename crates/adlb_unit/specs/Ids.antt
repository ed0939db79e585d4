-- The tests that two ids are equal.
use Rattle.std.specs.Prelude.{Bool, ◌&&◌, ◌==◌}
use Rattle.adlb_unit.specs.declared.names.BatchId.{BatchId}
use Rattle.adlb_unit.specs.declared.names.UnitId.{UnitId}

-- two ids of units are equal
abbrev pub same_unit : UnitId → UnitId → Bool
same_unit a b = (a.rank.0 == b.rank.0) && (a.number == b.number)

-- two ids of batches are equal
abbrev pub same_batch : BatchId → BatchId → Bool
same_batch a b = (a.rank.0 == b.rank.0) && (a.number == b.number)
