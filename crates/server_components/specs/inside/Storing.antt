-- The fields of a store.
use Rattle.std.specs.Prelude.{◌≡◌, ◌≤◌, Some, length}
use Rattle.adlb_unit.specs.Limits.{body_limit}
use Rattle.adlb_unit.specs.declared.names.BatchId.{BatchId}
use Rattle.server_components.specs.Store.{Store, part_in}
use Rattle.server_components.specs.declared.parts.Part.{Part}

-- no part has more bytes than a common part may have
abbrev pub IsSmall : Store → Type 0
IsSmall store = (batch : BatchId) (p : Part) → part_in store batch ≡ Some p → length p.bytes ≤ body_limit
