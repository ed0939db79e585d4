-- The bytes of a payload.
use Rattle.std.specs.Prelude.{ℕ, List}
use Rattle.std.specs.Arc.{arc_value}
use Rattle.adlb_unit.specs.declared.payloads.Held.{Held}
use Rattle.adlb_unit.specs.declared.payloads.Held.TheVariants.{Own, Shared}

-- the bytes, whoever else holds them
abbrev pub bytes_of : Held → List ℕ
bytes_of (Own bytes) = bytes.items
bytes_of (Shared shared) = (arc_value shared).items
