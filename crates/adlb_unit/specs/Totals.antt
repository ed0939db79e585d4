-- How many bytes a fetch gives.
use Rattle.std.specs.Prelude.{ℕ, ◌+◌, Option, Some, None}
use Rattle.adlb_unit.specs.declared.names.CommonRef.{CommonRef}
use Rattle.adlb_unit.specs.declared.notes.UnitNote.{UnitNote}

-- the bytes of the common part, if there is one
abbrev pub common_length : Option CommonRef → ℕ
common_length None = 0
common_length (Some part) = part.length

-- those of the common part and the unit's own
abbrev pub total_of : UnitNote → ℕ
total_of note = common_length note.common + note.length
