-- What is counted of the free units of a type.
use Rattle.std.specs.Prelude.{◌==◌, ◌&&◌, ℤ, Bool, List, map, filter, is_none}
use Rattle.adlb_unit.specs.Infos.{info_of_prios}
use Rattle.adlb_unit.specs.declared.names.WorkType.{WorkType}
use Rattle.adlb_unit.specs.declared.notes.Info.{Info}
use Rattle.work_queue.specs.declared.placing.Placed.{Placed}

-- the unit is free and of the type
abbrev pub is_counted : WorkType → Placed → Bool
is_counted kind p = is_none p.pin && (p.unit.kind.0 == kind.0)

-- the priorities of the free units of the type
abbrev pub prios_of : WorkType → List Placed → List ℤ
prios_of kind units = map (λ p. p.unit.prio) (filter (is_counted kind) units)

-- what a count of the type tells
abbrev pub counts_of : WorkType → List Placed → Info
counts_of kind units = info_of_prios (prios_of kind units)
