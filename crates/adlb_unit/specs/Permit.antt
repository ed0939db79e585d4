-- Which units are permitted to a rank, and which of them suit it better.
use Rattle.std.specs.Prelude.{◌≡◌, ◌<◌, ℕ, nat_lt, List, Option, Some, None, Contains, Bool, true, ◌&&◌, ◌==◌, if◌then◌else◌}
use Rattle.std.specs.List.{list_any}
use Rattle.adlb_unit.specs.declared.names.Rank.{Rank}
use Rattle.adlb_unit.specs.declared.names.WorkType.{WorkType}
use Rattle.adlb_unit.specs.declared.names.Target.{Target}
use Rattle.adlb_unit.specs.declared.names.Target.TheVariants.{Any, Only, Soft}

-- The class of a target for an asking rank, the nearest first. It is 0 for this rank alone, 1 for this rank before others, 2 for any, and 3
-- for another rank before this one. A target that is another rank alone is of class 4, and its unit is not given to the asking rank.
abbrev pub class_for : Rank → Target → ℕ
class_for rank (Only only) = if only.0 == rank.0 then 0 else 4
class_for rank (Soft first) = if first.0 == rank.0 then 1 else 3
class_for rank Any = 2

-- any type is wanted, or the list has it
abbrev pub HasKind : Option (List WorkType) → WorkType → Type 0
HasKind None kind = Unit {0}
HasKind (Some kinds) kind = Contains kinds kind

-- the target lets the rank have the unit
abbrev pub IsFor : Target → Rank → Type 0
IsFor target rank = class_for rank target < 4

-- a unit of this type and target is permitted to the rank for a request of these types
abbrev pub Permits : Rank → Option (List WorkType) → WorkType → Target → Type 0
Permits rank types kind target = HasKind types kind × IsFor target rank

-- as tests
abbrev pub has_kind : Option (List WorkType) → WorkType → Bool
has_kind None kind = true
has_kind (Some kinds) kind = list_any (λ k. k.0 == kind.0) kinds

-- the target lets the rank have a unit, as a test
abbrev pub is_for : Target → Rank → Bool
is_for target rank = nat_lt (class_for rank target) 4

-- what `Permits` says, as a test
abbrev pub permitted : Rank → Option (List WorkType) → WorkType → Target → Bool
permitted rank types kind target = is_for target rank && has_kind types kind
