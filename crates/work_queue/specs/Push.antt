-- The free unit that is pushed first.
use Rattle.std.specs.Prelude.{◌≡◌, ◌≢◌, ◌⊎◌, ◌<◌, ◌<ℤ◌, ℕ, List, length, Bool, true, false, ◌&&◌, fold, Option, Some, None, if◌then◌else◌}
use Rattle.std.specs.Prelude.{is_none, int_le}
use Rattle.std.specs.List.{slice_get}
use Rattle.std.specs.Option.{option_map}
use Rattle.adlb_unit.specs.declared.names.Target.{Target}
use Rattle.adlb_unit.specs.declared.names.Target.TheVariants.{Any}
use Rattle.adlb_unit.specs.declared.names.UnitId.{UnitId}
use Rattle.work_queue.specs.Queue.{id_of, size_of}
use Rattle.work_queue.specs.declared.placing.Placed.{Placed}
use Rattle.work_queue.specs.declared.pushing.Candidate.{Candidate}

-- the unit is free and for any rank
abbrev pub IsMovable : Placed → Type 0
IsMovable p = (p.pin ≡ None) × (p.unit.target ≡ Any)

-- p at its place goes before q at another: by the lower priority, otherwise by the later arrival
abbrev pub GoesBefore : ℕ → Placed → ℕ → Placed → Type 0
GoesBefore place p other q = (p.unit.prio <ℤ q.unit.prio) ⊎ ((p.unit.prio ≡ q.unit.prio) × (other < place))

-- what is said of the unit that is pushed first: its id and its length
abbrev pub told : Placed → UnitId × ℕ
told p = (id_of p, size_of p)

-- what is told is of a unit at some place that can be moved, and that goes before each other one that can be
pub record IsFirstToPush (units : List Placed) (is : UnitId × ℕ) : Type 0 where
  pub place : ℕ
  pub unit : Placed
  pub here : slice_get units place ≡ Some unit
  pub has : told unit ≡ is
  pub is_movable : IsMovable unit
  pub is_first : (other : ℕ) (q : Placed) → slice_get units other ≡ Some q → other ≢ place → IsMovable q → GoesBefore place unit other q

-- By going over the list, as tests.

-- the target is any
abbrev pub is_any : Target → Bool
is_any Any = true
is_any _ = false

-- the unit is free and for any rank
abbrev pub movable : Placed → Bool
movable p = is_none p.pin && is_any p.unit.target

-- what counts of a unit
abbrev pub candidate : Placed → Candidate
candidate p = record { id = p.unit.id; length = length p.unit.body; prio = p.unit.prio }

-- a later unit goes before an earlier one unless its priority is higher
abbrev pub goes_first : Candidate → Candidate → Bool
goes_first later first = int_le later.prio first.prio

-- the one of the two that goes first
abbrev pub lower : Candidate → Candidate → Candidate
lower first later = if goes_first later first then later else first

-- the one of what was found before and this unit that goes first, if the unit can be moved
abbrev pub pick_to_push : Option Candidate → Placed → Option Candidate
pick_to_push None p = if movable p then Some (candidate p) else None
pick_to_push (Some first) p = if movable p then Some (lower first (candidate p)) else Some first

-- what is said of the first of these units
abbrev pub first_to_push_of : List Placed → Option (UnitId × ℕ)
first_to_push_of units = option_map (λ (c : Candidate). (c.id, c.length)) (fold pick_to_push None units)
