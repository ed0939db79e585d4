-- Counts of free units.
use Rattle.std.specs.Prelude.{ℕ, ◌≡◌, ◌<◌, ◌||◌, ℤ, Bool, List, Option, Some, None, nat_lt, MatchOption}
use Rattle.std.specs.List.{list_any}
use Rattle.std.specs.Option.{option_map}
use Rattle.std.specs.Ordering.{int_cmp}
use Rattle.std.specs.BTreeMap.Range.{IsLeBy}
use Rattle.adlb_unit.specs.declared.names.Rank.{Rank}
use Rattle.adlb_unit.specs.declared.names.Server.{Server}
use Rattle.adlb_unit.specs.declared.names.WorkType.{WorkType}
use Rattle.adlb_unit.specs.declared.notes.Info.{Info}
use Rattle.adlb_unit.specs.declared.units.Unit.{Unit}
use Rattle.bag_ledger.specs.declared.states.Placed.{Placed}
use Rattle.bag_tables.specs.declared.counts.FreeCounts.{FreeCounts}
use Rattle.bag_tables.specs.Tallies.{count_of, HasRoom, IsHeld, IsShifted, IsTallyOf, IsTight}
use Rattle.bag_tables.specs.Keys.{shelf_of, target_of, kind_of, prio_of, by_shelf, by_target, by_kind, by_prio, free_key}

-- the counts are of these units
pub record IsCounted (free : FreeCounts) (units : List Placed) : Type 0 where
  pub shelves : IsTallyOf by_shelf (free_key shelf_of) free.shelves units
  pub targets : IsTallyOf by_target (free_key target_of) free.targets units
  pub kinds : IsTallyOf by_kind (free_key kind_of) free.kinds units
  pub prios : IsTallyOf by_prio (free_key prio_of) free.prios units

-- what is not counted takes no room
pub record AreTight (free : FreeCounts) : Type 0 where
  pub shelves : IsTight by_shelf free.shelves
  pub targets : IsTight by_target free.targets
  pub kinds : IsTight by_kind free.kinds
  pub prios : IsTight by_prio free.prios

-- one more fits in each count
pub record HaveRoom (free : FreeCounts) : Type 0 where
  pub shelves : HasRoom by_shelf free.shelves
  pub targets : HasRoom by_target free.targets
  pub kinds : HasRoom by_kind free.kinds
  pub prios : HasRoom by_prio free.prios

-- a unit free at the server, if one is named, is counted
pub record AreHeld (free : FreeCounts) (from : Option Server) (unit : Unit) : Type 0 where
  pub shelves : IsHeld by_shelf free.shelves (option_map (λ s. shelf_of s unit) from)
  pub targets : IsHeld by_target free.targets (option_map (λ s. target_of s unit) from)
  pub kinds : IsHeld by_kind free.kinds (option_map (λ s. kind_of s unit) from)
  pub prios : IsHeld by_prio free.prios (option_map (λ s. prio_of s unit) from)

-- the unit is counted at one server no longer, and at the other from now on, where they are named
pub record AreShifted (old new : FreeCounts) (from to : Option Server) (unit : Unit) : Type 0 where
  pub shelves : IsShifted by_shelf old.shelves new.shelves (option_map (λ s. shelf_of s unit) from) (option_map (λ s. shelf_of s unit) to)
  pub targets : IsShifted by_target old.targets new.targets (option_map (λ s. target_of s unit) from)
      (option_map (λ s. target_of s unit) to)
  pub kinds : IsShifted by_kind old.kinds new.kinds (option_map (λ s. kind_of s unit) from) (option_map (λ s. kind_of s unit) to)
  pub prios : IsShifted by_prio old.prios new.prios (option_map (λ s. prio_of s unit) from) (option_map (λ s. prio_of s unit) to)

-- a unit of the type is counted at the server that is for any rank or for this one
abbrev pub shows_fit_of : FreeCounts → Server → Rank → WorkType → Bool
shows_fit_of free server rank kind =
    nat_lt 0 (count_of by_shelf free.shelves (server.0, kind.0, None))
    || nat_lt 0 (count_of by_shelf free.shelves (server.0, kind.0, Some rank.0))

-- a unit of any type, or of one that is listed, is counted at the server that is for any rank or for this one
abbrev pub shows_fit : FreeCounts → Server → Rank → Option (List WorkType) → Bool
shows_fit free server rank None =
    nat_lt 0 (count_of by_target free.targets (server.0, None)) || nat_lt 0 (count_of by_target free.targets (server.0, Some rank.0))
shows_fit free server rank (Some kinds) = list_any (shows_fit_of free server rank) kinds

-- how many units of the type and the priority are counted at the server
abbrev pub prio_count : FreeCounts → Server → WorkType → ℤ → ℕ
prio_count free server kind prio = count_of by_prio free.prios (server.0, kind.0, Some (record { 0 = prio }))

-- no unit of the type is counted at the server
abbrev pub HasNoTop : FreeCounts → Server → WorkType → Type 0
HasNoTop free server kind = (prio : ℤ) → prio_count free server kind prio ≡ 0

-- the highest priority of which one is, and how many are
pub record IsTop (free : FreeCounts) (server : Server) (kind : WorkType) (top : ℤ × ℕ) : Type 0 where
  pub count : prio_count free server kind top.0 ≡ top.1
  pub some : 0 < top.1
  pub highest : (prio : ℤ) → 0 < prio_count free server kind prio → IsLeBy int_cmp prio top.0

-- what the counts say of the units of the type at the server
pub record IsTold (free : FreeCounts) (server : Server) (kind : WorkType) (info : Info) : Type 0 where
  pub units : info.free ≡ count_of by_kind free.kinds (server.0, kind.0)
  pub top : MatchOption info.top ((info.at_top ≡ 0) × HasNoTop free server kind) (λ prio. IsTop free server kind (prio, info.at_top))
