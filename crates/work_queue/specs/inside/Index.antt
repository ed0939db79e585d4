-- The index of the free units: by type, then by target, then the higher priority first, then by arrival.
use Rattle.std.specs.Prelude.{◌≡◌, ◌<◌, ◌≤◌, ◌-◌, ℕ, ℤ, List, [], ◌∷◌, length, nat_lt, int_lt, ◌==◌, Bool, true, false, not, ◌&&◌, ◌||◌}
use Rattle.std.specs.Prelude.{if◌then◌else◌, is_none, All, Contains, Option, Some, None, slice_index_or, map, filter}
use Rattle.std.specs.List.{AllPairs, list_any}
use Rattle.std.specs.List.Sorted.{IsPermutation}
use Rattle.adlb_unit.specs.Permit.{class_for, permitted}
use Rattle.adlb_unit.specs.declared.names.Rank.{Rank}
use Rattle.adlb_unit.specs.declared.names.WorkType.{WorkType}
use Rattle.adlb_unit.specs.declared.names.Target.{Target}
use Rattle.adlb_unit.specs.declared.names.Target.TheVariants.{Any, Only, Soft}
use Rattle.work_queue.specs.Push.{is_any}
use Rattle.work_queue.specs.declared.entries.Entry.{Entry}
use Rattle.work_queue.specs.declared.indexing.Index.{Index}
use Rattle.work_queue.specs.declared.indexing.Run.{Run}
use Rattle.work_queue.specs.declared.placing.Placed.{Placed}

-- what kind of target it is, and the rank that it names
abbrev pub sort_of : Target → ℕ
sort_of (Only rank) = 0
sort_of (Soft rank) = 1
sort_of Any = 2

-- the rank that a target names, or 0
abbrev pub named_by : Target → ℕ
named_by (Only rank) = rank.0
named_by (Soft rank) = rank.0
named_by Any = 0

-- the lower number comes first, otherwise the rest decides
abbrev pub lower_first : ℕ → ℕ → Bool → Bool
lower_first a b rest = nat_lt a b || ((a == b) && rest)

-- a's type and target come before b's, otherwise the rest decides
abbrev pub by_run : Entry → Entry → Bool → Bool
by_run a b rest = lower_first a.kind.0 b.kind.0
    (lower_first (sort_of a.target) (sort_of b.target) (lower_first (named_by a.target) (named_by b.target) rest))

-- a's priority is higher, or even and a came earlier
abbrev pub by_turn : Entry → Entry → Bool
by_turn a b = int_lt b.prio a.prio || (not (int_lt a.prio b.prio) && nat_lt a.stamp b.stamp)

-- a comes before b in the index
abbrev pub goes_before : Entry → Entry → Bool
goes_before a b = by_run a b (by_turn a b)

-- a's type and target come before b's
abbrev pub runs_before : Entry → Entry → Bool
runs_before a b = by_run a b false

-- each entry goes before all later ones
abbrev pub IsInOrder : List Entry → Type 0
IsInOrder entries = AllPairs (λ a b. goes_before a b ≡ true) entries

-- the entry of a unit that came at this count of arrivals
abbrev pub entry_of : Placed → ℕ → Entry
entry_of p stamp = record { kind = p.unit.kind; target = p.unit.target; prio = p.unit.prio; stamp = stamp }

-- the entries of the free units, which came at these counts
abbrev pub entries_of : List Placed → List ℕ → List Entry
entries_of [] stamps = []
entries_of (p ∷ units) [] = []
entries_of (p ∷ units) (stamp ∷ stamps) = if is_none p.pin then entry_of p stamp ∷ entries_of units stamps else entries_of units stamps

-- the index is in order and has an entry for each free unit and no other; stamps rise with the places of the units
pub record IsIndexed (units : List Placed) (arrivals : ℕ) (index : Index) : Type 0 where
  pub held : IsPermutation (entries_of units index.stamps.items) index.entries.items
  pub in_order : IsInOrder index.entries.items
  pub rising : AllPairs (λ a b. a < b) index.stamps.items
  pub below : All (λ stamp. stamp < arrivals) index.stamps.items
  pub long : length index.stamps.items ≡ length units

-- an entry of the run: it has its type and target, and is neither before the first nor after the last
pub record IsOfRun (run : Run) (e : Entry) : Type 0 where
  pub kind : e.kind ≡ run.first.kind
  pub target : e.target ≡ run.first.target
  pub not_earlier : by_turn e run.first ≡ false
  pub not_later : by_turn run.last e ≡ false

-- what is from this place on is a run: the entries of one type and target, of which the first stands there
pub record IsRun (entries : List Entry) (place : ℕ) (run : Run) : Type 0 where
  pub first_is : run.first ≡ slice_index_or entries place run.first
  pub last_is : run.last ≡ slice_index_or entries (run.end - 1) run.last
  pub goes_on : place < run.end
  pub within : run.end ≤ length entries
  pub alike : (k : ℕ) (d : Entry) → place ≤ k → k < run.end → IsOfRun run (slice_index_or entries k d)

-- found is an entry that passes the test and that no other such entry below this place outranks; none where no entry below it passes
abbrev pub IsLeading : (Entry → Bool) → (Entry → Entry → Bool) → List Entry → ℕ → Option Entry → Type 0
IsLeading may outranks entries n None = (k : ℕ) (d : Entry) → k < n → may (slice_index_or entries k d) ≡ false
IsLeading may outranks entries n (Some found) =
    Contains entries found × (may found ≡ true)
    × ((k : ℕ) (d : Entry) → k < n → may (slice_index_or entries k d) ≡ true → outranks (slice_index_or entries k d) found ≡ false)

-- the rank may have the unit
abbrev pub may_have : Rank → Option (List WorkType) → Entry → Bool
may_have rank types e = permitted rank types e.kind e.target

-- for the rank, a comes before b: by the class of its target, then as in the index
abbrev pub suits_better : Rank → Entry → Entry → Bool
suits_better rank a b = lower_first (class_for rank a.target) (class_for rank b.target) (by_turn a b)

-- the unit may be pushed
abbrev pub may_move : Entry → Bool
may_move e = is_any e.target

-- a is pushed before b: of the lower priority, otherwise the later one
abbrev pub moves_first : Entry → Entry → Bool
moves_first a b = by_turn b a

-- a rank of one of the requests may have the unit
abbrev pub may_serve : List (Rank × Option (List WorkType)) → Entry → Bool
may_serve asked e = list_any (λ (a : Rank × Option (List WorkType)). permitted a.0 a.1 e.kind e.target) asked

-- a came before b
abbrev pub came_first : Entry → Entry → Bool
came_first a b = nat_lt a.stamp b.stamp

-- the one that was found before, unless this one outranks it
abbrev pub leading : (Entry → Entry → Bool) → Option Entry → Entry → Entry
leading outranks None e = e
leading outranks (Some found) e = if outranks e found then e else found

-- the priorities of the entries of the type
abbrev pub prios_in : WorkType → List Entry → List ℤ
prios_in kind entries = map (λ (e : Entry). e.prio) (filter (λ (e : Entry). e.kind.0 == kind.0) entries)

-- the entries that do not come after all of this type, target and priority
abbrev pub as_high : Entry → Entry → Bool
as_high first e = by_run e first (not (int_lt e.prio first.prio))
