-- What a rank was told in its calls holds of the bag.
use Rattle.std.specs.Prelude.{All, ◌⊎◌, ℕ, ◌≡◌, ◌≤◌, List, sum_by, Some}
use Rattle.adlb_unit.specs.declared.names.Rank.{Rank}
use Rattle.adlb_unit.specs.declared.names.UnitId.{UnitId}
use Rattle.adlb_unit.specs.declared.notes.UnitNote.{UnitNote}
use Rattle.adlb_unit.specs.Ids.{same_unit}
use Rattle.bag_ledger.specs.declared.entries.Answer.{Answer}
use Rattle.bag_ledger.specs.declared.entries.Answer.TheVariants as answers
use Rattle.bag_ledger.specs.declared.entries.Call.{Call}
use Rattle.bag_ledger.specs.declared.entries.Call.TheVariants as calls_to
use Rattle.bag_ledger.specs.declared.entries.Said.{Said}
use Rattle.bag_ledger.specs.declared.states.Placed.{Placed}
use Rattle.bag_ledger.specs.declared.states.UnitPlace.TheVariants.{Pinned, Spent}
use Rattle.bag_ledger.specs.Bag.{Bag, unit_of}
use Rattle.bag_ledger.specs.Runs.{note_of}
use Rattle.bag_law.specs.Counts.{one}

-- 1 where the answer grants the unit
abbrev pub granting : UnitId → Answer → ℕ
granting id (answers.Granted note) = one (same_unit note.id id)
granting id _ = 0

-- a note that the rank was granted tells its unit, which is pinned to the rank at the note's server, or spent
abbrev pub IsTrueNote : Bag → Rank → UnitNote → Type 0
IsTrueNote b rank note =
    (u : Placed) × (unit_of b note.id ≡ Some u) × (note ≡ note_of note.server u.unit)
    × ((u.place ≡ Pinned note.server rank) ⊎ (u.place ≡ Spent))

-- what an answer says holds of the bag
abbrev pub IsTrueAnswer : Bag → Rank → Answer → Type 0
IsTrueAnswer b rank (answers.Granted note) = IsTrueNote b rank note
IsTrueAnswer b rank _ = Prim.Unit {0}

-- what the rank fetched is spent
abbrev pub IsTrueCall : Bag → Call → Type 0
IsTrueCall b (calls_to.Fetch id) = (u : Placed) × (unit_of b id ≡ Some u) × (u.place ≡ Spent)
IsTrueCall b _ = Prim.Unit {0}

-- what a call and its answer say holds of the bag
abbrev pub IsTrueSaid : Bag → Rank → Said → Type 0
IsTrueSaid b rank s = IsTrueAnswer b rank s.answer × IsTrueCall b s.call

-- each of these calls of the rank is true of the bag, and no unit was granted twice in them
pub record AreTrueCalls (rank : Rank) (said : List Said) (b : Bag) : Type 0 where
  pub each : All (IsTrueSaid b rank) said
  pub once : (id : UnitId) → sum_by (λ s. granting id s.answer) said ≤ 1
