-- What a rank holds of a grant, entry by entry.
use Rattle.std.proofs.Common.{◌≡◌, ◌⊎◌, inl, inr, List, [], ◌∷◌, Option, Some, None}
use Rattle.adlb_unit.specs.declared.names.Rank.{Rank}
use Rattle.adlb_unit.specs.declared.notes.UnitNote.{UnitNote}
use Rattle.adlb_unit.specs.declared.units.Unit.{Unit}
use Rattle.bag_ledger.specs.declared.entries.Entry.{Entry}
use Rattle.bag_ledger.specs.declared.states.UnitPlace.TheVariants.{Pinned, Spent}
use Rattle.bag_ledger.specs.Bag.{Bag, unit_of}
use Rattle.bag_ledger.specs.Steps.{Legal, after}
use Rattle.balance_law.proofs.Paths.{of_rank}
use Rattle.balance_law.proofs.Deeds.{fetched}
use Rattle.balance_law.proofs.Seen.{of_mine}
use Rattle.balance_law.proofs.Shifts.{pinned_stays, spent_stays}
use Rattle.balance_law.proofs.Tallies.{IsHeld}

-- the unit that was granted stands as it should, if there is one
abbrev pub Keeps : Bag → Rank → Option UnitNote → List Unit → Type 0
Keeps b rank None owed = Prim.Unit {0}
Keeps b rank (Some note) owed = IsHeld b rank note owed

-- an entry that gives the rank nothing leaves what it holds
pub keeps_on : (b : Bag) (e : Entry) (rank : Rank) (held : Option UnitNote) (owed : List Unit) → Legal b e → of_rank rank (fetched b e) ≡ []
    → Keeps b rank held owed → Keeps (after b e) rank held owed
keeps_on b e rank None owed l none holds = holds
keeps_on b e rank (Some note) owed l none held = by_place held.stands
  where
    stays : unit_of (after b e) note.id ≡ Some held.placed → IsHeld (after b e) rank note owed
    stays found = record { placed = held.placed; there = found; told = held.told; stands = held.stands }

    by_case : (unit_of (after b e) note.id ≡ Some held.placed) ⊎ ((u : Unit) × (fetched b e ≡ Some (rank, u)))
        → IsHeld (after b e) rank note owed
    by_case (inl found) = stays found
    by_case (inr given) = let some = of_mine rank (fetched b e) given.0 given.1 in absurd (cc)

    by_place : ((held.placed.place ≡ Pinned note.server rank) × (owed ≡ []))
        ⊎ ((held.placed.place ≡ Spent) × (owed ≡ held.placed.unit ∷ [])) → IsHeld (after b e) rank note owed
    by_place (inl pinned) = by_case (pinned_stays b e note.id held.placed note.server rank l held.there pinned.0)
    by_place (inr spent) = stays (spent_stays b e note.id held.placed l held.there spent.0)
