use Rattle.std.proofs.Common.{◌≡◌, not}
use Rattle.std.specs.Vec.{vec_capacity}
use Rattle.std.proofs.lemmas.List.Filters.{FiltersInPlace}
use Rattle.adlb_unit.specs.Ids.{same_unit}
use Rattle.adlb_unit.specs.declared.notes.UnitNote.{UnitNote}
use Rattle.rank_client.proofs.fetches.drop_note.Given as goal

abbrev pub invariant-loop-at : goal.invariant-loop-at
invariant-loop-at l = record {
  filters : FiltersInPlace (λ (n : UnitNote). not (same_unit n.id l.id)) l.initial.handles.items l.handles.items l.kept l.at;
  room : vec_capacity l.handles ≡ vec_capacity l.initial.handles;
}
