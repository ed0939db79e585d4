-- Which notes a rank holds.
use Rattle.std.proofs.Common.{List, [], ◌++◌, append-nil}
use Rattle.std.specs.Prelude.{All, Contains}
use Rattle.std.proofs.lemmas.List.Elements.{All-contains_itself, All-same, All-weaker, Contains-append_left}
use Rattle.adlb_unit.specs.declared.notes.UnitNote.{UnitNote}

-- notes are among themselves
pub notes_same : (notes : List UnitNote) → All (Contains notes) (notes ++ [])
notes_same notes = All-same (Contains notes) (notes ++ []) notes (append-nil notes) (All-contains_itself notes)

-- notes are among those and more
pub notes_in : (notes more : List UnitNote) → All (Contains (notes ++ more)) notes
notes_in notes more =
    All-weaker (Contains notes) (Contains (notes ++ more)) (λ n there. Contains-append_left notes more n there) notes
    (All-contains_itself notes)
