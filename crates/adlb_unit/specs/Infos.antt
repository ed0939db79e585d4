-- What is said of free units by their priorities.
use Rattle.std.specs.Prelude.{ℤ, List, [], ◌∷◌, Some, None, length, fold, count_by, int_le}
use Rattle.std.specs.Int.{int_max}
use Rattle.adlb_unit.specs.declared.notes.Info.{Info}

-- how many there are, the highest priority, and how many have it
abbrev pub info_of_prios : List ℤ → Info
info_of_prios [] = record { free = 0; top = None; at_top = 0 }
info_of_prios (p ∷ ps) =
    let top = fold int_max p ps in record { free = length (p ∷ ps); top = Some top; at_top = count_by (int_le top) (p ∷ ps) }
