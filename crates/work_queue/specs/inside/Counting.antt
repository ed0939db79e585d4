-- What is counted of the free units of a type, one unit or one run after another.
use Rattle.std.specs.Prelude.{◌+◌, ℕ, ℤ, int_lt, Option, Some, None, if◌then◌else◌}
use Rattle.adlb_unit.specs.declared.notes.Info.{Info}

-- one more unit of this priority, if the highest before was this
abbrev pub info_above : Info → ℤ → Option ℤ → Info
info_above info prio None = record { free = info.free + 1; top = Some prio; at_top = 1 }
info_above info prio (Some top) =
    if int_lt top prio
    then record { free = info.free + 1; top = Some prio; at_top = 1 }
    else record { free = info.free + 1; top = Some top; at_top = if int_lt prio top then info.at_top else info.at_top + 1 }

-- a count with one free unit more
abbrev pub info_with : Info → ℤ → Info
info_with info prio = info_above info prio info.top

-- a run of `n` more units, of which `at` have the priority `prio` and the others a lower one, if the highest before was this
abbrev pub run_above : Info → ℕ → ℤ → ℕ → Option ℤ → Info
run_above info n prio at None = record { free = info.free + n; top = Some prio; at_top = at }
run_above info n prio at (Some top) =
    if int_lt top prio
    then record { free = info.free + n; top = Some prio; at_top = at }
    else record { free = info.free + n; top = Some top; at_top = if int_lt prio top then info.at_top else info.at_top + at }

-- a count with a run of free units more
abbrev pub run_with : Info → ℕ → ℤ → ℕ → Info
run_with info n prio at = run_above info n prio at info.top
