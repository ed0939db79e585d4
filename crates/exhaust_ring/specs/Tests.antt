-- The tests of a server to which the token comes again.
use Rattle.std.specs.Prelude.{◌≡◌, ◌≢◌, ℕ, ◌==◌, Bool, true, false, ◌&&◌, Option, None, Some, is_none, if◌then◌else◌}
use Rattle.adlb_unit.specs.declared.messages.Why.{Why}
use Rattle.adlb_unit.specs.declared.messages.Why.TheVariants.{Busy, Changed, Fits}
use Rattle.adlb_unit.specs.declared.names.UnitId.{UnitId}

-- no free unit fits a rank of the list, or this one does
abbrev pub fitting : Option UnitId → Option Why
fitting None = None
fitting (Some id) = Some (Fits id)

-- the first test that fails: the server is quiet, its activity is that of its mark, and no free unit there fits a rank of the list
abbrev pub first_failing : Bool → ℕ → ℕ → Option UnitId → Option Why
first_failing quiet mark activity fits =
    if quiet then (if activity == mark then fitting fits else Some (Changed mark activity)) else Some Busy

-- all tests pass
abbrev pub passes : Bool → ℕ → ℕ → Option UnitId → Bool
passes quiet mark activity fits = quiet && ((activity == mark) && is_none fits)

-- the reason is the first test that fails
abbrev pub IsReason : Bool → ℕ → ℕ → Option UnitId → Why → Type 0
IsReason quiet mark activity fits Busy = quiet ≡ false
IsReason quiet mark activity fits (Changed was now) = (quiet ≡ true) × (activity ≢ mark) × (was ≡ mark) × (now ≡ activity)
IsReason quiet mark activity fits (Fits id) = (quiet ≡ true) × (activity ≡ mark) × (fits ≡ Some id)
