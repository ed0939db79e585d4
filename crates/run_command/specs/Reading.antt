-- Why bytes ask nothing.
use Rattle.std.specs.Prelude.{ℕ}
use Rattle.run_command.specs.declared.commands.ReadFault.{ReadFault}
use Rattle.run_command.specs.declared.commands.ReadFault.TheVariants.{Refused, Memory}

-- a line is refused, the first of them, for this reason; or an allocation failed
abbrev pub RefusesBy : {W : Type 0} → (ℕ → W → Type 0) → ReadFault W → Type 0
RefusesBy refuses (Refused line why) = refuses line why
RefusesBy refuses Memory = Unit {0}
