-- The lines after the first.
use Rattle.std.specs.Prelude.{◌≡◌, ◌≢◌, ℕ, ◌+◌, List, [], ◌++◌, length, Result, Ok, Err, ⊤}
use Rattle.std.specs.Borrow.{Bor}
use Rattle.bag_ledger.specs.declared.entries.Entry.{Entry}
use Rattle.ledger_file.specs.declared.faults.LineFault.{LineFault}
use Rattle.ledger_file.specs.declared.faults.LineFault.TheVariants as fault
use Rattle.ledger_file.specs.declared.reading.Line.{Line}
use Rattle.ledger_file.specs.declared.reading.Line.TheVariants as next
use Rattle.ledger_file.specs.Lines.{row, line, lines, last_row, IsEntry, AreEntries, BeginsWithEntry, BeginsWithEnd}

-- the bytes begin with this line, before those after it
abbrev pub IsLine : List ℕ → ℕ → Line → List ℕ → Type 0
IsLine bytes count (next.Entry e) after = IsEntry e × (bytes ≡ line (row e) ++ after)
IsLine bytes count next.Last after = bytes ≡ line (last_row count) ++ after

-- why there is no line
abbrev pub IsNoLine : List ℕ → ℕ → LineFault → Type 0
IsNoLine bytes count fault.Memory = ⊤
IsNoLine bytes count fault.Bad = (BeginsWithEntry bytes → ⊥) × (BeginsWithEnd count bytes → ⊥)

-- what the next line is
abbrev pub IsNext : List ℕ → ℕ → Result (Line × Bor (List ℕ)) LineFault → Type 0
IsNext bytes count (Ok x) = IsLine bytes count x.0 x.1.now
IsNext bytes count (Err f) = IsNoLine bytes count f

-- these entries were read, and these bytes are left
pub record HasRead (bytes : List ℕ) (entries : List Entry) (rest : List ℕ) : Type 0 where
  pub within : AreEntries entries
  pub whole : bytes ≡ lines entries ++ rest

-- the lines after the first, whole
abbrev pub IsRest : List ℕ → List Entry → Type 0
IsRest bytes entries = HasRead bytes entries (line (last_row (length entries)))

-- after the first line, the first that is not what is due at its place
pub data IsBadAfter (bytes : List ℕ) (at : ℕ) : Type 0 where
  none_next : (entries : List Entry) (rest : List ℕ) → HasRead bytes entries rest → (BeginsWithEntry rest → ⊥) →
      (BeginsWithEnd (length entries) rest → ⊥) → at ≡ length entries + 2 → IsBadAfter bytes at
  too_much : (entries : List Entry) (rest : List ℕ) → HasRead bytes entries (line (last_row (length entries)) ++ rest) →
      rest ≢ [] → at ≡ length entries + 3 → IsBadAfter bytes at
