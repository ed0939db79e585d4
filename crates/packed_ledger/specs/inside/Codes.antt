-- Entries as bytes.
use Rattle.std.specs.Prelude.{ℕ, ◌≡◌, ◌^◌, ◌<◌, List, [], ◌∷◌, ◌++◌, Option, None, Some, take}
use Rattle.std.specs.List.{All, flat_map}
use Rattle.adlb_unit.specs.declared.names.WorkType.{WorkType}
use Rattle.bag_ledger.specs.declared.entries.Entry.{Entry}
use Rattle.bag_ledger.specs.declared.entries.Entry.TheVariants as enters
use Rattle.packed_ledger.specs.declared.stamped.Stamped.{Stamped}
use Rattle.packed_ledger.specs.inside.Numbers.{groups}
use Rattle.packed_ledger.specs.inside.Rows.{row_before, RowFits}
use Rattle.packed_ledger.specs.inside.Told.{row_of}

-- the types that it lists: the first 16, which are all
abbrev pub listed : Option (List WorkType) → List WorkType
listed None = []
listed (Some kinds) = take 16 kinds

-- the types that an entry lists
abbrev pub kinds_of : Entry → List WorkType
kinds_of (enters.Asked rank call types) = listed types
kinds_of (enters.Tried rank call types) = listed types
kinds_of _ = []

-- the bytes that it tells
abbrev pub body_of : Entry → List ℕ
body_of (enters.Putting rank call kind prio target answer body) = body
body_of (enters.Keeping rank call common) = common
body_of _ = []

-- a type as bytes
abbrev pub kind_code : WorkType → List ℕ
kind_code kind = groups 5 kind.0

-- a type fits 32 bits
abbrev pub kind_fits : WorkType → Type 0
kind_fits kind = kind.0 < 2 ^ 32

-- the entry, and these bytes after it
unfoldable pub entry_before : Entry → List ℕ → List ℕ
entry_before e rest = row_before (row_of e) (body_of e ++ (flat_map kind_code (kinds_of e) ++ rest))

-- its numbers are in range, so that it can be read
pub record IsKept (e : Entry) : Type 0 where
  pub row : RowFits (row_of e)
  pub kinds : All kind_fits (kinds_of e)

-- so for an entry with its stamp, which comes before it
unfoldable pub stamped_before : Stamped → List ℕ → List ℕ
stamped_before s rest = groups 10 s.stamp ++ entry_before s.entry rest

-- an entry with its stamp that can be read back
pub record IsKeptStamped (s : Stamped) : Type 0 where
  pub stamp : s.stamp < 2 ^ 64
  pub entry : IsKept s.entry

-- one after the other, where this is one before the bytes after it
unfoldable pub codes : {X : Type 0} → (X → List ℕ → List ℕ) → List X → List ℕ
codes before [] = []
codes before (x ∷ xs) = before x (codes before xs)

-- the bytes are those of the list, and each of it can be read
pub record Holds {X : Type 0} (before : X → List ℕ → List ℕ) (Fits : X → Type 0) (bytes : List ℕ) (xs : List X) : Type 0 where
  pub coded : bytes ≡ codes before xs
  pub kept : All Fits xs
