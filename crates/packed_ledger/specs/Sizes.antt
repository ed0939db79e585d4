-- Room for entries that are kept.
use Rattle.std.specs.Prelude.{ℕ, ◌+◌, List, [], ◌∷◌, Option, None, Some, length, sum_by}
use Rattle.bag_ledger.specs.declared.entries.Entry.{Entry}
use Rattle.bag_ledger.specs.declared.entries.Entry.TheVariants as enters
use Rattle.packed_ledger.specs.declared.stamped.Stamped.{Stamped}

-- the most bytes that an entry takes with its stamp, besides the bytes that it tells
abbrev pub entry_size : ℕ
entry_size = 160

-- the bytes that an entry takes at most
abbrev pub size_of : Entry → ℕ
size_of (enters.Putting rank call kind prio target answer body) = entry_size + length body
size_of (enters.Keeping rank call common) = entry_size + length common
size_of _ = entry_size

-- room enough for these entries
abbrev pub room_for : List Entry → ℕ
room_for entries = sum_by size_of entries

-- What contracts see of kept entries: they, in order, and how many bytes there is room for.
pub record KeptModel : Type 0 where
  pub entries : List Stamped
  pub room : ℕ

-- an entry with its stamp
abbrev pub stamped : ℕ → Entry → Stamped
stamped stamp entry = record { stamp = stamp; entry = entry }

-- the stamp of the first
abbrev pub first_stamp : List Stamped → Option ℕ
first_stamp [] = None
first_stamp (x ∷ xs) = Some x.stamp
