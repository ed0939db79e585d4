-- Kept entries, chunk by chunk.
use Rattle.std.specs.Prelude.{◌≡◌, List, [], ◌++◌, Option, None, Some}
use Rattle.std.specs.List.{flat_map}
use Rattle.packed_ledger.specs.declared.stamped.Stamped.{Stamped}
use Rattle.packed_ledger.specs.Sizes.{KeptModel}

-- the entries of a chunk
abbrev pub in_chunk : KeptModel → List Stamped
in_chunk chunk = chunk.entries

-- the entries of chunks
abbrev pub entries_of : List KeptModel → List Stamped
entries_of chunks = flat_map in_chunk chunks

-- the entries of the last chunk, if there is one
abbrev pub in_last : Option KeptModel → List Stamped
in_last None = []
in_last (Some chunk) = chunk.entries

-- the entries of chunks and of the last
abbrev pub behind : List KeptModel → Option KeptModel → List Stamped
behind chunks last = entries_of chunks ++ in_last last

-- there is an entry
abbrev pub IsFilled : KeptModel → Type 0
IsFilled chunk = chunk.entries ≡ [] → ⊥
