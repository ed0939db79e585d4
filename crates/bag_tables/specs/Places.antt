-- Places by id.
use Rattle.std.specs.Prelude.{ℕ, Option}
use Rattle.std.specs.Ordering.{nat_cmp, ordering_then}
use Rattle.std.specs.declared.cmp.Ordering.{Ordering}
use Rattle.std.specs.BTreeMap.{get}
use Rattle.bag_tables.specs.declared.places.Places.{Places}

-- ids in order: by rank, then by number
abbrev pub by_id : ℕ × ℕ → ℕ × ℕ → Ordering
by_id a b = ordering_then (nat_cmp a.0 b.0) (nat_cmp a.1 b.1)

-- the place of the id, if there is one
abbrev pub place_at : Places → ℕ → ℕ → Option ℕ
place_at places rank number = get by_id places.held (rank, number)
