-- What is read of the lines of an input, one by one.
use Rattle.std.specs.Prelude.{◌≡◌, ℕ, List, ◌++◌, Option, Some, None, Result, Ok, Err, if◌then◌else◌}
use Rattle.std.specs.Borrow.{Bor}
use Rattle.tour_search.specs.Lines.{is_long}
use Rattle.tour_search.specs.Reading.{Read, count_of, refused, row_of}
use Rattle.tour_search.specs.declared.faults.CitiesFault.{CitiesFault}
use Rattle.tour_search.specs.declared.faults.CitiesFault.TheVariants.{Memory, Refused}
use Rattle.tour_search.specs.declared.faults.CitiesWhy.TheVariants as why

-- a fault is the one that is read, or want of memory
abbrev pub RefusedBy : {X Y : Type 0} → Read X → Result Y CitiesFault → Type 0
RefusedBy read (Ok x) = Unit {0}
RefusedBy read (Err (Refused line reason)) = read ≡ Err (line, reason)
RefusedBy read (Err Memory) = Unit {0}

-- what is there, or the line that is refused
abbrev pub or_refused : {X : Type 0} → ℕ → Option X → Read X
or_refused number None = refused number why.Cost
or_refused number (Some x) = Ok x

-- the number of cities, or its refusal
abbrev pub or_none : Option ℕ → Read ℕ
or_none None = refused 1 why.Cities
or_none (Some n) = Ok n

-- how many cities there are by the first line
abbrev pub head_read : Option (Bor (List ℕ)) → Read ℕ
head_read None = refused 1 why.Cities
head_read (Some line) = if is_long line.now then refused 1 why.Long else or_none (count_of line.now)

-- the costs of a row of n that is line `number`
abbrev pub row_read : ℕ → ℕ → Option (Bor (List ℕ)) → Read (List ℕ)
row_read n number None = refused number why.Cost
row_read n number (Some line) = if is_long line.now then refused number why.Long else or_refused number (row_of n line.now)

-- the costs that were read were tacked on
abbrev pub Tacks : Read (List ℕ) → List ℕ → List ℕ → Type 0
Tacks read old new = (row : List ℕ) × (read ≡ Ok row) × (new ≡ old ++ row)

-- the costs read before and those that are read
abbrev pub onto : List ℕ → Read (List ℕ) → Read (List ℕ)
onto done (Ok rows) = Ok (done ++ rows)
onto done (Err fault) = Err fault
