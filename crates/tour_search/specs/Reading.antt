-- The cities of an input, or its first line that is refused.
use Rattle.std.specs.Prelude.{ℕ, zero, suc, ◌+◌, ◌==◌, Bool, List, [], ◌∷◌, ◌++◌, Option, Some, None, Result, Ok, Err, codes, if◌then◌else◌}
use Rattle.std.specs.List.{slice_split}
use Rattle.std.specs.Str.{bytes_eq}
use Rattle.tour_search.specs.Cities.{CitiesModel}
use Rattle.tour_search.specs.Lines.{is_long, lines}
use Rattle.tour_search.specs.Numbers.{number_to}
use Rattle.tour_search.specs.declared.faults.CitiesWhy.{CitiesWhy}
use Rattle.tour_search.specs.declared.faults.CitiesWhy.TheVariants as why

-- the pieces of a line between single spaces
abbrev pub words : List ℕ → List (List ℕ)
words line = slice_split (λ byte. byte == 32) line

-- a number of cities is from 1 to 12
abbrev pub if_some : Option ℕ → Option ℕ
if_some (Some (suc n)) = Some (suc n)
if_some _ = None

-- how many cities there are by these words: `cities` and a number from 1 to 12
abbrev pub named_in : List ℕ → List ℕ → Option ℕ
named_in name number = if bytes_eq name (codes "cities") then if_some (number_to 12 number) else None

-- the number of cities of the words of the first line
unfoldable pub count_in : List (List ℕ) → Option ℕ
count_in (name ∷ number ∷ []) = named_in name number
count_in _ = None

-- the number of cities of the first line
abbrev pub count_of : List ℕ → Option ℕ
count_of line = count_in (words line)

-- as many numbers up to 1,000,000 as this says, one a word
abbrev pub before : Option ℕ → Option (List ℕ) → Option (List ℕ)
before (Some x) (Some xs) = Some (x ∷ xs)
before _ _ = None

-- the n costs of the words of a line
unfoldable pub row_in : ℕ → List (List ℕ) → Option (List ℕ)
row_in zero [] = Some []
row_in zero (word ∷ rest) = None
row_in (suc n) [] = None
row_in (suc n) (word ∷ rest) = before (number_to 1000000 word) (row_in n rest)

-- the costs of a row of n
abbrev pub row_of : ℕ → List ℕ → Option (List ℕ)
row_of n line = row_in n (words line)

-- what is read: it, or the first line that is refused, and why
abbrev pub Read : Type 0 → Type 0
Read X = Result X (ℕ × CitiesWhy)

-- the line is refused for this reason
abbrev pub refused : {X : Type 0} → ℕ → CitiesWhy → Read X
refused number reason = Err (number, reason)

-- the costs of a row, and those of the rows after it
abbrev pub with_row : ℕ → Option (List ℕ) → Read (List ℕ) → Read (List ℕ)
with_row number None later = refused number why.Cost
with_row number (Some row) (Ok rows) = Ok (row ++ rows)
with_row number (Some row) (Err fault) = Err fault

-- the costs of `left` rows of n, of which the first is line `number`; no line follows them
unfoldable pub rows_in : ℕ → ℕ → ℕ → List (List ℕ) → Read (List ℕ)
rows_in n zero number [] = Ok []
rows_in n zero number (line ∷ lines) = refused number (if is_long line then why.Long else why.Extra)
rows_in n (suc left) number [] = refused number why.Cost
rows_in n (suc left) number (line ∷ lines) =
    if is_long line then refused number why.Long else with_row number (row_of n line) (rows_in n left (number + 1) lines)

-- the number of cities, and the costs
abbrev pub with_rows : ℕ → Read (List ℕ) → Read CitiesModel
with_rows n (Ok rows) = Ok (record { count = n; rows = rows })
with_rows n (Err fault) = Err fault

-- the cities of the number of cities and the lines after it
abbrev pub with_count : Option ℕ → List (List ℕ) → Read CitiesModel
with_count None lines = refused 1 why.Cities
with_count (Some n) lines = with_rows n (rows_in n n 2 lines)

-- the cities of lines: the first says how many, the others are their rows
unfoldable pub cities_in : List (List ℕ) → Read CitiesModel
cities_in [] = refused 1 why.Cities
cities_in (line ∷ lines) = if is_long line then refused 1 why.Long else with_count (count_of line) lines

-- the cities of an input
abbrev pub input_cities : List ℕ → Read CitiesModel
input_cities bytes = cities_in (lines bytes)
