-- The inputs that are made: puzzles and batches, drawn by the words of a generator.
use Rattle.std.specs.Prelude.{ℕ, zero, suc, ◌+◌, ◌-◌, ◌%◌, ◌==◌, List, [], ◌++◌, codes, map, slice_index, slice_set, swap, if◌then◌else◌}
use Rattle.rand_pcg.specs.Lcg.{Lcg, increment_of, started}
use Rattle.rand_pcg.specs.Pcg.{multiplier_64, pcg32}

-- the generator of a seed: PCG32 on the stream 54
unfoldable pub seeded : ℕ → Lcg
seeded seed = started 64 multiplier_64 seed (increment_of 64 54)

-- the next word of a generator, and the generator after it
unfoldable pub draw : Lcg → ℕ × Lcg
draw generator = pcg32 generator

-- the full grid from which each puzzle is made
unfoldable pub full_grid : List ℕ
full_grid = codes "534678912672195348198342567859761423426853791713924856961537284287419635345286179"

-- signs with the generator after them: the sign at a place changes places with that at a drawn place up to it
abbrev pub exchange : ℕ → List ℕ × Lcg → List ℕ × Lcg
exchange place at = (swap at.0 place ((draw at.1).0 % (place + 1)), (draw at.1).1)

-- the exchanges at each place from the last down to 1
unfoldable pub exchanges : ℕ → List ℕ × Lcg → List ℕ × Lcg
exchanges zero at = at
exchanges (suc before) at = exchanges before (exchange (suc before) at)

-- the signs of the nine digits, shuffled
unfoldable pub shuffled : Lcg → List ℕ × Lcg
shuffled generator = exchanges 8 (codes "123456789", generator)

-- the sign that stands for a digit's sign: the first for 1, the second for 2, and so on
abbrev pub sign_for : List ℕ → ℕ → ℕ
sign_for signs digit = slice_index signs (digit - 49)

-- the full grid with these signs for its digits
unfoldable pub relabelled : List ℕ → List ℕ
relabelled signs = map (sign_for signs) full_grid

-- a drawn cell becomes a dot
abbrev pub blank : List ℕ × Lcg → List ℕ × Lcg
blank at = (slice_set at.0 ((draw at.1).0 % 81) 46, (draw at.1).1)

-- that a number of times; the drawn cells need not differ
unfoldable pub blanks : ℕ → List ℕ × Lcg → List ℕ × Lcg
blanks zero at = at
blanks (suc times) at = blank (blanks times at)

-- the signs of the next puzzle, and the generator after it
unfoldable pub puzzle : Lcg → List ℕ × Lcg
puzzle generator = blanks 40 (relabelled (shuffled generator).0, (shuffled generator).1)

-- a batch of these bytes: the count of its digits from 1 to 5, its sum and its greatest byte
abbrev pub batch_of : List ℕ → List ℕ
batch_of signs = codes "batch " ++ signs ++ codes "\ncount 49 53\nsum\nmax\n"

-- the lines of the puzzle of this number, from 1: its own, and after each eighth a batch of its signs
unfoldable pub lines_of : ℕ → List ℕ → List ℕ
lines_of number signs = signs ++ codes "\n" ++ (if number % 8 == 0 then batch_of signs else [])

-- the lines of this many puzzles, and the generator after them
unfoldable pub made : ℕ → Lcg → List ℕ × Lcg
made zero generator = ([], generator)
made (suc count) generator =
    let before = made count generator in
    let next = puzzle before.1 in
    (before.0 ++ lines_of (suc count) next.0, next.1)

-- the text of this many puzzles and a seed
abbrev pub made_text : ℕ → ℕ → List ℕ
made_text count seed = (made count (seeded seed)).0
