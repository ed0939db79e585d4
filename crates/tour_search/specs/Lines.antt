-- The lines of an input.
use Rattle.std.specs.Prelude.{ℕ, ◌==◌, ◌^◌, nat_lt, Bool, List, [], ◌∷◌, length, map}
use Rattle.std.specs.List.{slice_split}
use Rattle.std.specs.Str.Lines.{strip_carriage_return}

-- the most bytes of a line
abbrev pub line_limit : ℕ
line_limit = 2 ^ 20

-- the line is longer than a line may be
abbrev pub is_long : List ℕ → Bool
is_long line = nat_lt line_limit (length line)

-- pieces without an empty one at the end
abbrev pub without_end : List (List ℕ) → List (List ℕ)
without_end [] = []
without_end ([] ∷ []) = []
without_end (piece ∷ pieces) = piece ∷ without_end pieces

-- The lines, each without the one carriage return at its end, if it has one. A line feed ends a line; what follows the last line feed is a
-- line too, unless nothing does.
abbrev pub lines : List ℕ → List (List ℕ)
lines bytes = map strip_carriage_return (without_end (slice_split (λ byte. byte == 10) bytes))
