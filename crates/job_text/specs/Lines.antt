-- The lines of an input.
use Rattle.std.specs.Prelude.{ℕ, ◌==◌, Bool, List, map}
use Rattle.std.specs.List.{slice_split}
use Rattle.std.specs.Str.Lines.{strip_carriage_return}

-- the byte is a line feed
abbrev pub is_line_feed : ℕ → Bool
is_line_feed byte = byte == 10

-- The lines, each without the one carriage return at its end, if it has one. A line feed ends a line; what follows the last line feed is a
-- line too, which may be empty.
abbrev pub lines : List ℕ → List (List ℕ)
lines bytes = map strip_carriage_return (slice_split is_line_feed bytes)
