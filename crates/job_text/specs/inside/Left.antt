-- What is left of an input, and what a line is in the code.
use Rattle.std.specs.Prelude.{◌≡◌, ◌<◌, ℕ, ◌+◌, Bool, List, [], Option, Some, None, length}
use Rattle.std.specs.List.{position_or_len, before_first, after_first}
use Rattle.std.specs.Borrow.{Bor}
use Rattle.job_text.specs.declared.kinds.Line.{Line}
use Rattle.job_text.specs.declared.kinds.Line.TheVariants as code
use Rattle.job_text.specs.declared.lines.Lines.{Lines}
use Rattle.job_text.specs.Lines.{lines}
use Rattle.job_text.specs.Kinds.{Kind, skipped, puzzle, batch, item, bad}

-- a list cut at its first element that passes, if there is one
abbrev pub CutsAt : (ℕ → Bool) → List ℕ → Option (Bor (List ℕ) × Bor (List ℕ)) → Type 0
CutsAt p bytes None = position_or_len p bytes ≡ length bytes
CutsAt p bytes (Some x) =
    (position_or_len p bytes < length bytes) × (x.0.now ≡ before_first p bytes) × (x.1.now ≡ after_first p bytes)

-- the lines, the bytes, and the bytes with one for the end, of what is left
abbrev pub lines_in : Option (Bor (List ℕ)) → List (List ℕ)
lines_in None = []
lines_in (Some rest) = lines rest.now

-- the bytes that are left
abbrev pub bytes_in : Option (Bor (List ℕ)) → ℕ
bytes_in None = 0
bytes_in (Some rest) = length rest.now

-- the bytes that are left, and one for each end
abbrev pub ends_in : Option (Bor (List ℕ)) → ℕ
ends_in None = 0
ends_in (Some rest) = length rest.now + 1

-- the lines that are left
abbrev pub lines_left : Lines → List (List ℕ)
lines_left l = lines_in l.rest

-- the bytes that the lines have left
abbrev pub bytes_left : Lines → ℕ
bytes_left l = bytes_in l.rest

-- the bytes that the lines have left, and one for each end
abbrev pub ends_left : Lines → ℕ
ends_left l = ends_in l.rest

-- the kind of a line
abbrev pub kind : Line → Kind
kind code.Skipped = skipped
kind (code.Puzzle grid) = puzzle grid
kind (code.Batch bytes) = batch bytes.now
kind (code.Item i) = item i
kind (code.Bad reason) = bad reason
