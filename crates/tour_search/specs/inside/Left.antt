-- What is left of bytes that are cut, and of an input.
use Rattle.std.specs.Prelude.{◌≡◌, ◌<◌, ℕ, ◌==◌, Bool, List, [], Option, Some, None, length, map}
use Rattle.std.specs.List.{position_or_len, before_first, after_first, slice_split}
use Rattle.std.specs.Str.Lines.{strip_carriage_return}
use Rattle.std.specs.Borrow.{Bor}
use Rattle.tour_search.specs.Lines.{without_end}
use Rattle.tour_search.specs.declared.lines.Lines.{Lines}
use Rattle.tour_search.specs.declared.pieces.Pieces.{Pieces}

-- a list cut at its first element that passes, if there is one
abbrev pub CutsAt : (ℕ → Bool) → List ℕ → Option (Bor (List ℕ) × Bor (List ℕ)) → Type 0
CutsAt p bytes None = position_or_len p bytes ≡ length bytes
CutsAt p bytes (Some x) =
    (position_or_len p bytes < length bytes) × (x.0.now ≡ before_first p bytes) × (x.1.now ≡ after_first p bytes)

-- the pieces that are still to come
abbrev pub pieces_in : Option (Bor (List ℕ)) → ℕ → List (List ℕ)
pieces_in None at = []
pieces_in (Some rest) at = slice_split (λ byte. byte == at) rest.now

-- the pieces that are left
abbrev pub pieces_left : Pieces → List (List ℕ)
pieces_left p = pieces_in p.rest p.at

-- the lines that are still to come
abbrev pub lines_left : Lines → List (List ℕ)
lines_left l = map strip_carriage_return (without_end (pieces_left l.pieces))
