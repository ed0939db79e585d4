-- The bytes of a common part and of units: numbers have their most significant byte first.
use Rattle.std.specs.Prelude.{ℕ, zero, suc, ◌+◌, ◌*◌, ◌==◌, nat_le, Bool, ◌&&◌, List, [], ◌∷◌, ◌++◌, flat_map, length, take, drop}
use Rattle.std.specs.Prelude.{slice_index, Option, Some, None, if◌then◌else◌}
use Rattle.std.specs.Int.{from_be_bytes, to_be_bytes, w32, w64}
use Rattle.tour_app.specs.Starts.{StartModel, is_whole}
use Rattle.tour_app.specs.declared.units.TourUnit.{TourUnit}
use Rattle.tour_app.specs.declared.units.TourUnit.TheVariants.{Pair, Answer}

-- The common part: how many cities there are, the costs by rows, and the first tour.

-- numbers of 32 bits as bytes
abbrev pub words : List ℕ → List ℕ
words numbers = flat_map (to_be_bytes w32) numbers

-- the bytes of a common part: the number of cities, the costs and the first tour
unfoldable pub common_part : StartModel → List ℕ
common_part s = s.cities.count ∷ (words s.cities.rows ++ s.first)

-- the first numbers of bytes, and what comes after them
unfoldable pub words_in : ℕ → List ℕ → List ℕ
words_in zero bytes = []
words_in (suc n) bytes = from_be_bytes w32 (take 4 bytes) ∷ words_in n (drop 4 bytes)

-- what follows this many numbers
unfoldable pub behind_words : ℕ → List ℕ → List ℕ
behind_words zero bytes = bytes
behind_words (suc n) bytes = behind_words n (drop 4 bytes)

-- the start that the bytes after the number of cities say
abbrev pub start_of : ℕ → List ℕ → StartModel
start_of n bytes = record {
  cities = record { count = n; rows = words_in (n * n) bytes };
  first = behind_words (n * n) bytes;
}

-- there are from 1 to 12 cities, and enough bytes for their costs
abbrev pub is_sized : ℕ → List ℕ → Bool
is_sized n bytes = (nat_le 1 n && nat_le n 12) && nat_le (4 * (n * n)) (length bytes)

-- this start, if it is whole
abbrev pub start_if : ℕ → List ℕ → Option StartModel
start_if n bytes =
    if is_whole n (words_in (n * n) bytes) (behind_words (n * n) bytes) then Some (start_of n bytes) else None

-- what a common part says, if it has the form of one
unfoldable pub shared : List ℕ → Option StartModel
shared [] = None
shared (n ∷ bytes) = if is_sized n bytes then start_if n bytes else None

-- The units.

-- a pair of cities, each one byte; or a cost, and a tour with a byte for each city
abbrev pub body_of : TourUnit → List ℕ
body_of (Pair a b) = a ∷ b ∷ []
body_of (Answer cost tour) = to_be_bytes w64 cost ++ tour

-- the pair of a body
abbrev pub pair_in : List ℕ → Option TourUnit
pair_in body = if length body == 2 then Some (Pair (slice_index body 0) (slice_index body 1)) else None

-- the answer of a body
abbrev pub answer_in : List ℕ → Option TourUnit
answer_in body =
    if nat_le 8 (length body) && nat_le (length body) 20
    then Some (Answer (from_be_bytes w64 (take 8 body)) (drop 8 body))
    else None
