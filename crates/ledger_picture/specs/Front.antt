-- What the text of a picture says of its numbers.
use Rattle.std.specs.Prelude.{◌≡◌, ◌+◌, ◌*◌, ℕ, zero, suc, List, [], ◌∷◌, ◌++◌, Option, Some, None, codes, decimal}
use Rattle.ledger_picture.specs.declared.numbers.Numbers.{Numbers}

-- an attribute of this beginning, with a number
abbrev pub attribute : List ℕ → ℕ → List ℕ
attribute name n = name ++ decimal n ++ codes "'"

-- the attribute of the first entry that is no step, if there is one
abbrev pub illegal_of : Option ℕ → List ℕ
illegal_of None = []
illegal_of (Some place) = attribute (codes " data-illegal='") place

-- how many ranks, servers and entries there are
abbrev pub counts_of : Numbers → List ℕ
counts_of numbers =
    attribute (codes "<svg xmlns='http://www.w3.org/2000/svg' data-ranks='") numbers.ranks
    ++ attribute (codes " data-servers='") numbers.servers
    ++ attribute (codes " data-entries='") numbers.entries

-- how it begins
abbrev pub front_of : Numbers → List ℕ
front_of numbers = counts_of numbers ++ illegal_of numbers.illegal

-- a label of a word and a number
abbrev pub label : List ℕ → ℕ → List ℕ
label word n = codes ">" ++ word ++ codes " " ++ decimal n

-- the name of a lane, at its height
abbrev pub lane_of : List ℕ → ℕ → ℕ → List ℕ
lane_of word y n = attribute (codes "<text x='8' y='") y ++ label word n ++ (codes "</text>" ++ 10 ∷ [])

-- the names of this many lanes, the first at `top`, each `height` below the one before
unfoldable pub lanes : List ℕ → ℕ → ℕ → ℕ → List ℕ
lanes word top height zero = []
lanes word top height (suc k) = lanes word top height k ++ lane_of word (top + height * k) k

-- a lane for each rank, and below them one for each server
abbrev pub lanes_of : Numbers → List ℕ
lanes_of numbers = lanes (codes "rank") 104 24 numbers.ranks
    ++ lanes (codes "server") (132 + 24 * numbers.ranks) 80 numbers.servers

-- the text begins with the picture's numbers, and has, after its size, a lane for each rank and each server
pub record IsPicture (numbers : Numbers) (text : List ℕ) : Type 0 where
  pub size : List ℕ
  pub rest : List ℕ
  pub whole : text ≡ front_of numbers ++ size ++ lanes_of numbers ++ rest
