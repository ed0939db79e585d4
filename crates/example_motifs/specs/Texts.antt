-- How often motifs occur in a text.
use Rattle.std.specs.Prelude.{ℕ, ◌+◌, min, Bool, cond, nat_eq, Option, Some, None, List, [], ◌∷◌, count_by, length, slice_get}
use Rattle.std.specs.Borrow.{Bor}
use Rattle.std.specs.List.{range_with_len, starts_with}

-- at how many places of the text the motif begins
abbrev pub places : List ℕ → List ℕ → ℕ
places motif [] = 0
places motif (letter ∷ rest) = cond (starts_with nat_eq (letter ∷ rest) motif) 1 0 + places motif rest

-- how often the motif occurs in the text, up to 255 times; no motif never does
abbrev pub times_of : List ℕ → Option (Bor (List ℕ)) → ℕ
times_of text None = 0
times_of text (Some motif) = min 255 (places motif.now text)

-- how often the motif of this number does
abbrev pub times : List (Bor (List ℕ)) → List ℕ → ℕ → ℕ
times motifs text number = times_of text (slice_get motifs number)

-- how many findings that pass the test come of a unit: of the number of a motif its count, of a finding that one, of other bytes none
abbrev pub worth : List (Bor (List ℕ)) → (ℕ × ℕ → Bool) → List ℕ → List ℕ → ℕ
worth motifs test text [] = 0
worth motifs test text (number ∷ []) = cond (test (number, times motifs text number)) 1 0
worth motifs test text (number ∷ count ∷ []) = cond (test (number, count)) 1 0
worth motifs test text (number ∷ count ∷ more ∷ rest) = 0

-- how many findings pass the test, if each of the motifs is looked for once
abbrev pub whole : List (Bor (List ℕ)) → (ℕ × ℕ → Bool) → List ℕ → ℕ
whole motifs test text = count_by (λ number. test (number, times motifs text number)) (range_with_len 0 (length motifs))
