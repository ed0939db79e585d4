-- The candidates of a cell: digits, rising, and each that is not used.
use Rattle.std.proofs.Common.{◌≡◌, ◌<◌, ◌≤◌, ℕ, zero, suc, ◌+◌, Bool, false, not, List, [], ◌∷◌, arith, inl, inr, Contains, subst, filter}
use Rattle.std.proofs.lemmas.Bool.{cases_eq, cond_both, not_from_false}
use Rattle.sudoku_law.specs.Grid.{Cells, side, candidates, count_up, used}
use Rattle.sudoku_law.proofs.Elements.{Contains-head, Contains-later, Contains-filter, head_cases, none_there}

-- each is at most n
abbrev pub AreAtMost : ℕ → List ℕ → Type 0
AreAtMost n [] = Unit {0}
AreAtMost n (d ∷ ds) = (d ≤ n) × AreAtMost n ds

-- each is above those before it, and above low
abbrev pub IsRising : ℕ → List ℕ → Type 0
IsRising low [] = Unit {0}
IsRising low (d ∷ ds) = (low < d) × IsRising d ds

at_most_up : (n from count : ℕ) → from + count ≤ n + 1 → AreAtMost n (count_up from count)
unfolding count_up
at_most_up n from zero fits = tt
at_most_up n from (suc count) fits = (omega arith, at_most_up n (from + 1) count (omega arith))

at_most_filter : (n : ℕ) (p : ℕ → Bool) (ds : List ℕ) → AreAtMost n ds → AreAtMost n (filter p ds)
at_most_filter n p [] all = tt
at_most_filter n p (d ∷ ds) all = cond_both (p d) (d ∷ filter p ds) (filter p ds) (AreAtMost n) (λ t. (all.0, at_most_filter n p ds all.1))
    (λ f. at_most_filter n p ds all.1)

-- a candidate is at most the side
pub candidates_at_most : (m : ℕ) (g : Cells) (cell : ℕ) → AreAtMost (side m) (candidates m g cell)
candidates_at_most m g cell =
    at_most_filter (side m) (λ d. not (used m g cell d)) (count_up 1 (side m)) (at_most_up (side m) 1 (side m) (omega arith))

-- each element of such a list is at most the bound
pub at_most_each : (n d : ℕ) (ds : List ℕ) → AreAtMost n ds → Contains ds d → d ≤ n
at_most_each n d [] all there = absurd (none_there d there)
at_most_each n d (x ∷ ds) all there = elim (head_cases x d ds there) [
  | inl same ↦ subst (λ z. z ≤ n) same all.0
  | inr later ↦ at_most_each n d ds all.1 later
]

rising_lower : (a b : ℕ) (ds : List ℕ) → a ≤ b → IsRising b ds → IsRising a ds
rising_lower a b [] le up = tt
rising_lower a b (d ∷ ds) le up = (omega (arith, up.0), up.1)

-- each element of a rising list is above its bound
pub rising_above : (low d : ℕ) (ds : List ℕ) → IsRising low ds → Contains ds d → low < d
rising_above low d [] up there = absurd (none_there d there)
rising_above low d (x ∷ ds) up there = elim (head_cases x d ds there) [
  | inl same ↦ subst (λ z. low < z) same up.0
  | inr later ↦ let more : x < d = rising_above x d ds up.1 later in omega (arith, up.0)
]

rising_up : (low from n : ℕ) → low < from → IsRising low (count_up from n)
unfolding count_up
rising_up low from zero less = tt
rising_up low from (suc n) less = (less, rising_up from (from + 1) n (omega arith))

rising_filter : (p : ℕ → Bool) (low : ℕ) (ds : List ℕ) → IsRising low ds → IsRising low (filter p ds)
rising_filter p low [] up = tt
rising_filter p low (d ∷ ds) up = cond_both (p d) (d ∷ filter p ds) (filter p ds) (IsRising low) (λ t. (up.0, rising_filter p d ds up.1))
    (λ f. rising_filter p low ds (rising_lower low d ds (omega (arith, up.0)) up.1))

-- candidates rise
pub candidates_rising : (m : ℕ) (g : Cells) (cell : ℕ) → IsRising 0 (candidates m g cell)
candidates_rising m g cell = rising_filter (λ d. not (used m g cell d)) 0 (count_up 1 (side m)) (rising_up 0 1 (side m) (omega arith))

-- a candidate is not 0
pub candidate_some : (m : ℕ) (g : Cells) (cell d : ℕ) → Contains (candidates m g cell) d → 0 < d
candidate_some m g cell d there = rising_above 0 d (candidates m g cell) (candidates_rising m g cell) there

Contains-up : (from n d : ℕ) → from ≤ d → d < from + n → Contains (count_up from n) d
unfolding count_up
Contains-up from zero d low high = absurd (omega arith)
Contains-up from (suc n) d low high = elim (cases_eq from d) [
  | inl same ↦ subst (λ z. Contains (from ∷ count_up (from + 1) n) z) same (Contains-head from (count_up (from + 1) n))
  | inr differs ↦ Contains-later from d (count_up (from + 1) n) (Contains-up (from + 1) n d (omega arith) (omega arith))
]

-- a digit that is not used is a candidate
pub unused_is_candidate : (m : ℕ) (g : Cells) (cell d : ℕ) → 1 ≤ d → d ≤ side m → used m g cell d ≡ false → Contains (candidates m g cell) d
unused_is_candidate m g cell d low high unused =
    Contains-filter (λ k. not (used m g cell k)) (count_up 1 (side m)) d (Contains-up 1 (side m) d low (omega arith))
    (not_from_false (used m g cell d) unused)
