-- The motifs that are looked for, one after the other.
use Rattle.std.proofs.Common.{◌≡◌, ◌+◌, ◌<◌, ℕ, Bool, cond, List, [], ◌∷◌, length, take, get_or, ap, ◌∙◌, arith, count_by, sum_by}
use Rattle.std.specs.Borrow.{Bor}
use Rattle.std.specs.List.{range_with_len}
use Rattle.std.proofs.lemmas.List.{take_all}
use Rattle.std.proofs.lemmas.List.FromFn.{get_or-range_with_len, length-range_with_len}
use Rattle.std.proofs.lemmas.List.Sums.{sum_by_more}
use Rattle.example_motifs.specs.Texts.{times, whole, worth}

-- how many findings of the first motifs pass the test
abbrev pub so_far : List (Bor (List ℕ)) → (ℕ × ℕ → Bool) → List ℕ → ℕ → ℕ
so_far motifs test text n = count_by (λ number. test (number, times motifs text number)) (take n (range_with_len 0 (length motifs)))

-- the next motif adds what its unit is worth
pub next : (motifs : List (Bor (List ℕ))) (test : ℕ × ℕ → Bool) (text : List ℕ) (n : ℕ) → n < length motifs →
    so_far motifs test text (n + 1) ≡ so_far motifs test text n + worth motifs test text (n ∷ [])
next motifs test text n less =
    let f : ℕ → ℕ = λ number. cond (test (number, times motifs text number)) 1 0 in
    let r : List ℕ = range_with_len 0 (length motifs) in
    let long = length-range_with_len 0 (length motifs) in
    let more = sum_by_more f r n 0 (omega (arith, long)) in
    let at : get_or r n 0 ≡ n = omega (arith, get_or-range_with_len 0 (length motifs) n 0 less) in
    more ∙ ap (λ c. sum_by f (take n r) + f c) at

pub all : (motifs : List (Bor (List ℕ))) (test : ℕ × ℕ → Bool) (text : List ℕ) →
    so_far motifs test text (length motifs) ≡ whole motifs test text
all motifs test text =
    ap (λ l. count_by (λ number. test (number, times motifs text number)) l)
    (take_all (length motifs) (range_with_len 0 (length motifs)) (omega (arith, length-range_with_len 0 (length motifs))))
