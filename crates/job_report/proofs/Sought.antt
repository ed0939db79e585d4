-- What was noted of over puzzles.
use Rattle.std.proofs.Common.{◌≡◌, ℕ, ◌+◌, ◌<◌, ◌≤◌, ◌==◌, ◌||◌, Bool, true, false, List, ◌∷◌, refl}
use Rattle.std.proofs.Common.{length, drop, get_or, sym, ap, ◌∙◌}
use Rattle.std.specs.List.{list_any}
use Rattle.std.proofs.lemmas.List.{drop_all, drop_more}
use Rattle.job_report.specs.Whole.{told_over}
use Rattle.job_report.specs.declared.outcomes.Outcome.{Outcome}

or_or : (a b c : Bool) → ((a || b) || c) ≡ (a || (b || c))
or_or true b c = refl
or_or false b c = refl

or_none : (a : Bool) → (a || false) ≡ a
or_none true = refl
or_none false = refl

-- one more over puzzle is noted
pub over_noted : (n i : ℕ) (overs : List ℕ) (x : ℕ) (held next : Bool) → i < length overs → x ≡ get_or overs i x →
    next ≡ (held || (x == n)) → (next || list_any (λ k. k == n) (drop (i + 1) overs)) ≡ (held || list_any (λ k. k == n) (drop i overs))
over_noted n i overs x held next within is noted =
    let rest : Bool = list_any (λ k. k == n) (drop (i + 1) overs) in
    let here : list_any (λ k. k == n) (drop i overs) ≡ ((x == n) || rest) =
    ap (list_any (λ k. k == n)) (drop_more overs i x within ∙ ap (λ y. y ∷ drop (i + 1) overs) (sym is)) in
    ap (λ b. b || rest) noted ∙ or_or held (x == n) rest ∙ ap (λ b. held || b) (sym here)

-- all are
pub overs_noted : (n i : ℕ) (overs : List ℕ) (held all : Bool) → length overs ≤ i →
    (held || list_any (λ k. k == n) (drop i overs)) ≡ all → held ≡ all
overs_noted n i overs held all past so_far =
    sym (or_none held) ∙ ap (λ l. held || list_any (λ k. k == n) l) (sym (drop_all i overs past)) ∙ so_far

-- The over puzzles of one more outcome are noted.
module _ (n i : ℕ) (outcomes : List Outcome) (o : Outcome) (within : i < length outcomes) (is : o ≡ get_or outcomes i o) where
  begins : drop i outcomes ≡ o ∷ drop (i + 1) outcomes
  begins = drop_more outcomes i o within ∙ ap (λ x. x ∷ drop (i + 1) outcomes) (sym is)

  -- whether a puzzle is over, with one outcome more
  pub overs_more : (held next : Bool) (told : List ℕ) → told ≡ o.overs.items → next ≡ (held || list_any (λ k. k == n) told) →
      (next || told_over n (drop (i + 1) outcomes)) ≡ (held || told_over n (drop i outcomes))
  overs_more held next told same noted =
      let rest : Bool = told_over n (drop (i + 1) outcomes) in
      ap (λ b. b || rest) (noted ∙ ap (λ l. held || list_any (λ k. k == n) l) same) ∙ or_or held (list_any (λ k. k == n) o.overs.items) rest
      ∙ ap (λ l. held || told_over n l) (sym begins)

-- no outcome is left
pub overs_all : (n i : ℕ) (outcomes : List Outcome) (held all : Bool) → length outcomes ≤ i →
    (held || told_over n (drop i outcomes)) ≡ all → held ≡ all
overs_all n i outcomes held all past so_far =
    sym (or_none held) ∙ ap (λ l. held || told_over n l) (sym (drop_all i outcomes past)) ∙ so_far
