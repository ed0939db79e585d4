-- Legal runs: the function finds the first entry that is no step.
use Rattle.std.proofs.Common.{◌≡◌, Bool, ℕ, zero, suc, ◌+◌, List, [], ◌∷◌, ◌++◌, Option, Some, None, refl, ap, ◌∙◌, arith}
use Rattle.bag_ledger.specs.declared.entries.Entry.{Entry}
use Rattle.bag_ledger.specs.Bag.{Bag, settled}
use Rattle.bag_ledger.specs.Steps.{Steps}
use Rattle.bag_ledger.specs.Step.{step}
use Rattle.bag_ledger.specs.Runs.{IsRun, IsRunWhere, IsFirstIllegal, first_illegal, first_after}
use Rattle.bag_ledger.proofs.Tests.{some_is}
use Rattle.bag_ledger.proofs.Bridge.{row_is, is_row}

-- where none is found the ledger is a run
pub run_from : (b : Bag) (place : ℕ) (es : List Entry) → first_illegal b place es ≡ None → (last : Bag) × IsRun b es last
run_from b place [] e = (b, refl)
run_from b place (x ∷ es) e = by_step (λ next. run_from next (place + 1) es) (step b x) refl e
  where
    by_step : ((next : Bag) → first_illegal next (place + 1) es ≡ None → (last : Bag) × IsRun next es last) → (o : Option Bag)
        → step b x ≡ o → first_after (λ next. first_illegal next (place + 1) es) place o ≡ None → (last : Bag) × IsRun b (x ∷ es) last
    by_step rest None is none = absurd (cc)
    by_step rest (Some next) is none = let run = rest next none in (run.0, (next, is_row b next x is, run.1))

-- in a run none is found
pub none_found : (b last : Bag) (place : ℕ) (es : List Entry) → IsRun b es last → first_illegal b place es ≡ None
none_found b last place [] run = refl
none_found b last place (x ∷ es) run = rw (row_is b run.0 x run.1) (none_found run.0 last (place + 1) es run.2)

no_step : (b : Bag) (x : Entry) → step b x ≡ None → (next : Bag) → ¬ Steps b x next
no_step b x is next s = let made = row_is b next x s in cc

not_made : (b : Bag) (x : Entry) → ((next : Bag) → ¬ Steps b x next) → step b x ≡ None
not_made b x none = by_step (step b x) refl
  where
    by_step : (o : Option Bag) → step b x ≡ o → step b x ≡ None
    by_step None is = is
    by_step (Some next) is = absurd (none next (is_row b next x is))

-- what is found is the first entry that is no step
pub found_is : (b : Bag) (from place : ℕ) (es : List Entry) → first_illegal b from es ≡ Some place
    → (k : ℕ) × (place ≡ from + k) × IsFirstIllegal b es k
found_is b from place [] e = absurd (cc)
found_is b from place (x ∷ es) e = by_step (λ next. found_is next (from + 1) place es) (step b x) refl e
  where
    by_step : ((next : Bag) → first_illegal next (from + 1) es ≡ Some place → (k : ℕ) × (place ≡ (from + 1) + k) × IsFirstIllegal next es k)
        → (o : Option Bag) → step b x ≡ o → first_after (λ next. first_illegal next (from + 1) es) from o ≡ Some place
        → (k : ℕ) × (place ≡ from + k) × IsFirstIllegal b (x ∷ es) k
    by_step rest None is here =
        let same : from ≡ place = some_is here in
        (zero, omega arith, (b, x, refl, refl, no_step b x is))
    by_step rest (Some next) is later =
        let s = rest next later in
        (suc s.0, omega (arith, s.1), (s.2.0, s.2.1, (next, is_row b next x is, s.2.2), s.2.3, s.2.4))

-- and the first entry that is no step is found
pub is_found : (b : Bag) (from k : ℕ) (es : List Entry) → IsFirstIllegal b es k → first_illegal b from es ≡ Some (from + k)
is_found b from k [] s = absurd (cc)
is_found b from zero (x ∷ es) s =
    let same : x ≡ s.1 = some_is s.3 in
    let none : (next : Bag) → ¬ Steps b x next = rw (s.2, same) s.4 in
    rw (not_made b x none) (ap Some (omega arith))
is_found b from (suc k) (x ∷ es) s =
    let later = is_found s.2.0 (from + 1) k es (s.0, s.1, s.2.2, s.3, s.4) in
    let place : (from + 1) + k ≡ from + suc k = omega arith in
    rw (row_is b s.2.0 x s.2.1) (later ∙ ap Some place)

-- a run of a list in two parts is a run of each
pub run_split : (found : Bag → Bool) (b last : Bag) (xs ys : List Entry) → IsRunWhere found b (xs ++ ys) last
    → (middle : Bag) × IsRunWhere found b xs middle × IsRunWhere found middle ys last
run_split found b last [] ys run = (b, refl, run)
run_split found b last (x ∷ xs) ys run =
    let s = run_split found run.0 last xs ys run.2 in
    (s.0, (run.0, run.1, s.1), s.2)

-- two runs, of which one begins where the other ends, are one run
pub joined_where : (found : Bag → Bool) (b middle last : Bag) (xs ys : List Entry) → IsRunWhere found b xs middle
    → IsRunWhere found middle ys last → IsRunWhere found b (xs ++ ys) last
joined_where found b middle last [] ys first then = rw first then
joined_where found b middle last (x ∷ xs) ys first then = (first.0, first.1, joined_where found first.0 middle last xs ys first.2 then)

-- two runs, of which one begins where the other ends, are one run
pub run_joined : (b middle last : Bag) (xs ys : List Entry) → IsRun b xs middle → IsRun middle ys last → IsRun b (xs ++ ys) last
run_joined = joined_where settled
