-- What is counted of a ledger that is read entry by entry.
use Rattle.std.proofs.Common.{◌≡◌, ◌≤◌, ◌+◌, ◌∙◌, ℕ, Bool, List, [], ◌∷◌, length, cond, count_by, arith, ap, refl}
use Rattle.std.proofs.lemmas.List.Sums.{count_by-le-length, sum_by-append}
use Rattle.bag_ledger.specs.declared.entries.Entry.{Entry}
use Rattle.ledger_stats.specs.inside.{told}
use Rattle.ledger_stats.specs.declared.stats.Statistic.{Statistic}
use Rattle.ledger_stats.specs.declared.stats.Statistic.TheVariants.{Accepted, Refused, Rejected, Granted, Pushed}
use Rattle.ledger_stats.specs.declared.stats.Tally.{Tally}

abbrev pub nothing : Tally
nothing = record { accepted = 0; refused = 0; rejected = 0; granted = 0; pushed = 0 }

pub none_told : (s : Statistic) → told nothing s ≡ 0
none_told Accepted = refl
none_told Refused = refl
none_told Rejected = refl
none_told Granted = refl
none_told Pushed = refl

-- an entry comes before those that are left
entry_first : (f : Entry → Bool) (e : Entry) (rest : List Entry) → count_by f (e ∷ rest) ≡ count_by f (e ∷ []) + count_by f rest
entry_first f e rest = sum_by-append (λ x. cond (f x) 1 0) (e ∷ []) rest

pub counted_more : (f : Entry → Bool) (told told' : ℕ) (e : Entry) (left rest all : List Entry) → left ≡ e ∷ rest
    → told + count_by f left ≡ count_by f all → told' ≡ told + count_by f (e ∷ []) → told' + count_by f rest ≡ count_by f all
counted_more f told told' e left rest all is was more =
    let first = ap (λ l. count_by f l) is ∙ entry_first f e rest in omega (arith, first, was, more)

-- with the next entry it is at most their number
pub counted_few : (f : Entry → Bool) (told : ℕ) (e : Entry) (left rest all : List Entry) → left ≡ e ∷ rest
    → told + count_by f left ≡ count_by f all → told + count_by f (e ∷ []) ≤ length all
counted_few f told e left rest all is was =
    let first = ap (λ l. count_by f l) is ∙ entry_first f e rest in
    let few = count_by-le-length f all in omega (arith, first, was, few)
