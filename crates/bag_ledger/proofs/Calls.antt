-- The calls of a rank grow at their end alone.
use Rattle.std.proofs.Common.{◌≡◌, List, [], ◌∷◌, ◌++◌, refl, sym, subst, append_assoc}
use Rattle.adlb_unit.specs.declared.names.Rank.{Rank}
use Rattle.bag_ledger.specs.declared.entries.Entry.{Entry}
use Rattle.bag_ledger.specs.Bag.{Bag}
use Rattle.bag_ledger.specs.Steps.{after}
use Rattle.bag_ledger.specs.Runs.{IsRun, says, said_by, calls_from}

-- the calls of two parts are those of the first and then those of the second
pub calls_split : (b middle : Bag) (xs ys : List Entry) (rank : Rank) → IsRun b xs middle
    → calls_from b (xs ++ ys) rank ≡ calls_from b xs rank ++ calls_from middle ys rank
calls_split b middle [] ys rank run = rw run refl
calls_split b middle (x ∷ xs) ys rank run =
    let next = after b x in
    let rest : IsRun next xs middle = subst (λ (m : Bag). IsRun m xs middle) run.1.2 run.2 in
    rw (calls_split next middle xs ys rank rest)
    (sym (append_assoc (said_by rank (says b x)) (calls_from next xs rank) (calls_from middle ys rank)))
