-- Runs of the bag, whatever is asked where exhaustion is found: a rank's calls grow at their end alone; and with one server all is settled
-- where it is found.
use Rattle.std.proofs.Common.{◌≡◌, Bool, true, cond, List, [], ◌∷◌, ◌++◌, refl, sym, subst, append_assoc}
use Rattle.std.proofs.lemmas.Bool.{eq-eqb}
use Rattle.adlb_unit.specs.declared.configs.Config.{Config}
use Rattle.adlb_unit.specs.declared.names.Rank.{Rank}
use Rattle.bag_ledger.specs.declared.entries.Entry.{Entry}
use Rattle.bag_ledger.specs.Bag.{Bag, settled}
use Rattle.bag_ledger.specs.Steps.{after}
use Rattle.bag_ledger.specs.Runs.{IsRun, IsRunWhere, says, said_by, calls_from}
use Rattle.core_law.specs.Found.{found_in}

-- the calls of two parts are those of the first and then those of the second
pub split_where : (found : Bag → Bool) (b middle : Bag) (xs ys : List Entry) (rank : Rank) → IsRunWhere found b xs middle
    → calls_from b (xs ++ ys) rank ≡ calls_from b xs rank ++ calls_from middle ys rank
split_where found b middle [] ys rank run = rw run refl
split_where found b middle (x ∷ xs) ys rank run =
    let next = after b x in
    let rest : IsRunWhere found next xs middle = subst (λ (m : Bag). IsRunWhere found m xs middle) run.1.2 run.2 in
    rw (split_where found next middle xs ys rank rest)
    (sym (append_assoc (said_by rank (says b x)) (calls_from next xs rank) (calls_from middle ys rank)))

-- with one server nothing is set aside
pub alone_run : (config : Config) (b last : Bag) (es : List Entry) → config.servers ≡ 1 → IsRunWhere (found_in config) b es last
    → IsRun b es last
alone_run config b last es alone run =
    let P : Bool → Type 0 = λ one. IsRunWhere (λ (x : Bag). cond one (settled x) true) b es last in
    subst P (eq-eqb config.servers 1 alone) run
