-- Next to the laws on what follows an end, and not so: the bag alone allows it.
use Rattle.std.proofs.Common.{◌≡◌, ℕ, pos, true, List, ◌∷◌, [], None, refl, fold}
use Rattle.std.specs.List.{list_any}
use Rattle.std.specs.Prelude.{length}
use Rattle.adlb_unit.specs.declared.names.Rank.{Rank}
use Rattle.adlb_unit.specs.declared.names.Server.{Server}
use Rattle.adlb_unit.specs.declared.names.Target.TheVariants.{Any}
use Rattle.adlb_unit.specs.declared.names.UnitId.{UnitId}
use Rattle.adlb_unit.specs.declared.notes.End.TheVariants as ends_by
use Rattle.bag_ledger.specs.Bag.{Bag, empty}
use Rattle.bag_ledger.specs.Runs.{first_illegal}
use Rattle.bag_ledger.specs.Steps.{after}
use Rattle.bag_ledger.specs.declared.entries.Entry.{Entry}
use Rattle.bag_ledger.specs.declared.entries.Entry.TheVariants.{Accepted, Asked, Exhausted, Finished, Over, Promised, Putting}
use Rattle.core_check_law.specs.After.{is_work}

abbrev rank : ℕ → Rank
rank n = record { 0 = n }

abbrev server : ℕ → Server
server n = record { 0 = n }

abbrev unit : ℕ → UnitId
unit n = record { rank = rank 0; number = n }

abbrev put : ℕ → Entry
put call = Putting (rank 0) call (record { 0 = 1 }) (pos 0) Any None (7 ∷ [])

-- a rank that was told the end puts a unit, and it is accepted: legal, but no client does so
abbrev told_and_puts : List Entry
told_and_puts = Over (rank 0) 0 ends_by.Exhausted ∷ put 1 ∷ Accepted (server 0) (unit 1) ∷ []

work_after_the_end : (first_illegal (empty 1 1 64) 0 (Asked (rank 0) 0 None ∷ Exhausted ∷ told_and_puts) ≡ None)
    × (list_any is_work told_and_puts ≡ true)
work_after_the_end = (refl, refl)

-- room for a unit is promised, and each rank has finished: legal, but no server is shut then
abbrev promised_and_finished : List Entry
promised_and_finished = put 0 ∷ Accepted (server 0) (unit 0) ∷ Promised (server 1) (unit 0) 1 ∷ Finished (rank 0) 1 ∷ []

abbrev finished_bag : Bag
finished_bag = fold after (empty 1 2 64) promised_and_finished

promise_at_the_end : (first_illegal (empty 1 2 64) 0 promised_and_finished ≡ None) × (length finished_bag.promises ≡ 1)
promise_at_the_end = (refl, refl)
