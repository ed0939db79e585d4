-- A batch of two units and two ranks, computed moment by moment, and what lies next to the law and is not so.
use Rattle.std.proofs.Common.{◌≡◌, ℕ, ◌+◌, pos, true, List, ◌∷◌, [], Option, Some, None, refl, take, fold, arith}
use Rattle.std.specs.Prelude.{count_by, option_map, sum_by}
use Rattle.adlb_unit.specs.declared.names.Rank.{Rank}
use Rattle.adlb_unit.specs.declared.names.Server.{Server}
use Rattle.adlb_unit.specs.declared.names.UnitId.{UnitId}
use Rattle.adlb_unit.specs.declared.names.BatchId.{BatchId}
use Rattle.adlb_unit.specs.declared.names.Target.TheVariants.{Any}
use Rattle.bag_ledger.specs.declared.entries.Entry.{Entry}
use Rattle.bag_ledger.specs.declared.entries.Entry.TheVariants.{Putting, Accepted, Keeping, Kept, Closing, Closed, Freed, Asked, Granted}
use Rattle.bag_ledger.specs.declared.entries.Entry.TheVariants.{Fetching, Fetched, CommonFetched, Promised, Refused, Tried, Looked}
use Rattle.bag_ledger.specs.declared.states.Part.{Part}
use Rattle.bag_ledger.specs.declared.states.Placed.{Placed}
use Rattle.bag_ledger.specs.declared.states.Promise.{Promise}
use Rattle.bag_ledger.specs.declared.states.UnitPlace.{UnitPlace}
use Rattle.bag_ledger.specs.declared.states.UnitPlace.TheVariants.{Pinned, Spent}
use Rattle.bag_ledger.specs.Bag.{Bag, empty, part_of, promise_of, unit_of}
use Rattle.bag_ledger.specs.Runs.{first_illegal}
use Rattle.bag_ledger.specs.Steps.{after}
use Rattle.bag_ledger.specs.Words.{looks}
use Rattle.bag_law.specs.Counts.{accepted_of, dues, fetched_of, owes, unspent}

abbrev rank : ℕ → Rank
rank n = record { 0 = n }

abbrev server : ℕ → Server
server n = record { 0 = n }

abbrev unit : ℕ → UnitId
unit n = record { rank = rank 0; number = n }

abbrev the_batch : BatchId
the_batch = record { rank = rank 0; number = 0 }

-- rank 0 puts a unit of one byte
abbrev put : ℕ → ℕ → Entry
put call byte = Putting (rank 0) call (record { 0 = 1 }) (pos 0) Any None (byte ∷ [])

-- rank 1 gets the first unit of the batch before the second is put, and its common bytes come after the batch has ended
abbrev ledger : List Entry
ledger =
    Keeping (rank 0) 0 (1 ∷ []) ∷ Kept (server 0) the_batch ∷ put 1 2 ∷ Accepted (server 0) (unit 1) ∷ Asked (rank 1) 0 None
    ∷ Granted (server 0) (rank 1) 0 (unit 1) ∷ Fetching (rank 1) 1 (unit 1) ∷ put 2 3 ∷ Accepted (server 1) (unit 2)
    ∷ Fetched (server 0) (rank 1) (unit 1) ∷ Closing (rank 0) 3 ∷ Closed (server 0) the_batch ∷ Asked (rank 0) 4 None
    ∷ Granted (server 1) (rank 0) 4 (unit 2) ∷ Fetching (rank 0) 5 (unit 2) ∷ CommonFetched (server 0) (rank 1) the_batch
    ∷ Fetched (server 1) (rank 0) (unit 2) ∷ CommonFetched (server 0) (rank 0) the_batch ∷ Freed (server 0) the_batch ∷ []

ledger_legal : first_illegal (empty 2 2 64) 0 ledger ≡ None
ledger_legal = refl

-- the bag after the first entries, of this number
abbrev bag_at : ℕ → Bag
bag_at n = fold after (empty 2 2 64) (take n ledger)

-- of the batch: accepted, fetched, not spent, owed; and the parts that are due
abbrev counts : Bag → List ℕ
counts b =
    accepted_of the_batch b.parts ∷ fetched_of the_batch b.parts ∷ sum_by (unspent the_batch) b.units
    ∷ owes the_batch b.units b.ranks ∷ dues b.parts ∷ []

two_accepted : counts (bag_at 9) ≡ 2 ∷ 0 ∷ 2 ∷ 0 ∷ 0 ∷ []
two_accepted = refl

one_owed : counts (bag_at 10) ≡ 2 ∷ 0 ∷ 1 ∷ 1 ∷ 0 ∷ []
one_owed = refl

one_fetched : counts (bag_at 16) ≡ 2 ∷ 1 ∷ 1 ∷ 0 ∷ 0 ∷ []
one_fetched = refl

last_owed : counts (bag_at 17) ≡ 2 ∷ 1 ∷ 0 ∷ 1 ∷ 0 ∷ []
last_owed = refl

all_due : counts (bag_at 18) ≡ 2 ∷ 2 ∷ 0 ∷ 0 ∷ 1 ∷ []
all_due = refl

all_freed : counts (bag_at 19) ≡ 2 ∷ 2 ∷ 0 ∷ 0 ∷ 0 ∷ []
all_freed = refl

-- Next to the law.

-- what was accepted is not what was fetched and what is not spent, while a rank is owed common bytes
owed_counts_too :
    (accepted_of the_batch (bag_at 10).parts ≡ fetched_of the_batch (bag_at 10).parts + sum_by (unspent the_batch) (bag_at 10).units)
    → ⊥
owed_counts_too same = absurd (omega arith)

-- a unit may be there while its part is freed: it is spent
abbrev place_of : Bag → UnitId → Option UnitPlace
place_of b id = option_map (λ (u : Placed). u.place) (unit_of b id)

spent_under_a_freed_part : (place_of (bag_at 19) (unit 1) ≡ Some Spent) ×
    (option_map (λ (p : Part). p.freed) (part_of (bag_at 19) the_batch) ≡ Some true)
spent_under_a_freed_part = (refl, refl)

-- a promised unit may be pinned: it was granted where it is while another server has promised room for it
abbrev granted_while_promised : List Entry
granted_while_promised =
    put 0 7 ∷ Accepted (server 0) (unit 0) ∷ Promised (server 1) (unit 0) 1 ∷ Asked (rank 1) 0 None
    ∷ Granted (server 0) (rank 1) 0 (unit 0) ∷ []

granted_while_promised_legal : first_illegal (empty 2 2 64) 0 granted_while_promised ≡ None
granted_while_promised_legal = refl

pinned_and_promised : (place_of (fold after (empty 2 2 64) granted_while_promised) (unit 0) ≡ Some (Pinned (server 0) (rank 1)))
    × (option_map (λ (p : Promise). p.server) (promise_of (fold after (empty 2 2 64) granted_while_promised) (unit 0)) ≡ Some (server 1))
pinned_and_promised = (refl, refl)

-- each server may refuse a call, but none twice
abbrev refused_by : Server → Entry
refused_by by = Refused by (unit 0) 0

refused_by_two : first_illegal (empty 2 2 0) 0 (put 0 7 ∷ refused_by (server 0) ∷ refused_by (server 1) ∷ []) ≡ None
refused_by_two = refl

refused_twice_by_one : first_illegal (empty 2 2 0) 0 (put 0 7 ∷ refused_by (server 0) ∷ refused_by (server 0) ∷ []) ≡ Some 2
refused_twice_by_one = refl

-- in one call a server may look twice
abbrev looked_twice : List Entry
looked_twice = Tried (rank 0) 0 None ∷ Looked (server 0) (rank 0) 0 ∷ Looked (server 0) (rank 0) 0 ∷ []

looked_twice_legal : (first_illegal (empty 2 2 64) 0 looked_twice ≡ None) × (count_by (looks (server 0) (rank 0) 0) looked_twice ≡ 2)
looked_twice_legal = (refl, refl)
