-- Small ledgers, computed: what orderly ranks send and get, and which ranks are not orderly.
use Rattle.std.proofs.Common.{◌≡◌, ℕ, zero, suc, ◌<◌, pos, Bool, true, false, List, ◌∷◌, [], count_by, drop, fold, map, Some, None, refl}
use Rattle.std.proofs.Common.{arith}
use Rattle.adlb_unit.specs.declared.configs.Config.{Config}
use Rattle.adlb_unit.specs.declared.names.Rank.{Rank}
use Rattle.adlb_unit.specs.declared.names.Server.{Server}
use Rattle.adlb_unit.specs.declared.names.Target.TheVariants.{Any, Only}
use Rattle.adlb_unit.specs.declared.names.BatchId.{BatchId}
use Rattle.adlb_unit.specs.declared.names.UnitId.{UnitId}
use Rattle.adlb_unit.specs.declared.notes.End.TheVariants as ends_by
use Rattle.bag_ledger.specs.declared.entries.Answer.{Answer}
use Rattle.bag_ledger.specs.declared.entries.Answer.TheVariants as answers
use Rattle.bag_ledger.specs.declared.entries.Call.TheVariants as calls_to
use Rattle.bag_ledger.specs.declared.entries.Entry.{Entry}
use Rattle.bag_ledger.specs.declared.entries.Entry.TheVariants.{Putting, Accepted, Keeping, Kept, Closing, Closed, Freed, Asked, Granted}
use Rattle.bag_ledger.specs.declared.entries.Entry.TheVariants.{Fetching, Fetched, CommonFetched, Done, Exhausted, Over, Finished}
use Rattle.bag_ledger.specs.declared.entries.Said.{Said}
use Rattle.bag_ledger.specs.declared.states.Part.{Part}
use Rattle.bag_ledger.specs.Bag.{Bag, empty}
use Rattle.bag_ledger.specs.Runs.{first_illegal, calls_from}
use Rattle.bag_ledger.specs.Steps.{after}
use Rattle.bag_ledger.proofs.Legal.{run_from}
use Rattle.balance_law.specs.Balanced.{over_ranks, AreOrderly, IsBalanced}
use Rattle.balance_law.specs.Orderly.{IsOrderly, end_batch, finish}
use Rattle.balance_law.specs.Parcels.{Parcel, sent, got}
use Rattle.balance_law.proofs.Whole.{balanced}

abbrev rank : ℕ → Rank
rank n = record { 0 = n }

abbrev server : ℕ → Server
server n = record { 0 = n }

abbrev unit : ℕ → ℕ → UnitId
unit r call = record { rank = rank r; number = call }

abbrev batch : ℕ → ℕ → BatchId
batch r call = record { rank = rank r; number = call }

-- two ranks and two servers
abbrev two : Bag
two = empty 2 2 64

abbrev said_in : List Entry → ℕ → List Said
said_in ledger n = calls_from two ledger (rank n)

-- how many parcels all ranks sent, and how many they got
abbrev all_sent : List Entry → ℕ
all_sent ledger = over_ranks 2 (λ r. count_by (λ p. true) (sent None (calls_from two ledger r)))

abbrev all_got : List Entry → ℕ
all_got ledger = over_ranks 2 (λ r. count_by (λ p. true) (got None (calls_from two ledger r)))

-- of each common part that was kept: whether it was closed, and whether it was freed
abbrev parts_closed : List Entry → List Bool
parts_closed ledger = map (λ (p : Part). p.closed) (fold after two ledger).parts

abbrev parts_freed : List Entry → List Bool
parts_freed ledger = map (λ (p : Part). p.freed) (fold after two ledger).parts

-- a put of type 1 and priority 7, with answer rank 0
abbrev put : ℕ → ℕ → List ℕ → Entry
put r call body = Putting (rank r) call (record { 0 = 1 }) (pos 7) Any (Some (rank 0)) body

-- rank 1 is granted what rank 0 puts, and fetches it; then both are told the end, and finish
orderly : List Entry
orderly =
    Asked (rank 1) 0 None ∷ put 0 0 (104 ∷ 105 ∷ []) ∷ Accepted (server 1) (unit 0 0) ∷ Granted (server 1) (rank 1) 0 (unit 0 0)
    ∷ Asked (rank 0) 1 None ∷ Fetching (rank 1) 1 (unit 0 0) ∷ Fetched (server 1) (rank 1) (unit 0 0) ∷ Asked (rank 1) 2 None
    ∷ Exhausted ∷ Over (rank 1) 2 ends_by.Exhausted ∷ Finished (rank 1) 3 ∷ Over (rank 0) 1 ends_by.Exhausted ∷ Finished (rank 0) 2 ∷ []

orderly_legal : first_illegal two 0 orderly ≡ None
unfolding orderly
orderly_legal = refl

abbrev parcel : Parcel
parcel = record { kind = record { 0 = 1 }; prio = pos 7; answer = Some (rank 0); common = None; long = 2; own = 104 ∷ 105 ∷ [] }

orderly_sent : sent None (said_in orderly 0) ≡ parcel ∷ []
unfolding orderly sent
orderly_sent = refl

orderly_got : got None (said_in orderly 1) ≡ parcel ∷ []
unfolding orderly got
orderly_got = refl

orderly_counts : all_sent orderly ≡ all_got orderly
unfolding orderly sent got
orderly_counts = refl

orderly_first : IsOrderly 2 None None (said_in orderly 0)
unfolding orderly IsOrderly
orderly_first = (tt, (refl, refl))

orderly_second : IsOrderly 2 None None (said_in orderly 1)
unfolding orderly IsOrderly
orderly_second = (refl, (refl, (refl, refl)))

-- the reserve that is told an end is told that all work is used up, and not that no more work comes
orderly_told : drop 2 (said_in orderly 1) ≡ record { call = calls_to.Reserve None; answer = answers.Ended ends_by.Exhausted } ∷ finish ∷ []
unfolding orderly
orderly_told = refl

-- rank 0 puts two units in a batch, of which each rank gets one, with its common bytes. Rank 0 is told the end in its batch, ends it,
-- and finishes
batched : List Entry
batched =
    Keeping (rank 0) 0 (1 ∷ 2 ∷ []) ∷ Kept (server 0) (batch 0 0) ∷ put 0 1 (104 ∷ []) ∷ Accepted (server 0) (unit 0 1)
    ∷ put 0 2 (105 ∷ []) ∷ Accepted (server 1) (unit 0 2) ∷ Asked (rank 1) 0 None ∷ Granted (server 0) (rank 1) 0 (unit 0 1)
    ∷ Fetching (rank 1) 1 (unit 0 1) ∷ Fetched (server 0) (rank 1) (unit 0 1) ∷ CommonFetched (server 0) (rank 1) (batch 0 0)
    ∷ Asked (rank 0) 3 None ∷ Granted (server 1) (rank 0) 3 (unit 0 2) ∷ Fetching (rank 0) 4 (unit 0 2)
    ∷ Fetched (server 1) (rank 0) (unit 0 2) ∷ CommonFetched (server 0) (rank 0) (batch 0 0) ∷ Asked (rank 0) 5 None
    ∷ Asked (rank 1) 2 None ∷ Exhausted ∷ Over (rank 1) 2 ends_by.Exhausted ∷ Finished (rank 1) 3 ∷ Over (rank 0) 5 ends_by.Exhausted
    ∷ Closing (rank 0) 6 ∷ Closed (server 0) (batch 0 0) ∷ Freed (server 0) (batch 0 0) ∷ Finished (rank 0) 7 ∷ []

batched_legal : first_illegal two 0 batched ≡ None
unfolding batched
batched_legal = refl

-- a unit of the batch, of one own byte
abbrev in_batch : ℕ → Parcel
in_batch byte = record {
  kind = record { 0 = 1 };
  prio = pos 7;
  answer = Some (rank 0);
  common = Some (1 ∷ 2 ∷ []);
  long = 1;
  own = byte ∷ [];
}

batched_sent : sent None (said_in batched 0) ≡ in_batch 104 ∷ in_batch 105 ∷ []
unfolding batched sent
batched_sent = refl

batched_got : (got None (said_in batched 0) ≡ in_batch 105 ∷ []) × (got None (said_in batched 1) ≡ in_batch 104 ∷ [])
unfolding batched got
batched_got = (refl, refl)

batched_freed : (parts_closed batched ≡ true ∷ []) × (parts_freed batched ≡ true ∷ [])
unfolding batched
batched_freed = (refl, refl)

batched_first : IsOrderly 2 None None (said_in batched 0)
unfolding batched IsOrderly
batched_first = (refl, (tt, (tt, (refl, (refl, (refl, refl))))))

batched_second : IsOrderly 2 None None (said_in batched 1)
unfolding batched IsOrderly
batched_second = (refl, (refl, (refl, refl)))

batched_ended : drop 6 (said_in batched 0) ≡ end_batch ∷ finish ∷ []
unfolding batched
batched_ended = refl

-- a put is in no batch before one begins, where its beginning is rejected, and after its end
abbrev put_of : ℕ → Said
put_of byte = record { call = calls_to.Put (record { 0 = 1 }) (pos 7) Any (Some (rank 0)) (byte ∷ []); answer = answers.Fine }

abbrev begin : Answer → Said
begin answer = record { call = calls_to.BeginBatch (1 ∷ 2 ∷ []); answer = answer }

abbrev alone : ℕ → Parcel
alone byte = record { kind = record { 0 = 1 }; prio = pos 7; answer = Some (rank 0); common = None; long = 1; own = byte ∷ [] }

batch_of_each :
    sent None (put_of 5 ∷ begin answers.Rejected ∷ put_of 6 ∷ begin answers.Fine ∷ put_of 7 ∷ end_batch ∷ put_of 8 ∷ [])
    ≡ alone 5 ∷ alone 6 ∷ in_batch 7 ∷ alone 8 ∷ []
unfolding sent
batch_of_each = refl

-- so the law is not empty: it holds of these ledgers
two_by_two : Config
two_by_two = record {
  ranks = 2;
  servers = 2;
  limit = 64;
  ranks_within = (omega arith, omega arith);
  servers_within = (omega arith, omega arith);
  limit_within = (omega arith, omega arith);
}

orderly_all : AreOrderly two_by_two orderly
unfolding two_by_two
orderly_all r below = by_number r.0 below
  where
    by_number : (n : ℕ) → n < 2 → IsOrderly 2 None None (said_in orderly n)
    by_number zero below = orderly_first
    by_number (suc zero) below = orderly_second
    by_number (suc (suc n)) below = absurd (omega arith)

orderly_balanced : (last : Bag) × IsBalanced two_by_two orderly last
unfolding two_by_two
orderly_balanced =
    let run = run_from two 0 orderly orderly_legal in
    (run.0, balanced two_by_two orderly run.0 (omega arith) run.1 orderly_all)

batched_all : AreOrderly two_by_two batched
unfolding two_by_two
batched_all r below = by_number r.0 below
  where
    by_number : (n : ℕ) → n < 2 → IsOrderly 2 None None (said_in batched n)
    by_number zero below = batched_first
    by_number (suc zero) below = batched_second
    by_number (suc (suc n)) below = absurd (omega arith)

batched_balanced : (last : Bag) × IsBalanced two_by_two batched last
unfolding two_by_two
batched_balanced =
    let run = run_from two 0 batched batched_legal in
    (run.0, balanced two_by_two batched run.0 (omega arith) run.1 batched_all)

-- Legal ledgers of which the second rank is not orderly, and in which something that was put is not got, or a common part that was kept
-- is not freed.

-- it puts after it was told the end
late : List Entry
late =
    Asked (rank 0) 0 None ∷ Asked (rank 1) 0 None ∷ Exhausted ∷ Over (rank 1) 0 ends_by.Exhausted ∷ put 1 1 []
    ∷ Accepted (server 0) (unit 1 1) ∷ Finished (rank 1) 2 ∷ Over (rank 0) 0 ends_by.Exhausted ∷ Finished (rank 0) 1 ∷ []

late_legal : first_illegal two 0 late ≡ None
unfolding late
late_legal = refl

late_lost : (all_sent late ≡ 1) × (all_got late ≡ 0)
unfolding late sent got
late_lost = (refl, refl)

late_refused : IsOrderly 2 None None (said_in late 1) → ⊥
unfolding late IsOrderly
late_refused is = let alone = is.1 in absurd (cc)

-- it leaves what it was granted
left : List Entry
left =
    put 0 0 [] ∷ Accepted (server 0) (unit 0 0) ∷ Asked (rank 1) 0 None ∷ Granted (server 0) (rank 1) 0 (unit 0 0) ∷ Asked (rank 1) 1 None
    ∷ Asked (rank 0) 1 None ∷ Exhausted ∷ Over (rank 1) 1 ends_by.Exhausted ∷ Finished (rank 1) 2 ∷ Over (rank 0) 1 ends_by.Exhausted
    ∷ Finished (rank 0) 2 ∷ []

left_legal : first_illegal two 0 left ≡ None
unfolding left
left_legal = refl

left_lost : (all_sent left ≡ 1) × (all_got left ≡ 0)
unfolding left sent got
left_lost = (refl, refl)

left_refused : IsOrderly 2 None None (said_in left 1) → ⊥
unfolding left IsOrderly
left_refused is = is.1.0

-- it finishes though it was told nothing, and a unit for it is put then
early : List Entry
early =
    Finished (rank 1) 0 ∷ Putting (rank 0) 0 (record { 0 = 1 }) (pos 7) (Only (rank 1)) None [] ∷ Accepted (server 0) (unit 0 0)
    ∷ Asked (rank 0) 1 None ∷ Exhausted ∷ Over (rank 0) 1 ends_by.Exhausted ∷ Finished (rank 0) 2 ∷ []

early_legal : first_illegal two 0 early ≡ None
unfolding early
early_legal = refl

early_lost : (all_sent early ≡ 1) × (all_got early ≡ 0)
unfolding early sent got
early_lost = (refl, refl)

early_refused : IsOrderly 2 None None (said_in early 1) → ⊥
unfolding early IsOrderly
early_refused is = is.0

-- it asks for another type than what was put
choosy : List Entry
choosy =
    put 1 0 [] ∷ Accepted (server 0) (unit 1 0) ∷ Asked (rank 1) 1 (Some (record { 0 = 2 } ∷ [])) ∷ Asked (rank 0) 0
    (Some (record { 0 = 2 } ∷ []))
    ∷ Exhausted ∷ Over (rank 1) 1 ends_by.Exhausted ∷ Finished (rank 1) 2 ∷ Over (rank 0) 0 ends_by.Exhausted ∷ Finished (rank 0) 1 ∷ []

choosy_legal : first_illegal two 0 choosy ≡ None
unfolding choosy
choosy_legal = refl

choosy_lost : (all_sent choosy ≡ 1) × (all_got choosy ≡ 0)
unfolding choosy sent got
choosy_lost = (refl, refl)

choosy_refused : IsOrderly 2 None None (said_in choosy 1) → ⊥
unfolding choosy IsOrderly
choosy_refused is = let any = is.1.0 in absurd (cc)

-- it calls the problem done
over : List Entry
over =
    put 0 0 [] ∷ Accepted (server 0) (unit 0 0) ∷ Done (rank 1) 0 ∷ Finished (rank 1) 1 ∷ Asked (rank 0) 1 None
    ∷ Over (rank 0) 1 ends_by.NoMoreWork ∷ Finished (rank 0) 2 ∷ []

over_legal : first_illegal two 0 over ≡ None
unfolding over
over_legal = refl

over_lost : (all_sent over ≡ 1) × (all_got over ≡ 0)
unfolding over sent got
over_lost = (refl, refl)

over_refused : IsOrderly 2 None None (said_in over 1) → ⊥
unfolding over IsOrderly
over_refused is = is.0

-- a unit for a rank that is not there
astray : List Entry
astray =
    Putting (rank 1) 0 (record { 0 = 1 }) (pos 7) (Only (rank 2)) None [] ∷ Accepted (server 0) (unit 1 0) ∷ Asked (rank 0) 0 None
    ∷ Asked (rank 1) 1 None ∷ Exhausted ∷ Over (rank 1) 1 ends_by.Exhausted ∷ Finished (rank 1) 2 ∷ Over (rank 0) 0 ends_by.Exhausted
    ∷ Finished (rank 0) 1 ∷ []

astray_legal : first_illegal two 0 astray ≡ None
unfolding astray
astray_legal = refl

astray_lost : (all_sent astray ≡ 1) × (all_got astray ≡ 0)
unfolding astray sent got
astray_lost = (refl, refl)

astray_refused : IsOrderly 2 None None (said_in astray 1) → ⊥
unfolding astray IsOrderly
astray_refused is = absurd (omega (arith, is.0))

-- it never ends its batch, so it cannot finish
unended : List Entry
unended =
    Keeping (rank 1) 0 (1 ∷ []) ∷ Kept (server 0) (batch 1 0) ∷ Asked (rank 1) 1 None ∷ Asked (rank 0) 0 None ∷ Exhausted
    ∷ Over (rank 1) 1 ends_by.Exhausted ∷ Over (rank 0) 0 ends_by.Exhausted ∷ Finished (rank 0) 1 ∷ []

unended_legal : first_illegal two 0 unended ≡ None
unfolding unended
unended_legal = refl

unended_kept : (parts_closed unended ≡ false ∷ []) × (parts_freed unended ≡ false ∷ [])
unfolding unended
unended_kept = (refl, refl)

unended_refused : IsOrderly 2 None None (said_in unended 1) → ⊥
unfolding unended IsOrderly
unended_refused is = let ends = is.1.1 in absurd (cc)

-- it puts in its batch after it was told the end, and ends it then
late_in_batch : List Entry
late_in_batch =
    Keeping (rank 1) 0 (1 ∷ []) ∷ Kept (server 0) (batch 1 0) ∷ Asked (rank 1) 1 None ∷ Asked (rank 0) 0 None ∷ Exhausted
    ∷ Over (rank 1) 1 ends_by.Exhausted ∷ put 1 2 [] ∷ Accepted (server 1) (unit 1 2) ∷ Closing (rank 1) 3 ∷ Closed (server 0) (batch 1 0)
    ∷ Finished (rank 1) 4 ∷ Over (rank 0) 0 ends_by.Exhausted ∷ Finished (rank 0) 1 ∷ []

late_in_batch_legal : first_illegal two 0 late_in_batch ≡ None
unfolding late_in_batch
late_in_batch_legal = refl

late_in_batch_lost : (all_sent late_in_batch ≡ 1) × (all_got late_in_batch ≡ 0)
unfolding late_in_batch sent got
late_in_batch_lost = (refl, refl)

late_in_batch_kept : (parts_closed late_in_batch ≡ true ∷ []) × (parts_freed late_in_batch ≡ false ∷ [])
unfolding late_in_batch
late_in_batch_kept = (refl, refl)

late_in_batch_refused : IsOrderly 2 None None (said_in late_in_batch 1) → ⊥
unfolding late_in_batch IsOrderly
late_in_batch_refused is = let ends = is.1.1 in absurd (cc)

-- it begins a batch before it fetches what it was granted
between : List Entry
between =
    put 0 0 [] ∷ Accepted (server 0) (unit 0 0) ∷ Asked (rank 1) 0 None ∷ Granted (server 0) (rank 1) 0 (unit 0 0)
    ∷ Keeping (rank 1) 1 [] ∷ Kept (server 0) (batch 1 1) ∷ Fetching (rank 1) 2 (unit 0 0) ∷ Fetched (server 0) (rank 1) (unit 0 0)
    ∷ Asked (rank 1) 3 None ∷ Asked (rank 0) 1 None ∷ Exhausted ∷ Over (rank 1) 3 ends_by.Exhausted ∷ Closing (rank 1) 4
    ∷ Closed (server 0) (batch 1 1) ∷ Freed (server 0) (batch 1 1) ∷ Finished (rank 1) 5 ∷ Over (rank 0) 1 ends_by.Exhausted
    ∷ Finished (rank 0) 2 ∷ []

between_legal : first_illegal two 0 between ≡ None
unfolding between
between_legal = refl

between_lost : (all_sent between ≡ 1) × (all_got between ≡ 0)
unfolding between sent got
between_lost = (refl, refl)

between_refused : IsOrderly 2 None None (said_in between 1) → ⊥
unfolding between IsOrderly
between_refused is = is.1.0
