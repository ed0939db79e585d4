-- Legal runs, and the calls of a rank in them.
use Rattle.std.specs.Prelude.{ℕ, Bool, ◌+◌, ◌≡◌, ◌==◌, List, [], ◌∷◌, ◌++◌, length, take, Option, Some, None, if◌then◌else◌, slice_get}
use Rattle.std.specs.Prelude.{option_and_then, option_map}
use Rattle.adlb_unit.specs.declared.configs.Config.{Config}
use Rattle.adlb_unit.specs.declared.names.Rank.{Rank}
use Rattle.adlb_unit.specs.declared.names.Server.{Server}
use Rattle.adlb_unit.specs.declared.names.BatchId.{BatchId}
use Rattle.adlb_unit.specs.declared.names.CommonRef.{CommonRef}
use Rattle.adlb_unit.specs.declared.notes.UnitNote.{UnitNote}
use Rattle.adlb_unit.specs.declared.units.Unit.{Unit}
use Rattle.bag_ledger.specs.declared.entries.Entry.{Entry}
use Rattle.bag_ledger.specs.declared.entries.Entry.TheVariants.{Accepted, Rejected, Kept, Closed, Granted, NoCurrent, Fetched}
use Rattle.bag_ledger.specs.declared.entries.Entry.TheVariants.{CommonFetched, Counted, Done, Over, Finished}
use Rattle.bag_ledger.specs.declared.entries.Call.{Call}
use Rattle.bag_ledger.specs.declared.entries.Call.TheVariants as calls_to
use Rattle.bag_ledger.specs.declared.entries.Answer.{Answer}
use Rattle.bag_ledger.specs.declared.entries.Answer.TheVariants as answers
use Rattle.bag_ledger.specs.declared.entries.Said.{Said}
use Rattle.bag_ledger.specs.declared.states.Status.{Status}
use Rattle.bag_ledger.specs.declared.states.Status.TheVariants as does
use Rattle.bag_ledger.specs.Bag.{Bag, start, rank_at, unit_of, part_of, settled}
use Rattle.bag_ledger.specs.Steps.{Steps, StepsWhere, after}
use Rattle.bag_ledger.specs.Step.{step}

-- the entries, in order, are steps from the first bag to the last
abbrev pub IsRunWhere : (Bag → Bool) → Bag → List Entry → Bag → Type 0
IsRunWhere found b [] last = b ≡ last
IsRunWhere found b (e ∷ es) last = (next : Bag) × StepsWhere found b e next × IsRunWhere found next es last

-- entries lead from one bag to another, each by a legal step
abbrev pub IsRun : Bag → List Entry → Bag → Type 0
IsRun = IsRunWhere settled

-- a ledger is a legal run where its entries, in order, are steps from the start
abbrev pub IsLegal : Config → List Entry → Type 0
IsLegal config ledger = (last : Bag) × IsRun (start config) ledger last

-- the entries before this place are steps from b, and the one at this place is not
abbrev pub IsFirstIllegal : Bag → List Entry → ℕ → Type 0
IsFirstIllegal b ledger place =
    (before : Bag) × (e : Entry) × IsRun b (take place ledger) before × (slice_get ledger place ≡ Some e)
    × ((next : Bag) → ¬ Steps before e next)

-- the place of the first entry that is no step, counted from this number, as a function
abbrev pub first_after : (Bag → Option ℕ) → ℕ → Option Bag → Option ℕ
first_after later place None = Some place
first_after later place (Some next) = later next

-- the place of the first entry that is no step, counted from this one
abbrev pub first_illegal : Bag → ℕ → List Entry → Option ℕ
first_illegal b place [] = None
first_illegal b place (e ∷ es) = first_after (λ next. first_illegal next (place + 1) es) place (step b e)

-- the call that is pending
abbrev pub call_of : Status → Option Call
call_of (does.Putting u) = Some (calls_to.Put u.kind u.prio u.target u.answer u.body)
call_of (does.Keeping call common) = Some (calls_to.BeginBatch common)
call_of (does.Closing call) = Some calls_to.EndBatch
call_of (does.Asking call types) = Some (calls_to.Reserve types)
call_of (does.Trying call types) = Some (calls_to.Try types)
call_of (does.Fetching call id own) = Some (calls_to.Fetch id)
call_of (does.Counting call kind) = Some (calls_to.Count kind)
call_of _ = None

-- the rank's pending call with this answer
abbrev pub answered : Bag → Rank → Answer → Option (Rank × Said)
answered b rank answer =
    option_and_then (λ r. option_map (λ call. (rank, record { call = call; answer = answer })) (call_of r.status)) (rank_at b rank)

-- what the rank that gets the unit learns of it
abbrev pub note_of : Server → Unit → UnitNote
note_of server u =
    record { id = u.id; kind = u.kind; prio = u.prio; answer = u.answer; server = server; common = u.common; length = length u.body }

-- own bytes end a fetch where there is no common part
abbrev pub own_answer : Option CommonRef → List ℕ → Option Answer
own_answer None body = Some (answers.Body body)
own_answer (Some common) body = None

-- else the common bytes do: a body is the common bytes and then the own ones
abbrev pub common_answer : Bag → BatchId → Status → Option Answer
common_answer b batch (does.Fetching call id own) =
    option_and_then (λ p. option_map (λ u. answers.Body (p.common ++ u.unit.body)) (unit_of b id)) (part_of b batch)
common_answer b batch _ = None

-- the call that the entry ends, with its rank and its answer
abbrev pub says : Bag → Entry → Option (Rank × Said)
says b (Accepted server id) = answered b id.rank answers.Fine
says b (Rejected rank call) = answered b rank answers.Rejected
says b (Kept server batch) = answered b batch.rank answers.Fine
says b (Closed server batch) = answered b batch.rank answers.Fine
says b (Granted server rank call id) =
    option_and_then (λ u. answered b rank (answers.Granted (note_of server u.unit))) (unit_of b id)
says b (NoCurrent rank call) = answered b rank answers.NoCurrent
says b (Fetched server rank id) =
    option_and_then (λ u. option_and_then (answered b rank) (own_answer u.unit.common u.unit.body)) (unit_of b id)
says b (CommonFetched server rank batch) =
    option_and_then (λ r. option_and_then (answered b rank) (common_answer b batch r.status)) (rank_at b rank)
says b (Counted server rank call info) = answered b rank (answers.Info info)
says b (Done rank call) = Some (rank, record { call = calls_to.SetDone; answer = answers.Fine })
says b (Over rank call end) = answered b rank (answers.Ended end)
says b (Finished rank call) = Some (rank, record { call = calls_to.Finish; answer = answers.Fine })
says b _ = None

-- what is said by this rank
abbrev pub said_by : Rank → Option (Rank × Said) → List Said
said_by rank None = []
said_by rank (Some (by, said)) = if by.0 == rank.0 then said ∷ [] else []

-- the answered calls of the rank in the entries from b, in order
abbrev pub calls_from : Bag → List Entry → Rank → List Said
calls_from b [] rank = []
calls_from b (e ∷ es) rank = said_by rank (says b e) ++ calls_from (after b e) es rank

-- the calls of a rank in a ledger
abbrev pub calls : Config → List Entry → Rank → List Said
calls config ledger rank = calls_from (start config) ledger rank
