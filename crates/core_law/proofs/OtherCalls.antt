-- A step that is not about a rank adds no call of it.
use Rattle.std.proofs.Common.{◌≡◌, false, [], ◌++◌, Option, Some, None, refl, sym, ap, ◌∙◌}
use Rattle.std.specs.Prelude.{option_and_then}
use Rattle.std.specs.Option.{option_map}
use Rattle.adlb_unit.specs.declared.names.BatchId.{BatchId}
use Rattle.adlb_unit.specs.declared.names.Rank.{Rank}
use Rattle.adlb_unit.specs.declared.names.Server.{Server}
use Rattle.bag_ledger.specs.declared.entries.Answer.{Answer}
use Rattle.bag_ledger.specs.declared.entries.Answer.TheVariants as answers
use Rattle.bag_ledger.specs.declared.entries.Call.{Call}
use Rattle.bag_ledger.specs.declared.entries.Entry.{Entry}
use Rattle.bag_ledger.specs.declared.entries.Entry.TheVariants as enters
use Rattle.bag_ledger.specs.declared.entries.Said.{Said}
use Rattle.bag_ledger.specs.declared.states.Placed.{Placed}
use Rattle.bag_ledger.specs.declared.states.RankState.{RankState}
use Rattle.bag_ledger.specs.Bag.{Bag, rank_at, unit_of}
use Rattle.bag_ledger.specs.Runs.{answered, call_of, calls_from, common_answer, note_of, own_answer, said_by, says}
use Rattle.bag_ledger.specs.Steps.{after}
use Rattle.core_law.specs.Others.{CallsStay, teller, tells_of}

-- what another rank says
call_other : (me rank : Rank) (answer : Answer) (o : Option Call) → tells_of me (Some rank) ≡ false
    → said_by me (option_map (λ call. (rank, record { call = call; answer = answer })) o) ≡ []
call_other me rank answer None is = refl
call_other me rank answer (Some call) is = rw is refl

answer_other : (me : Rank) (b : Bag) (rank : Rank) (answer : Answer) → tells_of me (Some rank) ≡ false
    → said_by me (answered b rank answer) ≡ []
answer_other me b rank answer is = by_state (rank_at b rank)
  where
    by_state : (o : Option RankState)
        → said_by me
        (option_and_then (λ (r : RankState). option_map (λ call. (rank, record { call = call; answer = answer })) (call_of r.status)) o)
        ≡ []
    by_state None = refl
    by_state (Some r) = call_other me rank answer (call_of r.status) is

maybe_other : (me : Rank) (b : Bag) (rank : Rank) (o : Option Answer) → tells_of me (Some rank) ≡ false
    → said_by me (option_and_then (answered b rank) o) ≡ []
maybe_other me b rank None is = refl
maybe_other me b rank (Some answer) is = answer_other me b rank answer is

-- what is granted or fetched
unit_other : (me : Rank) (b : Bag) (rank : Rank) (f : Placed → Option Answer) (o : Option Placed) → tells_of me (Some rank) ≡ false
    → said_by me (option_and_then (λ (u : Placed). option_and_then (answered b rank) (f u)) o) ≡ []
unit_other me b rank f None is = refl
unit_other me b rank f (Some u) is = maybe_other me b rank (f u) is

grant_other : (me : Rank) (b : Bag) (server : Server) (rank : Rank) (o : Option Placed) → tells_of me (Some rank) ≡ false
    → said_by me (option_and_then (λ (u : Placed). answered b rank (answers.Granted (note_of server u.unit))) o) ≡ []
grant_other me b server rank None is = refl
grant_other me b server rank (Some u) is = answer_other me b rank (answers.Granted (note_of server u.unit)) is

common_other : (me : Rank) (b : Bag) (rank : Rank) (batch : BatchId) (o : Option RankState) → tells_of me (Some rank) ≡ false
    → said_by me (option_and_then (λ (r : RankState). option_and_then (answered b rank) (common_answer b batch r.status)) o) ≡ []
common_other me b rank batch None is = refl
common_other me b rank batch (Some r) is = maybe_other me b rank (common_answer b batch r.status) is

own_other : (me rank : Rank) (s : Said) → tells_of me (Some rank) ≡ false → said_by me (Some (rank, s)) ≡ []
own_other me rank s is = rw is refl

entry_silent : (me : Rank) (b : Bag) (e : Entry) → tells_of me (teller e) ≡ false → said_by me (says b e) ≡ []
entry_silent me b (enters.Accepted server id) is = answer_other me b id.rank answers.Fine is
entry_silent me b (enters.Rejected rank call) is = answer_other me b rank answers.Rejected is
entry_silent me b (enters.Kept server batch) is = answer_other me b batch.rank answers.Fine is
entry_silent me b (enters.Closed server batch) is = answer_other me b batch.rank answers.Fine is
entry_silent me b (enters.Granted server rank call id) is = grant_other me b server rank (unit_of b id) is
entry_silent me b (enters.NoCurrent rank call) is = answer_other me b rank answers.NoCurrent is
entry_silent me b (enters.Fetched server rank id) is = unit_other me b rank (λ u. own_answer u.unit.common u.unit.body) (unit_of b id) is
entry_silent me b (enters.CommonFetched server rank batch) is = common_other me b rank batch (rank_at b rank) is
entry_silent me b (enters.Counted server rank call info) is = answer_other me b rank (answers.Info info) is
entry_silent me b (enters.Done rank call) is = own_other me rank _ is
entry_silent me b (enters.Over rank call end) is = answer_other me b rank (answers.Ended end) is
entry_silent me b (enters.Finished rank call) is = own_other me rank _ is
entry_silent me b _ is = refl

-- a step that is not about a rank adds no call of it
pub calls_stay : CallsStay
calls_stay found b next e es rank step is =
    ap (λ l. l ++ calls_from (after b e) es rank) (entry_silent rank b e is) ∙ ap (λ n. calls_from n es rank) (sym step.2)
