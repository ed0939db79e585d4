-- What calls make of a link, by what they come to.
use Rattle.std.proofs.Common.{◌≡◌, ℕ, ℤ, Bool, true, false, List, [], ◌∷◌, ◌++◌, Option, Some, None, Result, Ok, Err, IfOk, OnOk, OnErr}
use Rattle.std.proofs.Common.{refl, sym, ap, ◌∙◌, subst, inl, inr, ◌⊎◌}
use Rattle.adlb_rank.specs.Calls.{HasTaken, Stays, Takes, answer_of, replied}
use Rattle.adlb_rank.specs.declared.replies.Reply.{Reply}
use Rattle.adlb_rank.specs.declared.replies.Reply.TheVariants as replies
use Rattle.adlb_rank.specs.declared.replies.Taken.{Taken}
use Rattle.adlb_rank.specs.declared.replies.Taken.TheVariants as takes
use Rattle.adlb_unit.specs.declared.notes.Trouble.{Trouble}
use Rattle.adlb_unit.specs.declared.notes.Trouble.TheVariants.{TooLong}
use Rattle.bag_ledger.specs.declared.entries.Call.{Call}
use Rattle.bag_ledger.specs.declared.entries.Call.TheVariants.{Put, Reserve, Fetch, BeginBatch}
use Rattle.bag_ledger.specs.declared.entries.Said.{Said}
use Rattle.rank_client.specs.Answers.{answered, troubled}
use Rattle.rank_client.specs.Calls.{Pends, plus, unanswered}
use Rattle.rank_client.specs.Link.{LinkModel, Made, batch_after}
use Rattle.work_law.specs.Books.{said_of}
use Rattle.tour_app.specs.Calls.{Fails, is_accepted}
use Rattle.tour_app.specs.Puts.{call_of}
use Rattle.tour_app.specs.Working.{Keeps}
use Rattle.tour_app.specs.declared.units.Putting.{Putting}
use Rattle.tour_app.proofs.Ways.{began_pends}

-- what is so is so of a success
pub on_ok : {X E : Type 0} (P : Type 0) → P → (r : Result X E) → OnOk r P
on_ok P is (Ok x) = is
on_ok P is (Err e) = tt

-- a reply is the next call of the transcript
pub says_by : (old new : List Said) (call made : Call) (r : Result Reply Trouble) → call ≡ made
    → new ≡ plus old call (answered (replied r)) →
    IfOk r (λ reply. new ≡ old ++ said_of made (answer_of reply) ∷ [])
says_by old new call made (Ok reply) same is = is ∙ ap (λ (c : Call). old ++ said_of c (answer_of reply) ∷ []) same
says_by old new call made (Err trouble) same is = tt

-- a call without a reply leaves the transcript
pub same_by : (old new : List Said) (call : Call) (r : Result Reply Trouble) → new ≡ plus old call (answered (replied r))
    → OnErr r (new ≡ old)
same_by old new call (Ok reply) is = tt
same_by old new call (Err trouble) is = is

-- a link with a reply has not failed
pub whole_by : (now : Option Trouble) (r : Result Reply Trouble) → now ≡ troubled (replied r) → OnOk r (now ≡ None)
whole_by now (Ok reply) is = is
whole_by now (Err trouble) is = tt

-- a link whose stamps ran out has failed for it
pub too_long_by : (now : Option Trouble) (r : Result Reply Trouble) → now ≡ troubled (replied r) → (stamp : ℕ) → r ≡ Err (TooLong stamp) →
    now ≡ Some (TooLong stamp)
too_long_by now r is stamp e = is ∙ ap (λ (x : Result Reply Trouble). troubled (replied x)) e

-- a call that is begun and not answered is the one that was made
pub begun_by : (old new : LinkModel) (call made : Call) (r : Result Reply Trouble) → call ≡ made → old.failed ≡ None
    → Made old new call (replied r) →
    Pends (unanswered new.failed new.begun) made
begun_by old new call made r same whole is =
    subst (λ (c : Call). Pends (unanswered new.failed new.begun) c) same
    (began_pends old.failed old.begun call new.failed new.begun whole is.began)

-- a call that stays or is answered keeps what was so
pub keeps_by : (old new : LinkModel) (call : Call) (r : Result Reply Trouble) → Made old new call (replied r) → Stays old new r →
    Keeps old new old.batch r
keeps_by old new call r is stays = record {
  seat = stays.seat;
  whole = whole_by new.failed r is.failed;
  batch = stays.batch;
  too_long = stays.too_long;
}

-- a batch goes on exactly if its begin was accepted
pub batch_by : (common : List ℕ) (now on : Bool) (r : Result Reply Trouble) → now ≡ batch_after (BeginBatch common) (replied r) on
    → on ≡ false →
    IfOk r (λ reply. now ≡ is_accepted reply)
batch_by common now on (Ok replies.Accepted) is closed = is
batch_by common now on (Ok replies.Rejected) is closed = is ∙ closed
batch_by common now on (Ok (replies.Ended end)) is closed = is ∙ closed
batch_by common now on (Err trouble) is closed = tt

-- Taking a unit.

-- a reserve that fails leaves a rank whose link fails
pub fails_by : (old new : LinkModel) (r : Result Taken Trouble) → old.failed ≡ None → HasTaken (Reserve None) old new r →
    OnErr r (Fails old.said new.said (unanswered new.failed new.begun))
fails_by old new (Ok taken) whole is = tt
fails_by old new (Err trouble) whole (inl is) =
    inl (is.said, began_pends old.failed old.begun (Reserve None) new.failed new.begun whole is.began)
fails_by old new (Err trouble) whole (inr is) =
    let mid : LinkModel = is.0 in
    inr (
      is.1,
      is.3.said ∙ is.2.said,
      began_pends mid.failed mid.begun (Fetch is.1.id) new.failed new.begun is.2.failed is.3.began,
    )

-- a link that took a unit has not failed
pub took_whole : (old new : LinkModel) (r : Result Taken Trouble) → HasTaken (Reserve None) old new r → OnOk r (new.failed ≡ None)
took_whole old new (Ok (takes.Unit note body)) is = is.2.failed
took_whole old new (Ok takes.NoneNow) is = is.failed
took_whole old new (Ok (takes.Ended end)) is = is.failed
took_whole old new (Err trouble) is = tt

-- a unit that is taken keeps what was so
pub took_keeps : (old new : LinkModel) (r : Result Taken Trouble) → HasTaken (Reserve None) old new r → Stays old new r →
    Keeps old new old.batch r
took_keeps old new r is stays = record {
  seat = stays.seat;
  whole = took_whole old new r is;
  batch = stays.batch;
  too_long = stays.too_long;
}

-- Of a put whose priority is read back.

-- the reply to a put is the next call of the transcript
pub says_put : (old new : List Said) (p : Putting) (prio : ℤ) (made : Call) (r : Result Reply Trouble) → prio ≡ p.prio → call_of p ≡ made →
    new ≡ plus old (Put p.kind prio p.target p.answer p.body) (answered (replied r)) →
    IfOk r (λ reply. new ≡ old ++ said_of made (answer_of reply) ∷ [])
says_put old new p prio made r back same is =
    says_by old new (Put p.kind prio p.target p.answer p.body) made r
    (ap (λ (z : ℤ). Put p.kind z p.target p.answer p.body) back ∙ same) is

-- a put that is begun and not answered is the one that was made
pub begun_put : (old new : LinkModel) (p : Putting) (prio : ℤ) (made : Call) (r : Result Reply Trouble) → prio ≡ p.prio → call_of p ≡ made →
    old.failed ≡ None → Made old new (Put p.kind prio p.target p.answer p.body) (replied r) →
    Pends (unanswered new.failed new.begun) made
begun_put old new p prio made r back same whole is =
    begun_by old new (Put p.kind prio p.target p.answer p.body) made r
    (ap (λ (z : ℤ). Put p.kind z p.target p.answer p.body) back ∙ same) whole is
