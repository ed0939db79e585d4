-- What calls make of a link, by what they come to.
use Rattle.std.proofs.Common.{◌≡◌, ◌≤◌, ℕ, ℤ, Bool, true, false, MatchBool, length, arith, List, [], ◌∷◌, ◌++◌, Option, Some, None}
use Rattle.std.proofs.Common.{Result, Ok, Err, IfErr, IfOk, OnOk, OnErr}
use Rattle.std.proofs.Common.{refl, sym, ap, ◌∙◌, subst, inl, inr, ◌⊎◌}
use Rattle.std.proofs.lemmas.List.{length_push}
use Rattle.adlb_rank.specs.Calls.{HasTaken, Stays, Takes, answer_of, replied}
use Rattle.adlb_rank.specs.declared.replies.Reply.{Reply}
use Rattle.adlb_rank.specs.declared.replies.Reply.TheVariants as replies
use Rattle.adlb_rank.specs.declared.replies.Taken.{Taken}
use Rattle.adlb_rank.specs.declared.replies.Taken.TheVariants as takes
use Rattle.adlb_unit.specs.declared.notes.Trouble.{Trouble}
use Rattle.adlb_unit.specs.declared.notes.Trouble.TheVariants.{Memory, TooLong}
use Rattle.bag_ledger.specs.declared.entries.Call.{Call}
use Rattle.bag_ledger.specs.declared.entries.Call.TheVariants.{Put, Reserve, Fetch}
use Rattle.bag_ledger.specs.declared.entries.Said.{Said}
use Rattle.rank_client.specs.Answers.{answered, troubled}
use Rattle.rank_client.specs.Calls.{Pends, plus, unanswered}
use Rattle.rank_client.specs.Link.{LinkModel, Made}
use Rattle.work_law.specs.Books.{said_of}
use Rattle.rank_client.specs.Seat.{Seat}
use Rattle.flow_work.specs.Calls.{Fails, IsReady, Keeps}
use Rattle.flow_work.specs.Pieces.{call_of}
use Rattle.flow_work.specs.declared.pieces.Putting.{Putting}
use Rattle.flow_work.proofs.Ways.{began_pends}

-- what is so is so of a success
pub on_ok : {X E : Type 0} (P : Type 0) → P → (r : Result X E) → OnOk r P
on_ok P is (Ok x) = is
on_ok P is (Err e) = tt

-- a reply is the next call of the transcript
pub says_by : (old new : List Said) (call made : Call) (r : Result Reply Trouble) → call ≡ made
    → new ≡ plus old call (answered (replied r)) →
    IfOk r (λ reply. new ≡ old ++ said_of made (answer_of reply) ∷ [])
says_by old new call made (Ok reply) same is = is ∙ ap (λ (c : Call). old ++ said_of c (answer_of reply) ∷ []) same
says_by old new call made (Err trouble) same is = tt

-- a call without a reply leaves the transcript
pub same_by : (old new : List Said) (call : Call) (r : Result Reply Trouble) → new ≡ plus old call (answered (replied r))
    → OnErr r (new ≡ old)
same_by old new call (Ok reply) is = tt
same_by old new call (Err trouble) is = is

-- a link with a reply has not failed
pub whole_by : (now : Option Trouble) (r : Result Reply Trouble) → now ≡ troubled (replied r) → OnOk r (now ≡ None)
whole_by now (Ok reply) is = is
whole_by now (Err trouble) is = tt

-- a call that is begun and not answered is the one that was made
pub begun_by : (old new : LinkModel) (call made : Call) (r : Result Reply Trouble) → call ≡ made → old.failed ≡ None
    → Made old new call (replied r) →
    Pends (unanswered new.failed new.begun) made
begun_by old new call made r same whole is =
    subst (λ (c : Call). Pends (unanswered new.failed new.begun) c) same
    (began_pends old.failed old.begun call new.failed new.begun whole is.began)

-- a call that stays or is answered keeps what was so
pub keeps_by : (old new : LinkModel) (call : Call) (r : Result Reply Trouble) → Made old new call (replied r) → Stays old new r →
    Keeps old new r
keeps_by old new call r is stays = record {
  seat = stays.seat;
  whole = whole_by new.failed r is.failed;
  batch = stays.batch;
  too_long = stays.too_long;
}

-- Taking a unit.

-- a reserve that fails leaves a rank whose link fails
pub fails_by : (old new : LinkModel) (r : Result Taken Trouble) → old.failed ≡ None → HasTaken (Reserve None) old new r →
    OnErr r (Fails old.said new.said (unanswered new.failed new.begun))
fails_by old new (Ok taken) whole is = tt
fails_by old new (Err trouble) whole (inl is) =
    inl (is.said, began_pends old.failed old.begun (Reserve None) new.failed new.begun whole is.began)
fails_by old new (Err trouble) whole (inr is) =
    let mid : LinkModel = is.0 in
    inr (
      is.1,
      is.3.said ∙ is.2.said,
      began_pends mid.failed mid.begun (Fetch is.1.id) new.failed new.begun is.2.failed is.3.began,
    )

-- a link that took a unit has not failed
pub took_whole : (old new : LinkModel) (r : Result Taken Trouble) → HasTaken (Reserve None) old new r → OnOk r (new.failed ≡ None)
took_whole old new (Ok (takes.Unit note body)) is = is.2.failed
took_whole old new (Ok takes.NoneNow) is = is.failed
took_whole old new (Ok (takes.Ended end)) is = is.failed
took_whole old new (Err trouble) is = tt

-- a unit that is taken keeps what was so
pub took_keeps : (old new : LinkModel) (r : Result Taken Trouble) → HasTaken (Reserve None) old new r → Stays old new r →
    Keeps old new r
took_keeps old new r is stays = record {
  seat = stays.seat;
  whole = took_whole old new r is;
  batch = stays.batch;
  too_long = stays.too_long;
}

-- Of a put whose priority is read back.

-- the reply to a put is the next call of the transcript
pub says_put : (old new : List Said) (p : Putting) (prio : ℤ) (made : Call) (r : Result Reply Trouble) → prio ≡ p.prio → call_of p ≡ made →
    new ≡ plus old (Put p.kind prio p.target p.answer p.body) (answered (replied r)) →
    IfOk r (λ reply. new ≡ old ++ said_of made (answer_of reply) ∷ [])
says_put old new p prio made r back same is =
    says_by old new (Put p.kind prio p.target p.answer p.body) made r
    (ap (λ (z : ℤ). Put p.kind z p.target p.answer p.body) back ∙ same) is

-- a put that is begun and not answered is the one that was made
pub begun_put : (old new : LinkModel) (p : Putting) (prio : ℤ) (made : Call) (r : Result Reply Trouble) → prio ≡ p.prio → call_of p ≡ made →
    old.failed ≡ None → Made old new (Put p.kind prio p.target p.answer p.body) (replied r) →
    Pends (unanswered new.failed new.begun) made
begun_put old new p prio made r back same whole is =
    begun_by old new (Put p.kind prio p.target p.answer p.body) made r
    (ap (λ (z : ℤ). Put p.kind z p.target p.answer p.body) back ∙ same) whole is

-- one call more makes a transcript longer
pub grows : {X : Type 0} (n : ℕ) (xs new : List X) (x : X) → n ≤ length xs → new ≡ xs ++ x ∷ [] → n ≤ length new
grows n xs new x h e = omega (arith, h, length_push xs x, ap length e)

-- an answer by its reply
pub replied_by : (said new : List Said) (call : Call) (reply is : Reply) → new ≡ said ++ said_of call (answer_of reply) ∷ [] → reply ≡ is →
    new ≡ said ++ said_of call (answer_of is) ∷ []
replied_by said new call reply is e same = e ∙ ap (λ r. said ++ said_of call (answer_of r) ∷ []) same

-- of two facts, that of a truth value
pub all_is : (A B : Type 0) (b : Bool) → b ≡ true → MatchBool b A B → A
all_is A B b holds fact = subst (λ t. MatchBool t A B) holds fact

-- where the test fails, the second case is so
pub not_all_is : (A B : Type 0) (b : Bool) → b ≡ false → MatchBool b A B → B
not_all_is A B b fails fact = subst (λ t. MatchBool t A B) fails fact

-- a link over which a rank can work still is one
pub ready_on : (n : ℕ) (old new : LinkModel) → IsReady n old → new.seat ≡ old.seat → new.failed ≡ None → IsReady n new
ready_on n old new ready seat whole = record {
  whole = whole;
  ranks_are = ap (λ (s : Seat). s.ranks) seat ∙ ready.ranks_are;
  some = ready.some;
}

-- what is kept since an earlier link
pub keeps_on : {X : Type 0} (old mid new : LinkModel) (r : Result X Trouble) → mid.seat ≡ old.seat → mid.batch ≡ old.batch →
    Keeps mid new r → Keeps old new r
keeps_on old mid new (Ok x) seat batch keeps = record {
  seat = keeps.seat ∙ seat;
  whole = keeps.whole;
  batch = keeps.batch ∙ batch;
  too_long = keeps.too_long;
}
keeps_on old mid new (Err e) seat batch keeps = record {
  seat = keeps.seat ∙ seat;
  whole = tt;
  batch = tt;
  too_long = keeps.too_long;
}

err_same : {Y : Type 0} (r : Result Y Trouble) (a b : Trouble) → r ≡ Err a → r ≡ Err b → a ≡ b
err_same (Ok y) a b e f = absurd (cc)
err_same (Err t) a b e f = cc

-- where memory alone fails after a call, the link is as the call left it
pub keeps_memory : {X Y : Type 0} (old new : LinkModel) (x : X) (r : Result Y Trouble) → Keeps {X = X} old new (Ok x) →
    IfErr r (λ t. t ≡ Memory) → Keeps old new r
keeps_memory old new x (Ok y) keeps memory = record {
  seat = keeps.seat;
  whole = keeps.whole;
  batch = keeps.batch;
  too_long = λ stamp e. absurd (cc);
}
keeps_memory old new x (Err t) keeps memory = record {
  seat = keeps.seat;
  whole = tt;
  batch = tt;
  too_long = λ stamp e. absurd (let one : Memory ≡ TooLong stamp = sym memory ∙ err_same (Err t) t (TooLong stamp) refl e in cc);
}
