use Rattle.std.proofs.Common.{◌≡◌, ◌∙◌, Bool, List, ℕ, Result, Ok, Err, IfOk, ap, refl, false}
use Rattle.adlb_unit.specs.declared.notes.Trouble.{Trouble}
use Rattle.bag_ledger.specs.declared.entries.Answer.{Answer}
use Rattle.bag_ledger.specs.declared.entries.Call.TheVariants.{BeginBatch}
use Rattle.rank_client.specs.Calls.{goes_on}
use Rattle.rank_client.specs.Link.{batch_after, put_came}
use Rattle.puzzle_app.specs.Calls.{answer_of, is_accepted}
use Rattle.puzzle_app.specs.declared.calls.Reply.{Reply}
use Rattle.puzzle_app.specs.declared.calls.Reply.TheVariants as replies
use Rattle.puzzle_app.proofs.calls.begin.Goals as goal

-- a batch goes on exactly if its beginning was accepted
goes_if : (common : List ℕ) (reply : Reply) → goes_on (BeginBatch common) (answer_of reply) false ≡ is_accepted reply
goes_if common replies.Accepted = refl
goes_if common replies.Rejected = refl
goes_if common (replies.Ended end) = refl

begun : (now on : Bool) (common : List ℕ) (came : Result Answer Trouble) (r : Result Reply Trouble)
    → now ≡ batch_after (BeginBatch common) came on → on ≡ false → IfOk r (λ reply. came ≡ Ok (answer_of reply))
    → IfOk r (λ reply. now ≡ is_accepted reply)
begun now on common came (Ok reply) is closed answered =
    is ∙ ap (λ (x : Result Answer Trouble). batch_after (BeginBatch common) x on) answered
    ∙ ap (λ (b : Bool). goes_on (BeginBatch common) (answer_of reply) b) closed ∙ goes_if common reply
begun now on common came (Err fault) is closed answered = tt

pub returns-clause-batch : goal.returns-clause-batch
returns-clause-batch g c =
    begun _ _ c.in-Ok.common (put_came c.begin_batch.result) c.reply_of.result c.begin_batch.ensures.made.batch c.requires.closed
    c.reply_of.ensures.answer
