-- What the calls of a rank come to, and what they make of its link.
use Rattle.std.specs.Prelude.{ℕ, ◌≡◌, ◌≤◌, ◌⊎◌, false, List, [], ◌∷◌, ◌++◌, Result, Ok, Err, Some, OnOk, length}
use Rattle.adlb_unit.specs.Totals.{total_of}
use Rattle.adlb_unit.specs.declared.notes.Trouble.{Trouble}
use Rattle.adlb_unit.specs.declared.notes.Trouble.TheVariants as troubles
use Rattle.adlb_unit.specs.declared.notes.UnitNote.{UnitNote}
use Rattle.bag_ledger.specs.declared.entries.Answer.{Answer}
use Rattle.bag_ledger.specs.declared.entries.Answer.TheVariants as answers
use Rattle.bag_ledger.specs.declared.entries.Call.{Call}
use Rattle.bag_ledger.specs.declared.entries.Call.TheVariants as calls_to
use Rattle.bag_ledger.specs.declared.entries.Said.{Said}
use Rattle.rank_client.specs.Calls.{has_finished}
use Rattle.rank_client.specs.Link.{LinkModel, Made}
use Rattle.adlb_rank.specs.declared.replies.Batched.{Batched}
use Rattle.adlb_rank.specs.declared.replies.Batched.TheVariants as batches
use Rattle.adlb_rank.specs.declared.replies.Reply.{Reply}
use Rattle.adlb_rank.specs.declared.replies.Reply.TheVariants as replies
use Rattle.adlb_rank.specs.declared.replies.Taken.{Taken}
use Rattle.adlb_rank.specs.declared.replies.Taken.TheVariants as takes

-- a call with its answer
abbrev pub said_of : Call → Answer → Said
said_of call answer = record { call = call; answer = answer }

-- the answer that a reply stands for
abbrev pub answer_of : Reply → Answer
answer_of replies.Accepted = answers.Fine
answer_of replies.Rejected = answers.Rejected
answer_of (replies.Ended end) = answers.Ended end

-- what a put or the beginning of a batch came to
abbrev pub replied : Result Reply Trouble → Result Answer Trouble
replied (Ok reply) = Ok (answer_of reply)
replied (Err trouble) = Err trouble

-- What taking a unit, by this call, makes of a link: the unit is granted, and then it is fetched; or the call comes to something else.
abbrev pub HasTaken : Call → LinkModel → LinkModel → Result Taken Trouble → Type 0
HasTaken call old new (Ok (takes.Unit note body)) =
    (mid : LinkModel) × Made old mid call (Ok (answers.Granted note)) × Made mid new (calls_to.Fetch note.id) (Ok (answers.Body body))
HasTaken call old new (Ok takes.NoneNow) = Made old new call (Ok answers.NoCurrent)
HasTaken call old new (Ok (takes.Ended end)) = Made old new call (Ok (answers.Ended end))
HasTaken call old new (Err trouble) =
    Made old new call (Err trouble)
    ⊎ ((mid : LinkModel) × (note : UnitNote) × Made old mid call (Ok (answers.Granted note))
    × Made mid new (calls_to.Fetch note.id) (Err trouble))

-- by its transcript alone: a unit was granted, and fetched with as many bytes as its note says; or an end was told, or that there is no
-- unit now
abbrev pub Takes : Call → List Said → List Said → Taken → Type 0
Takes call before after (takes.Unit note body) =
    (after ≡ (before ++ said_of call (answers.Granted note) ∷ []) ++ said_of (calls_to.Fetch note.id) (answers.Body body) ∷ [])
    × (length body ≡ total_of note)
Takes call before after takes.NoneNow = after ≡ before ++ said_of call answers.NoCurrent ∷ []
Takes call before after (takes.Ended end) = after ≡ before ++ said_of call (answers.Ended end) ∷ []

-- a batch with these common bytes was begun
abbrev pub Begins : List ℕ → LinkModel → LinkModel → Type 0
Begins common old new = Made old new (calls_to.BeginBatch common) (Ok answers.Fine)

-- What a batch makes of a link, where `inside` is what can be done in it. It is begun, that is done, and it is ended; or one of these
-- fails; or it is not begun.
abbrev pub HasBatched : {S T : Type 0} → (S → LinkModel) → (S → Result T Trouble → S → Type 0) → List ℕ → S → S
    → Result (Batched T) Trouble → Type 0
HasBatched link inside common old new (Ok (batches.Done done)) =
    (a : _) × (b : _) × Begins common (link old) (link a) × inside a (Ok done) b
    × Made (link b) (link new) calls_to.EndBatch (Ok answers.Fine)
HasBatched link inside common old new (Ok batches.Rejected) = Made (link old) (link new) (calls_to.BeginBatch common) (Ok answers.Rejected)
HasBatched link inside common old new (Ok (batches.Ended end)) =
    Made (link old) (link new) (calls_to.BeginBatch common) (Ok (answers.Ended end))
HasBatched {T} link inside common old new (Err trouble) =
    Made (link old) (link new) (calls_to.BeginBatch common) (Err trouble)
    ⊎ (((a : _) × Begins common (link old) (link a) × inside a (Err trouble) new)
    ⊎ ((a : _) × (b : _) × (done : T) × Begins common (link old) (link a) × inside a (Ok done) b
    × Made (link b) (link new) calls_to.EndBatch (Err trouble)))

-- What every function over a rank keeps, whatever it comes to. The rank still runs, it is that of before, and its transcript is no shorter.
-- At Ok a batch goes on exactly if one did, and a stamp that is too large is the link's own trouble.
pub record Stays {T : Type 0} (old new : LinkModel) (result : Result T Trouble) : Type 0 where
  pub running : has_finished new.said ≡ false
  pub seat : new.seat ≡ old.seat
  pub longer : length old.said ≤ length new.said
  pub batch : OnOk result (new.batch ≡ old.batch)
  pub too_long : (stamp : ℕ) → result ≡ Err (troubles.TooLong stamp) → new.failed ≡ Some (troubles.TooLong stamp)

-- So it is between two places in a function that calls a rank, as before a loop and at each of its rounds.
abbrev pub GoesOn : LinkModel → LinkModel → Type 0
GoesOn old new = Stays {T = Unit {0}} old new (Ok tt)
