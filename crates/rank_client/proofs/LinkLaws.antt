-- What a call makes of a link, from what whoever carries it knows.
use Rattle.std.proofs.Common.{◌≡◌, ◌≤◌, ◌&&◌, Bool, true, false, List, [], ◌∷◌, ◌++◌, length, Option, Some, None, Result, Ok, Err, refl}
use Rattle.std.proofs.Common.{sym, ap, ◌∙◌, subst, arith}
use Rattle.std.specs.Prelude.{is_none}
use Rattle.std.proofs.lemmas.Bool.{or_from}
use Rattle.std.proofs.lemmas.List.{length_push}
use Rattle.adlb_unit.specs.declared.notes.End.{End}
use Rattle.adlb_unit.specs.declared.notes.Trouble.{Trouble}
use Rattle.bag_ledger.specs.declared.entries.Answer.{Answer}
use Rattle.bag_ledger.specs.declared.entries.Answer.TheVariants as answers
use Rattle.bag_ledger.specs.declared.entries.Call.{Call}
use Rattle.bag_ledger.specs.declared.entries.Call.TheVariants as calls_to
use Rattle.bag_ledger.specs.declared.entries.Said.{Said}
use Rattle.rank_client.specs.Answers.{CanCall, IsAnswer, IsAnswerTo, answers_call}
use Rattle.rank_client.specs.Calls.{Pends, TellsAgain, end_told, goes_on, has_finished, is_finish, is_open, plus}
use Rattle.rank_client.specs.Link.{Can, HasGrant, IsFresh, LinkModel, Made, batch_after, done_came}
use Rattle.rank_client.proofs.OpenBatches.{fell, opened_more, stands}
use Rattle.rank_client.proofs.Transcripts.{fetched_more, finished_more, granted_last, none_finished}

-- A transcript with one call more.

plus_longer : (said : List Said) (s : Said) → length said ≤ length (said ++ s ∷ [])
plus_longer said s = let one = length_push said s in omega (arith, one)

plus_running : (said : List Said) (s : Said) → has_finished said ≡ false → is_finish s.call ≡ false → has_finished (said ++ s ∷ []) ≡ false
plus_running said s running other = finished_more said s ∙ or_from (has_finished said) (is_finish s.call) running other

-- a unit that an answer grants can be fetched
fresh_of : (said : List Said) (call : Call) (answer : Answer) → answers_call call answer ≡ true → IsAnswer said call answer
    → IsFresh (said ++ record { call = call; answer = answer } ∷ []) answer
fresh_of said (calls_to.Reserve types) (answers.Granted note) kind known =
    (granted_last said (calls_to.Reserve types) note, fetched_more note.id said _ ∙ or_from _ false known.1 refl)
fresh_of said (calls_to.Try types) (answers.Granted note) kind known =
    (granted_last said (calls_to.Try types) note, fetched_more note.id said _ ∙ or_from _ false known.1 refl)
fresh_of said (calls_to.Put k p t a b) (answers.Granted note) kind known = absurd (cc)
fresh_of said (calls_to.Fetch id) (answers.Granted note) kind known = absurd (cc)
fresh_of said (calls_to.BeginBatch common) (answers.Granted note) kind known = absurd (cc)
fresh_of said calls_to.EndBatch (answers.Granted note) kind known = absurd (cc)
fresh_of said (calls_to.Count k) (answers.Granted note) kind known = absurd (cc)
fresh_of said calls_to.Finish (answers.Granted note) kind known = absurd (cc)
fresh_of said calls_to.SetDone (answers.Granted note) kind known = absurd (cc)
fresh_of said call answers.Fine kind known = tt
fresh_of said call answers.Rejected kind known = tt
fresh_of said call (answers.Ended end) kind known = tt
fresh_of said call answers.NoCurrent kind known = tt
fresh_of said call (answers.Body body) kind known = tt
fresh_of said call (answers.Info info) kind known = tt

-- a call that is not answered tells no end
tells_nothing : (told : Option End) → TellsAgain told None
tells_nothing None = tt
tells_nothing (Some end) = tt

-- What a call makes of a link that had not failed: it is answered, or it fails; and of one that had.

module _ (old new : LinkModel) (call : Call) (running : has_finished old.said ≡ false) (whole : old.failed ≡ None)
    (seat : new.seat ≡ old.seat) where
  -- a call that is answered is made as the relation of links asks
  pub made_answered : (answer : Answer) → IsAnswerTo old.said call answer → new.said ≡ plus old.said call (Some answer)
      → new.batch ≡ goes_on call answer old.batch → new.failed ≡ None → new.begun ≡ None → Made old new call (Ok answer)
  made_answered answer fits says batch fine none =
      let s : Said = record { call = call; answer = answer } in
      record {
        said = says;
        told = fits.again;
        seat = seat;
        batch = batch;
        failed = fine;
        repeats = rw whole tt;
        began = rw (whole, fine) none;
        known = fits.known;
        running = λ other. ap has_finished says ∙ plus_running old.said s running other;
        longer = subst (λ (l : List Said). length old.said ≤ length l) (sym says) (plus_longer old.said s);
        fresh = subst (λ (l : List Said). IsFresh l answer) (sym says) (fresh_of old.said call answer fits.kind fits.known);
      }

  -- a call that fails is made as the relation of links asks
  pub made_failed : (trouble : Trouble) → new.said ≡ old.said → new.batch ≡ false → new.failed ≡ Some trouble → Pends new.begun call
      → Made old new call (Err trouble)
  made_failed trouble says batch failed begun = record {
    said = says;
    told = λ heeds. tells_nothing (end_told old.said);
    seat = seat;
    batch = batch;
    failed = failed;
    repeats = rw whole tt;
    began = rw (whole, failed) begun;
    known = tt;
    running = λ other. ap has_finished says ∙ running;
    longer = subst (λ (l : List Said). length old.said ≤ length l) (sym says) (omega arith);
    fresh = tt;
  }

-- on a link that failed before, each call is made with that fault again
pub made_again : (old new : LinkModel) (call : Call) (trouble : Trouble) → has_finished old.said ≡ false → old.failed ≡ Some trouble
    → new.said ≡ old.said → new.seat ≡ old.seat → new.batch ≡ false → new.failed ≡ Some trouble → new.begun ≡ old.begun
    → Made old new call (Err trouble)
made_again old new call trouble running was says seat closed failed begun = record {
  said = says;
  told = λ heeds. tells_nothing (end_told old.said);
  seat = seat;
  batch = closed;
  failed = failed;
  repeats = rw was refl;
  began = rw was begun;
  known = tt;
  running = λ other. ap has_finished says ∙ running;
  longer = subst (λ (l : List Said). length old.said ≤ length l) (sym says) (omega arith);
  fresh = tt;
}

-- Of a link whose batch is that of its transcript while it has not failed.

-- the link says that a batch goes on exactly if it has not failed and its transcript has one open
abbrev pub HasBatch : LinkModel → Type 0
HasBatch m = m.batch ≡ (is_open m.said && is_none m.failed)

-- on a link that failed, no batch goes on
pub batch_fell : (m : LinkModel) (trouble : Trouble) → HasBatch m → m.failed ≡ Some trouble → m.batch ≡ false
batch_fell m trouble is failed = is ∙ fell m.failed trouble (is_open m.said) failed

batch_stands : (m : LinkModel) → HasBatch m → m.failed ≡ None → m.batch ≡ is_open m.said
batch_stands m is whole = is ∙ stands m.failed (is_open m.said) whole

-- a link's batch is that of its transcript after one more answer
pub batch_moved : (old new : LinkModel) (call : Call) (answer : Answer) → HasBatch old → HasBatch new → old.failed ≡ None
    → new.failed ≡ None → new.said ≡ plus old.said call (Some answer) → new.batch ≡ goes_on call answer old.batch
batch_moved old new call answer was is whole fine says =
    batch_stands new is fine ∙ ap is_open says ∙ opened_more old.said (record { call = call; answer = answer })
    ∙ ap (λ on. goes_on call answer on) (sym (batch_stands old was whole))

-- what its rank can call, its client can begin
pub can_call : (m : LinkModel) (call : Call) → HasBatch m → m.failed ≡ None → Can m call → HasGrant m.said call
    → CanCall m.seat.ranks m.seat.servers m.said call
can_call m (calls_to.Put kind prio target answer body) is whole can grant = can.suits
can_call m (calls_to.Reserve types) is whole can grant = tt
can_call m (calls_to.Try types) is whole can grant = tt
can_call m (calls_to.Fetch id) is whole can grant = (grant.0, grant.1, grant.2, can.suits)
can_call m (calls_to.BeginBatch common) is whole can grant = (can.suits.0, sym (batch_stands m is whole) ∙ can.suits.1)
can_call m calls_to.EndBatch is whole can grant = sym (batch_stands m is whole) ∙ can.suits
can_call m (calls_to.Count kind) is whole can grant = tt
can_call m calls_to.SetDone is whole can grant = tt
can_call m calls_to.Finish is whole can grant = sym (batch_stands m is whole) ∙ can.suits

-- no batch is going on after the end of one, whatever it came to
pub batch_ended : (r : Result (Prim.Unit {0}) Trouble) (on : Bool) → batch_after calls_to.EndBatch (done_came r) on ≡ false
batch_ended (Ok done) on = refl
batch_ended (Err trouble) on = refl

-- A rank that has made no call has not finished.
pub not_begun : (said : List Said) → said ≡ [] → has_finished said ≡ false
not_begun said none = ap has_finished none ∙ none_finished
