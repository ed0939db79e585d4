-- What one step of a call makes of a client that knows its transcript.
use Rattle.std.proofs.Common.{◌≡◌, ℕ, ◌+◌, ◌≤◌, ◌||◌, Bool, true, false, List, [], ◌∷◌, ◌++◌, append-nil, length-append, Option, None, Some}
use Rattle.std.proofs.Common.{is_some}
use Rattle.std.proofs.Common.{refl, sym, ap, ◌∙◌, subst, arith}
use Rattle.adlb_unit.specs.declared.names.CommonRef.{CommonRef}
use Rattle.adlb_unit.specs.declared.names.Server.{Server}
use Rattle.adlb_unit.specs.declared.notes.End.{End}
use Rattle.adlb_unit.specs.declared.notes.UnitNote.{UnitNote}
use Rattle.bag_ledger.specs.declared.entries.Answer.{Answer}
use Rattle.bag_ledger.specs.declared.entries.Call.{Call}
use Rattle.bag_ledger.specs.declared.entries.Said.{Said}
use Rattle.rank_client.specs.declared.pendings.Pending.{Pending}
use Rattle.rank_client.specs.declared.pendings.Pending.TheVariants as waits_for
use Rattle.rank_client.specs.Answers.{IsAnswerTo, heeds_end}
use Rattle.rank_client.specs.Calls.{end_of, goes_on, is_finish, plus}
use Rattle.rank_client.specs.Granted.{AreGranted}
use Rattle.rank_client.specs.Remembered.{AreHeld, IsFitting, Remembers, fetched_by, pending_call}
use Rattle.rank_client.specs.Rules.{ClientResponse, ClientSaying, answered}
use Rattle.rank_client.specs.Says.{Tells}
use Rattle.rank_client.specs.State.{ClientModel}
use Rattle.rank_client.specs.Step.{Made, counted, made, post, ticked}
use Rattle.rank_client.proofs.OpenBatches.{opened_more}
use Rattle.rank_client.proofs.Transcripts.{finished_more, first_end, told_more}

pub first_none : (o : Option End) → o ≡ first_end o None
first_none None = refl
first_none (Some end) = refl

-- Letters that go out change nothing of it.

module _ (s : ClientModel) (stamp : ℕ) (call : Call) where
  counted_remembers : (t : ClientModel) (to : Server) → Remembers t → Remembers (counted t to)
  counted_remembers t to r = record {
    finishes = r.finishes;
    told = r.told;
    first = r.first;
    held = r.held;
    opened = r.opened;
    fits = r.fits;
    untold = r.untold;
    counted = r.counted;
  }

  says_counted : (answer : Option Answer) (t : ClientModel) (to : Server) → Tells s stamp call answer t
      → Tells s stamp call answer (counted t to)
  says_counted None t to x = record {
    says = record { same = x.says.same; pending = x.says.pending };
    remembers = counted_remembers t to x.remembers;
    clock = x.clock;
    config = x.config;
    me = x.me;
    trouble = x.trouble;
  }
  says_counted (Some answer) t to x = record {
    says = record { grown = x.says.grown; idle = x.says.idle; fits = x.says.fits };
    remembers = counted_remembers t to x.remembers;
    clock = x.clock;
    config = x.config;
    me = x.me;
    trouble = x.trouble;
  }

  post_tells : (says : List ClientSaying) (x : Made) → Tells s stamp call x.answer x.state
      → Tells s stamp call (post x says).answer (post x says).state
  post_tells [] x tells = tells
  post_tells (y ∷ says) x tells = post_tells says _ (says_counted x.answer x.state y.to tells)

  pub made_tells : (z : ClientResponse) → Tells s stamp call z.answer z.state → Tells s stamp call (made z).answer (made z).state
  made_tells z tells = post_tells z.says _ tells

-- The call waits, or has its answer.

module _ (s : ClientModel) (r : Remembers s) (going : s.finished ≡ false) (stamp : ℕ) (later : s.clock + 1 ≤ stamp) (call : Call) where
  abbrev t : ClientModel
  t = ticked s stamp

  pub waits_tells : (p : Pending) (next puts : ℕ) (handles : List UnitNote) → pending_call p ≡ Some call
      → AreHeld s.transcript (handles ++ fetched_by p) → AreGranted s.transcript handles p → IsFitting s.transcript handles p
      → (heeds_end call ≡ true → s.end ≡ None)
      → Tells s stamp call None (record t { pending = p; next = next; puts = puts; handles = handles })
  waits_tells p next puts handles pending held first fits untold = record {
    says = record { same = refl; pending = pending };
    remembers = record {
      finishes = r.finishes;
      told = r.told;
      first = first;
      held = held;
      opened = r.opened;
      fits = fits;
      untold = λ other is heeds. untold (ap heeds_end (some_call (sym pending ∙ is)) ∙ heeds);
      counted = omega (arith, r.counted, later);
    };
    clock = refl;
    config = refl;
    me = refl;
    trouble = refl;
  }
    where
      some_call : {a b : Call} → Some a ≡ Some b → a ≡ b
      some_call is = cc

  pub ends_tells : (next puts accepted : ℕ) (end : Option End) (batch : Option CommonRef) (handles : List UnitNote) (finished : Bool)
      (answer : Answer) → finished ≡ is_finish call → end ≡ first_end s.end (end_of answer None)
      → is_some batch ≡ goes_on call answer (is_some s.batch) → AreHeld (plus s.transcript call (Some answer)) handles
      → IsAnswerTo s.transcript call answer → AreGranted (plus s.transcript call (Some answer)) handles waits_for.Nothing
      → Tells s stamp call (Some answer)
      (answered (record t {
        next = next;
        puts = puts;
        accepted = accepted;
        end = end;
        batch = batch;
        handles = handles;
        finished = finished;
      }) call answer)
  ends_tells next puts accepted end batch handles finished answer finishes told on held fits first =
      let said : Said = record { call = call; answer = answer } in
      record {
        says = record { grown = refl; idle = refl; fits = fits };
        remembers = record {
          finishes = finished_more s.transcript said ∙ ap (λ b. b || is_finish call) (r.finishes ∙ going) ∙ sym finishes;
          told = told_more s.transcript said ∙ ap (λ o. first_end o (end_of answer None)) r.told ∙ sym told;
          first = first;
          held = subst (AreHeld (plus s.transcript call (Some answer))) (sym (append-nil handles)) held;
          opened = on ∙ ap (goes_on call answer) r.opened ∙ sym (opened_more s.transcript said);
          fits = tt;
          untold = λ other is heeds. absurd (cc);
          counted = omega (arith, length-append s.transcript (said ∷ []), r.counted, later);
        };
        clock = refl;
        config = refl;
        me = refl;
        trouble = refl;
      }
