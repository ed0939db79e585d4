-- What a call makes of the link of a rank, and whom a link serves.
use Rattle.thread_actors.proofs.Prelude.{Call, Can, CanBegin, ClientModel, Config, DeskModel, Err, Finish, HasCome, HasFailed, HasGrant}
use Rattle.thread_actors.proofs.Prelude.{IfErr, IfOk, IfSome, InLimit, InRanks, InServers, IsDone, IsLate, IsLateFault, IsRankRun}
use Rattle.thread_actors.proofs.Prelude.{IsRecorded, LinkModel, None, Ok, OnOk, Option, Rank, RankLink, Repeats, Rests, Result, Some}
use Rattle.thread_actors.proofs.Prelude.{Trouble, [], ap, arith, batch_fell, batch_moved, can_call, false, has_finished, is_none, link_in}
use Rattle.thread_actors.proofs.Prelude.{link_of, made_again, made_answered, made_failed, option_map, pending_call, plus, refl, start}
use Rattle.thread_actors.proofs.Prelude.{steps_tell, subst, sym, told, true, ℕ, ◌||◌, ◌∙◌, ◌≡◌}
use Rattle.bag_ledger.specs.declared.entries.Answer.{Answer}
use Rattle.rank_client.proofs.Transcripts.{finished_more}
use Rattle.rank_client.specs.Answers.{answers_done, troubled}
use Rattle.rank_client.specs.Seat.{Seat}
use Rattle.std.proofs.Math.Bridge.{le_prop}
use Rattle.thread_actors.specs.declared.faults.ActorFault.{ActorFault}
use Rattle.bag_ledger.specs.declared.entries.Answer.TheVariants as answers

-- at the start
pub start_rests : (s : ClientModel) (config : Config) (me : Rank) → s ≡ start config me → Rests s
start_rests s config me is = rw is (record {
  knows = record { remembers = steps_tell.at_start config me; short = omega arith; within = omega arith; late = tt };
  idle = λ whole. refl;
})

-- what its rank can call, the client of a link can begin
pub link_can : (s : ClientModel) (l : RankLink) → link_of s.config s.me s ≡ link_in l → (call : Call) → Can (link_in l) call
    → HasGrant l.core.transcript call → s.trouble ≡ None → CanBegin s call
link_can s l is call can grant whole =
    can_call (link_of s.config s.me s) call refl whole (subst (λ (m : LinkModel). Can m call) (sym is) can)
    (subst (λ (m : LinkModel). HasGrant m.said call) (sym is) grant)

-- What a call comes to: a client that had failed stays as it was; one that had not is answered, or fails.

module _ (s : ClientModel) (call : Call) (running : has_finished s.transcript ≡ false) where
  abbrev link : ClientModel → LinkModel
  link t = link_of t.config t.me t

  pub come_before : (e : Trouble) → s.trouble ≡ Some e → Rests s → HasCome s call (Err e) s
  come_before e failed rests = record {
    made = made_again (link s) (link s) call e running failed refl refl (batch_fell (link s) e refl failed) failed refl;
    kind = tt;
    rests = rests;
  }

  pub come_now : (t : ClientModel) (r : Result Answer Trouble) → s.trouble ≡ None → t.config ≡ s.config → t.me ≡ s.me
      → IfOk r (λ a. IsDone s.transcript call a t) → IfErr r (λ e. HasFailed s.transcript call e t) → Rests t → HasCome s call r t
  come_now t r whole config me done failed rests = by_result r done failed
    where
      seat : (link t).seat ≡ (link s).seat
      seat = ap (λ (c : Config). (link_of c t.me t).seat) config ∙ ap (λ (m : Rank). (link_of s.config m t).seat) me

      by_result : (r : Result Answer Trouble) → IfOk r (λ a. IsDone s.transcript call a t)
          → IfErr r (λ e. HasFailed s.transcript call e t) → HasCome s call r t
      by_result (Ok a) done failed = record {
        made =
            made_answered (link s) (link t) call running whole seat a done.answered.fits done.answered.grown
            (batch_moved (link s) (link t) call a refl refl whole done.whole done.answered.grown) done.whole
            (ap pending_call done.answered.idle);
        kind = done.answered.fits.kind;
        rests = rests;
      }
      by_result (Err e) done failed = record {
        made =
            made_failed (link s) (link t) call running whole seat e failed.same (batch_fell (link t) e refl failed.failed) failed.failed
            failed.begun;
        kind = tt;
        rests = rests;
      }

-- what was told to the servers after it changes nothing of that
pub gone_recorded : (s t : ClientModel) (call : Call) (r : Result Answer Trouble) (d e : DeskModel) → HasCome s call r t
    → OnOk r (e ≡ d) → IsRecorded d [] t → IsRecorded e [] t
gone_recorded s t call (Ok a) d e come same recorded = rw same recorded
gone_recorded s t call (Err x) d e come same recorded = λ whole. absurd (let failed = come.made.failed in cc (failed, whole))

-- Finish.

fine_of : (a : Answer) → answers_done a ≡ true → a ≡ answers.Fine
fine_of answers.Fine kind = refl
fine_of _ kind = absurd (cc)

module _ (s t : ClientModel) (r : Result Answer Trouble) (come : HasCome s Finish r t) where
  -- a client that has not failed has said it, and has finished
  pub finish_said : t.trouble ≡ None → t.transcript ≡ plus s.transcript Finish (Some answers.Fine)
  finish_said whole = by_result r come
    where
      by_result : (r : Result Answer Trouble) → HasCome s Finish r t → t.transcript ≡ plus s.transcript Finish (Some answers.Fine)
      by_result (Ok a) come = come.made.said ∙ ap (λ (x : Answer). plus s.transcript Finish (Some x)) (fine_of a come.kind)
      by_result (Err e) come = absurd (let failed = come.made.failed in cc (failed, whole))

  -- a trouble that a client had met before is what it tells
  pub kept_of : is_none s.trouble ≡ false → t.trouble ≡ s.trouble
  kept_of failed = come.made.failed ∙ by_trouble s.trouble failed come.made.repeats
    where
      by_trouble : (o : Option Trouble) → is_none o ≡ false → Repeats o (troubled r) → troubled r ≡ o
      by_trouble None failed again = absurd (cc)
      by_trouble (Some e) failed again = again

  -- and the journal of a rank that has not failed is its own run
  pub own_run : (d : DeskModel) → has_finished s.transcript ≡ false → t.trouble ≡ None → IsRecorded d [] t → (config : Config) (rank : Rank)
      → d.config ≡ config → t.me ≡ rank → IsRankRun config rank d t.transcript
  own_run d running whole recorded config rank configs ranks = rw (← configs, ← ranks) (record {
    last = t;
    walks = (recorded whole).1;
    transcript = refl;
    finished = sym come.rests.knows.remembers.finishes ∙ ap has_finished (finish_said whole)
        ∙ finished_more s.transcript (record { call = Finish; answer = answers.Fine }) ∙ ap (λ b. b || true) running;
    idle = come.rests.idle whole;
    tallies = (recorded whole).0;
  })

-- what others are said of a fault that says why a client failed
pub told_late : (fault : Option ActorFault) (t : Option Trouble) → option_map told fault ≡ t → IfSome t IsLate → IfSome fault IsLateFault
told_late None t is late = tt
told_late (Some fault) t is late = subst (λ (o : Option Trouble). IfSome o IsLate) (sym is) late

-- Which run and which rank a seat tells.

abbrev Within : ℕ → ℕ → ℕ → Type 0
Within ranks servers limit = InRanks ranks × InServers servers × InLimit limit

within_once : (ranks servers limit : ℕ) → IsProp (Within ranks servers limit)
within_once ranks servers limit = hlevel (le_prop)

abbrev build : (ranks servers limit : ℕ) → Within ranks servers limit → Config
build ranks servers limit w =
    record { ranks = ranks; servers = servers; limit = limit; ranks_within = w.0; servers_within = w.1; limit_within = w.2 }

-- configurations of equal numbers
same_config : (c d : Config) → c.ranks ≡ d.ranks → c.servers ≡ d.servers → c.limit ≡ d.limit → c ≡ d
same_config c d p q r =
    by_numbers d.ranks d.servers d.limit p q r (c.ranks_within, c.servers_within, c.limit_within)
    (d.ranks_within, d.servers_within, d.limit_within)
  where
    by_numbers : (ranks servers limit : ℕ) → c.ranks ≡ ranks → c.servers ≡ servers → c.limit ≡ limit
        → (w : Within c.ranks c.servers c.limit) (v : Within ranks servers limit)
        → build c.ranks c.servers c.limit w ≡ build ranks servers limit v
    by_numbers ranks servers limit p q r =
        rw (← p, ← q, ← r) (λ w v. ap (build c.ranks c.servers c.limit) (within_once c.ranks c.servers c.limit w v))

abbrev seat_of : Config → Rank → Seat
seat_of config me = record { ranks = config.ranks; servers = config.servers; limit = config.limit; me = me }

pub same_seat : (c d : Config) (me rank : Rank) → seat_of c me ≡ seat_of d rank → (c ≡ d) × (me ≡ rank)
same_seat c d me rank same = (
  same_config c d (ap (λ (s : Seat). s.ranks) same) (ap (λ (s : Seat). s.servers) same) (ap (λ (s : Seat). s.limit) same),
  ap (λ (s : Seat). s.me) same,
)
