-- The fields of a run in line: call by call, at the start and at the end.
use Rattle.core_inline.proofs.Prelude.{Answer, Bag, Bool, Call, Can, CanCall, ClientModel, Config, Entry, Err, HasGrant, IfOk, IsAnswerTo}
use Rattle.core_inline.proofs.Prelude.{IsAnswered, IsEnd, IsFailed, IsIdle, IsInline, IsInside, IsLeft, IsLone, IsOpen, IsReady, IsStart}
use Rattle.core_inline.proofs.Prelude.{IsTold, IsTrue, LeftUnit, List, None, Ok, Option, Pends, Refuses, Result, Run, Said, Seen, Some}
use Rattle.core_inline.proofs.Prelude.{TooLong, Trouble, [], answered, answers_done, ap, append-nil, arith, call_of, client_at, false}
use Rattle.core_inline.proofs.Prelude.{finish_answer, finished_more, first_server, has_finished, is_ended, is_finish, is_open, is_some}
use Rattle.core_inline.proofs.Prelude.{left_of, length, length_push, link_of, new_world, none_finished, plus, pool_at, rank_in, refl}
use Rattle.core_inline.proofs.Prelude.{run_of, seat_by, server_in, some_is, stamp_limit, start_reached, steps_tell, subst, sym, take}
use Rattle.core_inline.proofs.Prelude.{take_all, troubled, true, with_call, zeroth, ℕ, ◌*◌, ◌++◌, ◌+◌, ◌<◌, ◌^◌, ◌||◌, ◌∙◌, ◌∷◌, ◌≡◌, ◌≤◌}
use Rattle.adlb_unit.specs.declared.configs.ConfigFault.{ConfigFault}
use Rattle.adlb_unit.specs.declared.configs.ConfigFault.TheVariants.{Limit, Ranks, Servers}
use Rattle.core_inline.proofs.Exchanging.{is_true}
use Rattle.core_inline.proofs.Opened.{begun_is, retold}
use Rattle.core_inline.specs.declared.runs.InlineRun.TheInside.{Inside}
use Rattle.core_run.specs.World.{start}
use Rattle.rank_client.proofs.LinkLaws.{batch_fell, batch_moved, can_call, made_again, made_answered, made_failed}
use Rattle.rank_client.specs.Link.{Made}
use Rattle.rank_client.specs.State.{start as new_client}
use Rattle.server_law.specs.State.{start as new_pool}
use Rattle.bag_ledger.specs.declared.entries.Answer.TheVariants as answers
use Rattle.bag_ledger.specs.declared.entries.Call.TheVariants as calls_to

-- the calls that were answered
abbrev pub said_in : Inside → List Said
said_in i = take i.answered (rank_in i.world).transcript

-- while nothing failed
pub record IsGoing (i : Inside) (last : Bag) : Type 0 where
  pub left : IsLeft last (left_of (server_in i.world))
  pub finished : i.finished ≡ has_finished (said_in i)
  pub ended : is_ended (server_in i.world) ≡ i.finished
  pub opened : is_some (rank_in i.world).batch ≡ is_open (rank_in i.world).transcript
  pub all : i.answered ≡ length (rank_in i.world).transcript
  pub ready : has_finished (said_in i) ≡ false → IsReady i.world

-- The fields hold together where this is said of the ledger.
module _ (i : Inside) (begun : Option Call) (t : IsTold i.world.world.config i.world.world.ledger (said_in i) begun) where
  -- the call begun in the run's fields is the one of its ledger
  pub begun_now : (run_of i).begun ≡ begun
  begun_now = begun_is i.world.world.config i.world.world.ledger (said_in i) begun t

  -- what the fields of a run in line say, from the facts of its world
  pub inside_of : i.world.world.config.ranks ≡ 1 → i.world.world.config.servers ≡ 1
      → ((stamp : ℕ) → i.world.trouble ≡ Some (TooLong stamp) → (stamp_limit ≤ stamp) × (stamp ≤ 5 * length (said_in i) + 5))
      → length (said_in i) < stamp_limit → i.answered ≤ length (rank_in i.world).transcript → i.answered < stamp_limit
      → (i.world.trouble ≡ None → (begun ≡ None) × IsGoing i t.last) → IsInside i
  inside_of one_rank one_server late few within short going = record {
    inline = record {
      one_rank = one_rank;
      one_server = one_server;
      told = retold i.world.world.config i.world.world.ledger (said_in i) (said_in i) begun (run_of i).begun t refl begun_now;
      whole = λ none. let g = going none in
          record { begun = begun_now ∙ g.0; left = g.1.left; finished = g.1.finished; ended = g.1.ended };
      short = few;
      late = late;
    };
    answered = within;
    ready = λ none. (going none).1.ready;
    opened = λ none. (going none).1.opened;
    all = λ none. (going none).1.all;
    short = short;
  }

-- what the rank can call, its client can begin
pub begins_call : (i : Inside) (call : Call) → IsInside i → i.world.trouble ≡ None → Can (link_of (run_of i)) call
    → HasGrant (said_in i) call → CanCall 1 1 (rank_in i.world).transcript call
begins_call i call inside whole can grant =
    subst (λ (l : List Said). CanCall 1 1 l call) (take_all i.answered (rank_in i.world).transcript (omega (arith, inside.all whole)))
    (subst (λ (n : ℕ). CanCall 1 n (said_in i) call) inside.inline.one_server
    (subst (λ (n : ℕ). CanCall n i.world.world.config.servers (said_in i) call) inside.inline.one_rank
    (can_call (link_of (run_of i)) call refl whole can grant)))

-- a call of a world that had failed
pub again_made : (m : Run) (i : Inside) → run_of i ≡ m → (call : Call) (trouble : Trouble) → has_finished m.transcript ≡ false
    → i.world.trouble ≡ Some trouble → Made (link_of m) (link_of (run_of i)) call (Err trouble)
again_made m i is call trouble running failed =
    let l = link_of (run_of i) in
    let runs = ap (λ (r : Run). has_finished r.transcript) is ∙ running in
    subst (λ (r : Run). Made (link_of r) l call (Err trouble)) is
    (made_again l l call trouble runs failed refl refl (batch_fell l trouble refl failed) failed refl)

-- A call leads to another world. Whether Finish was called is as before, or told by this call.
module _ (m : Run) (i : Inside) (is : run_of i ≡ m) (before : IsInside i) (whole : i.world.trouble ≡ None)
    (going : has_finished m.transcript ≡ false) (now : Seen) (same : now.world.config ≡ i.world.world.config) (call : Call)
    (finished : Bool) (last : finished ≡ (i.finished || is_finish call)) where
  running : has_finished (said_in i) ≡ false
  running = ap (λ (r : Run). has_finished r.transcript) is ∙ going

  numbers : (now.world.config.ranks ≡ 1) × (now.world.config.servers ≡ 1)
  numbers = rw same (before.inline.one_rank, before.inline.one_server)

  all_before : said_in i ≡ (rank_in i.world).transcript
  all_before = take_all i.answered (rank_in i.world).transcript (omega (arith, before.all whole))

  -- It was answered: the answer is added, and nothing is open.
  module _ (answer : Answer) (done : IsAnswered (rank_in i.world).transcript call answer now) where
    abbrev j : Inside
    j = record i { world = now; answered = i.answered + 1; finished = finished }

    abbrev more : Said
    more = record { call = call; answer = answer }

    long : i.answered + 1 ≡ length (rank_in now).transcript
    long = omega (arith, before.all whole, ap length done.grown, length_push (rank_in i.world).transcript more)

    all_said : (rank_in now).transcript ≡ said_in j
    all_said = sym (take_all (i.answered + 1) (rank_in now).transcript (omega (arith, long)))

    grown : said_in j ≡ plus (said_in i) call (Some answer)
    grown = sym all_said ∙ done.grown ∙ ap (λ l. with_call l call answer) (sym all_before)

    abbrev told : IsTold now.world.config now.world.ledger (said_in j) None
    told = retold now.world.config now.world.ledger (rank_in now).transcript (said_in j) None None done.true_now.told all_said refl

    -- a call that is answered is made as the relation of links asks
    pub answered_made : Made (link_of m) (link_of (run_of j)) call (Ok answer)
    answered_made =
        let old = link_of (run_of i) in
        let new = link_of (run_of j) in
        subst (λ (r : Run). Made (link_of r) new call (Ok answer)) is
        (made_answered old new call running whole (ap seat_by same) answer
        (subst (λ (l : List Said). IsAnswerTo l call answer) (sym all_before) done.fits) grown
        (batch_moved old new call answer refl refl whole done.whole grown) done.whole (begun_now j None told))

    -- Finish is called now, or was not called
    finished_is : finished ≡ is_finish call
    finished_is = last ∙ ap (λ t. t || is_finish call) ((before.inline.whole whole).finished ∙ running)

    said_finish : has_finished (said_in j) ≡ is_finish call
    said_finish = ap has_finished grown ∙ finished_more (said_in i) more ∙ ap (λ t. t || is_finish call) running

    -- a run in line is one still after an answer
    pub answered_inside : IsInside j
    answered_inside =
        inside_of j None told numbers.0 numbers.1 (λ stamp late. absurd (cc (late, done.whole)))
        (omega (arith, ap length all_said, done.true_now.short)) (omega (arith, long)) (omega (arith, long, done.true_now.short))
        (λ none. (
          refl,
          record {
            left = done.true_now.left;
            finished = finished_is ∙ sym said_finish;
            ended = done.ended ∙ sym finished_is;
            opened = done.opened;
            all = long;
            ready = λ unfinished. done.ready (sym said_finish ∙ unfinished);
          },
        ))

  -- It failed.
  module _ (trouble : Trouble) (failed : IsFailed (rank_in i.world).transcript call trouble now) (met : now.trouble ≡ Some trouble) where
    abbrev k : Inside
    k = record i { world = now; finished = finished }

    was_said : (rank_in i.world).transcript ≡ said_in k
    was_said = sym (ap (λ n. take n (rank_in now).transcript) (before.all whole) ∙ failed.kept)

    abbrev told_failed : IsTold now.world.config now.world.ledger (said_in k) failed.begun
    told_failed =
        retold now.world.config now.world.ledger _ (said_in k) failed.begun failed.begun failed.told was_said refl

    -- a call that fails is made as the relation of links asks
    pub failed_made : Made (link_of m) (link_of (run_of k)) call (Err trouble)
    failed_made =
        let new = link_of (run_of k) in
        subst (λ (r : Run). Made (link_of r) new call (Err trouble)) is
        (made_failed (link_of (run_of i)) new call running whole (ap seat_by same) trouble (sym was_said ∙ sym all_before)
        (batch_fell new trouble refl met) met
        (subst (λ (o : Option Call). Pends o call) (sym (begun_now k failed.begun told_failed)) failed.began))

    -- a run in line is one still after a failure
    pub failed_inside : IsInside k
    failed_inside =
        inside_of k failed.begun told_failed numbers.0 numbers.1
        (λ stamp late. let h = failed.late stamp (some_is (sym met ∙ late)) in (h.0, omega (arith, h.1, ap length was_said)))
        (omega (arith, ap length was_said, ap length all_before, before.inline.short)) (omega (arith, failed.within, before.all whole))
        before.short (λ none. absurd (cc (met, none)))

-- What Finish leaves, by what failed.

fine_of : (a : Answer) → answers_done a ≡ true → a ≡ answers.Fine
fine_of answers.Fine kind = refl
fine_of _ kind = absurd (cc)

-- a finish that is answered or fails adds that answer to the transcript
pub finish_says : (said now : List Said) (failed : Option Trouble) (r : Result Answer Trouble)
    → now ≡ plus said calls_to.Finish (answered r) → failed ≡ troubled r → IfOk r (λ a. answers_done a ≡ true)
    → now ≡ plus said calls_to.Finish (finish_answer failed)
finish_says said now failed (Ok a) says fine kind =
    says ∙ ap (λ (x : Answer). plus said calls_to.Finish (Some x)) (fine_of a kind)
    ∙ sym (ap (λ (t : Option Trouble). plus said calls_to.Finish (finish_answer t)) fine)
finish_says said now failed (Err e) says fails kind =
    says ∙ sym (ap (λ (t : Option Trouble). plus said calls_to.Finish (finish_answer t)) fails)

-- Finish was called
pub now_called : (before now : Bool) → now ≡ (before || true) → now ≡ true
now_called true now is = is
now_called false now is = is

-- A run at the start.

-- these numbers are within their limits
pub accepts : (limit : ℕ) (fault : ConfigFault) → 64 ≤ limit → limit ≤ 2 ^ 30 → Refuses 1 1 limit fault → ⊥
accepts limit (Ranks given) least most refused = refused.0 (omega arith, omega arith)
accepts limit (Servers given) least most refused = refused.1 (omega arith, omega arith)
accepts limit (Limit given) least most refused = refused.2 (least, most)

-- the run in line before its first call
abbrev pub at_start : Seen → Inside
at_start w = record { world = w; answered = 0; finished = false }

module _ (config : Config) (limit : ℕ) (one_rank : config.ranks ≡ 1) (one_server : config.servers ≡ 1)
    (limit_is : config.limit ≡ limit) where
  abbrev first_world : Seen
  first_world = new_world config

  rank_is : rank_in first_world ≡ new_client config zeroth
  rank_is = client_at config zeroth (omega (arith, one_rank))

  server_is : server_in first_world ≡ new_pool config first_server
  server_is = pool_at config first_server (omega (arith, one_server))

  lone : IsLone (start config)
  lone = record { one_rank = one_rank; one_server = one_server; reached = start_reached config }

  rests : IsIdle (rank_in first_world) (server_in first_world)
  rests =
      let first : IsIdle (new_client config zeroth) (new_pool config first_server) = record {
        idle = refl;
        going = refl;
        rank = steps_tell.at_start config zeroth;
        few = omega arith;
        behind = omega arith;
      } in
      rw (rank_is, server_is) first

  none_said : (rank_in first_world).transcript ≡ []
  none_said = ap (λ (k : ClientModel). k.transcript) rank_is

  now_true : IsTrue first_world
  now_true = is_true first_world lone rests.idle (omega (arith, ap length none_said))

  abbrev first_told : IsTold config [] [] None
  first_told = retold config [] (rank_in first_world).transcript [] None None now_true.told none_said refl

  -- a run at the start
  pub starts : (w : Seen) → w ≡ new_world config → IsInside (at_start w) × IsStart limit (run_of (at_start w))
  starts w is = subst (λ v. IsInside (at_start v) × IsStart limit (run_of (at_start v))) (sym is) (
    inside_of (at_start first_world) None first_told one_rank one_server (λ stamp late. absurd (cc)) (omega arith) (omega arith)
        (omega arith) (λ none. (
          refl,
          record {
            left = now_true.left;
            finished = sym none_finished;
            ended = ap is_ended server_is;
            opened = rests.rank.opened;
            all = sym (ap length none_said);
            ready = λ going. record { whole = refl; lone = lone; rests = rests };
          },
        )),
    record {
      one_rank = one_rank;
      one_server = one_server;
      limit_is = limit_is;
      ledger = refl;
      transcript = refl;
      left = ap left_of server_is;
      failed = refl;
      begun = begun_now (at_start first_world) None first_told;
      finished = refl;
      ended = ap is_ended server_is;
    },
  )

-- The end.

none_open : (pending : Option Call) (said : List Said) → IsOpen pending said None → said ≡ []
none_open pending [] is = refl
none_open pending (s ∷ []) is = absurd (cc is.1)
none_open pending (s ∷ t ∷ said) is = absurd is

-- the parts that are given are those of the run
pub end_of : (run : Run) (ledger : List Entry) (transcript : List Said) (left : List LeftUnit) → IsInline run → run.failed ≡ None
    → ledger ≡ run.ledger → transcript ≡ run.transcript → left ≡ run.left → IsEnd run ledger transcript left
end_of run ledger transcript left inline none same_ledger same_transcript same_left =
    let whole = inline.whole none in
    let pending = call_of inline.told.rank.status in
    let more = none_open pending inline.told.more (subst (λ o. IsOpen pending inline.told.more o) whole.begun inline.told.open_call) in
    rw (same_ledger, same_transcript, same_left) (record {
      last = inline.told.last;
      legal = inline.told.legal;
      calls_are = inline.told.calls_are ∙ ap (λ l. run.transcript ++ l) more ∙ append-nil run.transcript;
      left_is = whole.left;
    })
