-- The events of a call, in a world of one rank and one server.
use Rattle.core_inline.proofs.Prelude.{Actor, Answer, Bool, Call, CanCall, ClientModel, Config, Event, IsAnswered, IsLone, IsReady, IsSome}
use Rattle.core_inline.proofs.Prelude.{IsTrue, IsUnderWay, List, Made, None, Option, Pending, Remembers, Said, Says, Seen, ServerModel}
use Rattle.core_inline.proofs.Prelude.{Some, Waits, World, [], ap, arith, asked, at_most, begin, by_rank, client_of, event_answer}
use Rattle.core_inline.proofs.Prelude.{event_stamp, false, finished_more, first_server, happens, has_finished, inl, inr, is_ended}
use Rattle.core_inline.proofs.Prelude.{is_finish, is_finished, is_free, is_idle, is_some, length, length_push, not, one, option_and_then}
use Rattle.core_inline.proofs.Prelude.{pending_call, pool_of, rank_in, refl, server_in, some_is, some_there, stamp_limit, steps_tell, subst}
use Rattle.core_inline.proofs.Prelude.{sym, told, true, zeroth, ℕ, ◌&&◌, ◌*◌, ◌+◌, ◌<◌, ◌||◌, ◌∙◌, ◌≡◌, ◌≤◌}
use Rattle.core_inline.proofs.Clients.{more, more_few, passes_letter, pending_other}
use Rattle.core_inline.proofs.Reached.{ended_is, facts, goes_on, lone_next, not_ended, one_of, rank_own, settles, to_rank, to_server}
use Rattle.core_inline.proofs.Told.{Before, Behind, IsAt, IsStage, Within, true_idle}
use Rattle.core_run.specs.declared.events.Event.TheVariants as occurs
use Rattle.rank_client.specs.declared.pendings.Pending.TheVariants as waits_for

-- at most this number of events of the call is to come
abbrev pub to_come : World → ℕ
to_come w = 2 * length (asked w) + length (told w) + more (client_of w zeroth).pending

-- The call waits, or has this answer; and it takes five events at most.
pub record HasCome (said : List Said) (call : Call) (answer : Option Answer) (w : World) : Type 0 where
  pub lone : IsLone w
  pub says : Says said call answer (client_of w zeroth)
  pub rank : Remembers (client_of w zeroth)
  pub few : (client_of w zeroth).clock + to_come w ≤ 5 * length said + 5
  pub behind : (pool_of w first_server).clock + to_come w ≤ 5 * length said + 5

-- The event can happen now; if its stamp is given, it leads to a world in which the call has come so far.
pub record IsMove (said : List Said) (call : Call) (answer : Option Answer) (w : World) (event : Event) : Type 0 where
  pub stage : IsStage said call w event
  pub goes : (now : World) → happens w event ≡ Some now → event_stamp w event < stamp_limit → HasCome said call answer now

-- A letter is handled: one event less is to come, and the call goes on, or has its answer, and is not Finish.
pub record IsDelivered (said : List Said) (call : Call) (before : Option Answer) (w : World) (event : Event) : Type 0 where
  pub answer : Option Answer
  pub move : IsMove said call answer w event
  pub less : (now : World) → happens w event ≡ Some now → IsLone now → to_come now < to_come w
  pub on : event_answer w event ≡ None → answer ≡ before
  pub over : (a : Answer) → event_answer w event ≡ Some a → (answer ≡ Some a) × (is_finish call ≡ false)

-- what the ledger tells while no call is pending
pub is_true : (w : Seen) → IsLone w.world → (rank_in w).pending ≡ waits_for.Nothing → length (rank_in w).transcript < stamp_limit → IsTrue w
is_true w l idle short = let t = true_idle w.world l idle in record { told = t.0; left = t.1; short = short }

module _ (said : List Said) (call : Call) (running : has_finished said ≡ false) where
  -- the rank has finished if the call is Finish and has its answer
  finished_is : (answer : Option Answer) (c : ClientModel) → Says said call answer c → Remembers c
      → c.finished ≡ (is_some answer && is_finish call)
  finished_is None c says rank = sym rank.finishes ∙ ap has_finished says.same ∙ running
  finished_is (Some a) c says rank =
      sym rank.finishes ∙ ap has_finished says.grown ∙ finished_more said (record { call = call; answer = a })
      ∙ ap (λ b. b || is_finish call) running

  unfinished : (answer : Option Answer) (c : ClientModel) → Says said call answer c → Remembers c → is_finish call ≡ false
      → c.finished ≡ false
  unfinished None c says rank other = finished_is None c says rank
  unfinished (Some a) c says rank other = finished_is (Some a) c says rank ∙ other

  at_of : (answer : Option Answer) (c : ClientModel) → Says said call answer c → Remembers c → IsAt said call c
  at_of None c says rank = Within (finished_is None c says rank) says
  at_of (Some a) c says rank = Behind a says

  -- one letter is under way at most, and none where Finish was handled
  single : (w : World) → IsLone w → (answer : Option Answer) → Says said call answer (client_of w zeroth) → Remembers (client_of w zeroth)
      → length (asked w) + length (told w) + one (is_finished (pool_of w first_server).kept zeroth) ≤ 1
  single w l None says rank =
      let c = client_of w zeroth in
      omega (arith, (facts w l).letters, ap one (finished_is None c says rank), at_most (not (is_idle c.pending)))
  single w l (Some a) says rank =
      let c = client_of w zeroth in omega (arith, (facts w l).letters, ap (λ p. one (not (is_idle p))) says.idle, at_most c.finished)

  move_of : (w : World) → IsLone w → (event : Event) → IsAt said call (client_of w zeroth) → event_stamp w event ≤ 5 * length said + 5
      → (next : World) → happens w event ≡ Some next → (answer : Option Answer) → Says said call answer (client_of next zeroth)
      → Remembers (client_of next zeroth)
      → (IsLone next → ((client_of next zeroth).clock + to_come next ≤ 5 * length said + 5)
      × ((pool_of next first_server).clock + to_come next ≤ 5 * length said + 5)) → IsMove said call answer w event
  move_of w l event before few next happened answer says rank clocks = record {
    stage = record { lone = l; before = before; next = next; happened = happened; after = at_of answer _ says rank; few = few };
    goes = λ now is early.
        let lone = lone_next w next event l happened early in
        let below = clocks lone in
        subst (HasCome said call answer) (some_is (sym happened ∙ is))
        (record { lone = lone; says = says; rank = rank; few = below.0; behind = below.1 });
  }

  module _ (w : World) (answer : Option Answer) (i : HasCome said call answer w) where
    abbrev c : ClientModel
    c = client_of w zeroth

    -- the server handles a letter
    serves : 0 < length (asked w) → IsDelivered said call answer w to_server
    serves some =
        let letters = single w i.lone answer i.says i.rank in
        let front = one_of (asked w) (omega (arith, some, letters)) in
        let s = (facts w i.lone).serves front.0 front.1 (goes_on w i.lone (omega (arith, some, letters))) in
        let says = subst (Says said call answer) (sym s.rank) i.says in
        let rank = subst Remembers (sym s.rank) i.rank in
        let less : IsLone s.next → to_come s.next < to_come w =
        λ lone.
        let now = single s.next lone answer says rank in
        omega (arith, some, now, ap length s.unasked, ap (λ (k : ClientModel). more k.pending) s.rank) in
        record {
          answer = answer;
          move =
              move_of w i.lone to_server (at_of answer c i.says i.rank) (omega (arith, some, s.stamp, s.sent, i.few, i.behind))
              s.next s.happened answer says rank
              (λ lone. (
                omega (arith, ap (λ (k : ClientModel). k.clock) s.rank, i.few, less lone),
                omega (arith, s.clock, s.sent, i.few, i.behind, less lone),
              ));
          less = λ now is. subst (λ v. IsLone v → to_come v < to_come w) (some_is (sym s.happened ∙ is)) less;
          on = λ none. refl;
          over = λ a is. absurd (cc);
        }

    -- a rank that hears a letter waits
    awaits : (o : Option Answer) → Says said call o c → IsSome (pending_call c.pending) → (o ≡ None) × Waits said call c
    awaits None says awaited = (refl, says)
    awaits (Some a) says awaited =
        let none : IsSome (pending_call waits_for.Nothing) = subst (λ p. IsSome (pending_call p)) says.idle awaited in absurd (cc)

    -- it hears one
    hears : 0 < length (told w) → IsDelivered said call answer w to_rank
    hears some =
        let letters = single w i.lone answer i.says i.rank in
        let front = one_of (told w) (omega (arith, some, letters)) in
        let h = (facts w i.lone).hears front.0 front.1 in
        let waits = awaits answer i.says (steps_tell.awaited c first_server front.0 (rw h.does refl)) in
        let other = pending_other c.pending call waits.1.pending in
        let t = steps_tell.after_letter c first_server front.0 h.x call h.does i.rank waits.1.pending in
        let says =
        subst (Says said call h.x.answer) (sym h.rank) (subst (λ l. Says l call h.x.answer h.x.state) waits.1.same t.says) in
        let rank = subst Remembers (sym h.rank) t.remembers in
        let one_server = ap (λ (g : Config). g.servers) (rank_own w i.lone).config ∙ i.lone.one_server in
        let passed =
        subst (λ (k : ClientModel). more k.pending + 2 * one (not (is_idle k.pending)) ≤ more c.pending) (sym h.rank)
        (passes_letter c one_server front.0 h.x h.does) in
        let less : IsLone h.next → to_come h.next < to_come w =
        λ lone.
        let now = (facts h.next lone).letters in
        let over = ap one (unfinished h.x.answer (client_of h.next zeroth) says rank other) in
        omega (arith, some, passed, now, over, ap length h.untold) in
        record {
          answer = h.x.answer;
          move =
              move_of w i.lone to_rank (Within (finished_is None c waits.1 i.rank) waits.1)
              (omega (arith, some, h.stamp, h.sent, i.few, i.behind)) h.next h.happened h.x.answer says rank
              (λ lone. (
                omega (arith, ap (λ (k : ClientModel). k.clock) h.rank, t.clock, h.sent, i.few, i.behind, less lone),
                omega (arith, ap (λ (s : ServerModel). s.clock) h.pool, i.behind, less lone),
              ));
          less = λ now is. subst (λ v. IsLone v → to_come v < to_come w) (some_is (sym h.happened ∙ is)) less;
          on = λ none. sym h.answer ∙ none ∙ sym waits.0;
          over = λ a is. (sym h.answer ∙ is, other);
        }

    -- the delivery of a letter under way is an event of the call
    pub delivers : (from to : Actor) → IsUnderWay w from to → IsDelivered said call answer w (occurs.Deliver from to)
    delivers from to (inl (f, t, some)) = rw (f, t) (serves some)
    delivers from to (inr (f, t, some)) = rw (f, t) (hears some)

  -- Where no letter is under way.

  -- the call does not wait
  pub not_stuck : (w : World) → HasCome said call None w → asked w ≡ [] → told w ≡ [] → ⊥
  not_stuck w i none untold =
      let c = client_of w zeroth in
      let ended = settles w i.lone (busy c.pending i.says.pending) none untold in
      let over : c.finished ≡ true = ended.ranks zeroth (omega (arith, i.lone.one_rank)) in
      let still = finished_is None c i.says i.rank in
      cc
    where
      busy : (p : Pending) → pending_call p ≡ Some call → (is_idle p && not (client_of w zeroth).finished) ≡ false
      busy waits_for.Nothing is = absurd (cc)
      busy _ is = refl

  -- it has its answer, also where it is not Finish
  pub is_answered : (now : Seen) → now.trouble ≡ None → (a : Answer) → HasCome said call (Some a) now.world
      → (is_finish call ≡ true → (asked now.world ≡ []) × (told now.world ≡ [])) → IsAnswered said call a now
  is_answered now whole a i quiet = record {
    whole = whole;
    true_now = is_true now i.lone i.says.idle (omega (arith, i.rank.counted, i.lone.reached.early by_rank));
    grown = i.says.grown;
    fits = i.says.fits;
    opened = i.rank.opened;
    ended = by_last (is_finish call) refl;
    ready = λ other. record {
      whole = whole;
      lone = i.lone;
      rests = record {
        idle = i.says.idle;
        going = over ∙ other;
        rank = i.rank;
        few = omega (arith, long, i.few);
        behind = omega (arith, long, i.behind);
      };
    };
  }
    where
      over : (rank_in now).finished ≡ is_finish call
      over = finished_is (Some a) (rank_in now) i.says i.rank

      long : length (rank_in now).transcript ≡ length said + 1
      long = ap length i.says.grown ∙ length_push said (record { call = call; answer = a })

      by_last : (t : Bool) → is_finish call ≡ t → is_ended (server_in now) ≡ is_finish call
      by_last true last =
          let free : is_free (rank_in now) ≡ false = rw (i.says.idle, over, last) refl in
          let none = quiet last in
          ended_is now.world i.lone ((settles now.world i.lone free none.0 none.1).servers first_server (omega (arith, i.lone.one_server)))
          ∙ sym last
      by_last false other =
          let idle = ap (λ p. one (not (is_idle p))) i.says.idle in
          not_ended (server_in now) (omega (arith, (facts now.world i.lone).letters, ap one (over ∙ other), idle)) ∙ sym other

-- The rank begins a call.

-- a rank that is ready has not finished
pub running : (w : Seen) → IsReady w → has_finished (rank_in w).transcript ≡ false
running w i = i.rests.rank.finishes ∙ i.rests.going

module _ (w : Seen) (i : IsReady w) (call : Call) (can : CanCall 1 1 (rank_in w).transcript call) where
  begun : (x : Made) × (begin (rank_in w) call ≡ Some x)
  begun =
      let me = rank_in w in
      let own = (rank_own w.world i.lone).config in
      some_there (begin me call) (steps_tell.ready me call i.rests.rank i.rests.idle (running w i)
      (subst (λ n. CanCall n me.config.servers me.transcript call) (sym (ap (λ (g : Config). g.ranks) own ∙ i.lone.one_rank))
      (subst (λ n. CanCall 1 n me.transcript call) (sym (ap (λ (g : Config). g.servers) own ∙ i.lone.one_server)) can)))

  -- a call that may be made is begun by an event of that call
  pub begins_move : IsMove (rank_in w).transcript call (event_answer w.world (occurs.Call zeroth call)) w.world (occurs.Call zeroth call)
  begins_move =
      let me = rank_in w in
      let x = begun.0 in
      let t = steps_tell.after_call me call x begun.1 i.rests.rank in
      let b = (facts w.world i.lone).begins call x begun.1 in
      let says = subst (Says me.transcript call x.answer) (sym b.rank) t.says in
      let rank = subst Remembers (sym b.rank) t.remembers in
      let some = more_few (client_of b.next zeroth).pending in
      let answer = ap (option_and_then (λ (x : Made). x.answer)) begun.1 in
      rw answer (move_of me.transcript call (running w i) w.world i.lone (occurs.Call zeroth call) (Before i.rests.idle refl)
      (omega (arith, i.rests.few)) b.next b.happened x.answer says rank
      (λ lone.
      let letters = single me.transcript call (running w i) b.next lone x.answer says rank in (
        omega (arith, ap (λ (k : ClientModel). k.clock) b.rank, t.clock, i.rests.few, letters, some),
        omega (arith, ap (λ (s : ServerModel). s.clock) b.pool, i.rests.behind, letters, some),
      )))
