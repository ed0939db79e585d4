-- What the ledger says of a call in a world of one rank and one server, also after an event that failed.
use Rattle.core_inline.proofs.Prelude.{Answer, Bag, Bool, Call, ClientModel, CommonRef, Entry, Event, HasAnswer, IsEnabled, IsFailed}
use Rattle.core_inline.proofs.Prelude.{IsLeft, IsLone, IsOpen, IsRun, IsRunWhere, IsTold, List, Memory, Message, None, Option, Pending}
use Rattle.core_inline.proofs.Prelude.{RankState, Said, Seen, Server, Some, Stops, TooLong, Trouble, Waits, World, [], ap, append-nil}
use Rattle.core_inline.proofs.Prelude.{arith, call_of, client_of, cond, eq-eqb, event_stamp, false, first_server, happens, inl, inr}
use Rattle.core_inline.proofs.Prelude.{left_of, length, length-append, pending_call, plus, pool_of, rank_at, refl, settled, stamp_limit}
use Rattle.core_inline.proofs.Prelude.{start, subst, sym, take, take-append_seam, true, zeroth, ℕ, ◌*◌, ◌++◌, ◌+◌, ◌<◌, ◌∙◌, ◌∷◌, ◌≡◌, ◌≤◌}
use Rattle.core_inline.proofs.Prelude.{◌⊎◌}
use Rattle.core_inline.proofs.Lefts.{left_is}
use Rattle.core_inline.proofs.Opened.{IsToldOf, told_front}
use Rattle.core_inline.proofs.Reached.{config_next, lone_next, rank_own, server_own}
use Rattle.core_law.proofs.Lawful.{actors_seated}
use Rattle.core_law.specs.Seats.{HasSeat, IsSeated}
use Rattle.core_run.specs.Runs.{transcript}
use Rattle.rank_client.specs.Agreement.{fetch_coming, in_call, own_fetched, rank_of, said as said_with}
use Rattle.server_law.proofs.OneServer.{one_has_all}
use Rattle.bag_ledger.specs.declared.entries.Call.TheVariants as calls_to
use Rattle.adlb_unit.specs.declared.messages.Message.TheVariants as tells
use Rattle.rank_client.specs.declared.pendings.Pending.TheVariants as waits_for

-- How far a call has come that the rank makes after these.
pub data IsAt (said : List Said) (call : Call) (c : ClientModel) : Type 0 where
  Before : c.pending ≡ waits_for.Nothing → c.transcript ≡ said → IsAt said call c
  Within : c.finished ≡ false → Waits said call c → IsAt said call c
  Behind : (answer : Answer) → HasAnswer said call answer c → IsAt said call c

-- a client that is at a call has the transcript before it as its front
pub more_at : (said : List Said) (call : Call) (c : ClientModel) → IsAt said call c → (more : List Said) × (c.transcript ≡ said ++ more)
more_at said call c (Before idle same) = ([], same ∙ sym (append-nil said))
more_at said call c (Within going waits) = ([], waits.same ∙ sym (append-nil said))
more_at said call c (Behind answer has) = (record { call = call; answer = answer } ∷ [], has.grown)

-- no call is pending in the bag of a rank whose client waits for nothing
rests : (c : ClientModel) (coming : Option Message) (finished : Bool) → c.pending ≡ waits_for.Nothing
    → call_of (rank_of c finished coming).status ≡ None
rests c coming true idle = refl
rests c coming false idle = ap (λ p. call_of (in_call c p coming).status) idle

says_all : (c : ClientModel) (coming : Option Message) → c.pending ≡ waits_for.Nothing → said_with c c.pending coming ≡ c.transcript
says_all c None idle = ap (λ p. said_with c p None) idle
says_all c (Some m) idle = ap (λ p. said_with c p (Some m)) idle

-- what the ledger says beyond the transcript while a call is pending, and which call was begun
record IsBeyond (c : ClientModel) (p : Pending) (coming : Option Message) (call : Call) : Type 0 where
  more : List Said
  begun : Option Call
  says : said_with c p coming ≡ c.transcript ++ more
  open_call : IsOpen (call_of (in_call c p coming).status) more begun
  of_it : (begun ≡ None) ⊎ (begun ≡ Some call)

-- it is pending still, its answer is decided, or what comes is no answer
module _ (c : ClientModel) (p : Pending) (coming : Option Message) (call : Call) where
  still : said_with c p coming ≡ c.transcript → call_of (in_call c p coming).status ≡ Some call → IsBeyond c p coming call
  still same is =
      record { more = []; begun = Some call; says = same ∙ sym (append-nil c.transcript); open_call = sym is; of_it = inr refl }

  came : (s : Said) → said_with c p coming ≡ c.transcript ++ s ∷ [] → call_of (in_call c p coming).status ≡ None → Some s.call ≡ Some call
      → IsBeyond c p coming call
  came s says none is = record { more = s ∷ []; begun = Some s.call; says = says; open_call = (none, refl); of_it = inr is }

  stray : said_with c p coming ≡ c.transcript → call_of (in_call c p coming).status ≡ None → IsBeyond c p coming call
  stray same none =
      record { more = []; begun = None; says = same ∙ sym (append-nil c.transcript); open_call = sym none; of_it = inl refl }

beyond : (c : ClientModel) (p : Pending) (coming : Option Message) (call : Call) → pending_call p ≡ Some call → IsBeyond c p coming call
beyond c waits_for.Nothing coming call is = absurd (cc)
beyond c (waits_for.Fetch request note) (Some m) call is = own_came note.common refl m
  where
    said_by : Option CommonRef → Message → List Said
    said_by o m = plus c.transcript (calls_to.Fetch note.id) (fetch_coming o m)

    own_came : (common : Option CommonRef) → note.common ≡ common → (m : Message)
        → IsBeyond c (waits_for.Fetch request note) (Some m) call
    own_came None none (tells.Bytes to body) =
        came _ _ _ _ _ (ap (λ o. said_by o (tells.Bytes to body)) none) (ap (λ o. call_of (own_fetched c request note o).status) none) is
    own_came None none m = stray _ _ _ _ (ap (λ o. said_by o m) none) (ap (λ o. call_of (own_fetched c request note o).status) none)
    own_came (Some common) some m =
        still _ _ _ _ (ap (λ o. said_by o m) some) (ap (λ o. call_of (own_fetched c request note o).status) some ∙ is)
beyond c (waits_for.SetDone request tried) coming call is = came _ _ _ _ _ refl refl is
beyond c (waits_for.Put unit first tried) (Some (tells.Accepted to)) call is = came _ _ _ _ _ refl refl is
beyond c (waits_for.Put unit first tried) (Some (tells.Ended to end)) call is = came _ _ _ _ _ refl refl is
beyond c (waits_for.Reserve request types) (Some (tells.Grant to note)) call is = came _ _ _ _ _ refl refl is
beyond c (waits_for.Reserve request types) (Some (tells.Ended to end)) call is = came _ _ _ _ _ refl refl is
beyond c (waits_for.Try request types tried) (Some (tells.Grant to note)) call is = came _ _ _ _ _ refl refl is
beyond c (waits_for.Try request types tried) (Some (tells.Ended to end)) call is = came _ _ _ _ _ refl refl is
beyond c (waits_for.Common request note common own) (Some (tells.Bytes to body)) call is = came _ _ _ _ _ refl refl is
beyond c (waits_for.Keep request common first tried) (Some (tells.Accepted to)) call is = came _ _ _ _ _ refl refl is
beyond c (waits_for.Keep request common first tried) (Some (tells.Ended to end)) call is = came _ _ _ _ _ refl refl is
beyond c (waits_for.Close request batch) (Some (tells.Closed to)) call is = came _ _ _ _ _ refl refl is
beyond c (waits_for.Count request kind) (Some (tells.Counted to info)) call is = came _ _ _ _ _ refl refl is
beyond c _ None call is = still _ _ _ _ refl is
beyond c _ (Some _) call is = search (still, stray)

module _ (w : World) (l : IsLone w) where
  abbrev c : ClientModel
  c = client_of w zeroth

  abbrev bag : (b : Bag) × IsSeated w b
  bag = actors_seated w.config l.reached.events w l.reached.run

  -- with one server a run asks at an exhaustion that all is settled
  legal : IsRun (start w.config) w.ledger bag.0
  legal = subst (λ (alone : Bool). IsRunWhere (λ b. cond alone (settled b) true) (start w.config) w.ledger bag.0)
      (eq-eqb w.config.servers 1 l.one_server) bag.1.run

  seat : HasSeat w bag.0 zeroth
  seat = bag.1.ranks zeroth (omega (arith, l.one_rank))

  -- what is said of the ledger by the rank's state in the bag
  abbrev told_as : (said more : List Said) (begun : Option Call) (r : RankState) → said_with c c.pending seat.coming ≡ said ++ more
      → rank_of c c.finished seat.coming ≡ r → IsOpen (call_of r.status) more begun → IsTold w.config w.ledger said begun
  told_as said more begun r says is open_call = record {
    last = bag.0;
    legal = legal;
    more = more;
    calls_are = sym seat.says ∙ says;
    rank = r;
    there = ap (rank_at bag.0) (sym (rank_own w l).me) ∙ seat.stands.rank ∙ ap Some is;
    open_call = open_call;
  }

  -- the rank waits for nothing
  abbrev told_idle : (said : List Said) → c.pending ≡ waits_for.Nothing → c.transcript ≡ said → IsTold w.config w.ledger said None
  told_idle said idle same =
      told_as said [] None (rank_of c c.finished seat.coming) (says_all c seat.coming idle ∙ same ∙ sym (append-nil said)) refl
      (sym (rests c seat.coming c.finished idle))

  -- the ledger at rest: no call is open, and what is left is what the server has
  pub true_idle : c.pending ≡ waits_for.Nothing
      → (told : IsTold w.config w.ledger c.transcript None) × IsLeft told.last (left_of (pool_of w first_server))
  true_idle idle =
      let s = pool_of w first_server in
      let all = one_has_all w.config w.ledger bag.0 s.me l.one_server (ap (λ (k : Server). k.0) (server_own w l).me) legal in
      (told_idle c.transcript idle refl, left_is bag.0 s (bag.1.servers first_server (omega (arith, l.one_server))) all)

  -- of the call that goes on
  pub told_at : (said : List Said) (call : Call) → IsAt said call c → IsToldOf w.config said call w.ledger
  told_at said call (Before idle same) = (None, told_idle said idle same, inl refl)
  told_at said call (Within going waits) =
      let now : IsBeyond c c.pending seat.coming call = beyond c c.pending seat.coming call waits.pending in (
        now.begun,
        told_as said now.more now.begun (in_call c c.pending seat.coming) (now.says ∙ ap (λ t. t ++ now.more) waits.same)
            (ap (λ f. rank_of c f seat.coming) going) now.open_call,
        now.of_it,
      )
  told_at said call (Behind answer has) = (
    Some call,
    told_as said (record { call = call; answer = answer } ∷ []) (Some call) (rank_of c c.finished seat.coming)
        (says_all c seat.coming has.idle ∙ has.grown) refl (rests c seat.coming c.finished has.idle, refl),
    inr refl,
  )

-- An event of the call that failed.

-- this event of the call can happen now, and leads to a world in which the call goes on or is over
pub record IsStage (said : List Said) (call : Call) (w : World) (event : Event) : Type 0 where
  pub lone : IsLone w
  pub before : IsAt said call (client_of w zeroth)
  pub next : World
  pub happened : happens w event ≡ Some next
  pub after : IsAt said call (client_of next zeroth)
  pub few : event_stamp w event ≤ 5 * length said + 5

module _ (said : List Said) (call : Call) (w : World) (event : Event) (i : IsStage said call w event) where
  -- the event of a stage can happen
  pub enabled : IsEnabled w event
  enabled = rw i.happened refl

  told_before : IsToldOf w.config said call w.ledger
  told_before = told_at w i.lone said call i.before

  told_after : event_stamp w event < stamp_limit → IsToldOf w.config said call i.next.ledger
  told_after early = subst (λ g. IsToldOf g said call i.next.ledger) (config_next w i.next event i.happened)
      (told_at i.next (lone_next w i.next event i.lone i.happened early) said call i.after)

  with_heard : (trouble : Trouble) (now : Seen) → (more : List Said) × (transcript now.world zeroth ≡ said ++ more)
      → now.world.config ≡ w.config → IsToldOf w.config said call now.world.ledger
      → ((n : ℕ) → trouble ≡ TooLong n → (stamp_limit ≤ n) × (n ≡ event_stamp w event)) → IsFailed said call trouble now
  with_heard trouble now (more, is) same told late = record {
    kept = ap (take (length said)) is ∙ take-append_seam said more;
    within = omega (arith, ap length is, length-append said more);
    begun = told.0;
    told = subst (λ g. IsTold g now.world.ledger said told.0) (sym same) told.1;
    began = told.2;
    late = λ n long. let h = late n long in (h.0, omega (arith, h.1, i.few));
  }

  -- The event failed. What is said of the call before and after it is said of what it left. The rank has heard what it had before, or what
  -- it would have after.
  pub stopped : (trouble : Trouble) (now : Seen) → Stops w event trouble now.world → IsFailed said call trouble now
  stopped Memory now stops =
      let cut = stops.leaves i.next i.happened in
      let whole : i.next.ledger ≡ (w.ledger ++ cut.ledger.entered) ++ cut.ledger.rest =
      cut.ledger.after_is ∙ ap (λ (l : List Entry). l ++ cut.ledger.rest) cut.ledger.now_is in
      let front =
      told_front w.config said call w.ledger cut.ledger.entered cut.ledger.rest told_before
      (subst (IsToldOf w.config said call) whole (told_after stops.cause)) in
      let before = more_at said call (client_of w zeroth) i.before in
      let after = more_at said call (client_of i.next zeroth) i.after in
      with_heard Memory now
      (elim (cut.transcripts zeroth) [ inl same ↦ (before.0, same ∙ before.1) | inr same ↦ (after.0, same ∙ after.1) ])
      cut.config (subst (IsToldOf w.config said call) (sym cut.ledger.now_is) front) (λ n long. absurd (cc))
  stopped (TooLong stamp) now stops =
      let before = more_at said call (client_of w zeroth) i.before in
      with_heard (TooLong stamp) now (before.0, stops.leaves.transcripts zeroth ∙ before.1) stops.leaves.config
      (subst (IsToldOf w.config said call) (sym stops.leaves.ledger) told_before)
      (λ n long. let same : n ≡ stamp = cc in rw same stops.cause)
