-- Where nothing else goes on, all servers know that the problem is done, or none does.
use Rattle.adlb_unit.specs.Limits.{body_limit, stamp_limit}
use Rattle.adlb_unit.specs.Links.{is_within, place_of}
use Rattle.adlb_unit.specs.Ring.{behind}
use Rattle.adlb_unit.specs.Targets.{home, in_ranks}
use Rattle.adlb_unit.specs.declared.actors.Actor.{Actor}
use Rattle.adlb_unit.specs.declared.configs.Config.{Config}
use Rattle.adlb_unit.specs.declared.letters.Letter.{Letter}
use Rattle.adlb_unit.specs.declared.letters.Sending.{Sending}
use Rattle.adlb_unit.specs.declared.messages.Message.{Message}
use Rattle.adlb_unit.specs.declared.names.CommonRef.{CommonRef}
use Rattle.adlb_unit.specs.declared.names.Rank.{Rank}
use Rattle.adlb_unit.specs.declared.names.Server.{Server}
use Rattle.adlb_unit.specs.declared.names.UnitId.{UnitId}
use Rattle.adlb_unit.specs.declared.names.WorkType.{WorkType}
use Rattle.adlb_unit.specs.declared.notes.End.{End}
use Rattle.adlb_unit.specs.declared.notes.UnitNote.{UnitNote}
use Rattle.adlb_unit.specs.declared.units.Unit.{Unit}
use Rattle.bag_ledger.specs.declared.entries.Call.{Call}
use Rattle.core_check_law.proofs.Classes.{IsMine, IsOthers, now}
use Rattle.core_check_law.proofs.Lists.{each_has, has_at, home_below}
use Rattle.core_check_law.proofs.Ticks.{after}
use Rattle.core_law.proofs.Actors.{client_beside, client_there, pool_beside, pool_there}
use Rattle.core_law.proofs.Debts.{every_run_paid}
use Rattle.core_law.proofs.Events.{event_keeps}
use Rattle.core_law.proofs.EveryRun.{AreZero, answer_within, begins_even, begins_well, call_began, call_within, client_at, every_run_well}
use Rattle.core_law.proofs.EveryRun.{inside_ranks, pool_at, well_kept}
use Rattle.core_law.proofs.Fifo.{front_le}
use Rattle.core_law.proofs.Lawful.{Lawful, every_run_lawful, kept_lawful}
use Rattle.core_law.proofs.OnLinks.{links_next}
use Rattle.core_law.proofs.OwedByRanks.{no_sum}
use Rattle.core_law.proofs.Posts.{requests_state}
use Rattle.core_law.proofs.StepResults.{OnSome, if_some, on_some}
use Rattle.core_law.proofs.Steps.{A_call, A_request, An_answer, Begins, Does, Hears, Serves, happens_does, rank_weight, taken_shaped}
use Rattle.core_law.proofs.Sums.{AreWithin, front_goes, others_none}
use Rattle.core_law.proofs.UnderWay.{at_front}
use Rattle.core_law.proofs.LettersAndActors.{inside_servers, own_of}
use Rattle.core_law.specs.Acting.{IsAct, acted, ticks}
use Rattle.core_law.specs.Lawful.{IsAsked, IsOfCall, IsWaiting, OfCall}
use Rattle.core_law.specs.Letters.{no_rank, no_server, one, request_of}
use Rattle.core_law.specs.Measures.{Weights, due, heard_weight, links_weight, measure, said_weight, sends_weight}
use Rattle.core_law.specs.Well.{IsShaped, IsWell}
use Rattle.core_wish_law.proofs.Busy.{pending_idle}
use Rattle.core_wish_law.specs.News.{IsAgreed}
use Rattle.core_run.specs.Runs.{Runs}
use Rattle.core_run.specs.World.{Links, World, after_rank, after_server, client_of, link, pool_of, rank_named, server_named, start, taken}
use Rattle.core_run.specs.declared.events.Event.{Event}
use Rattle.rank_client.specs.Rules.{ClientResponse, answer_call, asked, close, expects_note, fetch, hear_close, hear_common, hear_count}
use Rattle.rank_client.specs.Rules.{hear_done, hear_fetch, hear_keep, hear_look, hear_put, hear_reserve, held, is_for, is_free, is_idle}
use Rattle.rank_client.specs.Rules.{keep, look, looked, looks_at, open_call, own_came, part_refused, put, refused, reserve, told_done}
use Rattle.rank_client.specs.Rules.{unit_put}
use Rattle.rank_client.specs.State.{ClientModel}
use Rattle.rank_client.specs.Step.{Made, begin, call_stamp, hear, letter_stamp, made, ticked}
use Rattle.rank_client.specs.declared.pendings.Pending.{Pending}
use Rattle.server_law.proofs.Calm.{first_is}
use Rattle.server_law.proofs.Carrying.{carried_state}
use Rattle.server_law.proofs.Handled.{acts_handle}
use Rattle.server_law.proofs.Once.{step_acts}
use Rattle.server_law.proofs.Waiters.{done_kept}
use Rattle.server_law.specs.Acts.{Act, Finds, Heard, Hears_done, Shuts, does, done_after, of_rank, says, takes}
use Rattle.server_law.specs.Carried.{Served, all_done, done}
use Rattle.server_law.specs.State.{Kept, ServerModel}
use Rattle.server_law.specs.Step.{at_event, serve}
use Rattle.server_law.specs.Sure.{TakeNone}
use Rattle.std.proofs.Common.{Bool, List, None, Option, Some, [], ap, arith, false, inl, inr, length, not, refl, subst, sym, true, ℕ, ◌%◌}
use Rattle.std.proofs.Common.{◌&&◌, ◌*◌, ◌+◌, ◌-◌, ◌<◌, ◌==◌, ◌∙◌, ◌∷◌, ◌≡◌, ◌≢◌, ◌≤◌, ◌⊎◌}
use Rattle.std.proofs.Math.Nat.{mod-eq_of_lt}
use Rattle.std.proofs.lemmas.Bool.{and_parts, cases_eq, cases_lt, eq-eqb, eqb-true, false_from_ne_true, lt-ltb, ltb-false, ltb-true}
use Rattle.std.proofs.lemmas.Nat.{mod-mul-add}
use Rattle.std.specs.Option.{option_map}
use Rattle.std.specs.Prelude.{is_none, nat_le, nat_lt}
use Rattle.adlb_unit.specs.declared.actors.Actor.TheVariants as by
use Rattle.adlb_unit.specs.declared.messages.Message.TheVariants as tells
use Rattle.bag_ledger.specs.declared.entries.Call.TheVariants as calls_to
use Rattle.rank_client.specs.declared.pendings.Pending.TheVariants as waits_for

-- the server knows that the problem is done
abbrev pub done_at : World → Server → Bool
done_at w t = (pool_of w t).kept.done

-- Letters that say that a server has heard it.

abbrev is_heard : Message → Bool
is_heard (tells.DoneHeard request) = true
is_heard _ = false

abbrev heard_letter : Server → Actor → Actor → Message → ℕ
heard_letter s (by.Server from) (by.Rank to) m = one (is_heard m && (from.0 == s.0))
heard_letter s (by.Server from) (by.Server to) m = 0
heard_letter s (by.Rank from) to m = 0

abbrev heard_from : Server → Weights
heard_from s = record { letter = heard_letter s; server = no_server; rank = no_rank; server_due = no_server; rank_due = no_rank }

-- a server that does not know has said so to nobody
AreHeard : World → Type 0
AreHeard w = (s : Server) → s.0 < w.config.servers → done_at w s ≡ false → links_weight w.config (heard_from s) w.links ≡ 0

said_none : (s k : Server) (a : Act) (x : ServerModel) → (done_after a x.kept.done ≡ false) ⊎ (k.0 ≢ s.0)
    → said_weight (heard_letter s) k (says a x) ≡ 0
said_none s k (Hears_done rank request) x (inl e) = absurd (cc)
said_none s k (Hears_done rank request) x (inr differs) =
    let no_place : (k.0 == s.0) ≡ false = false_from_ne_true (k.0 == s.0) (λ e. differs (eqb-true k.0 s.0 e)) in rw no_place refl
said_none s k (Finds from t) x why = others_none (heard_letter s) k x tells.Exhaust (λ to. refl)
said_none s k (Shuts from t) x why = others_none (heard_letter s) k x tells.Shutdown (λ to. refl)
said_none s k _ x why = omega arith

done_was : (a : Act) (is_done : Bool) → done_after a is_done ≡ false → is_done ≡ false
done_was (Hears_done rank request) is_done e = absurd (cc)
done_was _ is_done e = e

act_heard : (w : World) (me : Server) (a : Act) → IsWell w → IsAct w me a → AreHeard w → AreHeard (acted w me a)
unfolding AreHeard
act_heard w me a well is heard s there off = by_now (now w me a well.shape is.here s there)
  where
    next : links_weight w.config (heard_from s) (acted w me a).links + heard_weight (heard_letter s) me (takes a)
        ≡ links_weight w.config (heard_from s) w.links + said_weight (heard_letter s) me (says a (pool_of w me))
    next = links_next (heard_from s) w me a well.shape is (own_of w me a well is)

    by_now : IsMine w me a s ⊎ IsOthers w me a s → links_weight w.config (heard_from s) (acted w me a).links ≡ 0
    by_now (inl mine) =
        let now_off : done_after a (pool_of w me).kept.done ≡ false = ap (λ (k : Kept). k.done) (sym mine.kept) ∙ off in
        let was_off : done_at w s ≡ false = ap (λ (k : Server). done_at w k) mine.same ∙ done_was a (pool_of w me).kept.done now_off in
        let before = heard s there was_off in
        let said = said_none s me a (pool_of w me) (inl now_off) in
        let sum = next in
        omega arith
    by_now (inr other) =
        let was_off : done_at w s ≡ false = ap (λ (k : Kept). k.done) (sym other.kept) ∙ off in
        let before = heard s there was_off in
        let said = said_none s me a (pool_of w me) (inr (λ e. other.differs (sym e))) in
        let sum = next in
        omega arith

tick_heard : (w : World) (me : Server) (stamp : ℕ) (up : Bool) → me.0 < w.config.servers → IsWell w → AreHeard w
    → AreHeard (ticks w me stamp up)
unfolding AreHeard
tick_heard w me stamp up here well heard s there off =
    heard s there (ap (λ (k : Kept). k.done) (sym (after w me stamp up well here s).kept) ∙ off)

rank_says : (s : Server) (me : Rank) (sends : List Sending) → sends_weight (heard_from s) (by.Rank me) sends ≡ 0
rank_says s me [] = refl
rank_says s me (x ∷ sends) = let later = rank_says s me sends in omega arith

rank_heard : (w : World) (me : Rank) (x : Made) → IsShaped w → me.0 < w.config.ranks → AreWithin w.config x.sends → AreHeard w
    → AreHeard (after_rank w me w.links x)
unfolding AreHeard measure
rank_heard w me x shape here within heard s there off =
    let all = rank_weight (heard_from s) w me x shape here within in
    let a = no_sum w.servers in
    let b = no_sum w.ranks in
    let c = no_sum (after_rank w me w.links x).ranks in
    let said = rank_says s me x.sends in
    let before = heard s there off in
    omega arith

-- What a server comes to know.

first_done : (a : Act) (is_done : Bool) (h : Heard) → takes a ≡ h ∷ [] → done_after a is_done ≡ true
    → (is_done ≡ true) ⊎ ((r : Rank) × (q : ℕ) × (h ≡ of_rank r (tells.Done q)))
first_done (Hears_done rank request) is_done h is e = inr (rank, request, sym (first_is is))
first_done _ is_done h is e = inl e

follows_same : (a : Act) (is_done : Bool) → takes a ≡ [] → done_after a is_done ≡ is_done
follows_same (Hears_done rank request) is_done none = absurd (cc)
follows_same _ is_done none = refl

more_done : (list : List Act) (s : ServerModel) → TakeNone list → (all_done list s).kept.done ≡ s.kept.done
more_done [] s none = refl
more_done (a ∷ list) s none =
    more_done list (done a s) none.1 ∙ ap (λ (k : Kept). k.done) (done_kept a s) ∙ follows_same a s.kept.done none.0

serve_done : (s : ServerModel) (from : Actor) (letter : Letter) (x : Served) → serve s from letter ≡ Some x → x.state.kept.done ≡ true
    → (s.kept.done ≡ true) ⊎ ((r : Rank) × (q : ℕ) × (from ≡ by.Rank r) × (letter.message ≡ tells.Done q))
serve_done s from letter x is knows =
    let step = step_acts s from letter x is in
    let t = at_event s letter in
    let h = acts_handle t from letter.message step.list step.are in
    let a = h.first in
    let same : all_done (a ∷ h.more) t ≡ x.state =
    ap (λ l. all_done l t) (sym h.are) ∙ sym (carried_state step.list t) ∙ ap (λ (y : Served). y.state) step.makes in
    let all : (all_done h.more (done a t)).kept.done ≡ true = ap (λ (y : ServerModel). y.kept.done) same ∙ knows in
    let first : done_after a t.kept.done ≡ true =
    sym (more_done h.more (done a t) h.follow ∙ ap (λ (k : Kept). k.done) (done_kept a t)) ∙ all in
    by_first (first_done a t.kept.done (record { from = from; message = letter.message }) h.takes first)
  where
    by_first : (s.kept.done ≡ true) ⊎ ((r : Rank) × (q : ℕ) × (record { from = from; message = letter.message } ≡ of_rank r (tells.Done q)))
        → (s.kept.done ≡ true) ⊎ ((r : Rank) × (q : ℕ) × (from ≡ by.Rank r) × (letter.message ≡ tells.Done q))
    by_first (inl e) = inl e
    by_first (inr (r, q, e)) = inr (r, q, ap (λ (h : Heard). h.from) e, ap (λ (h : Heard). h.message) e)

-- What a rank comes to await.

abbrev NewDone : Pending → Type 0
NewDone (waits_for.SetDone request tried) = tried ≡ 0
NewDone _ = Prim.Unit {0}

abbrev NotDone : Pending → Type 0
NotDone (waits_for.SetDone request tried) = ⊥
NotDone _ = Prim.Unit {0}

made_pending : (P : Pending → Type 0) (o : Option ClientResponse) → OnSome o (λ z. P z.state.pending)
    → OnSome (option_map made o) (λ y. P y.state.pending)
made_pending P None h = tt
made_pending P (Some z) h =
    let x : Made = record { state = z.state; sends = []; entries = z.entries; answer = z.answer } in
    subst P (sym (ap (λ (c : ClientModel). c.pending) (requests_state z.says x))) h

module _ (s : ClientModel) where
  abbrev Opens : Option ClientResponse → Type 0
  Opens o = OnSome o (λ z. NewDone z.state.pending)

  put_opens : (unit : Unit) (end : Option End) → NewDone (put s unit end).state.pending
  put_opens unit None = tt
  put_opens unit (Some end) = tt

  reserve_opens : (types : Option (List WorkType)) (end : Option End) → NewDone (reserve s types end).state.pending
  reserve_opens types None = tt
  reserve_opens types (Some end) = tt

  look_opens : (types : Option (List WorkType)) (end : Option End) → NewDone (look s types end).state.pending
  look_opens types None = tt
  look_opens types (Some end) = tt

  keep_opens : (common : List ℕ) (end : Option End) → NewDone (keep s common end).state.pending
  keep_opens common None = tt
  keep_opens common (Some end) = tt

  fetch_opens : (id : UnitId) (o : Option UnitNote) → Opens (fetch s id o)
  fetch_opens id None = tt
  fetch_opens id (Some note) = tt

  close_opens : (o : Option CommonRef) → Opens (close s o)
  close_opens None = tt
  close_opens (Some batch) = tt

  call_opens : (call : Call) → Opens (open_call s call)
  call_opens (calls_to.Put kind prio target answer body) =
      if_some _ (nat_le (length body) body_limit && in_ranks s.config target) _
      (λ is. put_opens (unit_put s kind prio target answer body) s.end)
  call_opens (calls_to.Reserve types) = reserve_opens types s.end
  call_opens (calls_to.Try types) = look_opens types s.end
  call_opens (calls_to.Fetch id) = fetch_opens id (held s id)
  call_opens (calls_to.BeginBatch common) =
      if_some _ (is_none s.batch && nat_le (length common) body_limit) _ (λ is. keep_opens common s.end)
  call_opens calls_to.EndBatch = close_opens s.batch
  call_opens (calls_to.Count kind) = tt
  call_opens calls_to.SetDone = refl
  call_opens calls_to.Finish = if_some _ (is_none s.batch) _ (λ is. tt)

begin_opens : (s : ClientModel) (call : Call) (x : Made) → begin s call ≡ Some x → NewDone x.state.pending
begin_opens s call x is =
    on_some (λ y. NewDone y.state.pending) (begin s call) x
    (if_some _ (is_free s) _
    (λ t. made_pending NewDone (open_call (ticked s (call_stamp s)) call) (call_opens (ticked s (call_stamp s)) call))) is

-- a pending SetDone hears of the server that it asked last, and goes on to the next, or has its answer
abbrev GoesOn : ClientModel → ℕ → ℕ → Server → Message → Pending → Type 0
GoesOn s request tried from m p =
    (m ≡ tells.DoneHeard request) × (from.0 ≡ (looks_at s tried).0)
    × (((nat_lt (tried + 1) s.config.servers ≡ true) × (p ≡ waits_for.SetDone request (tried + 1)))
    ⊎ ((nat_lt (tried + 1) s.config.servers ≡ false) × (p ≡ waits_for.Nothing)))

abbrev HearsSo : ClientModel → Pending → Server → Message → Pending → Type 0
HearsSo s (waits_for.SetDone request tried) from m p = GoesOn s request tried from m p
HearsSo s _ from m p = NotDone p

module _ (s : ClientModel) (from : Server) where
  abbrev Hears_it : Pending → Message → Option ClientResponse → Type 0
  Hears_it p m o = OnSome o (λ z. HearsSo s p from m z.state.pending)

  refused_hears : (unit : Unit) (first : Server) (tried : ℕ) (t : Bool) → NotDone (refused s unit first tried t).state.pending
  refused_hears unit first tried true = tt
  refused_hears unit first tried false = tt

  put_hears : (unit : Unit) (first : Server) (tried : ℕ) (m : Message)
      → Hears_it (waits_for.Put unit first tried) m (hear_put s unit first tried from m)
  put_hears unit first tried (tells.Accepted to) = if_some _ (is_for unit.id.number (asked s first tried) from to) _ (λ is. tt)
  put_hears unit first tried (tells.Full to charge) =
      if_some _ (is_for unit.id.number (asked s first tried) from to) _
      (λ is. refused_hears unit first tried (nat_lt (tried + 1) s.config.servers))
  put_hears unit first tried (tells.Ended to end) = if_some _ (is_for unit.id.number (asked s first tried) from to) _ (λ is. tt)
  put_hears unit first tried _ = tt

  reserve_hears : (request : ℕ) (types : Option (List WorkType)) (m : Message)
      → Hears_it (waits_for.Reserve request types) m (hear_reserve s request types from m)
  reserve_hears request types (tells.Grant to note) =
      if_some _ (is_for request (home s.config s.me) from to && expects_note s note) _ (λ is. tt)
  reserve_hears request types (tells.Ended to end) = if_some _ (is_for request (home s.config s.me) from to) _ (λ is. tt)
  reserve_hears request types _ = tt

  looked_hears : (request : ℕ) (types : Option (List WorkType)) (tried : ℕ) (t : Bool)
      → NotDone (looked s request types tried t).state.pending
  looked_hears request types tried true = tt
  looked_hears request types tried false = tt

  look_hears : (request : ℕ) (types : Option (List WorkType)) (tried : ℕ) (m : Message)
      → Hears_it (waits_for.Try request types tried) m (hear_look s request types tried from m)
  look_hears request types tried (tells.Grant to note) =
      if_some _ (is_for request (looks_at s tried) from to && expects_note s note) _ (λ is. tt)
  look_hears request types tried (tells.Nothing to) =
      if_some _ (is_for request (looks_at s tried) from to) _ (λ is. looked_hears request types tried (nat_lt (tried + 1) s.config.servers))
  look_hears request types tried (tells.Ended to end) = if_some _ (is_for request (looks_at s tried) from to) _ (λ is. tt)
  look_hears request types tried _ = tt

  own_hears : (request : ℕ) (note : UnitNote) (body : List ℕ) (o : Option CommonRef)
      → NotDone (own_came s request note body o).state.pending
  own_hears request note body None = tt
  own_hears request note body (Some common) = tt

  fetch_hears : (request : ℕ) (note : UnitNote) (m : Message) → Hears_it (waits_for.Fetch request note) m (hear_fetch s request note from m)
  fetch_hears request note (tells.Bytes to body) =
      if_some _ (is_for request note.server from to && (length body == note.length)) _ (λ is. own_hears request note body note.common)
  fetch_hears request note _ = tt

  common_hears : (request : ℕ) (note : UnitNote) (common : CommonRef) (own : List ℕ) (m : Message)
      → Hears_it (waits_for.Common request note common own) m (hear_common s request note common own from m)
  common_hears request note common own (tells.Bytes to body) =
      if_some _ (is_for request common.server from to && (length body == common.length)) _ (λ is. tt)
  common_hears request note common own _ = tt

  part_hears : (request : ℕ) (common : List ℕ) (first : Server) (tried : ℕ) (t : Bool)
      → NotDone (part_refused s request common first tried t).state.pending
  part_hears request common first tried true = tt
  part_hears request common first tried false = tt

  keep_hears : (request : ℕ) (common : List ℕ) (first : Server) (tried : ℕ) (m : Message)
      → Hears_it (waits_for.Keep request common first tried) m (hear_keep s request common first tried from m)
  keep_hears request common first tried (tells.Accepted to) = if_some _ (is_for request (asked s first tried) from to) _ (λ is. tt)
  keep_hears request common first tried (tells.Full to charge) =
      if_some _ (is_for request (asked s first tried) from to) _
      (λ is. part_hears request common first tried (nat_lt (tried + 1) s.config.servers))
  keep_hears request common first tried (tells.Ended to end) = if_some _ (is_for request (asked s first tried) from to) _ (λ is. tt)
  keep_hears request common first tried _ = tt

  close_hears : (request : ℕ) (batch : CommonRef) (m : Message)
      → Hears_it (waits_for.Close request batch) m (hear_close s request batch from m)
  close_hears request batch (tells.Closed to) = if_some _ (is_for request batch.server from to) _ (λ is. tt)
  close_hears request batch _ = tt

  count_hears : (request : ℕ) (kind : WorkType) (m : Message) → Hears_it (waits_for.Count request kind) m (hear_count s request kind from m)
  count_hears request kind (tells.Counted to info) = if_some _ (is_for request (home s.config s.me) from to) _ (λ is. tt)
  count_hears request kind _ = tt

  told_hears : (request tried : ℕ) (m : Message) → m ≡ tells.DoneHeard request → from.0 ≡ (looks_at s tried).0 → (t : Bool)
      → nat_lt (tried + 1) s.config.servers ≡ t → GoesOn s request tried from m (told_done s request tried t).state.pending
  told_hears request tried m is at true e = (is, at, inl (e, refl))
  told_hears request tried m is at false e = (is, at, inr (e, refl))

  done_hears : (request tried : ℕ) (m : Message) → Hears_it (waits_for.SetDone request tried) m (hear_done s request tried from m)
  done_hears request tried (tells.DoneHeard to) =
      if_some _ (is_for request (looks_at s tried) from to) _
      (λ is.
      let parts = and_parts (to == request) (from.0 == (looks_at s tried).0) is in
      told_hears request tried (tells.DoneHeard to) (ap tells.DoneHeard (eqb-true to request parts.0))
      (eqb-true from.0 (looks_at s tried).0 parts.1) (nat_lt (tried + 1) s.config.servers) refl)
  done_hears request tried _ = tt

  call_hears : (p : Pending) (m : Message) → Hears_it p m (answer_call s p from m)
  call_hears waits_for.Nothing m = tt
  call_hears (waits_for.Put unit first tried) m = put_hears unit first tried m
  call_hears (waits_for.Reserve request types) m = reserve_hears request types m
  call_hears (waits_for.Try request types tried) m = look_hears request types tried m
  call_hears (waits_for.Fetch request note) m = fetch_hears request note m
  call_hears (waits_for.Common request note common own) m = common_hears request note common own m
  call_hears (waits_for.Keep request common first tried) m = keep_hears request common first tried m
  call_hears (waits_for.Close request batch) m = close_hears request batch m
  call_hears (waits_for.Count request kind) m = count_hears request kind m
  call_hears (waits_for.SetDone request tried) m = done_hears request tried m

-- what a rank awaits after an answer
pub hear_hears : (s : ClientModel) (from : Server) (letter : Letter) (x : Made) → hear s from letter ≡ Some x
    → HearsSo (ticked s (letter_stamp s letter)) s.pending from letter.message x.state.pending
hear_hears s from letter x is =
    let t = ticked s (letter_stamp s letter) in
    on_some (λ y. HearsSo t s.pending from letter.message y.state.pending) (hear s from letter) x
    (if_some _ (not s.finished && nat_lt letter.stamp stamp_limit) _
    (λ ok. made_pending (HearsSo t s.pending from letter.message) (answer_call t s.pending from letter.message)
    (call_hears t from s.pending letter.message))) is

-- The servers that a rank tells.

abbrev tells_at : World → Rank → ℕ → Server
tells_at w r j = behind w.config (home w.config r) j

-- each server is one of them
pub reached : (config : Config) (from h : Server) → from.0 < config.servers → h.0 < config.servers
    → (j : ℕ) × (j < config.servers) × ((behind config from j).0 ≡ h.0)
reached config from h low there = by_order (cases_lt h.0 from.0)
  where
    by_order : (h.0 < from.0) ⊎ (from.0 ≤ h.0) → (j : ℕ) × (j < config.servers) × ((behind config from j).0 ≡ h.0)
    by_order (inl less) =
        let j = (h.0 + config.servers) - from.0 in
        let sum : from.0 + j ≡ 1 * config.servers + h.0 = omega arith in
        let is : (from.0 + j) % config.servers ≡ h.0 =
        ap (λ n. n % config.servers) sum ∙ mod-mul-add 1 config.servers h.0 (omega arith) in
        (j, omega arith, is)
    by_order (inr more) =
        let j = h.0 - from.0 in
        let sum : from.0 + j ≡ h.0 = omega arith in
        (j, omega arith, ap (λ n. n % config.servers) sum ∙ mod-eq_of_lt there)

-- what the ranks have told so far
pub record AreTelling (w : World) : Type 0 where
  heard : AreHeard w
  told : (r : Rank) → r.0 < w.config.ranks → (q tried : ℕ) → (client_of w r).pending ≡ waits_for.SetDone q tried → (j : ℕ) → j < tried
      → done_at w (tells_at w r j) ≡ true
  pub over : (t : Server) → t.0 < w.config.servers → done_at w t ≡ true
      → ((r : Rank) × (r.0 < w.config.ranks) × (q : ℕ) × (tried : ℕ) × ((client_of w r).pending ≡ waits_for.SetDone q tried))
      ⊎ ((h : Server) → h.0 < w.config.servers → done_at w h ≡ true)

-- the rank whose letter this is has that call pending
asked_done : (s : ClientModel) (p : Pending) (to : Server) (q : ℕ) → IsAsked s p to (tells.Done q)
    → (tried : ℕ) × (p ≡ waits_for.SetDone q tried)
asked_done s waits_for.Nothing to q is = absurd is
asked_done s (waits_for.Put unit first tried) to q is = absurd (cc (is.0))
asked_done s (waits_for.Reserve request types) to q is = absurd (cc (is.0))
asked_done s (waits_for.Try request types tried) to q is = absurd (cc (is.0))
asked_done s (waits_for.Fetch request note) to q is = absurd (cc (is.0))
asked_done s (waits_for.Common request note common own) to q is = absurd (cc (is.0))
asked_done s (waits_for.Keep request common first tried) to q is = absurd (cc (is.0))
asked_done s (waits_for.Close request batch) to q is = absurd (cc (is.0))
asked_done s (waits_for.Count request kind) to q is = absurd (cc (is.0))
asked_done s (waits_for.SetDone request tried) to q is =
    let same : q ≡ request = ap request_of is.0 in (tried, ap (λ n. waits_for.SetDone n tried) (sym same))

-- An event of a server.

module _ (w next : World) (from : Actor) (me : Server) (letter : Letter) (rest : List Letter) (x : Served) (well : IsWell w)
    (lawful : Lawful w)
    (telling : AreTelling w) (does : Serves w from me letter rest x next) where
  abbrev v : World
  v = after_server w me (taken w from (by.Server me) rest) x

  here_or : (t : Server) → ((t.0 ≡ me.0) × (pool_of v t ≡ x.state)) ⊎ (pool_of v t ≡ pool_of w t)
  here_or t = by_place (cases_eq t.0 me.0)
    where
      by_place : (t.0 ≡ me.0) ⊎ (t.0 ≢ me.0) → ((t.0 ≡ me.0) × (pool_of v t ≡ x.state)) ⊎ (pool_of v t ≡ pool_of w t)
      by_place (inl e) =
          let same : t ≡ me = ap server_named e in
          inl (e, ap (pool_of v) same ∙ pool_there w me x.state (inside_servers w me well does.here))
      by_place (inr differs) = inr (pool_beside w me t x.state differs)

  -- what is known stays known
  stays : (t : Server) → done_at w t ≡ true → done_at v t ≡ true
  stays t knows = by_place (here_or t)
    where
      mine : t.0 ≡ me.0 → done_at w me ≡ true
      mine e = ap (λ (k : Server). done_at w k) (sym (ap server_named e)) ∙ knows

      by_flag : (b : Bool) → x.state.kept.done ≡ b → done_at w me ≡ true → x.state.kept.done ≡ true
      by_flag true e known = e
      by_flag false e known =
          let step = step_acts (pool_of w me) from letter x does.does in
          let t = at_event (pool_of w me) letter in
          let h = acts_handle t from letter.message step.list step.are in
          let a = h.first in
          let same : all_done (a ∷ h.more) t ≡ x.state =
          ap (λ l. all_done l t) (sym h.are) ∙ sym (carried_state step.list t) ∙ ap (λ (y : Served). y.state) step.makes in
          let off : done_after a t.kept.done ≡ false =
          sym (more_done h.more (done a t) h.follow ∙ ap (λ (k : Kept). k.done) (done_kept a t))
          ∙ ap (λ (y : ServerModel). y.kept.done) same ∙ e in
          let was = done_was a t.kept.done off in
          let no : false ≡ true = sym was ∙ known in
          absurd (cc)

      by_place : ((t.0 ≡ me.0) × (pool_of v t ≡ x.state)) ⊎ (pool_of v t ≡ pool_of w t) → done_at v t ≡ true
      by_place (inl (e, is)) = ap (λ (y : ServerModel). y.kept.done) is ∙ by_flag x.state.kept.done refl (mine e)
      by_place (inr is) = ap (λ (y : ServerModel). y.kept.done) is ∙ knows

  abbrev SomeTells : Type 0
  SomeTells = (r : Rank) × (r.0 < w.config.ranks) × (q : ℕ) × (tried : ℕ) × ((client_of w r).pending ≡ waits_for.SetDone q tried)

  teller_is : (r : Rank) (q : ℕ) → from ≡ by.Rank r → letter.message ≡ tells.Done q → SomeTells
  teller_is r q who what =
      let there = subst (λ (a : Actor). is_within w.config a ≡ true) who does.there in
      let low = ltb-true r.0 w.config.ranks there in
      let its = (lawful.1).seats r low in
      let seat = its.1 in
      let front = subst
      (λ (a : Actor). link w.links (place_of w.config a) (place_of w.config (by.Server me)) ≡ letter ∷ rest) who does.front in
      let of_call = at_front (OfCall (client_of w r) its.0) w.config w.links (by.Rank r) (by.Server me) letter rest seat.letters there
      (lt-ltb me.0 w.config.servers does.here) front in
      let of_done : IsOfCall (client_of w r) its.0 (by.Rank r) (by.Server me) (tells.Done q) =
      subst (λ (m : Message). IsOfCall (client_of w r) its.0 (by.Rank r) (by.Server me) m) what of_call in
      let asks = of_done (sym seat.named) refl in
      let p = asked_done (client_of w r) (client_of w r).pending me q asks.1 in
      (r, low, q, p.0, p.1)

  request_telling : AreTelling v
  unfolding AreHeard
  request_telling = record {
    heard =
        subst AreHeard does.is
        (event_keeps AreHeard tick_heard act_heard w next from me letter rest x well does telling.heard);
    told = λ r low q tried is j less. stays (tells_at w r j) (telling.told r low q tried is j less);
    over = λ t there knows. by_place t there knows (here_or t);
  }
    where
      kept_over : SomeTells ⊎ ((h : Server) → h.0 < w.config.servers → done_at w h ≡ true)
          → SomeTells ⊎ ((h : Server) → h.0 < w.config.servers → done_at v h ≡ true)
      kept_over (inl some) = inl some
      kept_over (inr all) = inr (λ h there. stays h (all h there))

      by_served : (done_at w me ≡ true) ⊎ ((r : Rank) × (q : ℕ) × (from ≡ by.Rank r) × (letter.message ≡ tells.Done q))
          → SomeTells ⊎ ((h : Server) → h.0 < w.config.servers → done_at v h ≡ true)
      by_served (inl was) = kept_over (telling.over me does.here was)
      by_served (inr (r, q, who, what)) = inl (teller_is r q who what)

      by_place : (t : Server) → t.0 < w.config.servers → done_at v t ≡ true
          → ((t.0 ≡ me.0) × (pool_of v t ≡ x.state)) ⊎ (pool_of v t ≡ pool_of w t)
          → SomeTells ⊎ ((h : Server) → h.0 < w.config.servers → done_at v h ≡ true)
      by_place t there knows (inl (e, is)) =
          by_served (serve_done (pool_of w me) from letter x does.does (ap (λ (y : ServerModel). y.kept.done) (sym is) ∙ knows))
      by_place t there knows (inr is) = kept_over (telling.over t there (ap (λ (y : ServerModel). y.kept.done) (sym is) ∙ knows))

-- An event of a rank.

-- some rank is still telling the servers that the problem is done
abbrev pub SomePending : World → Type 0
SomePending v = (r : Rank) × (r.0 < v.config.ranks) × (q : ℕ) × (tried : ℕ) × ((client_of v r).pending ≡ waits_for.SetDone q tried)

abbrev tries : Pending → ℕ
tries (waits_for.SetDone request tried) = tried
tries _ = 0

not_both : (q tried : ℕ) (p : Pending) → p ≡ waits_for.SetDone q tried → NotDone p → ⊥
not_both q tried p is none = subst NotDone is none

new_is : (q tried : ℕ) (p : Pending) → p ≡ waits_for.SetDone q tried → NewDone p → tried ≡ 0
new_is q tried p is fresh = subst NewDone is fresh

module _ (w : World) (me : Rank) (links : Links) (x : Made) (inside : me.0 < length w.ranks) where
  abbrev after_it : World
  after_it = after_rank w me links x

  -- after a rank's step each client is the one that stepped or is as before
  pub rank_or : (r : Rank) → ((r ≡ me) × (client_of after_it r ≡ x.state)) ⊎ ((r.0 ≢ me.0) × (client_of after_it r ≡ client_of w r))
  rank_or r = by_place (cases_eq r.0 me.0)
    where
      by_place : (r.0 ≡ me.0) ⊎ (r.0 ≢ me.0)
          → ((r ≡ me) × (client_of after_it r ≡ x.state)) ⊎ ((r.0 ≢ me.0) × (client_of after_it r ≡ client_of w r))
      by_place (inl e) = let same : r ≡ me = ap rank_named e in inl (same, ap (client_of after_it) same ∙ client_there w me x.state inside)
      by_place (inr differs) = inr (differs, client_beside w me r x.state differs)

call_telling : (w next : World) (me : Rank) (call : Call) (x : Made) → IsWell w → AreTelling w → Begins w me call x next
    → AreTelling (after_rank w me w.links x)
unfolding AreHeard
call_telling w next me call x well telling does = record {
  heard = rank_heard w me x well.shape does.here (call_within w next me call x well.own does) telling.heard;
  told = λ r low q tried is j less. by_told r low q tried is j less (rank_or w me w.links x inside r);
  over = λ t there knows. by_over (telling.over t there knows);
}
  where
    inside : me.0 < length w.ranks
    inside = inside_ranks w me well does.here

    by_told : (r : Rank) → r.0 < w.config.ranks → (q tried : ℕ)
        → (client_of (after_rank w me w.links x) r).pending ≡ waits_for.SetDone q tried
        → (j : ℕ) → j < tried
        → ((r ≡ me) × (client_of (after_rank w me w.links x) r ≡ x.state))
        ⊎ ((r.0 ≢ me.0) × (client_of (after_rank w me w.links x) r ≡ client_of w r))
        → done_at w (tells_at w r j) ≡ true
    by_told r low q tried is j less (inl (same, its)) =
        let none = new_is q tried x.state.pending (ap (λ (c : ClientModel). c.pending) (sym its) ∙ is)
        (begin_opens (client_of w me) call x does.does) in
        absurd (omega arith)
    by_told r low q tried is j less (inr (differs, its)) =
        telling.told r low q tried (ap (λ (c : ClientModel). c.pending) (sym its) ∙ is) j less

    by_rank : (r : Rank) → r.0 < w.config.ranks → (q tried : ℕ) → (client_of w r).pending ≡ waits_for.SetDone q tried
        → ((r ≡ me) × (client_of (after_rank w me w.links x) r ≡ x.state))
        ⊎ ((r.0 ≢ me.0) × (client_of (after_rank w me w.links x) r ≡ client_of w r)) → SomePending (after_rank w me w.links x)
    by_rank r low q tried is (inl (same, its)) =
        let free = (call_began w next me call x well.own does).free in
        let mine : (client_of w me).pending ≡ waits_for.SetDone q tried = ap (λ (k : Rank). (client_of w k).pending) (sym same) ∙ is in
        let no : waits_for.Nothing ≡ waits_for.SetDone q tried = sym free ∙ mine in
        absurd (cc)
    by_rank r low q tried is (inr (differs, its)) = (r, low, q, tried, ap (λ (c : ClientModel). c.pending) its ∙ is)

    by_over : ((r : Rank) × (r.0 < w.config.ranks) × (q : ℕ) × (tried : ℕ) × ((client_of w r).pending ≡ waits_for.SetDone q tried))
        ⊎ ((h : Server) → h.0 < w.config.servers → done_at w h ≡ true)
        → SomePending (after_rank w me w.links x) ⊎ ((h : Server) → h.0 < w.config.servers → done_at w h ≡ true)
    by_over (inl (r, low, q, tried, is)) = inl (by_rank r low q tried is (rank_or w me w.links x inside r))
    by_over (inr all) = inr all

module _ (w next : World) (from : Server) (me : Rank) (letter : Letter) (rest : List Letter) (x : Made) (well : IsWell w)
    (telling : AreTelling w) (does : Hears w from me letter rest x next) where
  abbrev off : Links
  off = taken w (by.Server from) (by.Rank me) rest

  abbrev u : World
  u = after_rank w me off x

  inside_me : me.0 < length w.ranks
  inside_me = inside_ranks w me well does.here

  from_within : is_within w.config (by.Server from) ≡ true
  from_within = lt-ltb from.0 w.config.servers does.there

  me_within : is_within w.config (by.Rank me) ≡ true
  me_within = lt-ltb me.0 w.config.ranks does.here

  -- what the letter says is so
  sender_knows : (q : ℕ) → letter.message ≡ tells.DoneHeard q → done_at w from ≡ true
  unfolding AreHeard
  sender_knows q is = by_flag (done_at w from) refl
    where
      by_flag : (b : Bool) → done_at w from ≡ b → done_at w from ≡ true
      by_flag true e = e
      by_flag false e =
          let none = telling.heard from does.there e in
          let some = front_le (heard_from from) w.config w.links (by.Server from) (by.Rank me) letter rest
          (well.shape).square from_within me_within does.front in
          let its : heard_letter from (by.Server from) (by.Rank me) letter.message ≡ 1 =
          ap (heard_letter from (by.Server from) (by.Rank me)) is ∙ ap one (eq-eqb from.0 from.0 refl) in
          absurd (omega arith)

  went_on : HearsSo (ticked (client_of w me) (letter_stamp (client_of w me) letter))
      (client_of w me).pending from letter.message x.state.pending
  went_on = hear_hears (client_of w me) from letter x does.does

  looks_is : (tried : ℕ) → from.0 ≡ (looks_at (ticked (client_of w me) (letter_stamp (client_of w me) letter)) tried).0
      → tells_at w me tried ≡ from
  looks_is tried at =
      let own = well.own.ranks me does.here in
      let a = ap (λ (c : Config). (behind c (home c (client_of w me).me) tried).0) own.config in
      let b = ap (λ (k : Rank). (behind w.config (home w.config k) tried).0) own.me in
      ap server_named (sym (at ∙ a ∙ b))

  -- so a rank that hears it hears it from a server that knows
  pub heard_of : (q tried : ℕ) → (client_of w me).pending ≡ waits_for.SetDone q tried → done_at w from ≡ true
  heard_of q tried is =
      let goes : GoesOn (ticked (client_of w me) (letter_stamp (client_of w me) letter)) q tried from letter.message x.state.pending =
      subst (λ (p : Pending). HearsSo
      (ticked (client_of w me) (letter_stamp (client_of w me) letter)) p from letter.message x.state.pending) is went_on in
      sender_knows q goes.0

  still_heard : AreHeard u
  unfolding AreHeard
  still_heard =
      let shape = taken_shaped w (by.Server from) (by.Rank me) rest well.shape from_within me_within in
      rank_heard (record w { links = off }) me x shape does.here (answer_within w next from me letter rest x well.own does)
      (λ s there e.
      let none = telling.heard s there e in
      let goes = front_goes w.config (heard_from s) w.links (by.Server from) (by.Rank me) letter rest
      (well.shape).square from_within me_within does.front in
      omega arith)

  known_at : (q tried j : ℕ) → (client_of w me).pending ≡ waits_for.SetDone q tried → j < tried + 1 → done_at w (tells_at w me j) ≡ true
  known_at q tried j is less = by_order (cases_lt j tried)
    where
      goes : GoesOn (ticked (client_of w me) (letter_stamp (client_of w me) letter)) q tried from letter.message x.state.pending
      goes = subst (λ (p : Pending). HearsSo
          (ticked (client_of w me) (letter_stamp (client_of w me) letter)) p from letter.message x.state.pending) is went_on

      by_order : (j < tried) ⊎ (tried ≤ j) → done_at w (tells_at w me j) ≡ true
      by_order (inl low) = telling.told me does.here q tried is j low
      by_order (inr high) =
          let same : j ≡ tried = omega arith in
          ap (λ n. done_at w (tells_at w me n)) same ∙ ap (λ (k : Server). done_at w k) (looks_is tried goes.1) ∙ sender_knows q goes.0

  by_told : (r : Rank) → r.0 < w.config.ranks → (q tried : ℕ) → (client_of u r).pending ≡ waits_for.SetDone q tried → (j : ℕ) → j < tried
      → ((r ≡ me) × (client_of u r ≡ x.state)) ⊎ ((r.0 ≢ me.0) × (client_of u r ≡ client_of w r)) → done_at w (tells_at w r j) ≡ true
  by_told r low q tried is j less (inr (differs, its)) =
      telling.told r low q tried (ap (λ (c : ClientModel). c.pending) (sym its) ∙ is) j less
  by_told r low q tried is j less (inl (same, its)) =
      ap (λ (k : Rank). done_at w (tells_at w k j)) same
      ∙ by_pending (client_of w me).pending refl went_on
    where
      now : x.state.pending ≡ waits_for.SetDone q tried
      now = ap (λ (c : ClientModel). c.pending) (sym its) ∙ is

      none_such : NotDone x.state.pending → done_at w (tells_at w me j) ≡ true
      none_such none = absurd (not_both q tried x.state.pending now none)

      by_pending : (p : Pending) → (client_of w me).pending ≡ p
          → HearsSo (ticked (client_of w me) (letter_stamp (client_of w me) letter)) p from letter.message x.state.pending
          → done_at w (tells_at w me j) ≡ true
      by_pending (waits_for.SetDone q0 tried0) was (what, at, inl (more, then)) =
          let step : tried ≡ tried0 + 1 = ap tries (sym now ∙ then) in
          known_at q0 tried0 j was (omega arith)
      by_pending (waits_for.SetDone q0 tried0) was (what, at, inr (no_more, then)) =
          let bad : waits_for.SetDone q tried ≡ waits_for.Nothing = sym now ∙ then in absurd (cc)
      by_pending waits_for.Nothing was none = none_such none
      by_pending (waits_for.Put unit first tried1) was none = none_such none
      by_pending (waits_for.Reserve request types) was none = none_such none
      by_pending (waits_for.Try request types tried1) was none = none_such none
      by_pending (waits_for.Fetch request note) was none = none_such none
      by_pending (waits_for.Common request note common own) was none = none_such none
      by_pending (waits_for.Keep request common first tried1) was none = none_such none
      by_pending (waits_for.Close request batch) was none = none_such none
      by_pending (waits_for.Count request kind) was none = none_such none

  abbrev Some_later : Type 0
  Some_later =
      (r : Rank) × (r.0 < w.config.ranks) × (q : ℕ) × (tried : ℕ) × ((client_of u r).pending ≡ waits_for.SetDone q tried)

  abbrev All_know : Type 0
  All_know = (h : Server) → h.0 < w.config.servers → done_at w h ≡ true

  by_rank_later : (r : Rank) → r.0 < w.config.ranks → (q tried : ℕ) → (client_of w r).pending ≡ waits_for.SetDone q tried
      → ((r ≡ me) × (client_of u r ≡ x.state)) ⊎ ((r.0 ≢ me.0) × (client_of u r ≡ client_of w r)) → Some_later ⊎ All_know
  by_rank_later r low q tried is (inr (differs, its)) = inl (r, low, q, tried, ap (λ (c : ClientModel). c.pending) its ∙ is)
  by_rank_later r low q tried is (inl (same, its)) = by_step goes.2
    where
      mine : (client_of w me).pending ≡ waits_for.SetDone q tried
      mine = ap (λ (k : Rank). (client_of w k).pending) (sym same) ∙ is

      goes : GoesOn (ticked (client_of w me) (letter_stamp (client_of w me) letter)) q tried from letter.message x.state.pending
      goes = subst (λ (p : Pending). HearsSo
          (ticked (client_of w me) (letter_stamp (client_of w me) letter)) p from letter.message x.state.pending) mine went_on

      by_step : ((nat_lt (tried + 1) (client_of w me).config.servers ≡ true) × (x.state.pending ≡ waits_for.SetDone q (tried + 1)))
          ⊎ ((nat_lt (tried + 1) (client_of w me).config.servers ≡ false) × (x.state.pending ≡ waits_for.Nothing)) → Some_later ⊎ All_know
      by_step (inl (more, then)) = inl (r, low, q, tried + 1, ap (λ (c : ClientModel). c.pending) its ∙ then)
      by_step (inr (no_more, then)) =
          inr (λ h there.
          let c = ap (λ (k : Config). k.servers) (well.own.ranks me does.here).config in
          let far = ltb-false (tried + 1) (client_of w me).config.servers no_more in
          let j = reached w.config (home w.config me) h (home_below w.config me) there in
          let l = j.1 in
          let known = known_at q tried j.0 mine (omega arith) in
          ap (λ (k : Server). done_at w k) (sym (ap server_named j.2)) ∙ known)

  by_over_later : ((r : Rank) × (r.0 < w.config.ranks) × (q : ℕ) × (tried : ℕ) × ((client_of w r).pending ≡ waits_for.SetDone q tried))
      ⊎ All_know
      → Some_later ⊎ All_know
  by_over_later (inl (r, low, q, tried, is)) = by_rank_later r low q tried is (rank_or w me off x inside_me r)
  by_over_later (inr all) = inr all

  answer_telling : AreTelling u
  answer_telling = record {
    heard = still_heard;
    told = λ r low q tried is j less. by_told r low q tried is j less (rank_or w me off x inside_me r);
    over = λ t there knows. by_over_later (telling.over t there knows);
  }

-- A run.

telling_next : (w next : World) → IsWell w → Lawful w → AreTelling w → Does w next → AreTelling next
telling_next w next well lawful telling (A_call {me = me} {call = call} {x = x} does) =
    subst AreTelling (sym does.is) (call_telling w next me call x well telling does)
telling_next w next well lawful telling (An_answer {from = from} {me = me} {letter = letter} {rest = rest} {x = x} does) =
    subst AreTelling (sym does.is) (answer_telling w next from me letter rest x well telling does)
telling_next w next well lawful telling (A_request {from = from} {me = me} {letter = letter} {rest = rest} {x = x} does) =
    subst AreTelling (sym does.is) (request_telling w next from me letter rest x well lawful telling does)

run_telling : (w last : World) (events : List Event) → IsWell w → Lawful w → AreTelling w → Runs w events last → AreTelling last
run_telling w last [] well lawful telling run = subst AreTelling run telling
run_telling w last (e ∷ events) well lawful telling run =
    let does = happens_does w run.0 e run.1 in
    run_telling run.0 last events (well_kept w run.0 well does) (kept_lawful w run.0 well lawful does)
    (telling_next w run.0 well lawful telling does) run.2

heard_zero : (config : Config) (s : Server) → AreZero config (heard_from s)
heard_zero config s = record { server = λ i k. refl; rank = λ i k. refl; server_due = λ i k. refl; rank_due = λ i k. refl }

begins_telling : (config : Config) → AreTelling (start config)
unfolding AreHeard measure due
begins_telling config = record {
  heard = λ s there e.
      let even = (begins_even config (heard_from s) (heard_zero config s)).same in
      let a = no_sum (start config).servers in
      let b = no_sum (start config).ranks in
      omega arith;
  told = λ r low q tried is j less.
      let none : (client_of (start config) r).pending ≡ waits_for.Nothing = ap (λ (c : ClientModel). c.pending) (client_at config r low) in
      let bad : waits_for.Nothing ≡ waits_for.SetDone q tried = sym none ∙ is in
      absurd (cc);
  over = λ t there knows.
      let off : done_at (start config) t ≡ false = ap (λ (y : ServerModel). y.kept.done) (pool_at config t there) in
      let bad : false ≡ true = sym off ∙ knows in
      absurd (cc);
}

-- every run knows who heard that the problem is done
pub every_run_telling : (config : Config) (events : List Event) (w : World) → Runs (start config) events w → AreTelling w
every_run_telling config events w run =
    run_telling (start config) w events (begins_well config) (every_run_lawful config [] (start config) refl) (begins_telling config) run

-- where there is no news, all servers know it or none does
pub every_run_agreed : (config : Config) (events : List Event) (w : World) → Runs (start config) events w → IsAgreed w
every_run_agreed config events w run h t low there none knows = by_over ((every_run_telling config events w run).over t there knows)
  where
    well : IsWell w
    well = every_run_well config events w run

    by_over : ((r : Rank) × (r.0 < w.config.ranks) × (q : ℕ) × (tried : ℕ) × ((client_of w r).pending ≡ waits_for.SetDone q tried))
        ⊎ ((k : Server) → k.0 < w.config.servers → done_at w k ≡ true) → (pool_of w h).kept.done ≡ true
    by_over (inr all) = all h low
    by_over (inl (r, inside, q, tried, is)) =
        let k = home w.config r in
        let at = home_below w.config r in
        let busy : is_idle (client_of w r).pending ≡ false = ap is_idle is in
        let waits = pending_idle w k well (every_run_paid config events w run) at none r inside refl busy in
        let its = ((every_run_lawful config events w run).1).seats r inside in
        let seat = its.1 in
        let has = has_at (pool_of w k).kept.parked.waiting waits.0 waits.1 waits.2 waits.3 in
        let entry = each_has (IsWaiting (client_of w r) its.0) (pool_of w k).kept.parked.waiting waits.1 (seat.waits k at) has in
        let asks = (entry (waits.4.0 ∙ sym seat.named)).0 in
        let bad : waits_for.SetDone q tried ≡ waits_for.Reserve waits.1.wish.request waits.1.wish.types = sym is ∙ asks in
        absurd (cc)
