-- That the problem is done is in no ledger before that all work was found used up: several servers.
use Rattle.std.proofs.Common.{◌≡◌, ◌≢◌, ◌<◌, ◌⊎◌, inl, inr, ℕ, ◌||◌, ◌&&◌, Bool, true, false, cond, List, [], ◌∷◌, ◌++◌, length, Option}
use Rattle.std.proofs.Common.{None, Some, refl, sym, ap, ◌∙◌, subst, arith}
use Rattle.std.specs.List.{list_any}
use Rattle.std.specs.Option.{option_map}
use Rattle.std.specs.Prelude.{IsTrue, is_none, nat_le}
use Rattle.std.proofs.lemmas.Bool.{or_parts}
use Rattle.std.proofs.lemmas.List.Folds.{list_any-append}
use Rattle.adlb_unit.specs.Limits.{body_limit}
use Rattle.adlb_unit.specs.Targets.{home, in_ranks}
use Rattle.adlb_unit.specs.declared.actors.Actor.{Actor}
use Rattle.adlb_unit.specs.declared.actors.Actor.TheVariants as by
use Rattle.adlb_unit.specs.declared.letters.Letter.{Letter}
use Rattle.adlb_unit.specs.declared.names.BatchId.{BatchId}
use Rattle.adlb_unit.specs.declared.names.CommonRef.{CommonRef}
use Rattle.adlb_unit.specs.declared.names.Rank.{Rank}
use Rattle.adlb_unit.specs.declared.names.Server.{Server}
use Rattle.adlb_unit.specs.declared.names.UnitId.{UnitId}
use Rattle.adlb_unit.specs.declared.names.WorkType.{WorkType}
use Rattle.adlb_unit.specs.declared.notes.End.{End}
use Rattle.adlb_unit.specs.declared.notes.End.TheVariants as ends_by
use Rattle.adlb_unit.specs.declared.notes.UnitNote.{UnitNote}
use Rattle.adlb_unit.specs.declared.tokens.Token.{Token}
use Rattle.adlb_unit.specs.declared.units.Unit.{Unit as Work}
use Rattle.server_components.specs.Store.{closed, fetched, is_due}
use Rattle.bag_ledger.specs.Bag.{Bag, is_asking}
use Rattle.bag_ledger.specs.Steps.{Is}
use Rattle.bag_ledger.specs.Words.{IsSettled, causes}
use Rattle.bag_ledger.specs.declared.entries.Call.{Call}
use Rattle.bag_ledger.specs.declared.entries.Call.TheVariants as calls_to
use Rattle.bag_ledger.specs.declared.entries.Entry.{Entry}
use Rattle.bag_ledger.specs.declared.entries.Entry.TheVariants as enters
use Rattle.bag_ledger.specs.declared.states.RankState.{RankState}
use Rattle.bag_ledger.specs.declared.states.Status.TheVariants as is_at
use Rattle.bag_ledger.proofs.Settled.{settled_is}
use Rattle.bag_ledger.proofs.Tests.{some_is}
use Rattle.rank_client.specs.Rules.{ClientResponse, close, fetch, finish, held, is_free, keep, look, open_call, put, reserve, unit_put}
use Rattle.rank_client.specs.State.{ClientModel}
use Rattle.rank_client.specs.Step.{Made, begin, call_stamp, made, ticked}
use Rattle.rank_client.specs.declared.pendings.Pending.{Pending}
use Rattle.rank_client.specs.declared.pendings.Pending.TheVariants as waits_for
use Rattle.server_law.specs.Acts.{Act, Closes, Fetches_part, Finds, Finds_alone, Heard, Hears_done, done_after, entries, frees, takes}
use Rattle.server_law.specs.Carried.{Served}
use Rattle.server_law.specs.State.{Kept, ServerModel}
use Rattle.server_law.specs.Step.{next_stamp, raises}
use Rattle.server_law.specs.Sure.{TakeNone}
use Rattle.core_run.specs.World.{Links, World, after_rank, client_of, pool_of, taken}
use Rattle.core_law.specs.Acting.{AreActs, IsAct, acted, acted_all, ticks}
use Rattle.core_law.specs.OnLinks.{Each}
use Rattle.core_law.specs.Others.{teller}
use Rattle.core_law.specs.Well.{IsWell}
use Rattle.core_law.proofs.Events.{event_chain}
use Rattle.core_law.proofs.EveryRun.{answer_heard, call_began, inside_ranks}
use Rattle.core_law.proofs.Posts.{requests_entries, requests_state}
use Rattle.core_law.proofs.RankShapes.{ChangesRank}
use Rattle.core_law.proofs.StepResults.{OnSome, if_some, on_some}
use Rattle.core_law.proofs.Steps.{Begins, Hears, Serves}
use Rattle.core_law.proofs.UnderWay.{each_weaker}
use Rattle.core_law.proofs.LettersAndActors.{act_well, inside_servers}
use Rattle.core_check_law.specs.Settling.{AsksAs, IsResting, IsSettling, Settles}
use Rattle.core_check_law.proofs.Classes.{IsMine, IsOthers, is_alone, now}
use Rattle.core_check_law.proofs.Events.{finds_settled, finds_settling, takes_some, tick_holds, tick_settles}
use Rattle.core_check_law.proofs.Follows.{Holds, alone_not}
use Rattle.core_check_law.proofs.Legal.{IsChecked}
use Rattle.core_check_law.proofs.Idle.{rank_inside}
use Rattle.core_law.specs.Found.{found_in}
use Rattle.core_check_law.proofs.Lists.{home_below}
use Rattle.core_check_law.proofs.ToldRanks.{EndAlone, IsModest, ends_alone, hear_answers}
use Rattle.core_check_law.proofs.Ranks.{client_asks, client_ends}
use Rattle.core_check_law.proofs.Runs.{act_other, finds, is_finding, rank_other}
use Rattle.core_check_law.proofs.Ticks.{after}
use Rattle.core_wish_law.proofs.Agreed.{AreTelling, SomePending, done_at, heard_of, rank_or}

-- Ledgers.

-- a rank has called the problem done
abbrev pub has_done : List Entry → Bool
has_done es = list_any (causes ends_by.NoMoreWork) es

-- it has not where all work is found used up; it had before these entries, or had not
abbrev pub AreOrdered : Bool → List Entry → Type 0
AreOrdered seen [] = Unit {0}
AreOrdered seen (e ∷ es) = (is_finding e ≡ true → seen ≡ false) × AreOrdered (seen || causes ends_by.NoMoreWork e) es

or_nothing : (t : Bool) → (t || false) ≡ t
or_nothing true = refl
or_nothing false = refl

or_three : (s t u : Bool) → ((s || t) || u) ≡ (s || (t || u))
or_three true t u = refl
or_three false t u = refl

-- ledgers in order, one after the other
pub order_grows : (seen : Bool) (xs ys : List Entry) → AreOrdered seen xs → AreOrdered (seen || has_done xs) ys → AreOrdered seen (xs ++ ys)
order_grows seen [] ys first then = subst (λ t. AreOrdered t ys) (or_nothing seen) then
order_grows seen (x ∷ xs) ys first then = (
  first.0,
  order_grows (seen || causes ends_by.NoMoreWork x) xs ys first.1
      (subst (λ t. AreOrdered t ys) (sym (or_three seen (causes ends_by.NoMoreWork x) (has_done xs))) then),
)

-- entries that find no exhaustion are in order
pub order_other : (seen : Bool) (es : List Entry) → list_any is_finding es ≡ false → AreOrdered seen es
order_other seen [] other = tt
order_other seen (e ∷ es) other =
    let parts = or_parts (is_finding e) (list_any is_finding es) other in (
      λ found. let bad : true ≡ false = sym found ∙ parts.0 in absurd (cc),
      order_other (seen || causes ends_by.NoMoreWork e) es parts.1,
    )

-- before the entry that exhaustion is found no rank has called the problem done
pub order_first : (seen : Bool) (before behind : List Entry) → AreOrdered seen (before ++ enters.Exhausted ∷ behind)
    → (seen ≡ false) × (has_done before ≡ false)
order_first seen [] behind all = (all.0 refl, refl)
order_first seen (e ∷ before) behind all =
    let later = order_first (seen || causes ends_by.NoMoreWork e) before behind all.1 in
    let parts = or_parts seen (causes ends_by.NoMoreWork e) later.0 in
    (parts.0, rw (parts.1, later.1) refl)

-- Worlds.

-- some server knows that the problem is done
abbrev pub SomeKnows : World → Type 0
SomeKnows w = (t : Server) × (t.0 < w.config.servers) × (done_at w t ≡ true)

-- who called the problem done is telling the servers, or one of them knows
pub record IsOrdered (w : World) : Type 0 where
  pub heard : has_done w.ledger ≡ true → SomePending w ⊎ SomeKnows w
  pub order : AreOrdered false w.ledger

or_either : (s t : Bool) → (s || t) ≡ true → (s ≡ true) ⊎ (t ≡ true)
or_either true t e = inl refl
or_either false t e = inr e

either_done : (xs ys : List Entry) → has_done (xs ++ ys) ≡ true → (has_done xs ≡ true) ⊎ (has_done ys ≡ true)
either_done xs ys is = or_either (has_done xs) (has_done ys) (sym (list_any-append (causes ends_by.NoMoreWork) xs ys) ∙ is)

-- An act of a server.

frees_undone : (me : Server) (batch : BatchId) (t : Bool) → has_done (cond t (enters.Freed me batch ∷ []) []) ≡ false
frees_undone me batch true = refl
frees_undone me batch false = refl

act_undone : (a : Act) (s : ServerModel) → has_done (entries a s) ≡ false
act_undone (Closes request batch accepted part) s = frees_undone s.me batch (is_due (closed accepted part))
act_undone (Fetches_part rank request batch part) s = frees_undone s.me batch (is_due (fetched part))
act_undone _ s = refl

act_order : (seen : Bool) (a : Act) (s : ServerModel) → (finds a ≡ true → seen ≡ false) → AreOrdered seen (entries a s)
act_order seen (Finds from t) s first = (λ found. first refl, tt)
act_order seen Finds_alone s first = (λ found. first refl, tt)
act_order seen a s first = by_class a refl
  where
    by_class : (a : Act) → finds a ≡ false → AreOrdered seen (entries a s)
    by_class a other = order_other seen (entries a s) (act_other a s other)

done_stays : (a : Act) (is : Bool) → is ≡ true → done_after a is ≡ true
done_stays (Hears_done rank request) is e = refl
done_stays _ is e = e

-- an act keeps the order of ends, if exhaustion is found before the problem is called done
pub act_ordered : (w : World) (k : Server) (a : Act) → IsWell w → IsAct w k a → (finds a ≡ true → has_done w.ledger ≡ false) → IsOrdered w
    → IsOrdered (acted w k a)
act_ordered w k a well is first was = record {
  heard = λ called. by_entries (either_done w.ledger (entries a (pool_of w k)) called);
  order = order_grows false w.ledger (entries a (pool_of w k)) was.order (act_order (has_done w.ledger) a (pool_of w k) first);
}
  where
    stays : (t : Server) → t.0 < w.config.servers → done_at w t ≡ true → IsMine w k a t ⊎ IsOthers w k a t → done_at (acted w k a) t ≡ true
    stays t there knows (inl m) =
        ap (λ (x : Kept). x.done) m.kept
        ∙ done_stays a (pool_of w k).kept.done (ap (λ (x : Server). done_at w x) (sym m.same) ∙ knows)
    stays t there knows (inr o) = ap (λ (x : Kept). x.done) o.kept ∙ knows

    by_was : SomePending w ⊎ SomeKnows w → SomePending (acted w k a) ⊎ SomeKnows (acted w k a)
    by_was (inl some) = inl some
    by_was (inr (t, there, knows)) = inr (t, there, stays t there knows (now w k a well.shape is.here t there))

    by_entries : (has_done w.ledger ≡ true) ⊎ (has_done (entries a (pool_of w k)) ≡ true)
        → SomePending (acted w k a) ⊎ SomeKnows (acted w k a)
    by_entries (inl old) = by_was (was.heard old)
    by_entries (inr new) = let bad : false ≡ true = sym (act_undone a (pool_of w k)) ∙ new in absurd (cc)

-- the stamp of an event keeps the order of ends
pub tick_ordered : (w : World) (me : Server) (stamp : ℕ) (up : Bool) → IsWell w → me.0 < w.config.servers → IsOrdered w
    → IsOrdered (ticks w me stamp up)
tick_ordered w me stamp up well here was = record { heard = λ called. by_was (was.heard called); order = was.order }
  where
    by_was : SomePending w ⊎ SomeKnows w → SomePending (ticks w me stamp up) ⊎ SomeKnows (ticks w me stamp up)
    by_was (inl some) = inl some
    by_was (inr (t, there, knows)) = inr (t, there, ap (λ (x : Kept). x.done) (after w me stamp up well here t).kept ∙ knows)

-- A step of a rank.

abbrev IsTelling : Pending → Type 0
IsTelling p = (q : ℕ) × (tried : ℕ) × (p ≡ waits_for.SetDone q tried)

-- it calls the problem done only in that call
abbrev TellsDone : ClientResponse → Type 0
TellsDone z = has_done z.entries ≡ true → IsTelling z.state.pending

abbrev TellsDoneStep : Made → Type 0
TellsDoneStep x = has_done x.entries ≡ true → IsTelling x.state.pending

module _ (s : ClientModel) where
  put_tells : (unit : Work) (end : Option End) → TellsDone (put s unit end)
  put_tells unit None called = absurd (cc)
  put_tells unit (Some end) called = absurd (cc)

  reserve_tells : (types : Option (List WorkType)) (end : Option End) → TellsDone (reserve s types end)
  reserve_tells types None called = absurd (cc)
  reserve_tells types (Some end) called = absurd (cc)

  look_tells : (types : Option (List WorkType)) (end : Option End) → TellsDone (look s types end)
  look_tells types None called = absurd (cc)
  look_tells types (Some end) called = absurd (cc)

  keep_tells : (common : List ℕ) (end : Option End) → TellsDone (keep s common end)
  keep_tells common None called = absurd (cc)
  keep_tells common (Some end) called = absurd (cc)

  fetch_tells : (id : UnitId) (o : Option UnitNote) → OnSome (fetch s id o) TellsDone
  fetch_tells id None = tt
  fetch_tells id (Some note) = λ called. absurd (cc)

  close_tells : (o : Option CommonRef) → OnSome (close s o) TellsDone
  close_tells None = tt
  close_tells (Some batch) = λ called. absurd (cc)

  call_tells : (call : Call) → OnSome (open_call s call) TellsDone
  call_tells (calls_to.Put kind prio target answer body) =
      if_some TellsDone (nat_le (length body) body_limit && in_ranks s.config target) _
      (λ is. put_tells (unit_put s kind prio target answer body) s.end)
  call_tells (calls_to.Reserve types) = reserve_tells types s.end
  call_tells (calls_to.Try types) = look_tells types s.end
  call_tells (calls_to.Fetch id) = fetch_tells id (held s id)
  call_tells (calls_to.BeginBatch common) =
      if_some TellsDone (is_none s.batch && nat_le (length common) body_limit) _ (λ is. keep_tells common s.end)
  call_tells calls_to.EndBatch = close_tells s.batch
  call_tells (calls_to.Count kind) = λ called. absurd (cc)
  call_tells calls_to.SetDone = λ called. (s.next, 0, refl)
  call_tells calls_to.Finish = if_some TellsDone (is_none s.batch) _ (λ is. λ called. absurd (cc))

made_tells : (o : Option ClientResponse) → OnSome o TellsDone → OnSome (option_map made o) TellsDoneStep
made_tells None tells = tt
made_tells (Some z) tells = λ called.
    let x : Made = record { state = z.state; sends = []; entries = z.entries; answer = z.answer } in
    let it = tells (ap has_done (sym (requests_entries z.says x)) ∙ called) in
    (it.0, it.1, ap (λ (c : ClientModel). c.pending) (requests_state z.says x) ∙ it.2)

begin_tells : (s : ClientModel) (call : Call) (x : Made) → begin s call ≡ Some x → TellsDoneStep x
begin_tells s call x is =
    on_some TellsDoneStep (begin s call) x
    (if_some TellsDoneStep (is_free s) _
    (λ t. made_tells (open_call (ticked s (call_stamp s)) call) (call_tells (ticked s (call_stamp s)) call))) is

rank_order : (w : World) (me : Rank) (x : Made) → IsOrdered w → Each (ChangesRank (client_of w me).me) x.entries
    → AreOrdered false (w.ledger ++ x.entries)
rank_order w me x was each =
    let who = (client_of w me).me in
    let told = each_weaker (ChangesRank who) (λ (e : Entry). teller e ≡ Some who) (λ e is. is.0) x.entries each in
    order_grows false w.ledger x.entries was.order (order_other (has_done w.ledger) x.entries (rank_other who x.entries told))

-- a call that a rank begins keeps the order of ends
pub call_ordered : (w next : World) (me : Rank) (call : Call) (x : Made) → IsWell w → Begins w me call x next → IsOrdered w
    → IsOrdered (after_rank w me w.links x)
call_ordered w next me call x well does was = record {
  heard = λ called. by_entries (either_done w.ledger x.entries called);
  order = rank_order w me x was (call_began w next me call x well.own does).entries;
}
  where
    u : World
    u = after_rank w me w.links x

    inside : me.0 < length w.ranks
    inside = inside_ranks w me well does.here

    free : (client_of w me).pending ≡ waits_for.Nothing
    free = (call_began w next me call x well.own does).free

    still : (r : Rank) (q tried : ℕ) → r.0 < w.config.ranks → (client_of w r).pending ≡ waits_for.SetDone q tried
        → ((r ≡ me) × (client_of u r ≡ x.state)) ⊎ ((r.0 ≢ me.0) × (client_of u r ≡ client_of w r)) → SomePending u
    still r q tried low is (inl (same, its)) =
        let bad : waits_for.Nothing ≡ waits_for.SetDone q tried =
        sym free ∙ ap (λ (k : Rank). (client_of w k).pending) (sym same) ∙ is in
        absurd (cc)
    still r q tried low is (inr (differs, its)) = (r, low, q, tried, ap (λ (c : ClientModel). c.pending) its ∙ is)

    begun_by : IsTelling x.state.pending
        → ((me ≡ me) × (client_of u me ≡ x.state)) ⊎ ((me.0 ≢ me.0) × (client_of u me ≡ client_of w me)) → SomePending u
    begun_by (q, tried, is) (inl (same, its)) = (me, does.here, q, tried, ap (λ (c : ClientModel). c.pending) its ∙ is)
    begun_by tells (inr (differs, its)) = absurd (differs refl)

    by_was : SomePending w ⊎ SomeKnows w → SomePending u ⊎ SomeKnows u
    by_was (inl (r, low, q, tried, is)) = inl (still r q tried low is (rank_or w me w.links x inside r))
    by_was (inr some) = inr some

    by_entries : (has_done w.ledger ≡ true) ⊎ (has_done x.entries ≡ true) → SomePending u ⊎ SomeKnows u
    by_entries (inl old) = by_was (was.heard old)
    by_entries (inr new) = inl (begun_by (begin_tells (client_of w me) call x does.does new) (rank_or w me w.links x inside me))

ends_undone : (es : List Entry) → EndAlone es → has_done es ≡ false
ends_undone [] ends = refl
ends_undone (e ∷ es) ends = rw (by_entry e ends.0, ends_undone es ends.1) refl
  where
    by_entry : (e : Entry) → ends_alone e ≡ true → causes ends_by.NoMoreWork e ≡ false
    by_entry (enters.Rejected rank call) is = refl
    by_entry (enters.NoCurrent rank call) is = refl
    by_entry _ is = absurd (cc)

-- an answer that a rank hears keeps the order of ends
pub answer_ordered : (w next : World) (from : Server) (me : Rank) (letter : Letter) (rest : List Letter) (x : Made) → IsWell w
    → AreTelling w → IsModest (client_of w me) → Hears w from me letter rest x next → IsOrdered w
    → IsOrdered (after_rank w me (taken w (by.Server from) (by.Rank me) rest) x)
answer_ordered w next from me letter rest x well telling modest does was = record {
  heard = λ called. by_entries (either_done w.ledger x.entries called);
  order = rank_order w me x was (answer_heard w next from me letter rest x well.own does).entries;
}
  where
    off : Links
    off = taken w (by.Server from) (by.Rank me) rest

    u : World
    u = after_rank w me off x

    inside : me.0 < length w.ranks
    inside = inside_ranks w me well does.here

    still : (r : Rank) (q tried : ℕ) → r.0 < w.config.ranks → (client_of w r).pending ≡ waits_for.SetDone q tried
        → ((r ≡ me) × (client_of u r ≡ x.state)) ⊎ ((r.0 ≢ me.0) × (client_of u r ≡ client_of w r)) → SomePending u ⊎ SomeKnows u
    still r q tried low is (inl (same, its)) =
        let mine : (client_of w me).pending ≡ waits_for.SetDone q tried =
        ap (λ (k : Rank). (client_of w k).pending) (sym same) ∙ is in
        inr (from, does.there, heard_of w next from me letter rest x well telling does q tried mine)
    still r q tried low is (inr (differs, its)) = inl (r, low, q, tried, ap (λ (c : ClientModel). c.pending) its ∙ is)

    by_was : SomePending w ⊎ SomeKnows w → SomePending u ⊎ SomeKnows u
    by_was (inl (r, low, q, tried, is)) = still r q tried low is (rank_or w me off x inside r)
    by_was (inr some) = inr some

    by_entries : (has_done w.ledger ≡ true) ⊎ (has_done x.entries ≡ true) → SomePending u ⊎ SomeKnows u
    by_entries (inl old) = by_was (was.heard old)
    by_entries (inr new) =
        let a = hear_answers (client_of w me) from letter x modest does.does in
        let bad : false ≡ true = sym (ends_undone x.entries a.1) ∙ new in
        absurd (cc)

-- An event of several servers.

-- once a server knows, who called is still telling them, or all know
abbrev pub AreTold : World → Type 0
AreTold w =
    (t : Server) → t.0 < w.config.servers → done_at w t ≡ true
    → SomePending w ⊎ ((h : Server) → h.0 < w.config.servers → done_at w h ≡ true)

-- where the verdict is found each rank rests, and the home of one that asks does not know
found_undone : (w : World) (b : Bag) (k from : Server) (t : Token) → Holds w b → Settles w b → IsAct w k (Finds from t) → AreTold w
    → IsOrdered w → has_done w.ledger ≡ false
found_undone w b k from t h on is told was = by_flag (has_done w.ledger) refl
  where
    settling : IsSettling w b w.config.servers t.asked
    settling = finds_settling w b k from t h on is

    settled_bag : IsSettled b
    settled_bag = settled_is b (finds_settled w b k from t h on is)

    none_tells : SomePending w → ⊥
    none_tells (r, low, q, tried, pending) = by_rests (x.rests)
      where
        x : IsResting w b r
        x = (settling.rest).ranks r low

        by_rests : (x.state.status ≡ is_at.Finished) ⊎ AsksAs w r x.state → ⊥
        by_rests (inl e) =
            let its = (h.lawful).seats r low in
            let over = client_ends w b r its.0 h.well low its.1 x.state x.here e in
            let bad : waits_for.Nothing ≡ waits_for.SetDone q tried = sym over ∙ pending in
            absurd (cc)
        by_rests (inr asks) =
            let its = (h.lawful).seats r low in
            let its_call = (client_asks w b r its.0 its.1 x.state x.here asks).1 in
            let bad : waits_for.Reserve asks.0.request asks.0.types ≡ waits_for.SetDone q tried = sym its_call ∙ pending in
            absurd (cc)

    not_all : ((t : Server) → t.0 < w.config.servers → done_at w t ≡ true) → ⊥
    not_all all = by_asker settled_bag.1
      where
        by_asker : (r : Rank) × (state : RankState) × Is b r state × IsTrue (is_asking state.status) → ⊥
        by_asker (r, state, here, asks) = by_rests (x.rests)
          where
            low : r.0 < w.config.ranks
            low = rank_inside (found_in w.config) w.config w.ledger b r state (h.lawful).run here

            x : IsResting w b r
            x = (settling.rest).ranks r low

            same : x.state ≡ state
            same = some_is (sym x.here ∙ here)

            by_rests : (x.state.status ≡ is_at.Finished) ⊎ AsksAs w r x.state → ⊥
            by_rests (inl e) =
                let bad : is_asking is_at.Finished ≡ true =
                ap is_asking (sym e) ∙ ap (λ (y : RankState). is_asking y.status) same ∙ asks in
                absurd (cc)
            by_rests (inr wish) =
                let at_home = home w.config r in
                let there = home_below w.config r in
                let going = settling.going at_home there wish.0 wish.1 in
                let bad : true ≡ false = sym (all at_home there) ∙ going in
                absurd (cc)

    by_told : SomePending w ⊎ ((t : Server) → t.0 < w.config.servers → done_at w t ≡ true) → ⊥
    by_told (inl some) = none_tells some
    by_told (inr all) = not_all all

    by_heard : SomePending w ⊎ SomeKnows w → ⊥
    by_heard (inl some) = none_tells some
    by_heard (inr (s, there, knows)) = by_told (told s there knows)

    by_flag : (f : Bool) → has_done w.ledger ≡ f → has_done w.ledger ≡ false
    by_flag false e = e
    by_flag true e = absurd (by_heard (was.heard e))

tick_told : (w : World) (me : Server) (stamp : ℕ) (up : Bool) → IsWell w → me.0 < w.config.servers → AreTold w
    → AreTold (ticks w me stamp up)
tick_told w me stamp up well here told t there knows =
    by_told (told t there (ap (λ (x : Kept). x.done) (sym (after w me stamp up well here t).kept) ∙ knows))
  where
    by_told : SomePending w ⊎ ((h : Server) → h.0 < w.config.servers → done_at w h ≡ true)
        → SomePending (ticks w me stamp up) ⊎ ((h : Server) → h.0 < w.config.servers → done_at (ticks w me stamp up) h ≡ true)
    by_told (inl some) = inl some
    by_told (inr all) = inr (λ h low. ap (λ (x : Kept). x.done) (after w me stamp up well here h).kept ∙ all h low)

first_undone : (w : World) (b : Bag) (k : Server) (a : Act) (heard : Heard) → Holds w b → Settles w b → IsAct w k a → takes a ≡ heard ∷ []
    → AreTold w → IsOrdered w → finds a ≡ true → has_done w.ledger ≡ false
first_undone w b k (Finds from t) heard h on is it told was found = found_undone w b k from t h on is told was
first_undone w b k Finds_alone heard h on is it told was found = absurd (cc)
first_undone w b k _ heard h on is it told was found = absurd (cc)

not_found : (a : Act) → takes a ≡ [] → is_alone a ≡ false → finds a ≡ true → ⊥
not_found (Finds from t) none several found = absurd (cc)
not_found Finds_alone none several found = absurd (cc)
not_found _ none several found = absurd (cc)

follow_ordered : (k : Server) (list : List Act) (w : World) → TakeNone list → AreActs w k list → IsWell w → 1 < w.config.servers
    → IsOrdered w → IsOrdered (acted_all w k list)
follow_ordered k [] w none are well several was = was
follow_ordered k (a ∷ more) w none are well several was =
    follow_ordered k more (acted w k a) none.1 are.1 (act_well w k a well are.0) several
    (act_ordered w k a well are.0 (λ found. absurd (not_found a none.0 (alone_not k w a well several are.0) found)) was)

-- an event of a server keeps the order of ends
pub event_ordered : (w next : World) (from : Actor) (me : Server) (letter : Letter) (rest : List Letter) (x : Served) → IsChecked w
    → AreTelling w → Serves w from me letter rest x next → IsOrdered w → IsOrdered next
event_ordered w next from me letter rest x c telling does was =
    let stamp = next_stamp (pool_of w me) letter in
    let up = raises letter.message in
    let v = ticks w me stamp up in
    let h = c.holds in
    let here = does.here in
    let chain = event_chain w next from me letter rest x (inside_servers w me h.well here) ((h.well).own.servers me here).wishes does in
    let are : AreActs v me (chain.first ∷ chain.more) = subst (AreActs v me) chain.shape chain.are in
    let is : next ≡ acted_all v me (chain.first ∷ chain.more) = chain.is ∙ ap (acted_all v me) chain.shape in
    let held = tick_holds w me stamp up c.bag h c.ring here in
    let on = tick_settles w me stamp up c.bag h.well here c.settles in
    let told = tick_told w me stamp up h.well here (λ t there knows. telling.over t there knows) in
    let at_first = tick_ordered w me stamp up h.well here was in
    let heard : Heard = record { from = chain.from; message = chain.message } in
    subst IsOrdered (sym is)
    (follow_ordered me chain.more (acted v me chain.first) chain.follow are.1 (act_well v me chain.first held.well are.0) c.several
    (act_ordered v me chain.first held.well are.0
    (first_undone v c.bag me chain.first heard held on are.0 chain.takes told at_first) at_first))
