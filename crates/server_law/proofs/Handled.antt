-- A letter is handled by the acts of its rule.
use Rattle.std.proofs.Common.{◌≡◌, ℕ, ◌==◌, Bool, true, false, cond, List, [], ◌∷◌, ◌++◌, length, find, Option, None, Some, refl, sym, ap}
use Rattle.std.proofs.Common.{◌∙◌, subst}
use Rattle.std.specs.Option.{IfSome, option_map}
use Rattle.std.proofs.lemmas.Bool.{eqb-true}
use Rattle.adlb_unit.specs.declared.actors.Actor.{Actor}
use Rattle.adlb_unit.specs.declared.actors.Actor.TheVariants as by
use Rattle.adlb_unit.specs.declared.messages.Message.{Message}
use Rattle.adlb_unit.specs.declared.messages.Message.TheVariants as tells
use Rattle.adlb_unit.specs.declared.names.Rank.{Rank}
use Rattle.adlb_unit.specs.declared.names.Server.{Server}
use Rattle.adlb_unit.specs.declared.names.UnitId.{UnitId}
use Rattle.adlb_unit.specs.declared.notes.End.TheVariants as ends_by
use Rattle.adlb_unit.specs.declared.notes.UnitNote.{UnitNote}
use Rattle.adlb_unit.specs.declared.units.Unit.{Unit}
use Rattle.bag_ledger.proofs.Tests.{some_is}
use Rattle.exhaust_ring.specs.Expected.{is_running}
use Rattle.work_queue.specs.declared.placing.Placed.{Placed}
use Rattle.server_law.specs.Acts.{Act, Accepts, Closes, Ends_put, Ends_reserve, Grants, Heard, Hears_done, Hears_exhaust, Hints, Parks}
use Rattle.server_law.specs.Acts.{Refuses, of_rank, takes}
use Rattle.adlb_unit.specs.declared.names.BatchId.{BatchId}
use Rattle.server_components.specs.Store.{part_in}
use Rattle.server_components.specs.declared.parts.Part.{Part}
use Rattle.server_components.specs.Calls.{is_since}
use Rattle.server_law.specs.Asks.{answer, expects_ask, pass_at, wake_at}
use Rattle.server_law.specs.Batches.{can_close, can_fetch, close, expects_keep, keep, part_if, share}
use Rattle.server_law.specs.Carried.{done}
use Rattle.server_law.specs.Endings.{ends_event}
use Rattle.server_law.specs.Fetches.{fetch}
use Rattle.server_law.specs.Finding.{Place, best_for, exceeds, has_asked, has_promise, is_free_as, is_pinned_as, place_in}
use Rattle.server_law.specs.Hints.{expects_hint, hint_at}
use Rattle.server_law.specs.Looks.{look}
use Rattle.server_law.specs.Plan.{Plan, decided, in_order, plan}
use Rattle.server_law.specs.Presses.{presses}
use Rattle.server_law.specs.Pushes.{expects_query, expects_unit}
use Rattle.server_law.specs.Puts.{expects_put, is_over, is_taken, put, put_now, settles}
use Rattle.server_law.specs.Reserves.{reserve}
use Rattle.server_components.specs.declared.wishes.Wish.{Wish}
use Rattle.server_law.specs.State.{ServerModel, awaiting, ring_at, runs, runs_at_home}
use Rattle.server_law.specs.Step.{rule, server_rule}
use Rattle.server_law.specs.Sure.{ActsHandle, HandledBy, IsHintOf, SitsIn, Sure}
use Rattle.server_law.specs.Waits.{asks_on}
use Rattle.server_law.proofs.Places.{IsPlace, place_found}
use Rattle.server_law.proofs.CheckPlans.{token_plan}
use Rattle.server_law.proofs.Plans.{IsPlan, if_plan, made, settled, told}
use Rattle.server_law.proofs.PushPlans.{ack_plan, cancel_plan, no_plan, query_plan, unit_plan, yes_plan}
use Rattle.server_law.proofs.Tests.{can_close_says, expects_put_says, has_asked_says, is_since_says, running_says}
use Rattle.server_law.proofs.Decided.{asks_on_decides, asks_on_hints_none, looks_again_decides, looks_again_hints_none, presses_decides}
use Rattle.server_law.proofs.Decided.{presses_hints_none}

-- The rules.

-- the rule of a put is a plan
pub put_plan : (s : ServerModel) (unit : Unit) → expects_put s unit.id.rank unit ≡ true
    → (is_done over : Bool) → s.kept.done ≡ is_done → is_over s.kept.queue unit ≡ over → (taken : Bool)
    → IsPlan s (by.Rank unit.id.rank) (tells.Put unit)
    (record { first = put is_done over unit; follow = settles unit.id ∷ presses taken ∷ [] })
put_plan s unit expected is_done over ended is taken = by_tests is_done over ended is
  where
    made_so : (first : Act) → SitsIn first s → Sure first s → takes first ≡ of_rank unit.id.rank (tells.Put unit) ∷ []
        → (done first s).kept.parked.wishes ≡ s.kept.parked.wishes
        → IsPlan s (by.Rank unit.id.rank) (tells.Put unit) (record { first = first; follow = settles unit.id ∷ presses taken ∷ [] })
    made_so first sits sure heard same =
        settled unit.id first (presses taken ∷ []) sits sure heard same (presses_decides taken, tt) (presses_hints_none taken, tt)

    by_tests : (d o : Bool) → s.kept.done ≡ d → is_over s.kept.queue unit ≡ o
        → IsPlan s (by.Rank unit.id.rank) (tells.Put unit) (record { first = put d o unit; follow = settles unit.id ∷ presses taken ∷ [] })
    by_tests true o ended is = made_so (Ends_put unit ends_by.NoMoreWork) refl (expected, ended) refl refl
    by_tests false true ended is = made_so (Refuses unit) refl (expected, ended, is) refl refl
    by_tests false false ended is = made_so (Accepts unit) refl (expected, ended, is) refl refl

reserve_plan : (s : ServerModel) (wish : Wish) → runs_at_home s wish.rank ≡ true
    → (is_done used_up : Bool) (best : Option Placed) → s.kept.done ≡ is_done → s.kept.exhausted ≡ used_up → best_for s.kept wish ≡ best
    → IsPlan s (by.Rank wish.rank) (tells.Reserve wish.request wish.types)
    (record { first = reserve is_done used_up best wish; follow = asks_on wish.rank ∷ [] })
reserve_plan s wish expected is_done used_up best done exhausted found = by_tests is_done used_up best done exhausted found
  where
    made_so : (first : Act) → SitsIn first s → Sure first s
        → takes first ≡ record { from = by.Rank wish.rank; message = tells.Reserve wish.request wish.types } ∷ []
        → IsPlan s (by.Rank wish.rank) (tells.Reserve wish.request wish.types) (record { first = first; follow = asks_on wish.rank ∷ [] })
    made_so first sits sure takes = made sits sure takes (asks_on_decides wish.rank, tt) (asks_on_hints_none wish.rank, tt)

    by_tests : (d u : Bool) (o : Option Placed) → s.kept.done ≡ d → s.kept.exhausted ≡ u → best_for s.kept wish ≡ o
        → IsPlan s (by.Rank wish.rank) (tells.Reserve wish.request wish.types)
        (record { first = reserve d u o wish; follow = asks_on wish.rank ∷ [] })
    by_tests true u o done exhausted found = made_so (Ends_reserve wish ends_by.NoMoreWork) refl (expected, done) refl
    by_tests false true o done exhausted found = made_so (Ends_reserve wish ends_by.Exhausted) refl (expected, exhausted) refl
    by_tests false false (Some p) done exhausted found = made_so (Grants wish p.unit) refl (expected, (p, found, refl)) refl
    by_tests false false None done exhausted found = made_so (Parks wish) refl (expected, found) refl

look_plan : (s : ServerModel) (wish : Wish) (is_done : Bool) (best : Option Placed) → s.kept.done ≡ is_done → best_for s.kept wish ≡ best
    → IsPlan s (by.Rank wish.rank) (tells.Try wish.request wish.types) (record { first = look is_done best wish; follow = [] })
look_plan s wish true best done found = made refl done refl tt tt
look_plan s wish false (Some p) done found = made refl (p, found, refl) refl tt tt
look_plan s wish false None done found = made refl found refl tt tt

fetch_plan : (s : ServerModel) (from : Rank) (request : ℕ) (id : UnitId) (o : Option Placed)
    → find (is_pinned_as id from) s.kept.queue.units ≡ o
    → IfSome (fetch from request id o) (IsPlan s (by.Rank from) (tells.Fetch request id))
fetch_plan s from request id None found = tt
fetch_plan s from request id (Some p) found = made refl (p, found, refl) refl tt tt

keep_plan : (s : ServerModel) (from : Rank) (request : ℕ) (common : List ℕ) → expects_keep s from request common ≡ true
    → (is_done over : Bool) → s.kept.done ≡ is_done → exceeds s.kept.queue (length common) ≡ over
    → IsPlan s (by.Rank from) (tells.KeepCommon request common) (record { first = keep is_done over from request common; follow = [] })
keep_plan s from request common expected true over done is = made refl (expected, done) refl tt tt
keep_plan s from request common expected false true done is = made refl (expected, done, is) refl tt tt
keep_plan s from request common expected false false done is = made refl (expected, done, is) refl tt tt

close_plan : (s : ServerModel) (from : Rank) (request : ℕ) (batch : BatchId) (accepted : ℕ) (o : Option Part)
    → part_in s.kept.parts batch ≡ o
    → IfSome (close request batch accepted (part_if (can_close from batch accepted s.kept.queue.common) o))
    (IsPlan s (by.Rank from) (tells.CloseBatch request batch accepted))
close_plan s from request batch accepted None found = tt
close_plan s from request batch accepted (Some p) found = by_test (can_close from batch accepted s.kept.queue.common p) refl
  where
    by_test : (t : Bool) → can_close from batch accepted s.kept.queue.common p ≡ t
        → IfSome (close request batch accepted (cond t (Some p) None)) (IsPlan s (by.Rank from) (tells.CloseBatch request batch accepted))
    by_test false is = tt
    by_test true is =
        let own = ((can_close_says from batch accepted s.kept.queue.common p).0 is).0 in
        let so : can_close batch.rank batch accepted s.kept.queue.common p ≡ true =
        ap (λ r. can_close r batch accepted s.kept.queue.common p) own ∙ is in
        let P : Rank → Type 0 = λ r.
        IsPlan s (by.Rank r) (tells.CloseBatch request batch accepted) (record { first = Closes request batch accepted p; follow = [] }) in
        subst P own (made refl (found, so) refl tt tt)

share_plan : (s : ServerModel) (from : Rank) (request : ℕ) (batch : BatchId) (o : Option Part) → part_in s.kept.parts batch ≡ o
    → IfSome (share from request batch (part_if (can_fetch s.kept.queue.common) o))
    (IsPlan s (by.Rank from) (tells.FetchCommon request batch))
share_plan s from request batch None found = tt
share_plan s from request batch (Some p) found = by_test (can_fetch s.kept.queue.common p) refl
  where
    by_test : (t : Bool) → can_fetch s.kept.queue.common p ≡ t
        → IfSome (share from request batch (cond t (Some p) None)) (IsPlan s (by.Rank from) (tells.FetchCommon request batch))
    by_test true is = made refl (found, is) refl tt tt
    by_test false is = tt

-- Letters of other servers.

answer_plan : (s : ServerModel) (from : Server) (wish : Wish) → expects_ask s from wish.rank ≡ true
    → (is_done : Bool) (best : Option Placed) → s.kept.done ≡ is_done → best_for s.kept wish ≡ best
    → IsPlan s (by.Server from) (tells.Ask wish.rank wish.request wish.types)
    (record { first = answer is_done best from wish; follow = [] })
answer_plan s from wish expected true best done found =
    made refl (expected, λ new. let a : true ≡ false = sym done ∙ new in absurd (cc)) refl tt tt
answer_plan s from wish expected false (Some p) done found = made refl (expected, (p, found, refl)) refl tt tt
answer_plan s from wish expected false None done found = made refl (expected, λ new. found) refl tt tt

-- a rank that waits here since this call, for which the sender was asked
pub record IsAskedAt (s : ServerModel) (from : Server) (rank : Rank) (request : ℕ) (p : Place) : Type 0 where
  pub asked : p.here.asked ≡ Some from
  pub stands : s.kept.parked.waiting ≡ p.at.before ++ awaiting p.here.wish from p.here.to_ask ∷ p.at.behind
  pub own : p.here.wish.rank ≡ rank
  pub since : p.here.wish.request ≡ request

-- a place where the sender is unanswered is that of the rank that waits for it
pub asked_at_place : (s : ServerModel) (from : Server) (rank : Rank) (request : ℕ) (p : Place)
    → IsPlace (has_asked from rank request) s.kept.parked.waiting p → IsAskedAt s from rank request p
asked_at_place s from rank request p is =
    let so = (has_asked_says from rank request p.here).0 is.passes in
    let here : p.here ≡ awaiting p.here.wish from p.here.to_ask =
    ap (λ (o : Option Server). record { wish = p.here.wish; asked = o; to_ask = p.here.to_ask }) so.2 in
    record {
      asked = so.2;
      stands = is.stands ∙ ap (λ e. p.at.before ++ e ∷ p.at.behind) here;
      own = so.0;
      since = so.1;
    }

pass_plan : (s : ServerModel) (from : Server) (rank : Rank) (request : ℕ) (note : UnitNote) (o : Option Place)
    → IfSome o (IsPlace (has_asked from rank request) s.kept.parked.waiting)
    → IfSome (pass_at o note) (IsPlan s (by.Server from) (tells.AskGrant rank request note))
pass_plan s from rank request note None is = tt
pass_plan s from rank request note (Some p) is =
    let at = asked_at_place s from rank request p is in
    rw at.asked (made at.stands tt (rw (at.own, at.since) refl) tt tt)

wake_plan : (s : ServerModel) (from : Server) (rank : Rank) (request : ℕ) (o : Option Place)
    → IfSome o (IsPlace (has_asked from rank request) s.kept.parked.waiting)
    → IfSome (wake_at o) (IsPlan s (by.Server from) (tells.AskNone rank request))
wake_plan s from rank request None is = tt
wake_plan s from rank request (Some p) is =
    let at = asked_at_place s from rank request p is in
    let own = p.here.wish.rank in
    rw at.asked (made at.stands tt (rw (at.own, at.since) refl) (looks_again_decides own, (asks_on_decides own, tt))
    (looks_again_hints_none own, (asks_on_hints_none own, tt)))

hint_plan : (s : ServerModel) (from : Server) (rank : Rank) (request : ℕ) (o : Option Place)
    → IfSome o (IsPlace (is_since rank request) s.kept.parked.waiting)
    → IfSome (hint_at from rank request o) (IsPlan s (by.Server from) (tells.Hint rank request))
hint_plan s from rank request None is = made refl tt refl tt tt
hint_plan s from rank request (Some p) is =
    let who = (is_since_says rank request p.here).0 is.passes in
    let own = p.here.wish.rank in
    made is.stands tt (rw (who.0, who.1) refl) (asks_on_decides own, tt) (asks_on_hints_none own, tt)

planned_by_server : (s : ServerModel) (from : Server) → (from.0 == s.me.0) ≡ false → (message : Message)
    → IfSome (server_rule s from message) (IsPlan s (by.Server from) message)
planned_by_server s from apart (tells.Ask rank request types) =
    let wish : Wish = record { rank = rank; request = request; types = types } in
    if_plan s (by.Server from) (tells.Ask rank request types) (expects_ask s from rank) _ (λ expected.
    answer_plan s from wish expected s.kept.done (best_for s.kept wish) refl refl)
planned_by_server s from apart (tells.AskGrant rank request note) =
    pass_plan s from rank request note (place_in (has_asked from rank request) s.kept.parked.waiting)
    (place_found (has_asked from rank request) s.kept.parked.waiting)
planned_by_server s from apart (tells.AskNone rank request) =
    wake_plan s from rank request (place_in (has_asked from rank request) s.kept.parked.waiting)
    (place_found (has_asked from rank request) s.kept.parked.waiting)
planned_by_server s from apart (tells.Hint rank request) =
    if_expected (expects_hint s rank) (hint_at from rank request (place_in (is_since rank request) s.kept.parked.waiting))
    (hint_plan s from rank request (place_in (is_since rank request) s.kept.parked.waiting)
    (place_found (is_since rank request) s.kept.parked.waiting))
  where
    if_expected : (t : Bool) (o : Option Plan) → IfSome o (IsPlan s (by.Server from) (tells.Hint rank request))
        → IfSome (cond t o None) (IsPlan s (by.Server from) (tells.Hint rank request))
    if_expected true o is = is
    if_expected false o is = tt
planned_by_server s from apart (tells.PushQuery id length) =
    if_plan s (by.Server from) (tells.PushQuery id length) (expects_query s.kept id) _ (λ expected.
    query_plan s from id length expected (exceeds s.kept.queue length) refl)
planned_by_server s from apart (tells.PushYes id) =
    yes_plan s from id s.kept.pushing.push (find (is_free_as id) s.kept.queue.units) refl refl
planned_by_server s from apart (tells.PushNo id) = no_plan s from id s.kept.pushing.push refl
planned_by_server s from apart (tells.PushAck id) = ack_plan s from id s.kept.pushing.push refl
planned_by_server s from apart (tells.PushUnit unit) =
    if_plan s (by.Server from) (tells.PushUnit unit) (expects_unit s.kept unit) _ (unit_plan s from unit)
planned_by_server s from apart (tells.PushCancel id) =
    if_plan s (by.Server from) (tells.PushCancel id) (has_promise id s.kept.queue.promises) _ (cancel_plan s from id)
planned_by_server s from apart tells.Notice =
    if_plan s (by.Server from) tells.Notice (s.me.0 == 0) _ (λ zeroth. made refl (eqb-true s.me.0 0 zeroth) refl tt tt)
planned_by_server s from apart (tells.Token t) = token_plan s from t apart
planned_by_server s from apart (tells.Failed t why) =
    if_plan s (by.Server from) (tells.Failed t why) (is_running (ring_at s) t) _ (λ runs.
    made refl ((running_says (ring_at s) t).0 runs) refl tt tt)
planned_by_server s from apart tells.Exhaust =
    if_plan s (by.Server from) tells.Exhaust (from.0 == 0) _ (λ zeroth.
    told s ends_by.Exhausted (Hears_exhaust from) refl (eqb-true from.0 0 zeroth) refl refl)
planned_by_server s from apart tells.Shutdown =
    if_plan s (by.Server from) tells.Shutdown (from.0 == 0) _ (λ zeroth. made refl (eqb-true from.0 0 zeroth) refl tt tt)
planned_by_server s from apart _ = tt

-- each rule of a letter is a plan
pub planned : (s : ServerModel) (from : Actor) (message : Message) → IfSome (rule s from message) (IsPlan s from message)
planned s (by.Rank from) (tells.Put unit) = if_plan s (by.Rank from) (tells.Put unit) (expects_put s from unit) _ (λ expected.
    let is : unit.id.rank ≡ from = ((expects_put_says s from unit).0 expected).sender in
    let p : Plan = record { first = put_now s.kept unit; follow = settles unit.id ∷ presses (is_taken s.kept unit) ∷ [] } in
    let P : Rank → Type 0 = λ r. IsPlan s (by.Rank r) (tells.Put unit) p in
    let own : expects_put s unit.id.rank unit ≡ true = ap (λ r. expects_put s r unit) is ∙ expected in
    subst P is (put_plan s unit own s.kept.done (is_over s.kept.queue unit) refl refl (is_taken s.kept unit)))
planned s (by.Rank from) (tells.Reserve request types) =
    let wish : Wish = record { rank = from; request = request; types = types } in
    if_plan s (by.Rank from) (tells.Reserve request types) (runs_at_home s from) _ (λ expected.
    reserve_plan s wish expected s.kept.done s.kept.exhausted (best_for s.kept wish) refl refl refl)
planned s (by.Rank from) (tells.Try request types) =
    let wish : Wish = record { rank = from; request = request; types = types } in
    look_plan s wish s.kept.done (best_for s.kept wish) refl refl
planned s (by.Rank from) (tells.Fetch request id) = fetch_plan s from request id (find (is_pinned_as id from) s.kept.queue.units) refl
planned s (by.Rank from) (tells.KeepCommon request common) =
    if_plan s (by.Rank from) (tells.KeepCommon request common) (expects_keep s from request common) _ (λ expected.
    keep_plan s from request common expected s.kept.done (exceeds s.kept.queue (length common)) refl refl)
planned s (by.Rank from) (tells.CloseBatch request batch accepted) =
    close_plan s from request batch accepted (part_in s.kept.parts batch) refl
planned s (by.Rank from) (tells.FetchCommon request batch) = share_plan s from request batch (part_in s.kept.parts batch) refl
planned s (by.Rank from) (tells.Count request kind) =
    if_plan s (by.Rank from) (tells.Count request kind) (runs_at_home s from) _ (λ expected. made refl expected refl tt tt)
planned s (by.Rank from) (tells.Done request) = told s ends_by.NoMoreWork (Hears_done from request) refl tt refl refl
planned s (by.Rank from) tells.Finish =
    if_plan s (by.Rank from) tells.Finish (runs s.kept from) _ (λ runs. made refl runs refl tt tt)
planned s (by.Rank from) _ = tt
planned s (by.Server from) message = by_self (from.0 == s.me.0) refl
  where
    by_self : (t : Bool) → (from.0 == s.me.0) ≡ t → IfSome (cond t None (server_rule s from message)) (IsPlan s (by.Server from) message)
    by_self true same = tt
    by_self false apart = planned_by_server s from apart message

-- an act that takes a letter is no hint
first_is_no_hint : (wishes : List Wish) (a : Act) (heard : Heard) → takes a ≡ heard ∷ [] → IsHintOf wishes a
first_is_no_hint wishes (Hints wish) heard is = absurd (cc)
first_is_no_hint wishes _ heard is = tt

-- a letter is handled by the acts of its rule
pub acts_handle : ActsHandle
acts_handle s from message list is = by_plan (rule s from message) (planned s from message) is
  where
    by_plan : (o : Option Plan) → IfSome o (IsPlan s from message) → option_map (in_order ends_event s) o ≡ Some list
        → HandledBy from message list s
    by_plan None plan is = absurd (cc)
    by_plan (Some p) plan is =
        record {
          first = p.first;
          more = decided (p.follow ++ ends_event) (done p.first s);
          are = sym (some_is is);
          takes = plan.takes;
          follow = plan.follow.1;
          sure = (plan.sits, plan.sure, plan.follow.0);
          hints = (first_is_no_hint s.kept.parked.wishes p.first _ plan.takes, plan.hints);
        }
