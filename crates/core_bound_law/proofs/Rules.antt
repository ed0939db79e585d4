-- The first act of each rule leaves enough for those that follow it: the hints and the push that follow a unit which becomes free. All
-- others cost nothing.
use Rattle.std.proofs.Common.{◌≡◌, ◌≤◌, ℕ, ◌+◌, ◌*◌, ◌==◌, Bool, true, false, cond, not, ◌&&◌, List, [], ◌∷◌, ◌++◌, find, length, Option}
use Rattle.std.proofs.Common.{None, Some, refl, ap, ◌∙◌, subst, arith}
use Rattle.std.specs.Option.{IfSome, option_map}
use Rattle.std.proofs.lemmas.Bool.{and_parts, not-true, or_parts}
use Rattle.adlb_unit.specs.declared.actors.Actor.{Actor}
use Rattle.adlb_unit.specs.declared.actors.Actor.TheVariants as by
use Rattle.adlb_unit.specs.declared.messages.Message.{Message}
use Rattle.adlb_unit.specs.declared.messages.Message.TheVariants as tells
use Rattle.adlb_unit.specs.declared.names.BatchId.{BatchId}
use Rattle.adlb_unit.specs.declared.names.Rank.{Rank}
use Rattle.adlb_unit.specs.declared.names.Server.{Server}
use Rattle.adlb_unit.specs.declared.names.UnitId.{UnitId}
use Rattle.adlb_unit.specs.declared.notes.End.TheVariants as ends_by
use Rattle.adlb_unit.specs.declared.notes.UnitNote.{UnitNote}
use Rattle.adlb_unit.specs.declared.tokens.Token.{Token}
use Rattle.adlb_unit.specs.declared.units.Unit.{Unit}
use Rattle.exhaust_ring.specs.Expected.{expects, is_running}
use Rattle.exhaust_ring.specs.Ring.{Asker}
use Rattle.server_components.specs.Pushes.{is_push_as, query_of}
use Rattle.server_components.specs.declared.pushing.PushQuery.{PushQuery}
use Rattle.server_components.specs.declared.standing.StandingPush.{StandingPush}
use Rattle.work_queue.specs.declared.placing.Placed.{Placed}
use Rattle.server_components.specs.Store.{part_in}
use Rattle.server_components.specs.declared.parts.Part.{Part}
use Rattle.server_components.specs.Calls.{is_since, is_soft_for}
use Rattle.server_components.specs.declared.wishes.Wish.{Wish}
use Rattle.server_law.specs.Acts.{Act, Accepts, Arrives, Ends_put, Refuses}
use Rattle.server_law.specs.Asks.{expects_ask, pass_at, pass_on, wake, wake_at}
use Rattle.server_law.specs.Batches.{can_close, can_fetch, close, expects_keep, part_if, share}
use Rattle.server_law.specs.Carried.{all_done, done}
use Rattle.server_law.specs.Checks.{marks, tests_now, token_rule, verdict, visit, visit_other, visit_zeroth}
use Rattle.server_law.specs.Endings.{ends_event, is_quiet}
use Rattle.server_law.specs.Fetches.{fetch}
use Rattle.server_law.specs.Finding.{Place, has_asked, has_promise, has_unit, is_free_as, is_pinned_as, permits, place_in, taker}
use Rattle.server_law.specs.Hints.{expects_hint, hint_all, hint_at, hints_if, is_first_for, is_later_for}
use Rattle.server_law.specs.Plan.{Plan, decided, in_order, plan}
use Rattle.server_law.specs.Presses.{presses, queries}
use Rattle.server_law.specs.Pushes.{ack_at, acks, expects_query, expects_unit, no_at, yes_at}
use Rattle.server_law.specs.Puts.{expects_put, gives, is_over, put, settles, settles_as}
use Rattle.server_law.specs.State.{ServerModel, ring_at, runs, runs_at_home}
use Rattle.server_law.specs.Step.{acts, rule, server_rule}
use Rattle.core_law.specs.Letters.{one}
use Rattle.core_law.specs.Measures.{weigh}
use Rattle.core_law.proofs.Sums.{weigh-append}
use Rattle.core_bound_law.specs.Costs.{allowance, cost}
use Rattle.core_bound_law.proofs.Chains.{AllFree, AreDue, Costs, acks_free, all_free, asks_on_free, cost_joined, costs, due_joined}
use Rattle.core_bound_law.proofs.Chains.{ends_free, free_cost, looks_again_free, tells_idle_free}
use Rattle.server_law.proofs.Waiters.{done_kept}
use Rattle.work_queue.specs.Queue.{id_of}
use Rattle.adlb_unit.specs.Ids.{same_unit}

-- A unit that becomes free: each wish is hinted at most once.

hinted : (test : Wish → Bool) (wishes : List Wish) (s : ServerModel)
    → AreDue (hints_if test wishes) s × (costs (hints_if test wishes) ≡ weigh (λ w. one (test w)) wishes * 75)
hinted test [] s = (tt, omega arith)
hinted test (w ∷ wishes) s = by_test (λ t. hinted test wishes t) (test w) refl
  where
    by_test : ((t : ServerModel) → AreDue (hints_if test wishes) t × (costs (hints_if test wishes) ≡ weigh (λ w. one (test w)) wishes * 75))
        → (b : Bool) → test w ≡ b
        → AreDue (hints_if test (w ∷ wishes)) s × (costs (hints_if test (w ∷ wishes)) ≡ weigh (λ w. one (test w)) (w ∷ wishes) * 75)
    by_test later true is = rw is ((tt, (later _).0), let l = (later s).1 in omega arith)
    by_test later false is = rw is ((later s).0, let l = (later s).1 in omega arith)

-- first those that its target names, then the others
apart : (p q : Bool) → one (p && q) + one (p && not q) ≤ 1
apart true true = omega arith
apart true false = omega arith
apart false q = omega arith

apart_sum : (p q : Wish → Bool) (wishes : List Wish)
    → weigh (λ w. one (p w && q w)) wishes + weigh (λ w. one (p w && not (q w))) wishes ≤ length wishes
apart_sum p q [] = omega arith
apart_sum p q (w ∷ wishes) = let here = apart (p w) (q w) in let later = apart_sum p q wishes in omega arith

all_hinted : (unit : Unit) (wishes : List Wish) (s : ServerModel) → length wishes ≤ 32 → Costs 2400 (hint_all unit wishes) s
all_hinted unit wishes s few =
    let a = hinted (is_first_for unit) wishes s in
    let b = hinted (is_later_for unit) wishes (all_done (hints_if (is_first_for unit) wishes) s) in
    let sum = weigh-append cost (hints_if (is_first_for unit) wishes) (hints_if (is_later_for unit) wishes) in
    let once = apart_sum (permits unit) (λ w. is_soft_for unit.target w.rank) wishes in
    let p = a.1 in
    let q = b.1 in
    record { due = due_joined (hints_if (is_first_for unit) wishes) (hints_if (is_later_for unit) wishes) s a.0 b.0; few = omega arith }

settle_cost : (id : UnitId) (s : ServerModel) → length s.kept.parked.wishes ≤ 32 → Costs 2400 (settles id s) s
settle_cost id s few = by_unit (find (is_free_as id) s.kept.queue.units)
  where
    by_taker : (unit : Unit) (o : Option Place) → Costs 2400 (gives s.kept unit o) s
    by_taker unit None = all_hinted unit s.kept.parked.wishes s few
    by_taker unit (Some p) = record { due = (tt, tt); few = omega arith }

    by_unit : (o : Option Placed) → Costs 2400 (settles_as s.kept o) s
    by_unit None = record { due = tt; few = omega arith }
    by_unit (Some p) = by_taker p.unit (taker p.unit s.kept.parked.waiting)

press_cost : (s : ServerModel) → Costs 2500 (presses true s) s
press_cost s = by_query (query_of s.config s.me s.kept.pushing s.kept.queue)
  where
    by_query : (o : Option PushQuery) → Costs 2500 (queries o) s
    by_query None = record { due = tt; few = omega arith }
    by_query (Some q) = record { due = (tt, tt); few = omega arith }

-- no unit of the id is here
absent : (id : UnitId) (units : List Placed) → has_unit id units ≡ false → find (is_free_as id) units ≡ None
absent id [] none = refl
absent id (p ∷ units) none =
    let parts = or_parts (same_unit (id_of p) id) (has_unit id units) none in
    let later = absent id units parts.1 in
    rw parts.0 later

-- Plans.

-- the first act of the plan leaves enough for those that follow
pub record IsPaid (s : ServerModel) (p : Plan) : Type 0 where
  pub all : Costs (allowance p.first) (decided (p.follow ++ ends_event) (done p.first s)) (done p.first s)

abbrev OfRule : ServerModel → Option Plan → Type 0
OfRule s o = IfSome o (IsPaid s)

paid : {s : ServerModel} {p : Plan} → AllFree p.follow → IsPaid s p
paid {s} {p} free =
    let all = free_cost (p.follow ++ ends_event) (done p.first s) (all_free p.follow ends_event free ends_free) in
    record { all = record { due = all.due; few = let f = all.few in omega arith } }

if_paid : (s : ServerModel) (test : Bool) (p : Plan) → (test ≡ true → IsPaid s p) → OfRule s (cond test (Some p) None)
if_paid s true p is = is refl
if_paid s false p is = tt

put_paid : (s : ServerModel) (from : Rank) (unit : Unit) → length s.kept.parked.wishes ≤ 32 → expects_put s from unit ≡ true
    → (is_done over : Bool)
    → IsPaid s (record { first = put is_done over unit; follow = settles unit.id ∷ presses (not is_done && not over) ∷ [] })
put_paid s from unit few expected is_done over = by_tests is_done over
  where
    new : has_unit unit.id s.kept.queue.units ≡ false
    new =
        let a = and_parts _ _ expected in
        let b = and_parts _ _ a.0 in
        let d = and_parts _ _ b.0 in
        let e = and_parts (unit.id.rank.0 == from.0) (not (has_unit unit.id s.kept.queue.units)) d.0 in
        not-true (has_unit unit.id s.kept.queue.units) e.1

    refused : (first : Act) → (done first s).kept.queue.units ≡ s.kept.queue.units → allowance first ≡ 0
        → IsPaid s (record { first = first; follow = settles unit.id ∷ presses false ∷ [] })
    refused first same nothing =
        let t = done first s in
        let none : settles unit.id t ≡ [] =
        ap (settles_as t.kept) (ap (find (is_free_as unit.id)) same ∙ absent unit.id s.kept.queue.units new) in
        let ends = free_cost ends_event t ends_free in
        let all : Costs 0 (decided (settles unit.id ∷ presses false ∷ ends_event) t) t =
        rw none ends in
        record { all = record { due = all.due; few = let f = all.few in omega arith } }

    by_tests : (d o : Bool) → IsPaid s (record { first = put d o unit; follow = settles unit.id ∷ presses (not d && not o) ∷ [] })
    by_tests true o = refused (Ends_put unit ends_by.NoMoreWork)
        (ap (λ k. k.queue.units) (done_kept (Ends_put unit ends_by.NoMoreWork) s)) refl
    by_tests false true = refused (Refuses unit) (ap (λ k. k.queue.units) (done_kept (Refuses unit) s)) refl
    by_tests false false =
        let t = done (Accepts unit) s in
        let same : length t.kept.parked.wishes ≡ length s.kept.parked.wishes = ap (λ k. length k.parked.wishes)
        (done_kept (Accepts unit) s) in
        let first = settle_cost unit.id t (omega arith) in
        let u = all_done (settles unit.id t) t in
        let second = press_cost u in
        let v = all_done (presses true u) u in
        let ends = free_cost ends_event v ends_free in
        let all = cost_joined 2400 (2500 + 0) (settles unit.id t) _ t first (cost_joined 2500 0 (presses true u) _ u second ends) in
        record { all = record { due = all.due; few = all.few } }

unit_paid : (s : ServerModel) (from : Server) (unit : Unit) → length s.kept.parked.wishes ≤ 32
    → IsPaid s (record { first = Arrives from unit; follow = settles unit.id ∷ acks ∷ [] })
unit_paid s from unit few =
    let t = done (Arrives from unit) s in
    let same : length t.kept.parked.wishes ≡ length s.kept.parked.wishes = ap (λ k. length k.parked.wishes)
    (done_kept (Arrives from unit) s) in
    let first = settle_cost unit.id t (omega arith) in
    let u = all_done (settles unit.id t) t in
    let ends = free_cost (acks ∷ ends_event) u (acks_free, ends_free) in
    let all = cost_joined 2400 0 (settles unit.id t) _ t first ends in
    record { all = record { due = all.due; few = all.few } }

module _ (s : ServerModel) (few : length s.kept.parked.wishes ≤ 32) where
  close_paid : (request : ℕ) (batch : BatchId) (accepted : ℕ) (o : Option Part) → OfRule s (close request batch accepted o)
  close_paid request batch accepted None = tt
  close_paid request batch accepted (Some p) = paid tt

  share_paid : (from : Rank) (request : ℕ) (batch : BatchId) (o : Option Part) → OfRule s (share from request batch o)
  share_paid from request batch None = tt
  share_paid from request batch (Some p) = paid tt

  fetch_paid : (from : Rank) (request : ℕ) (id : UnitId) (o : Option Placed) → OfRule s (fetch from request id o)
  fetch_paid from request id None = tt
  fetch_paid from request id (Some p) = paid tt

  pass_paid : (note : UnitNote) (o : Option Place) → OfRule s (pass_at o note)
  pass_paid note None = tt
  pass_paid note (Some p) = by_asked p.here.asked
    where
      by_asked : (asked : Option Server) → OfRule s (pass_on p asked note)
      by_asked None = tt
      by_asked (Some t) = paid tt

  wake_paid : (o : Option Place) → OfRule s (wake_at o)
  wake_paid None = tt
  wake_paid (Some p) = by_asked p.here.asked
    where
      by_asked : (asked : Option Server) → OfRule s (wake p asked)
      by_asked None = tt
      by_asked (Some t) = paid (looks_again_free p.here.wish.rank, (asks_on_free p.here.wish.rank, tt))

  hint_paid : (test : Bool) (from : Server) (rank : Rank) (request : ℕ) (o : Option Place)
      → OfRule s (cond test (hint_at from rank request o) None)
  hint_paid false from rank request o = tt
  hint_paid true from rank request None = paid tt
  hint_paid true from rank request (Some p) = paid (asks_on_free p.here.wish.rank, tt)

  yes_paid : (from : Server) (id : UnitId) (push : Option StandingPush) (free : Option Placed) → OfRule s (yes_at from id push free)
  yes_paid from id None free = tt
  yes_paid from id (Some p) free = if_paid s (is_push_as from id false p) _ (λ is. paid tt)

  no_paid : (from : Server) (id : UnitId) (push : Option StandingPush) → OfRule s (no_at from id push)
  no_paid from id None = tt
  no_paid from id (Some p) = if_paid s (is_push_as from id false p) _ (λ is. paid tt)

  ack_paid : (from : Server) (id : UnitId) (push : Option StandingPush) → OfRule s (ack_at from id push)
  ack_paid from id None = tt
  ack_paid from id (Some p) = if_paid s (is_push_as from id true p) _ (λ is. paid tt)

  token_paid : (from : Server) (t : Token) → OfRule s (token_rule s from t)
  token_paid from t = by_expected (expects (ring_at s) from t)
    where
      by_verdict : (before : Bool) (asked : List Asker) → OfRule s (verdict before asked from t)
      by_verdict before [] = paid tt
      by_verdict true (first ∷ more) = paid tt
      by_verdict false (first ∷ more) = paid (tells_idle_free ends_by.Exhausted, tt)

      by_wave : (first : Bool) (a : Act) → OfRule s (cond first (plan a []) (verdict s.kept.exhausted t.asked from t))
      by_wave true a = paid tt
      by_wave false a = by_verdict s.kept.exhausted t.asked

      by_other : (first : Bool) (a b : Act) → OfRule s (cond first (plan a []) (plan b []))
      by_other true a b = paid tt
      by_other false a b = paid tt

      by_me : (zero_here : Bool) → OfRule s (cond zero_here (visit_zeroth s from t) (visit_other s from t))
      by_me true = by_wave (t.wave == 1) (tests_now s from t)
      by_me false = by_other (t.wave == 1) (marks (is_quiet s) from t) (tests_now s from t)

      by_expected : (b : Bool) → OfRule s (cond b (visit s from t) None)
      by_expected true = by_me (s.me.0 == 0)
      by_expected false = tt

  server_paid : (from : Server) (message : Message) → OfRule s (server_rule s from message)
  server_paid from (tells.Ask rank request types) = if_paid s (expects_ask s from rank) _ (λ is. paid tt)
  server_paid from (tells.AskGrant rank request note) = pass_paid note (place_in (has_asked from rank request) s.kept.parked.waiting)
  server_paid from (tells.AskNone rank request) = wake_paid (place_in (has_asked from rank request) s.kept.parked.waiting)
  server_paid from (tells.Hint rank request) =
      hint_paid (expects_hint s rank) from rank request (place_in (is_since rank request) s.kept.parked.waiting)
  server_paid from (tells.PushQuery id length) = if_paid s (expects_query s.kept id) _ (λ is. paid tt)
  server_paid from (tells.PushYes id) = yes_paid from id s.kept.pushing.push (find (is_free_as id) s.kept.queue.units)
  server_paid from (tells.PushNo id) = no_paid from id s.kept.pushing.push
  server_paid from (tells.PushAck id) = ack_paid from id s.kept.pushing.push
  server_paid from (tells.PushUnit unit) = if_paid s (expects_unit s.kept unit) _ (λ is. unit_paid s from unit few)
  server_paid from (tells.PushCancel id) = if_paid s (has_promise id s.kept.queue.promises) _ (λ is. paid tt)
  server_paid from tells.Notice = if_paid s (s.me.0 == 0) _ (λ is. paid tt)
  server_paid from (tells.Token t) = token_paid from t
  server_paid from (tells.Failed t why) = if_paid s (is_running (ring_at s) t) _ (λ is. paid tt)
  server_paid from tells.Exhaust = if_paid s (from.0 == 0) _ (λ is. paid (tells_idle_free ends_by.Exhausted, tt))
  server_paid from tells.Shutdown = if_paid s (from.0 == 0) _ (λ is. paid tt)
  server_paid from _ = tt

  rule_paid : (from : Actor) (message : Message) → OfRule s (rule s from message)
  rule_paid (by.Rank from) (tells.Put unit) =
      if_paid s (expects_put s from unit) _ (λ is. put_paid s from unit few is s.kept.done (is_over s.kept.queue unit))
  rule_paid (by.Rank from) (tells.Reserve request types) = if_paid s (runs_at_home s from) _ (λ is. paid (asks_on_free from, tt))
  rule_paid (by.Rank from) (tells.Try request types) = paid tt
  rule_paid (by.Rank from) (tells.Fetch request id) = fetch_paid from request id (find (is_pinned_as id from) s.kept.queue.units)
  rule_paid (by.Rank from) (tells.KeepCommon request common) = if_paid s (expects_keep s from request common) _ (λ is. paid tt)
  rule_paid (by.Rank from) (tells.CloseBatch request batch accepted) =
      close_paid request batch accepted (part_if (can_close from batch accepted s.kept.queue.common) (part_in s.kept.parts batch))
  rule_paid (by.Rank from) (tells.FetchCommon request batch) =
      share_paid from request batch (part_if (can_fetch s.kept.queue.common) (part_in s.kept.parts batch))
  rule_paid (by.Rank from) (tells.Count request kind) = if_paid s (runs_at_home s from) _ (λ is. paid tt)
  rule_paid (by.Rank from) (tells.Done request) = paid (tells_idle_free ends_by.NoMoreWork, tt)
  rule_paid (by.Rank from) tells.Finish = if_paid s (runs s.kept from) _ (λ is. paid tt)
  rule_paid (by.Rank from) _ = tt
  rule_paid (by.Server from) message = by_self (from.0 == s.me.0)
    where
      by_self : (t : Bool) → OfRule s (cond t None (server_rule s from message))
      by_self true = tt
      by_self false = server_paid from message

-- an event: the first act leaves enough for those that follow
pub acts_paid : (s : ServerModel) (from : Actor) (message : Message) (first : Act) (more : List Act) → length s.kept.parked.wishes ≤ 32
    → acts s from message ≡ Some (first ∷ more) → Costs (allowance first) more (done first s)
acts_paid s from message first more few are = by_rule (rule s from message) (rule_paid s few from message) are
  where
    by_rule : (o : Option Plan) → OfRule s o → option_map (in_order ends_event s) o ≡ Some (first ∷ more)
        → Costs (allowance first) more (done first s)
    by_rule None paid e = absurd (cc)
    by_rule (Some p) paid e =
        let f : p.first ≡ first = cc in
        let m : decided (p.follow ++ ends_event) (done p.first s) ≡ more = cc in
        subst (λ (a : Act). Costs (allowance a) more (done a s)) f
        (subst (λ (l : List Act). Costs (allowance p.first) l (done p.first s)) m paid.all)
