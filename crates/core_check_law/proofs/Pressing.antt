-- A push begins only after a put that was accepted, in the same event.
use Rattle.std.proofs.Common.{◌≡◌, ℕ, ◌==◌, ◌&&◌, not, Bool, true, false, cond, List, [], ◌∷◌, ◌++◌, find, Option, None, Some, ap, ◌∙◌}
use Rattle.std.proofs.Common.{refl, subst}
use Rattle.std.specs.Option.{IfSome, option_map}
use Rattle.adlb_unit.specs.declared.actors.Actor.{Actor}
use Rattle.adlb_unit.specs.declared.actors.Actor.TheVariants as by
use Rattle.adlb_unit.specs.declared.messages.Message.{Message}
use Rattle.adlb_unit.specs.declared.messages.Message.TheVariants as tells
use Rattle.adlb_unit.specs.declared.names.BatchId.{BatchId}
use Rattle.adlb_unit.specs.declared.names.Rank.{Rank}
use Rattle.adlb_unit.specs.declared.names.Server.{Server}
use Rattle.adlb_unit.specs.declared.names.UnitId.{UnitId}
use Rattle.adlb_unit.specs.declared.notes.End.{End}
use Rattle.adlb_unit.specs.declared.notes.End.TheVariants as ends_by
use Rattle.adlb_unit.specs.declared.notes.UnitNote.{UnitNote}
use Rattle.adlb_unit.specs.declared.tokens.Token.{Token}
use Rattle.adlb_unit.specs.declared.units.Unit.{Unit}
use Rattle.server_components.specs.Store.{part_in}
use Rattle.server_components.specs.declared.parts.Part.{Part}
use Rattle.exhaust_ring.specs.Expected.{expects}
use Rattle.exhaust_ring.specs.Ring.{Asker, may_start}
use Rattle.exhaust_ring.specs.declared.steps.RingStep.{RingStep}
use Rattle.exhaust_ring.specs.declared.steps.RingStep.TheVariants.{Ended, Exhausted, Fail, Pass, Shutdown}
use Rattle.work_queue.specs.declared.placing.Placed.{Placed}
use Rattle.server_components.specs.Calls.{is_since}
use Rattle.server_components.specs.Parked.{is_idle, is_of}
use Rattle.server_components.specs.declared.waits.Waiting.{Waiting}
use Rattle.server_components.specs.declared.wishes.Wish.{Wish}
use Rattle.server_components.specs.declared.standing.StandingPush.{StandingPush}
use Rattle.server_components.specs.Pushes.{is_push_as}
use Rattle.server_law.specs.Acts.{Accepts, Act, Around, Hints, Starts, check_alone}
use Rattle.server_law.specs.Asks.{pass_at, pass_on, wake, wake_at}
use Rattle.server_law.specs.Batches.{can_close, can_fetch, close, part_if, share}
use Rattle.server_law.specs.Carried.{all_done, done}
use Rattle.server_law.specs.Checks.{marks, tests_now, token_rule, verdict, visit, visit_other, visit_zeroth}
use Rattle.server_law.specs.Endings.{checks, ends_event, finds_alone, is_noted, is_quiet, notice, notices, starts, tells_all, tells_idle}
use Rattle.server_law.specs.Endings.{tells_one}
use Rattle.server_law.specs.Fetches.{fetch}
use Rattle.server_law.specs.Finding.{Place, best_for, has_asked, is_free_as, is_pinned_as, place_in, taker}
use Rattle.server_law.specs.Hints.{expects_hint, hint_at, hints_if, is_first_for, is_later_for}
use Rattle.server_law.specs.Plan.{Decider, Plan, decided, in_order, plan}
use Rattle.server_law.specs.Presses.{presses}
use Rattle.server_law.specs.Pushes.{ack_at, acks, acks_if, no_at, yes_at}
use Rattle.server_law.specs.Puts.{gives, is_over, put, settles, settles_as}
use Rattle.server_law.specs.State.{Debt, ServerModel, ring_at}
use Rattle.server_law.specs.Step.{acts, rule, server_rule}
use Rattle.server_law.specs.Waits.{ask_at, ask_next, asks_on, look_again, look_at, looks_again}
use Rattle.core_law.specs.OnLinks.{Each}
use Rattle.core_law.proofs.UnderWay.{each_append}
use Rattle.core_check_law.proofs.NeverAtRest.{is_query}

-- the act begins no push
abbrev pub NoQuery : Act → Type 0
NoQuery a = is_query a ≡ false

-- Deciders.

abbrev BeginsNone : Decider → Type 0
BeginsNone d = (s : ServerModel) → Each NoQuery (d s)

decided_none : (ds : List Decider) (s : ServerModel) → Each BeginsNone ds → Each NoQuery (decided ds s)
decided_none [] s each = tt
decided_none (d ∷ ds) s each =
    each_append NoQuery (d s) (decided ds (all_done (d s) s)) (each.0 s) (decided_none ds (all_done (d s) s) each.1)

if_so : (t : Bool) (list : List Act) → Each NoQuery list → Each NoQuery (cond t list [])
if_so true list each = each
if_so false list each = tt

tells_none : (end : End) (before behind : List Waiting) → Each NoQuery (tells_all end before behind)
tells_none end before [] = tt
tells_none end before (e ∷ behind) = by_asked e.asked (tells_none end before behind) (tells_none end (before ++ e ∷ []) behind)
  where
    at : Around
    at = record { before = before; behind = behind }

    by_asked : (o : Option Server) → Each NoQuery (tells_all end before behind) → Each NoQuery (tells_all end (before ++ e ∷ []) behind)
        → Each NoQuery (tells_one end at e o (tells_all end before behind) (tells_all end (before ++ e ∷ []) behind))
    by_asked None told passed = (refl, told)
    by_asked (Some t) told passed = passed

idle_none : (end : End) → BeginsNone (tells_idle end)
idle_none end s = tells_none end [] s.kept.parked.waiting

notices_none : BeginsNone notices
notices_none s = if_so (is_quiet s && not (is_noted s.kept.noted s.activity)) (notice (s.me.0 == 0)) (by_place (s.me.0 == 0))
  where
    by_place : (t : Bool) → Each NoQuery (notice t)
    by_place true = (refl, tt)
    by_place false = (refl, tt)

checks_none : BeginsNone checks
checks_none s = if_so (may_start (ring_at s) (is_quiet s)) (starts s) (by_servers (s.config.servers == 1))
  where
    by_step : (step : RingStep) → Each NoQuery (finds_alone step s.kept.parked.waiting)
    by_step Exhausted = (refl, tells_none ends_by.Exhausted [] s.kept.parked.waiting)
    by_step Shutdown = (refl, tt)
    by_step (Pass token) = (refl, tt)
    by_step (Fail token why) = (refl, tt)
    by_step Ended = (refl, tt)

    by_servers : (t : Bool) → Each NoQuery (cond t (finds_alone (check_alone s).step s.kept.parked.waiting) (Starts ∷ []))
    by_servers true = by_step (check_alone s).step
    by_servers false = (refl, tt)

looks_none : (rank : Rank) → BeginsNone (looks_again rank)
looks_none rank s = by_place (place_in (λ e. is_of rank e && is_idle e) s.kept.parked.waiting)
  where
    by_state : (is_done exhausted : Bool) (best : Option Placed) (at : Around) (wish : Wish) (rest : List Server)
        → Each NoQuery (look_again is_done exhausted best at wish rest)
    by_state true exhausted best at wish rest = (refl, tt)
    by_state false true best at wish rest = (refl, tt)
    by_state false false (Some p) at wish rest = (refl, tt)
    by_state false false None at wish rest = tt

    by_place : (o : Option Place) → Each NoQuery (look_at s.kept o)
    by_place None = tt
    by_place (Some p) = by_state s.kept.done s.kept.exhausted (best_for s.kept p.here.wish) p.at p.here.wish p.here.to_ask

asks_none : (rank : Rank) → BeginsNone (asks_on rank)
asks_none rank s = by_place (place_in (is_of rank) s.kept.parked.waiting)
  where
    by_next : (at : Around) (wish : Wish) (asked : Option Server) (to_ask : List Server) → Each NoQuery (ask_next at wish asked to_ask)
    by_next at wish None [] = tt
    by_next at wish None (to ∷ rest) = (refl, tt)
    by_next at wish (Some asked) to_ask = tt

    by_place : (o : Option Place) → Each NoQuery (ask_at o)
    by_place None = tt
    by_place (Some p) = by_next p.at p.here.wish p.here.asked p.here.to_ask

hints_none : (test : Wish → Bool) (wishes : List Wish) → Each NoQuery (hints_if test wishes)
hints_none test [] = tt
hints_none test (w ∷ wishes) = by_test (test w) (hints_none test wishes)
  where
    by_test : (t : Bool) → Each NoQuery (hints_if test wishes)
        → Each NoQuery (cond t (Hints w ∷ hints_if test wishes) (hints_if test wishes))
    by_test true later = (refl, later)
    by_test false later = later

settles_none : (id : UnitId) → BeginsNone (settles id)
settles_none id s = by_unit (find (is_free_as id) s.kept.queue.units)
  where
    by_taker : (unit : Unit) (o : Option Place) → Each NoQuery (gives s.kept unit o)
    by_taker unit None =
        each_append NoQuery (hints_if (is_first_for unit) s.kept.parked.wishes) (hints_if (is_later_for unit) s.kept.parked.wishes)
        (hints_none (is_first_for unit) s.kept.parked.wishes) (hints_none (is_later_for unit) s.kept.parked.wishes)
    by_taker unit (Some p) = (refl, tt)

    by_unit : (o : Option Placed) → Each NoQuery (settles_as s.kept o)
    by_unit None = tt
    by_unit (Some p) = by_taker p.unit (taker p.unit s.kept.parked.waiting)

acks_none : BeginsNone acks
acks_none s = by_debt s.kept.owed
  where
    by_debt : (o : Option Debt) → Each NoQuery (acks_if o)
    by_debt None = tt
    by_debt (Some d) = (refl, tt)

-- Plans.

-- the act accepts a unit
abbrev pub is_accept : Act → Bool
is_accept (Accepts unit) = true
is_accept _ = false

-- unless a put is accepted, no push begins
pub record IsCalm (p : Plan) : Type 0 where
  pub follow : is_accept p.first ≡ false → Each BeginsNone p.follow

abbrev OfRule : Option Plan → Type 0
OfRule o = IfSome o IsCalm

calm : {p : Plan} → Each BeginsNone p.follow → IsCalm p
calm each = record { follow = λ other. each }

if_calm : (test : Bool) (p : Plan) → IsCalm p → OfRule (cond test (Some p) None)
if_calm true p is = is
if_calm false p is = tt

put_calm : (unit : Unit) (is_done over : Bool)
    → IsCalm (record { first = put is_done over unit; follow = settles unit.id ∷ presses (not is_done && not over) ∷ [] })
put_calm unit true over = record { follow = λ other. (settles_none unit.id, (λ s. tt, tt)) }
put_calm unit false true = record { follow = λ other. (settles_none unit.id, (λ s. tt, tt)) }
put_calm unit false false = record { follow = λ other. absurd (cc) }

close_calm : (request : ℕ) (batch : BatchId) (accepted : ℕ) (o : Option Part) → OfRule (close request batch accepted o)
close_calm request batch accepted None = tt
close_calm request batch accepted (Some p) = calm tt

share_calm : (from : Rank) (request : ℕ) (batch : BatchId) (o : Option Part) → OfRule (share from request batch o)
share_calm from request batch None = tt
share_calm from request batch (Some p) = calm tt

fetch_calm : (from : Rank) (request : ℕ) (id : UnitId) (o : Option Placed) → OfRule (fetch from request id o)
fetch_calm from request id None = tt
fetch_calm from request id (Some p) = calm tt

pass_calm : (note : UnitNote) (o : Option Place) → OfRule (pass_at o note)
pass_calm note None = tt
pass_calm note (Some p) = by_asked p.here.asked
  where
    by_asked : (asked : Option Server) → OfRule (pass_on p asked note)
    by_asked None = tt
    by_asked (Some t) = calm tt

wake_calm : (o : Option Place) → OfRule (wake_at o)
wake_calm None = tt
wake_calm (Some p) = by_asked p.here.asked
  where
    by_asked : (asked : Option Server) → OfRule (wake p asked)
    by_asked None = tt
    by_asked (Some t) = calm (looks_none p.here.wish.rank, (asks_none p.here.wish.rank, tt))

hint_calm : (test : Bool) (from : Server) (rank : Rank) (request : ℕ) (o : Option Place)
    → OfRule (cond test (hint_at from rank request o) None)
hint_calm false from rank request o = tt
hint_calm true from rank request None = calm tt
hint_calm true from rank request (Some p) = calm (asks_none p.here.wish.rank, tt)

yes_calm : (from : Server) (id : UnitId) (push : Option StandingPush) (free : Option Placed) → OfRule (yes_at from id push free)
yes_calm from id None free = tt
yes_calm from id (Some p) free = if_calm (is_push_as from id false p) _ (calm tt)

no_calm : (from : Server) (id : UnitId) (push : Option StandingPush) → OfRule (no_at from id push)
no_calm from id None = tt
no_calm from id (Some p) = if_calm (is_push_as from id false p) _ (calm tt)

ack_calm : (from : Server) (id : UnitId) (push : Option StandingPush) → OfRule (ack_at from id push)
ack_calm from id None = tt
ack_calm from id (Some p) = if_calm (is_push_as from id true p) _ (calm tt)

token_calm : (s : ServerModel) (from : Server) (t : Token) → OfRule (token_rule s from t)
token_calm s from t = by_expected (expects (ring_at s) from t)
  where
    by_verdict : (before : Bool) (asked : List Asker) → OfRule (verdict before asked from t)
    by_verdict before [] = calm tt
    by_verdict true (first ∷ more) = calm tt
    by_verdict false (first ∷ more) = calm (idle_none ends_by.Exhausted, tt)

    by_wave : (first : Bool) (a : Act) → OfRule (cond first (plan a []) (verdict s.kept.exhausted t.asked from t))
    by_wave true a = calm tt
    by_wave false a = by_verdict s.kept.exhausted t.asked

    by_other : (first : Bool) (a b : Act) → OfRule (cond first (plan a []) (plan b []))
    by_other true a b = calm tt
    by_other false a b = calm tt

    by_me : (zero_here : Bool) → OfRule (cond zero_here (visit_zeroth s from t) (visit_other s from t))
    by_me true = by_wave (t.wave == 1) (tests_now s from t)
    by_me false = by_other (t.wave == 1) (marks (is_quiet s) from t) (tests_now s from t)

    by_expected : (b : Bool) → OfRule (cond b (visit s from t) None)
    by_expected true = by_me (s.me.0 == 0)
    by_expected false = tt

server_calm : (s : ServerModel) (from : Server) (m : Message) → OfRule (server_rule s from m)
server_calm s from (tells.Ask rank request types) = if_calm _ _ (calm tt)
server_calm s from (tells.AskGrant rank request note) = pass_calm note (place_in (has_asked from rank request) s.kept.parked.waiting)
server_calm s from (tells.AskNone rank request) = wake_calm (place_in (has_asked from rank request) s.kept.parked.waiting)
server_calm s from (tells.Hint rank request) =
    hint_calm (expects_hint s rank) from rank request (place_in (is_since rank request) s.kept.parked.waiting)
server_calm s from (tells.PushQuery id length) = if_calm _ _ (calm tt)
server_calm s from (tells.PushYes id) = yes_calm from id s.kept.pushing.push (find (is_free_as id) s.kept.queue.units)
server_calm s from (tells.PushNo id) = no_calm from id s.kept.pushing.push
server_calm s from (tells.PushAck id) = ack_calm from id s.kept.pushing.push
server_calm s from (tells.PushUnit unit) = if_calm _ _ (calm (settles_none unit.id, (acks_none, tt)))
server_calm s from (tells.PushCancel id) = if_calm _ _ (calm tt)
server_calm s from tells.Notice = if_calm _ _ (calm tt)
server_calm s from (tells.Token t) = token_calm s from t
server_calm s from (tells.Failed t why) = if_calm _ _ (calm tt)
server_calm s from tells.Exhaust = if_calm _ _ (calm (idle_none ends_by.Exhausted, tt))
server_calm s from tells.Shutdown = if_calm _ _ (calm tt)
server_calm s from _ = tt

rule_calm : (s : ServerModel) (from : Actor) (m : Message) → OfRule (rule s from m)
rule_calm s (by.Rank from) (tells.Put unit) = if_calm _ _ (put_calm unit s.kept.done (is_over s.kept.queue unit))
rule_calm s (by.Rank from) (tells.Reserve request types) = if_calm _ _ (calm (asks_none from, tt))
rule_calm s (by.Rank from) (tells.Try request types) = calm tt
rule_calm s (by.Rank from) (tells.Fetch request id) = fetch_calm from request id (find (is_pinned_as id from) s.kept.queue.units)
rule_calm s (by.Rank from) (tells.KeepCommon request common) = if_calm _ _ (calm tt)
rule_calm s (by.Rank from) (tells.CloseBatch request batch accepted) =
    close_calm request batch accepted (part_if (can_close from batch accepted s.kept.queue.common) (part_in s.kept.parts batch))
rule_calm s (by.Rank from) (tells.FetchCommon request batch) =
    share_calm from request batch (part_if (can_fetch s.kept.queue.common) (part_in s.kept.parts batch))
rule_calm s (by.Rank from) (tells.Count request kind) = if_calm _ _ (calm tt)
rule_calm s (by.Rank from) (tells.Done request) = calm (idle_none ends_by.NoMoreWork, tt)
rule_calm s (by.Rank from) tells.Finish = if_calm _ _ (calm tt)
rule_calm s (by.Rank from) _ = tt
rule_calm s (by.Server from) m = by_self (from.0 == s.me.0)
  where
    by_self : (t : Bool) → OfRule (cond t None (server_rule s from m))
    by_self true = tt
    by_self false = server_calm s from m

-- an event: unless a put was accepted, no push begins
pub unpressed : (s : ServerModel) (from : Actor) (m : Message) (first : Act) (more : List Act) → acts s from m ≡ Some (first ∷ more)
    → is_accept first ≡ false → Each NoQuery more
unpressed s from m first more are other = by_rule (rule s from m) (rule_calm s from m) are
  where
    by_rule : (o : Option Plan) → OfRule o → option_map (in_order ends_event s) o ≡ Some (first ∷ more) → Each NoQuery more
    by_rule None fine e = absurd (cc)
    by_rule (Some p) fine e =
        let f : p.first ≡ first = cc in
        let m : decided (p.follow ++ ends_event) (done p.first s) ≡ more = cc in
        let all = each_append BeginsNone p.follow ends_event (fine.follow (ap is_accept f ∙ other)) (notices_none, (checks_none, tt)) in
        subst (Each NoQuery) m (decided_none (p.follow ++ ends_event) (done p.first s) all)
