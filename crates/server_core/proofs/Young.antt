-- No act of a letter's rule starts a check: as the event ends, fewer checks were started than there are stamps.
use Rattle.std.proofs.Common.{◌≡◌, ◌<◌, ◌==◌, Bool, true, false, cond, ◌&&◌, List, [], ◌∷◌, ◌++◌, find, Option, None, Some, refl, sym, ap}
use Rattle.std.proofs.Common.{◌∙◌, subst}
use Rattle.std.specs.Option.{IfSome}
use Rattle.adlb_unit.specs.declared.actors.Actor.{Actor}
use Rattle.adlb_unit.specs.declared.actors.Actor.TheVariants as by
use Rattle.adlb_unit.specs.declared.messages.Message.{Message}
use Rattle.adlb_unit.specs.declared.messages.Message.TheVariants as tells
use Rattle.adlb_unit.specs.declared.names.Rank.{Rank}
use Rattle.adlb_unit.specs.declared.names.Server.{Server}
use Rattle.adlb_unit.specs.declared.names.UnitId.{UnitId}
use Rattle.adlb_unit.specs.declared.notes.End.{End}
use Rattle.adlb_unit.specs.declared.units.Unit.{Unit as Work}
use Rattle.server_components.specs.Store.{part_in}
use Rattle.server_components.specs.declared.parts.Part.{Part}
use Rattle.exhaust_ring.specs.Expected.{expects, is_running}
use Rattle.exhaust_ring.specs.Ring.{Asker}
use Rattle.server_components.specs.Pushes.{is_push_as, query_of}
use Rattle.server_components.specs.declared.pushing.PushQuery.{PushQuery}
use Rattle.server_components.specs.declared.standing.StandingPush.{StandingPush}
use Rattle.server_components.specs.Calls.{is_since}
use Rattle.server_components.specs.Parked.{is_idle, is_of}
use Rattle.server_components.specs.declared.waits.Waiting.{Waiting}
use Rattle.server_components.specs.declared.wishes.Wish.{Wish}
use Rattle.work_queue.specs.declared.placing.Placed.{Placed}
use Rattle.server_law.specs.Acts.{Act, Around, Checks_alone, Ends_push, Fails, Finds_alone, Heard, Hints, ServerSaying, Shuts_alone, Starts}
use Rattle.server_law.specs.Acts.{Stops_push, does, says, takes}
use Rattle.server_law.specs.Asks.{expects_ask, pass_at, pass_on, wake, wake_at}
use Rattle.server_law.specs.Batches.{can_close, can_fetch, close, expects_keep, part_if, share}
use Rattle.server_law.specs.Carried.{Served, all_counted, all_done, counted, done}
use Rattle.server_law.specs.Checks.{marks, tests_now, verdict}
use Rattle.server_law.specs.Endings.{is_quiet, tells_all, tells_one}
use Rattle.server_law.specs.Fetches.{fetch}
use Rattle.server_law.specs.Finding.{Place, best_for, has_asked, has_promise, is_free_as, is_pinned_as, place_in, taker}
use Rattle.server_law.specs.Hints.{expects_hint, hint_at, hints_if, is_first_for, is_later_for}
use Rattle.server_law.specs.Plan.{Decider, Plan, decided, plan}
use Rattle.server_law.specs.Presses.{presses, queries}
use Rattle.server_law.specs.Pushes.{ack_at, acks, acks_if, expects_query, expects_unit, no_at, sends, yes_at}
use Rattle.server_law.specs.Puts.{expects_put, gives, is_taken, settles, settles_as}
use Rattle.server_law.specs.State.{Debt, Kept, ServerModel, ring_at, runs, runs_at_home}
use Rattle.server_law.specs.Step.{rank_rule, rule, server_rule}
use Rattle.server_law.specs.Waits.{ask_at, ask_next, asks_on, look_again, look_at, looks_again}
use Rattle.server_law.proofs.Carrying.{carried_state}
use Rattle.server_law.proofs.Handled.{planned as rule_plans}
use Rattle.server_law.proofs.Plans.{IsPlan}
use Rattle.server_law.proofs.Waiters.{done_kept}
use Rattle.server_core.specs.Out.{Out, made, planned}

-- Acts.

abbrev starts_no_check : Act → Bool
starts_no_check Starts = false
starts_no_check Finds_alone = false
starts_no_check Shuts_alone = false
starts_no_check Checks_alone = false
starts_no_check _ = true

-- an act that takes a letter starts none
taker_starts_no_check : (a : Act) (h : Heard) → takes a ≡ h ∷ [] → starts_no_check a ≡ true
taker_starts_no_check Starts h takes = absurd (cc)
taker_starts_no_check Finds_alone h takes = absurd (cc)
taker_starts_no_check Shuts_alone h takes = absurd (cc)
taker_starts_no_check Checks_alone h takes = absurd (cc)
taker_starts_no_check _ h takes = refl

act_keeps : (a : Act) (s : ServerModel) → starts_no_check a ≡ true → (does a s).kept.ring.check ≡ s.kept.ring.check
act_keeps Starts s none = absurd (cc)
act_keeps Finds_alone s none = absurd (cc)
act_keeps Shuts_alone s none = absurd (cc)
act_keeps Checks_alone s none = absurd (cc)
act_keeps (Fails from t why) s none = by_wave (t.wave == 2)
  where
    by_wave : (b : Bool) → (cond b (record s.kept.ring { tested = true }) s.kept.ring).check ≡ s.kept.ring.check
    by_wave true = refl
    by_wave false = refl
act_keeps _ s none = refl

counted_clock : (s : ServerModel) (list : List ServerSaying) → (all_counted s list).clock ≡ s.clock
counted_clock s [] = refl
counted_clock s (x ∷ list) = counted_clock (counted s x.to) list

abbrev StartNoCheck : List Act → Type 0
StartNoCheck [] = Unit {0}
StartNoCheck (a ∷ more) = (starts_no_check a ≡ true) × StartNoCheck more

acts_keep : (list : List Act) (s : ServerModel) → StartNoCheck list
    → ((all_done list s).kept.ring.check ≡ s.kept.ring.check) × ((all_done list s).clock ≡ s.clock)
acts_keep [] s none = (refl, refl)
acts_keep (a ∷ more) s none =
    let later = acts_keep more (done a s) none.1 in (
      later.0 ∙ ap (λ (k : Kept). k.ring.check) (done_kept a s) ∙ act_keeps a s none.0,
      later.1 ∙ counted_clock (does a s) (says a s),
    )

joined : (xs ys : List Act) → StartNoCheck xs → StartNoCheck ys → StartNoCheck (xs ++ ys)
joined [] ys first then = then
joined (x ∷ xs) ys first then = (first.0, joined xs ys first.1 then)

-- Deciders.

abbrev EachStartsNoCheck : List Decider → Type 0
EachStartsNoCheck [] = Unit {0}
EachStartsNoCheck (d ∷ ds) = ((s : ServerModel) → StartNoCheck (d s)) × EachStartsNoCheck ds

decided_none : (ds : List Decider) (s : ServerModel) → EachStartsNoCheck ds → StartNoCheck (decided ds s)
decided_none [] s each = tt
decided_none (d ∷ ds) s each = joined (d s) (decided ds (all_done (d s) s)) (each.0 s) (decided_none ds (all_done (d s) s) each.1)

hints_none : (test : Wish → Bool) (wishes : List Wish) → StartNoCheck (hints_if test wishes)
hints_none test [] = tt
hints_none test (w ∷ wishes) = by_test (test w) (hints_none test wishes)
  where
    by_test : (b : Bool) → StartNoCheck (hints_if test wishes)
        → StartNoCheck (cond b (Hints w ∷ hints_if test wishes) (hints_if test wishes))
    by_test true others = (refl, others)
    by_test false others = others

settles_none : (id : UnitId) (s : ServerModel) → StartNoCheck (settles id s)
settles_none id s = by_unit (find (is_free_as id) s.kept.queue.units)
  where
    by_taker : (unit : Work) (o : Option Place) → StartNoCheck (gives s.kept unit o)
    by_taker unit None =
        joined (hints_if (is_first_for unit) s.kept.parked.wishes) (hints_if (is_later_for unit) s.kept.parked.wishes)
        (hints_none (is_first_for unit) s.kept.parked.wishes) (hints_none (is_later_for unit) s.kept.parked.wishes)
    by_taker unit (Some p) = (refl, tt)

    by_unit : (o : Option Placed) → StartNoCheck (settles_as s.kept o)
    by_unit None = tt
    by_unit (Some p) = by_taker p.unit (taker p.unit s.kept.parked.waiting)

presses_none : (taken : Bool) (s : ServerModel) → StartNoCheck (presses taken s)
presses_none false s = tt
presses_none true s = by_query (query_of s.config s.me s.kept.pushing s.kept.queue)
  where
    by_query : (o : Option PushQuery) → StartNoCheck (queries o)
    by_query None = tt
    by_query (Some q) = (refl, tt)

acks_none : (s : ServerModel) → StartNoCheck (acks s)
acks_none s = by_debt s.kept.owed
  where
    by_debt : (o : Option Debt) → StartNoCheck (acks_if o)
    by_debt None = tt
    by_debt (Some d) = (refl, tt)

asks_none : (rank : Rank) (s : ServerModel) → StartNoCheck (asks_on rank s)
asks_none rank s = by_place (place_in (is_of rank) s.kept.parked.waiting)
  where
    by_asked : (at : Around) (wish : Wish) (asked : Option Server) (to_ask : List Server) → StartNoCheck (ask_next at wish asked to_ask)
    by_asked at wish None [] = tt
    by_asked at wish None (to ∷ rest) = (refl, tt)
    by_asked at wish (Some asked) to_ask = tt

    by_place : (o : Option Place) → StartNoCheck (ask_at o)
    by_place None = tt
    by_place (Some p) = by_asked p.at p.here.wish p.here.asked p.here.to_ask

looks_none : (rank : Rank) (s : ServerModel) → StartNoCheck (looks_again rank s)
looks_none rank s = by_place (place_in (λ e. is_of rank e && is_idle e) s.kept.parked.waiting)
  where
    by_case : (is_done exhausted : Bool) (best : Option Placed) (at : Around) (wish : Wish) (rest : List Server)
        → StartNoCheck (look_again is_done exhausted best at wish rest)
    by_case true exhausted best at wish rest = (refl, tt)
    by_case false true best at wish rest = (refl, tt)
    by_case false false (Some p) at wish rest = (refl, tt)
    by_case false false None at wish rest = tt

    by_place : (o : Option Place) → StartNoCheck (look_at s.kept o)
    by_place None = tt
    by_place (Some p) = by_case s.kept.done s.kept.exhausted (best_for s.kept p.here.wish) p.at p.here.wish p.here.to_ask

tells_none : (end : End) (before waiting : List Waiting) → StartNoCheck (tells_all end before waiting)
tells_none end before [] = tt
tells_none end before (e ∷ behind) =
    by_asked e.asked (tells_all end before behind) (tells_all end (before ++ e ∷ []) behind)
    (tells_none end before behind) (tells_none end (before ++ e ∷ []) behind)
  where
    by_asked : (o : Option Server) (told passed : List Act) → StartNoCheck told → StartNoCheck passed
        → StartNoCheck (tells_one end (record { before = before; behind = behind }) e o told passed)
    by_asked None told passed first then = (refl, first)
    by_asked (Some t) told passed first then = then

-- Rules.

abbrev PlanStartsNoCheck : Plan → Type 0
PlanStartsNoCheck p = EachStartsNoCheck p.follow

abbrev RuleStartsNoCheck : Option Plan → Type 0
RuleStartsNoCheck o = IfSome o PlanStartsNoCheck

tested : (b : Bool) (o : Option Plan) → RuleStartsNoCheck o → RuleStartsNoCheck (cond b o None)
tested true o none = none
tested false o none = tt

rank_none : (s : ServerModel) (from : Rank) (message : Message) → RuleStartsNoCheck (rank_rule s from message)
rank_none s from (tells.Put unit) = tested (expects_put s from unit) _ (settles_none unit.id, (presses_none (is_taken s.kept unit), tt))
rank_none s from (tells.Reserve request types) = tested (runs_at_home s from) _ (asks_none from, tt)
rank_none s from (tells.Try request types) = tt
rank_none s from (tells.Fetch request id) = by_unit (find (is_pinned_as id from) s.kept.queue.units)
  where
    by_unit : (o : Option Placed) → RuleStartsNoCheck (fetch from request id o)
    by_unit None = tt
    by_unit (Some p) = tt
rank_none s from (tells.KeepCommon request common) = tested (expects_keep s from request common) _ tt
rank_none s from (tells.CloseBatch request batch accepted) =
    by_part (part_if (can_close from batch accepted s.kept.queue.common) (part_in s.kept.parts batch))
  where
    by_part : (o : Option Part) → RuleStartsNoCheck (close request batch accepted o)
    by_part None = tt
    by_part (Some p) = tt
rank_none s from (tells.FetchCommon request batch) = by_part (part_if (can_fetch s.kept.queue.common) (part_in s.kept.parts batch))
  where
    by_part : (o : Option Part) → RuleStartsNoCheck (share from request batch o)
    by_part None = tt
    by_part (Some p) = tt
rank_none s from (tells.Count request kind) = tested (runs_at_home s from) _ tt
rank_none s from (tells.Done request) = (λ t. tells_none _ [] t.kept.parked.waiting, tt)
rank_none s from tells.Finish = tested (runs s.kept from) _ tt
rank_none s from _ = tt

server_none : (s : ServerModel) (from : Server) (message : Message) → RuleStartsNoCheck (server_rule s from message)
server_none s from (tells.Ask rank request types) = tested (expects_ask s from rank) _ tt
server_none s from (tells.AskGrant rank request note) = by_place (place_in (has_asked from rank request) s.kept.parked.waiting)
  where
    by_asked : (p : Place) (o : Option Server) → RuleStartsNoCheck (pass_on p o note)
    by_asked p None = tt
    by_asked p (Some asked) = tt

    by_place : (o : Option Place) → RuleStartsNoCheck (pass_at o note)
    by_place None = tt
    by_place (Some p) = by_asked p p.here.asked
server_none s from (tells.AskNone rank request) = by_place (place_in (has_asked from rank request) s.kept.parked.waiting)
  where
    by_asked : (p : Place) (o : Option Server) → RuleStartsNoCheck (wake p o)
    by_asked p None = tt
    by_asked p (Some asked) = (looks_none p.here.wish.rank, (asks_none p.here.wish.rank, tt))

    by_place : (o : Option Place) → RuleStartsNoCheck (wake_at o)
    by_place None = tt
    by_place (Some p) = by_asked p p.here.asked
server_none s from (tells.Hint rank request) =
    tested (expects_hint s rank) _ (by_place (place_in (is_since rank request) s.kept.parked.waiting))
  where
    by_place : (o : Option Place) → RuleStartsNoCheck (hint_at from rank request o)
    by_place None = tt
    by_place (Some p) = (asks_none p.here.wish.rank, tt)
server_none s from (tells.PushQuery id length) = tested (expects_query s.kept id) _ tt
server_none s from (tells.PushYes id) = by_push s.kept.pushing.push
  where
    by_push : (o : Option StandingPush) → RuleStartsNoCheck (yes_at from id o (find (is_free_as id) s.kept.queue.units))
    by_push None = tt
    by_push (Some p) = tested (is_push_as from id false p) (plan (sends from id p.length (find (is_free_as id) s.kept.queue.units)) []) tt
server_none s from (tells.PushNo id) = by_push s.kept.pushing.push
  where
    by_push : (o : Option StandingPush) → RuleStartsNoCheck (no_at from id o)
    by_push None = tt
    by_push (Some p) = tested (is_push_as from id false p) (plan (Stops_push from id p.length) []) tt
server_none s from (tells.PushUnit unit) = tested (expects_unit s.kept unit) _ (settles_none unit.id, (acks_none, tt))
server_none s from (tells.PushCancel id) = tested (has_promise id s.kept.queue.promises) _ tt
server_none s from (tells.PushAck id) = by_push s.kept.pushing.push
  where
    by_push : (o : Option StandingPush) → RuleStartsNoCheck (ack_at from id o)
    by_push None = tt
    by_push (Some p) = tested (is_push_as from id true p) (plan (Ends_push from id p.length) []) tt
server_none s from tells.Notice = tested (s.me.0 == 0) _ tt
server_none s from (tells.Token t) = tested (expects (ring_at s) from t) _ (by_place (s.me.0 == 0) (t.wave == 1))
  where
    by_found : (b : Bool) (asked : List Asker) → RuleStartsNoCheck (verdict b asked from t)
    by_found b [] = tt
    by_found true (a ∷ asked) = tt
    by_found false (a ∷ asked) = (λ u. tells_none _ [] u.kept.parked.waiting, tt)

    by_place : (zeroth first : Bool)
        → RuleStartsNoCheck (cond zeroth (cond first (plan (tests_now s from t) []) (verdict s.kept.exhausted t.asked from t))
        (cond first (plan (marks (is_quiet s) from t) []) (plan (tests_now s from t) [])))
    by_place true true = tt
    by_place true false = by_found s.kept.exhausted t.asked
    by_place false true = tt
    by_place false false = tt
server_none s from (tells.Failed t why) = tested (is_running (ring_at s) t) _ tt
server_none s from tells.Exhaust = tested (from.0 == 0) _ (λ t. tells_none _ [] t.kept.parked.waiting, tt)
server_none s from tells.Shutdown = tested (from.0 == 0) _ tt
server_none s from _ = tt

rule_none : (s : ServerModel) (from : Actor) (message : Message) → RuleStartsNoCheck (rule s from message)
rule_none s (by.Rank from) message = rank_none s from message
rule_none s (by.Server from) message = by_self (from.0 == s.me.0)
  where
    by_self : (b : Bool) → RuleStartsNoCheck (cond b None (server_rule s from message))
    by_self true = tt
    by_self false = server_none s from message

-- where fewer checks were started than the stamp of the event, that is so after its letter was handled
pub stays_young : (s t : ServerModel) (out mid : Out) (from : Actor) (message : Message) (p : Plan) → rule s from message ≡ Some p
    → made t mid ≡ planned out p s → s.kept.ring.check < s.clock → t.kept.ring.check < t.clock
stays_young s t out mid from message p is goes young =
    let at : IsPlan s from message p = subst (λ o. IfSome o (IsPlan s from message)) is (rule_plans s from message) in
    let none : PlanStartsNoCheck p = subst RuleStartsNoCheck is (rule_none s from message) in
    let follow = decided p.follow (done p.first s) in
    let kept = acts_keep (p.first ∷ follow) s (taker_starts_no_check p.first _ at.takes, decided_none p.follow (done p.first s) none) in
    let so = ap (λ (x : Served). x.state) goes ∙ carried_state (p.first ∷ follow) s in
    let Young : ServerModel → Type 0 = λ u. u.kept.ring.check < u.clock in
    subst Young (sym so)
    (subst (λ n. n < (all_done (p.first ∷ follow) s).clock) (sym kept.0) (subst (λ n. s.kept.ring.check < n) (sym kept.1) young))
