-- Each act that may change what is free or who waits is of an event that raises the activity, or tells an end where no check runs. It is
-- carried out where the server is stirred.
use Rattle.std.proofs.Common.{◌≡◌, ◌==◌, ◌⊎◌, inl, inr, ℕ, Bool, true, false, cond, ◌&&◌, not, List, [], ◌∷◌, ◌++◌, find, Option, None}
use Rattle.std.proofs.Common.{Some, refl, sym, ap, ◌∙◌, subst}
use Rattle.std.specs.Option.{IfSome, option_map}
use Rattle.std.proofs.lemmas.Bool.{eqb-true}
use Rattle.adlb_unit.specs.declared.actors.Actor.{Actor}
use Rattle.adlb_unit.specs.declared.actors.Actor.TheVariants as by
use Rattle.adlb_unit.specs.declared.messages.Message.{Message}
use Rattle.adlb_unit.specs.declared.messages.Message.TheVariants as tells
use Rattle.adlb_unit.specs.declared.names.BatchId.{BatchId}
use Rattle.adlb_unit.specs.declared.names.Rank.{Rank}
use Rattle.adlb_unit.specs.declared.names.Server.{Server}
use Rattle.adlb_unit.specs.declared.names.UnitId.{UnitId}
use Rattle.adlb_unit.specs.declared.notes.End.{End}
use Rattle.adlb_unit.specs.declared.notes.End.TheVariants as ends_by
use Rattle.adlb_unit.specs.declared.notes.UnitNote.{UnitNote}
use Rattle.adlb_unit.specs.declared.tokens.Token.{Token}
use Rattle.adlb_unit.specs.declared.units.Unit.{Unit as Work}
use Rattle.server_components.specs.Store.{part_in}
use Rattle.server_components.specs.declared.parts.Part.{Part}
use Rattle.bag_ledger.proofs.Tests.{some_is}
use Rattle.exhaust_ring.specs.Expected.{expects, is_running}
use Rattle.exhaust_ring.specs.Ring.{Asker, may_start}
use Rattle.exhaust_ring.specs.declared.steps.RingStep.{RingStep}
use Rattle.exhaust_ring.specs.declared.steps.RingStep.TheVariants.{Ended, Exhausted, Fail, Pass, Shutdown}
use Rattle.server_components.specs.Pushes.{is_push_as, query_of}
use Rattle.server_components.specs.declared.pushing.PushQuery.{PushQuery}
use Rattle.server_components.specs.declared.standing.StandingPush.{StandingPush}
use Rattle.work_queue.specs.declared.placing.Placed.{Placed}
use Rattle.server_components.specs.Calls.{is_since}
use Rattle.server_components.specs.Parked.{is_idle, is_of}
use Rattle.server_components.specs.declared.waits.Waiting.{Waiting}
use Rattle.server_components.specs.declared.wishes.Wish.{Wish}
use Rattle.server_law.specs.Acts.{Act, Around, Checks_alone, Fails, Finds, Finds_alone, Gives_up, Heard, Hears_failed, Hears_shutdown}
use Rattle.server_law.specs.Acts.{Marks, Notes_own, Notices, Passes, Shuts, Shuts_alone, Starts, Wants, check_alone, takes}
use Rattle.server_law.specs.Asks.{expects_ask, pass_at, pass_on, wake, wake_at}
use Rattle.server_law.specs.Batches.{can_close, can_fetch, close, expects_keep, part_if, share}
use Rattle.server_law.specs.Carried.{all_done, done}
use Rattle.server_law.specs.Checks.{marks, tests_now, token_rule, verdict, visit, visit_other, visit_zeroth}
use Rattle.server_law.specs.Endings.{checks, ends_event, finds_alone, is_noted, is_quiet, notice, notices, starts, tells_all, tells_idle}
use Rattle.server_law.specs.Endings.{tells_one}
use Rattle.server_law.specs.Fetches.{fetch}
use Rattle.server_law.specs.Finding.{Place, best_for, has_asked, has_promise, is_free_as, is_pinned_as, place_in, taker}
use Rattle.server_law.specs.Hints.{expects_hint, hint_at, hints_if, is_first_for, is_later_for}
use Rattle.server_law.specs.Plan.{Decider, Plan, decided, in_order, plan}
use Rattle.server_law.specs.Presses.{presses, queries}
use Rattle.server_law.specs.Pushes.{ack_at, acks, acks_if, expects_query, expects_unit, no_at, yes_at}
use Rattle.server_law.specs.Puts.{expects_put, gives, is_taken, settles, settles_as}
use Rattle.server_law.specs.State.{Debt, ServerModel, ring_at, runs, runs_at_home}
use Rattle.server_law.specs.Step.{acts, raises, rule, server_rule}
use Rattle.server_law.specs.Waits.{ask_at, ask_next, asks_on, look_again, look_at, looks_again}
use Rattle.server_law.specs.Sure.{Sure}
use Rattle.server_law.proofs.Handled.{planned}
use Rattle.server_law.proofs.Plans.{IsPlan}
use Rattle.server_law.proofs.Starting.{may_is}
use Rattle.core_law.specs.OnLinks.{Each}
use Rattle.core_law.proofs.Checking.{check_ended}
use Rattle.core_law.proofs.UnderWay.{each_append}
use Rattle.core_check_law.proofs.Classes.{marks_new}
use Rattle.core_check_law.proofs.LoudActs.{IsStirred, is_loud}
use Rattle.core_check_law.proofs.Ticks.{off_stirs, stirred_stays}

-- Acts one after the other.

-- each loud act of these is carried out where the server is stirred
abbrev pub AreStirred : List Act → ServerModel → Type 0
AreStirred [] s = Unit {0}
AreStirred (a ∷ more) s = (is_loud a ≡ true → IsStirred s) × AreStirred more (done a s)

-- acts that take no mark
abbrev TakeNoMark : List Act → Type 0
TakeNoMark list = Each (λ a. marks_new a ≡ false) list

-- where the server is stirred, it stays so through these
stirred_all : (list : List Act) (s : ServerModel) → TakeNoMark list → IsStirred s → AreStirred list s × IsStirred (all_done list s)
stirred_all [] s none stirred = (tt, stirred)
stirred_all (a ∷ more) s none stirred =
    let later = stirred_all more (done a s) none.1 (stirred_stays a s none.0 stirred) in ((λ loud. stirred, later.0), later.1)

joined : (xs ys : List Act) (s : ServerModel) → AreStirred xs s → AreStirred ys (all_done xs s) → AreStirred (xs ++ ys) s
joined [] ys s first then = then
joined (a ∷ xs) ys s first then = (first.0, joined xs ys (done a s) first.1 then)

-- What follows each event.

told_no_mark : (end : End) (before behind : List Waiting) → TakeNoMark (tells_all end before behind)
told_no_mark end before [] = tt
told_no_mark end before (e ∷ behind) =
    by_asked e.asked (told_no_mark end before behind) (told_no_mark end (before ++ e ∷ []) behind)
  where
    by_asked : (o : Option Server) → TakeNoMark (tells_all end before behind) → TakeNoMark (tells_all end (before ++ e ∷ []) behind)
        → TakeNoMark (tells_one end (record { before = before; behind = behind }) e o (tells_all end before behind)
        (tells_all end (before ++ e ∷ []) behind))
    by_asked None told passed = (refl, told)
    by_asked (Some t) told passed = passed

-- a decider that takes no mark
abbrev TakesNoMark : Decider → Type 0
TakesNoMark d = (s : ServerModel) → TakeNoMark (d s)

abbrev EachTakesNoMark : List Decider → Type 0
EachTakesNoMark ds = Each TakesNoMark ds

tells_idle_marks_none : (end : End) → TakesNoMark (tells_idle end)
tells_idle_marks_none end s = told_no_mark end [] s.kept.parked.waiting

hints_mark_none : (test : Wish → Bool) (wishes : List Wish) → TakeNoMark (hints_if test wishes)
hints_mark_none test [] = tt
hints_mark_none test (w ∷ wishes) = by_test (hints_mark_none test wishes) (test w) refl
  where
    by_test : TakeNoMark (hints_if test wishes) → (t : Bool) → test w ≡ t → TakeNoMark (hints_if test (w ∷ wishes))
    by_test later true is = rw is (refl, later)
    by_test later false is = rw is later

settles_marks_none : (id : UnitId) → TakesNoMark (settles id)
settles_marks_none id s = by_unit (find (is_free_as id) s.kept.queue.units)
  where
    by_taker : (unit : Work) (o : Option Place) → TakeNoMark (gives s.kept unit o)
    by_taker unit None =
        each_append (λ a. marks_new a ≡ false) (hints_if (is_first_for unit) s.kept.parked.wishes)
        (hints_if (is_later_for unit) s.kept.parked.wishes) (hints_mark_none (is_first_for unit) s.kept.parked.wishes)
        (hints_mark_none (is_later_for unit) s.kept.parked.wishes)
    by_taker unit (Some p) = (refl, tt)

    by_unit : (o : Option Placed) → TakeNoMark (settles_as s.kept o)
    by_unit None = tt
    by_unit (Some p) = by_taker p.unit (taker p.unit s.kept.parked.waiting)

presses_mark_none : (taken : Bool) → TakesNoMark (presses taken)
presses_mark_none false s = tt
presses_mark_none true s = by_query (query_of s.config s.me s.kept.pushing s.kept.queue)
  where
    by_query : (o : Option PushQuery) → TakeNoMark (queries o)
    by_query None = tt
    by_query (Some q) = (refl, tt)

acks_mark_none : TakesNoMark acks
acks_mark_none s = by_debt s.kept.owed
  where
    by_debt : (o : Option Debt) → TakeNoMark (acks_if o)
    by_debt None = tt
    by_debt (Some d) = (refl, tt)

asks_on_marks_none : (rank : Rank) → TakesNoMark (asks_on rank)
asks_on_marks_none rank s = by_place (place_in (is_of rank) s.kept.parked.waiting)
  where
    by_asked : (at : Around) (wish : Wish) (asked : Option Server) (to_ask : List Server) → TakeNoMark (ask_next at wish asked to_ask)
    by_asked at wish None [] = tt
    by_asked at wish None (to ∷ rest) = (refl, tt)
    by_asked at wish (Some t) to_ask = tt

    by_place : (o : Option Place) → TakeNoMark (ask_at o)
    by_place None = tt
    by_place (Some p) = by_asked p.at p.here.wish p.here.asked p.here.to_ask

looks_again_marks_none : (rank : Rank) → TakesNoMark (looks_again rank)
looks_again_marks_none rank s = by_place (place_in (λ e. is_of rank e && is_idle e) s.kept.parked.waiting)
  where
    by_tests : (is_done used_up : Bool) (best : Option Placed) (at : Around) (wish : Wish) (rest : List Server)
        → TakeNoMark (look_again is_done used_up best at wish rest)
    by_tests true used_up best at wish rest = (refl, tt)
    by_tests false true best at wish rest = (refl, tt)
    by_tests false false (Some p) at wish rest = (refl, tt)
    by_tests false false None at wish rest = tt

    by_place : (o : Option Place) → TakeNoMark (look_at s.kept o)
    by_place None = tt
    by_place (Some p) = by_tests s.kept.done s.kept.exhausted (best_for s.kept p.here.wish) p.at p.here.wish p.here.to_ask

-- The end of each event, in every state.

notices_stirred : (s : ServerModel) → AreStirred (notices s) s
notices_stirred s = by_test (is_quiet s && not (is_noted s.kept.noted s.activity)) (s.me.0 == 0)
  where
    by_test : (t zeroth : Bool) → AreStirred (cond t (notice zeroth) []) s
    by_test true true = (λ loud. absurd (cc), tt)
    by_test true false = (λ loud. absurd (cc), tt)
    by_test false zeroth = tt

-- where a server that is alone finds that all work is used up, it tells so where no check runs
alone_stirred : (s : ServerModel) → s.config.servers ≡ 1 → s.me.0 ≡ 0 → (step : RingStep)
    → AreStirred (finds_alone step s.kept.parked.waiting) s
alone_stirred s alone zero_here Exhausted =
    let stirred = off_stirs Finds_alone s zero_here (check_ended s alone zero_here).ended in (
      λ loud. absurd (cc),
      (stirred_all (tells_all ends_by.Exhausted [] s.kept.parked.waiting) (done Finds_alone s)
          (told_no_mark ends_by.Exhausted [] s.kept.parked.waiting) stirred).0,
    )
alone_stirred s alone zero_here Shutdown = (λ loud. absurd (cc), tt)
alone_stirred s alone zero_here (Pass t) = (λ loud. absurd (cc), tt)
alone_stirred s alone zero_here (Fail t why) = (λ loud. absurd (cc), tt)
alone_stirred s alone zero_here Ended = (λ loud. absurd (cc), tt)

checks_stirred : (s : ServerModel) → AreStirred (checks s) s
checks_stirred s = by_test (may_start (ring_at s) (is_quiet s)) refl
  where
    by_servers : (step : RingStep) → s.me.0 ≡ 0 → (t : Bool) → (s.config.servers == 1) ≡ t
        → AreStirred (cond t (finds_alone step s.kept.parked.waiting) (Starts ∷ [])) s
    by_servers step zero_here true is = alone_stirred s (eqb-true s.config.servers 1 is) zero_here step
    by_servers step zero_here false is = (λ loud. absurd (cc), tt)

    by_test : (t : Bool) → may_start (ring_at s) (is_quiet s) ≡ t → AreStirred (cond t (starts s) []) s
    by_test true is =
        by_servers (check_alone s).step (may_is (ring_at s) (is_quiet s) is).zeroth (s.config.servers == 1) refl
    by_test false is = tt

ends_stirred : (s : ServerModel) → AreStirred (decided ends_event s) s
ends_stirred s =
    let u = all_done (notices s) s in
    joined (notices s) (checks u ++ []) s (notices_stirred s) (joined (checks u) [] u (checks_stirred u) tt)

-- The acts of a plan.

-- no decider takes a mark; and where the letter does not raise the activity none follows, but where exhaustion is found
pub record IsStirring (message : Message) (p : Plan) : Type 0 where
  pub none : EachTakesNoMark p.follow
  pub few : raises message ≡ false → (p.follow ≡ []) ⊎ ((from : Server) × (t : Token) × (p.first ≡ Finds from t))

abbrev OfRule : Message → Option Plan → Type 0
OfRule message o = IfSome o (IsStirring message)

-- of a letter that raises the activity
raising : {message : Message} {p : Plan} → raises message ≡ true → EachTakesNoMark p.follow → IsStirring message p
raising up none = record { none = none; few = λ down. absurd (cc) }

-- nothing follows
alone_first : {message : Message} {p : Plan} → p.follow ≡ [] → IsStirring message p
alone_first {p = p} nothing = record { none = subst (λ ds. EachTakesNoMark ds) (sym nothing) tt; few = λ down. inl nothing }

if_stirring : (message : Message) (test : Bool) (p : Plan) → IsStirring message p → OfRule message (cond test (Some p) None)
if_stirring message true p is = is
if_stirring message false p is = tt

fetch_stirring : (from : Rank) (request : ℕ) (id : UnitId) (o : Option Placed) → OfRule (tells.Fetch request id) (fetch from request id o)
fetch_stirring from request id None = tt
fetch_stirring from request id (Some p) = alone_first refl

close_stirring : (request : ℕ) (batch : BatchId) (accepted : ℕ) (o : Option Part)
    → OfRule (tells.CloseBatch request batch accepted) (close request batch accepted o)
close_stirring request batch accepted None = tt
close_stirring request batch accepted (Some p) = alone_first refl

share_stirring : (from : Rank) (request : ℕ) (batch : BatchId) (o : Option Part)
    → OfRule (tells.FetchCommon request batch) (share from request batch o)
share_stirring from request batch None = tt
share_stirring from request batch (Some p) = alone_first refl

pass_stirring : (rank : Rank) (request : ℕ) (note : UnitNote) (o : Option Place)
    → OfRule (tells.AskGrant rank request note) (pass_at o note)
pass_stirring rank request note None = tt
pass_stirring rank request note (Some p) = by_asked p.here.asked
  where
    by_asked : (asked : Option Server) → OfRule (tells.AskGrant rank request note) (pass_on p asked note)
    by_asked None = tt
    by_asked (Some t) = alone_first refl

wake_stirring : (rank : Rank) (request : ℕ) (o : Option Place) → OfRule (tells.AskNone rank request) (wake_at o)
wake_stirring rank request None = tt
wake_stirring rank request (Some p) = by_asked p.here.asked
  where
    by_asked : (asked : Option Server) → OfRule (tells.AskNone rank request) (wake p asked)
    by_asked None = tt
    by_asked (Some t) = raising refl (looks_again_marks_none p.here.wish.rank, (asks_on_marks_none p.here.wish.rank, tt))

hint_stirring : (test : Bool) (from : Server) (rank : Rank) (request : ℕ) (o : Option Place)
    → OfRule (tells.Hint rank request) (cond test (hint_at from rank request o) None)
hint_stirring false from rank request o = tt
hint_stirring true from rank request None = alone_first refl
hint_stirring true from rank request (Some p) = raising refl (asks_on_marks_none p.here.wish.rank, tt)

yes_stirring : (from : Server) (id : UnitId) (push : Option StandingPush) (free : Option Placed)
    → OfRule (tells.PushYes id) (yes_at from id push free)
yes_stirring from id None free = tt
yes_stirring from id (Some p) free = if_stirring (tells.PushYes id) (is_push_as from id false p) _ (alone_first refl)

no_stirring : (from : Server) (id : UnitId) (push : Option StandingPush) → OfRule (tells.PushNo id) (no_at from id push)
no_stirring from id None = tt
no_stirring from id (Some p) = if_stirring (tells.PushNo id) (is_push_as from id false p) _ (alone_first refl)

ack_stirring : (from : Server) (id : UnitId) (push : Option StandingPush) → OfRule (tells.PushAck id) (ack_at from id push)
ack_stirring from id None = tt
ack_stirring from id (Some p) = if_stirring (tells.PushAck id) (is_push_as from id true p) _ (alone_first refl)

-- A token.

token_stirring : (s : ServerModel) (from : Server) (t : Token) → OfRule (tells.Token t) (token_rule s from t)
token_stirring s from t = by_expected (expects (ring_at s) from t)
  where
    by_verdict : (before : Bool) (asked : List Asker) → OfRule (tells.Token t) (verdict before asked from t)
    by_verdict before [] = alone_first refl
    by_verdict true (first ∷ more) = alone_first refl
    by_verdict false (first ∷ more) =
        record { none = (tells_idle_marks_none ends_by.Exhausted, tt); few = λ down. inr (from, t, refl) }

    by_wave : (first : Bool) (a : Act) → OfRule (tells.Token t) (cond first (plan a []) (verdict s.kept.exhausted t.asked from t))
    by_wave true a = alone_first refl
    by_wave false a = by_verdict s.kept.exhausted t.asked

    by_other : (first : Bool) (a b : Act) → OfRule (tells.Token t) (cond first (plan a []) (plan b []))
    by_other true a b = alone_first refl
    by_other false a b = alone_first refl

    by_me : (zero_here : Bool) → OfRule (tells.Token t) (cond zero_here (visit_zeroth s from t) (visit_other s from t))
    by_me true = by_wave (t.wave == 1) (tests_now s from t)
    by_me false = by_other (t.wave == 1) (marks (is_quiet s) from t) (tests_now s from t)

    by_expected : (b : Bool) → OfRule (tells.Token t) (cond b (visit s from t) None)
    by_expected true = by_me (s.me.0 == 0)
    by_expected false = tt

-- Each rule.

server_stirring : (s : ServerModel) (from : Server) (message : Message) → OfRule message (server_rule s from message)
server_stirring s from (tells.Ask rank request types) =
    if_stirring (tells.Ask rank request types) (expects_ask s from rank) _ (alone_first refl)
server_stirring s from (tells.AskGrant rank request note) =
    pass_stirring rank request note (place_in (has_asked from rank request) s.kept.parked.waiting)
server_stirring s from (tells.AskNone rank request) =
    wake_stirring rank request (place_in (has_asked from rank request) s.kept.parked.waiting)
server_stirring s from (tells.Hint rank request) =
    hint_stirring (expects_hint s rank) from rank request (place_in (is_since rank request) s.kept.parked.waiting)
server_stirring s from (tells.PushQuery id length) = if_stirring (tells.PushQuery id length) (expects_query s.kept id) _ (alone_first refl)
server_stirring s from (tells.PushYes id) = yes_stirring from id s.kept.pushing.push (find (is_free_as id) s.kept.queue.units)
server_stirring s from (tells.PushNo id) = no_stirring from id s.kept.pushing.push
server_stirring s from (tells.PushAck id) = ack_stirring from id s.kept.pushing.push
server_stirring s from (tells.PushUnit unit) =
    if_stirring (tells.PushUnit unit) (expects_unit s.kept unit) _ (raising refl (settles_marks_none unit.id, (acks_mark_none, tt)))
server_stirring s from (tells.PushCancel id) = if_stirring (tells.PushCancel id) (has_promise id s.kept.queue.promises) _ (alone_first refl)
server_stirring s from tells.Notice = if_stirring tells.Notice (s.me.0 == 0) _ (alone_first refl)
server_stirring s from (tells.Token t) = token_stirring s from t
server_stirring s from (tells.Failed t why) = if_stirring (tells.Failed t why) (is_running (ring_at s) t) _ (alone_first refl)
server_stirring s from tells.Exhaust =
    if_stirring tells.Exhaust (from.0 == 0) _ (raising refl (tells_idle_marks_none ends_by.Exhausted, tt))
server_stirring s from tells.Shutdown = if_stirring tells.Shutdown (from.0 == 0) _ (alone_first refl)
server_stirring s from _ = tt

rule_stirring : (s : ServerModel) (from : Actor) (message : Message) → OfRule message (rule s from message)
rule_stirring s (by.Rank from) (tells.Put unit) =
    if_stirring (tells.Put unit) (expects_put s from unit) _
    (raising refl (settles_marks_none unit.id, (presses_mark_none (is_taken s.kept unit), tt)))
rule_stirring s (by.Rank from) (tells.Reserve request types) =
    if_stirring (tells.Reserve request types) (runs_at_home s from) _ (raising refl (asks_on_marks_none from, tt))
rule_stirring s (by.Rank from) (tells.Try request types) = alone_first refl
rule_stirring s (by.Rank from) (tells.Fetch request id) = fetch_stirring from request id (find (is_pinned_as id from) s.kept.queue.units)
rule_stirring s (by.Rank from) (tells.KeepCommon request common) =
    if_stirring (tells.KeepCommon request common) (expects_keep s from request common) _ (alone_first refl)
rule_stirring s (by.Rank from) (tells.CloseBatch request batch accepted) =
    close_stirring request batch accepted (part_if (can_close from batch accepted s.kept.queue.common) (part_in s.kept.parts batch))
rule_stirring s (by.Rank from) (tells.FetchCommon request batch) =
    share_stirring from request batch (part_if (can_fetch s.kept.queue.common) (part_in s.kept.parts batch))
rule_stirring s (by.Rank from) (tells.Count request kind) =
    if_stirring (tells.Count request kind) (runs_at_home s from) _ (alone_first refl)
rule_stirring s (by.Rank from) (tells.Done request) = raising refl (tells_idle_marks_none ends_by.NoMoreWork, tt)
rule_stirring s (by.Rank from) tells.Finish = if_stirring tells.Finish (runs s.kept from) _ (alone_first refl)
rule_stirring s (by.Rank from) _ = tt
rule_stirring s (by.Server from) message = by_self (from.0 == s.me.0)
  where
    by_self : (t : Bool) → OfRule message (cond t None (server_rule s from message))
    by_self true = tt
    by_self false = server_stirring s from message

-- The first act.

first_raises : List Heard → Bool
first_raises [] = false
first_raises (h ∷ more) = raises h.message

-- an act whose letter does not raise the activity is one of the ring
first_soft : (a : Act) (h : Heard) → takes a ≡ h ∷ [] → raises h.message ≡ false → is_loud a ≡ false
unfolding first_raises
first_soft Notices h is down = refl
first_soft Notes_own h is down = refl
first_soft (Wants from) h is down = refl
first_soft Starts h is down = refl
first_soft (Marks from t) h is down = refl
first_soft (Passes from t) h is down = refl
first_soft (Fails from t why) h is down = refl
first_soft (Gives_up from t) h is down = refl
first_soft (Hears_failed from t why) h is down = refl
first_soft (Finds from t) h is down = refl
first_soft (Shuts from t) h is down = refl
first_soft (Hears_shutdown from) h is down = refl
first_soft Finds_alone h is down = refl
first_soft Shuts_alone h is down = refl
first_soft Checks_alone h is down = refl
first_soft _ h is down = let e = ap first_raises is in absurd (cc)

-- one whose letter does takes no mark
first_marks_none : (a : Act) (h : Heard) → takes a ≡ h ∷ [] → raises h.message ≡ true → marks_new a ≡ false
unfolding first_raises
first_marks_none Starts h is up = absurd (cc)
first_marks_none (Marks from t) h is up = let e = ap first_raises is in absurd (cc)
first_marks_none Finds_alone h is up = absurd (cc)
first_marks_none Shuts_alone h is up = absurd (cc)
first_marks_none Checks_alone h is up = absurd (cc)
first_marks_none _ h is up = refl

-- All acts of an event.

-- what is decided where the server is stirred, and then the end of the event
decided_stirred : (ds : List Decider) (s : ServerModel) → EachTakesNoMark ds → IsStirred s → AreStirred (decided (ds ++ ends_event) s) s
decided_stirred [] s none stirred = ends_stirred s
decided_stirred (d ∷ ds) s none stirred =
    let first = stirred_all (d s) s (none.0 s) stirred in
    joined (d s) (decided (ds ++ ends_event) (all_done (d s) s)) s first.0 (decided_stirred ds (all_done (d s) s) none.1 first.1)

plan_stirred : (s : ServerModel) (from : Actor) (message : Message) (p : Plan) → IsPlan s from message p → IsStirring message p
    → (raises message ≡ true → IsStirred s) → AreStirred (in_order ends_event s p) s
plan_stirred s from message p is stirring stirred = by_raised (raises message) refl
  where
    t : ServerModel
    t = done p.first s

    heard : Heard
    heard = record { from = from; message = message }

    finds_zeroth : (a : Act) → (from : Server) → (t : Token) → a ≡ Finds from t → Sure a s → IsStirred (done a s)
    finds_zeroth a from t same sure =
        let its : Sure (Finds from t) s = subst (λ (a : Act). Sure a s) same sure in
        subst (λ (a : Act). IsStirred (done a s)) (sym same) (off_stirs (Finds from t) s its.0.running.zeroth refl)

    by_few : (p.follow ≡ []) ⊎ ((from : Server) × (t : Token) × (p.first ≡ Finds from t))
        → AreStirred (decided (p.follow ++ ends_event) t) t
    by_few (inl nothing) = subst (λ ds. AreStirred (decided (ds ++ ends_event) t) t) (sym nothing) (ends_stirred t)
    by_few (inr finds) = decided_stirred p.follow t stirring.none (finds_zeroth p.first finds.0 finds.1 finds.2 is.sure)

    by_raised : (up : Bool) → raises message ≡ up → AreStirred (in_order ends_event s p) s
    by_raised true up =
        let here = stirred up in
        let then = stirred_stays p.first s (first_marks_none p.first heard is.takes up) here in
        (λ loud. here, decided_stirred p.follow t stirring.none then)
    by_raised false down =
        let soft = first_soft p.first heard is.takes down in
        (λ loud. let no : true ≡ false = sym loud ∙ soft in absurd (cc), by_few (stirring.few down))

-- the loud acts of an event are carried out where the server is stirred
pub acts_stirred : (s : ServerModel) (from : Actor) (message : Message) (list : List Act) → acts s from message ≡ Some list
    → (raises message ≡ true → IsStirred s) → AreStirred list s
acts_stirred s from message list is stirred = by_plan (rule s from message) (planned s from message) (rule_stirring s from message) is
  where
    by_plan : (o : Option Plan) → IfSome o (IsPlan s from message) → OfRule message o → option_map (in_order ends_event s) o ≡ Some list
        → AreStirred list s
    by_plan None plan stirring is = absurd (cc)
    by_plan (Some p) plan stirring is =
        subst (λ (l : List Act). AreStirred l s) (some_is is) (plan_stirred s from message p plan stirring stirred)
