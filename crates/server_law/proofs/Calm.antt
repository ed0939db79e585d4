-- No free unit lies for a rank that is idle.
use Rattle.std.proofs.Common.{◌≡◌, ◌≤◌, ◌==◌, ℕ, Bool, true, false, cond, ◌&&◌, List, [], ◌∷◌, ◌++◌, length, map, Option, None, Some, Any}
use Rattle.std.proofs.Common.{refl, sym, ap, ◌∙◌, subst, arith}
use Rattle.std.specs.Prelude.{count_by, slice_get}
use Rattle.std.proofs.lemmas.Bool.{and_left, both_ways, eq-eqb}
use Rattle.std.proofs.lemmas.List.Elements.{All-push, All-weaker, All-map}
use Rattle.std.proofs.lemmas.List.Sums.{sum_by-append, sum_by-cons}
use Rattle.std.specs.Option.{IfSome, option_map}
use Rattle.adlb_unit.specs.Ids.{same_unit}
use Rattle.adlb_unit.specs.declared.actors.Actor.{Actor}
use Rattle.adlb_unit.specs.declared.actors.Actor.TheVariants as by
use Rattle.adlb_unit.specs.declared.messages.Message.{Message}
use Rattle.adlb_unit.specs.declared.messages.Message.TheVariants as tells
use Rattle.adlb_unit.specs.declared.names.Rank.{Rank}
use Rattle.adlb_unit.specs.declared.names.Server.{Server}
use Rattle.adlb_unit.specs.declared.names.UnitId.{UnitId}
use Rattle.adlb_unit.specs.declared.units.Unit.{Unit as Work}
use Rattle.adlb_unit.proofs.Same.{same_unit_from}
use Rattle.bag_ledger.proofs.Tests.{some_is}
use Rattle.server_components.specs.Store.{closed, fetched, is_due}
use Rattle.server_components.specs.declared.parts.Part.{Part}
use Rattle.work_queue.specs.Best.{IsOffered}
use Rattle.work_queue.specs.Queue.{HasNoUnit, Queue, id_of, pinned_by, with_pin, with_unit, without_common}
use Rattle.work_queue.specs.declared.placing.Placed.{Placed}
use Rattle.work_queue.proofs.Offers.{is_permitted}
use Rattle.server_components.specs.Calls.{or_else}
use Rattle.server_components.specs.Parked.{is_idle, is_of}
use Rattle.server_components.specs.Rest.{HasNoneFor}
use Rattle.server_components.specs.declared.waits.Waiting.{Waiting}
use Rattle.server_components.specs.declared.wishes.Wish.{Wish}
use Rattle.server_components.proofs.Resting.{each_not, none_granted_is, none_left, none_pinned, not_any}
use Rattle.server_law.specs.Acts.{Act, Accepts, Answers, Around, Arrives, Asks_on, Closes, Fetches, Fetches_part, Gives, Grants, Grants_try}
use Rattle.server_law.specs.Acts.{Heard, Is_hinted, Parks, Sends_unit, Wakes, comes, given_back, queue_after, takes}
use Rattle.server_law.specs.Asks.{none_rule, wake, wake_at}
use Rattle.server_law.specs.Calm.{EventsKeepCalm, StartIsCalm, WaitOnce}
use Rattle.server_law.specs.Carried.{Served, all_done, done}
use Rattle.server_law.specs.Endings.{ends_event}
use Rattle.server_law.specs.Finding.{Place, best_for, has_asked, is_idle_first, is_idle_for, permits, place_in, taker}
use Rattle.server_law.specs.Plan.{Decider, Plan, decided, in_order, plan}
use Rattle.server_law.specs.Presses.{presses}
use Rattle.server_law.specs.Pushes.{acks, expects_unit}
use Rattle.server_law.specs.Puts.{expects_put, gives, is_over, is_taken, put, put_now, settles}
use Rattle.server_law.specs.State.{Kept, ServerModel, awaiting, idle}
use Rattle.server_law.specs.Step.{acts, at_event, rule}
use Rattle.server_law.specs.Sure.{SitsIn, Sure}
use Rattle.server_law.specs.Waits.{asks_on, look_again, look_at, looks_again}
use Rattle.server_law.proofs.Carrying.{carried_state}
use Rattle.server_law.proofs.Decided.{Follow, settles_decides}
use Rattle.server_law.proofs.Places.{Takes, found_there, none_found, taker_found}
use Rattle.server_law.proofs.Settling.{free, settles_new}
use Rattle.server_law.proofs.Tests.{expects_put_says, unit_comes_says}
use Rattle.server_law.proofs.Waiters.{Each, all_done_joined, all_each, done_kept, each_after, each_all, each_append, each_both, each_gone}
use Rattle.server_law.proofs.Waiters.{each_parts, each_weaker, none_of, one}
use Rattle.server_law.proofs.Once.{Handles, follow_rest, plan_handles, step_acts}

-- No free unit for an idle rank.

abbrev Rests : Queue → Waiting → Type 0
Rests q e = e.asked ≡ None → HasNoneFor q e.wish

-- one by one
abbrev IsCalmIn : Kept → Type 0
IsCalmIn k = Each (Rests k.queue) k.parked.waiting

-- all acts but those that bring a free unit, or an idle rank
abbrev IsPeaceful : Act → Type 0
IsPeaceful (Accepts unit) = ⊥
IsPeaceful (Arrives from unit) = ⊥
IsPeaceful (Wakes at wish from rest) = ⊥
IsPeaceful _ = Unit {0}

back_none : (part : Part) (q : Queue) (w : Wish) → HasNoneFor q w → HasNoneFor (given_back part q) w
back_none part q w none = by_test (is_due part)
  where
    by_test : (t : Bool) → HasNoneFor (cond t (without_common q (length part.bytes)) q) w
    by_test true = none
    by_test false = none

none_after : (a : Act) (q : Queue) (w : Wish) → IsPeaceful a → HasNoneFor q w → HasNoneFor (queue_after a q) w
none_after (Accepts unit) q w peaceful none = absurd peaceful
none_after (Arrives from unit) q w peaceful none = absurd peaceful
none_after (Grants wish unit) q w peaceful none = none_pinned q wish.rank (Some (free unit)) w none
none_after (Grants_try wish unit) q w peaceful none = none_pinned q wish.rank (Some (free unit)) w none
none_after (Gives at wish rest unit) q w peaceful none = none_pinned q wish.rank (Some (free unit)) w none
none_after (Answers from wish unit) q w peaceful none = none_pinned q wish.rank (Some (free unit)) w none
none_after (Fetches rank request id unit) q w peaceful none = none_left q id w none
none_after (Sends_unit to length unit) q w peaceful none = none_left q unit.id w none
none_after (Closes request batch accepted part) q w peaceful none = back_none (closed accepted part) q w none
none_after (Fetches_part rank request batch part) q w peaceful none = back_none (fetched part) q w none
none_after _ q w peaceful none = none

calm_comes : (a : Act) (s : ServerModel) → IsPeaceful a → SitsIn a s → Sure a s → IsCalmIn s.kept
    → Each (Rests (queue_after a s.kept.queue)) (comes a s)
calm_comes (Parks wish) s peaceful sits sure calm = ((λ idle. none_granted_is s.kept.queue wish.rank wish.types sure.1), tt)
calm_comes (Asks_on at wish to rest) s peaceful sits sure calm = ((λ idle. absurd (cc)), tt)
calm_comes (Wakes at wish from rest) s peaceful sits sure calm = absurd peaceful
calm_comes (Is_hinted at e from) s peaceful sits sure calm =
    each_gone (Rests s.kept.queue) (Is_hinted at e from) s sits calm
calm_comes _ s peaceful sits sure calm = tt

act_calm : (a : Act) (s : ServerModel) → IsPeaceful a → SitsIn a s → Sure a s → IsCalmIn s.kept → IsCalmIn (done a s).kept
act_calm a s peaceful sits sure calm =
    let q = queue_after a s.kept.queue in
    let before = each_weaker (Rests s.kept.queue) (Rests q) s.kept.parked.waiting
    (λ e rests idle. none_after a s.kept.queue e.wish peaceful (rests idle)) calm in
    let after = each_after (Rests q) a s sits before (calm_comes a s peaceful sits sure calm) in
    subst IsCalmIn (sym (done_kept a s)) after

-- acts that follow are peaceful
follows_peaceful : (a : Act) → takes a ≡ [] → IsPeaceful a
follows_peaceful (Accepts unit) none = absurd (cc)
follows_peaceful (Arrives from unit) none = absurd (cc)
follows_peaceful (Wakes at wish from rest) none = absurd (cc)
follows_peaceful _ none = tt

follow_calm : (list : List Act) (s : ServerModel) → Follow list s → IsCalmIn s.kept → IsCalmIn (all_done list s).kept
follow_calm [] s follow calm = calm
follow_calm (a ∷ more) s follow calm =
    follow_calm more (done a s) (follow.0.2, follow.1.1) (act_calm a s (follows_peaceful a follow.1.0) follow.0.0 follow.0.1 calm)

-- A unit becomes free.

abbrev NotOffered : Wish → Placed → Type 0
NotOffered w p = IsOffered w.rank w.types p → ⊥

-- one unit more, which is not for the wish
none_more : (q : Queue) (unit : Work) (w : Wish) → HasNoneFor q w → permits unit w ≡ false → HasNoneFor (with_unit q unit) w
none_more q unit w none fails =
    not_any (IsOffered w.rank w.types) (q.units ++ free unit ∷ [])
    (All-push (NotOffered w) q.units (free unit) (each_not (IsOffered w.rank w.types) q.units none) (λ offered.
    let is : permits unit w ≡ true = is_permitted w.rank w.types unit.kind unit.target offered.1 in
    absurd (both_ways (permits unit w) fails is)))

pinned_not : (w : Wish) (id : UnitId) (rank : Rank) (p : Placed) → NotOffered w p → NotOffered w (pinned_by id rank p)
pinned_not w id rank p fails = by_test (same_unit (id_of p) id)
  where
    by_test : (t : Bool) → NotOffered w (cond t (record p { pin = Some rank }) p)
    by_test true offered = absurd (cc (offered.0))
    by_test false offered = fails offered

own_pinned_not : (w : Wish) (unit : Work) (rank : Rank) → NotOffered w (pinned_by unit.id rank (free unit))
own_pinned_not w unit rank =
    let same : same_unit unit.id unit.id ≡ true = same_unit_from unit.id unit.id refl in
    rw same (λ offered. absurd (cc (offered.0)))

-- one unit more, which was given away
none_given : (q : Queue) (unit : Work) (rank : Rank) (w : Wish) → HasNoneFor q w
    → HasNoneFor (with_pin (with_unit q unit) unit.id rank) w
none_given q unit rank w none =
    let Q : Placed → Type 0 = λ p. NotOffered w (pinned_by unit.id rank p) in
    let before = All-weaker (NotOffered w) Q (pinned_not w unit.id rank) q.units (each_not (IsOffered w.rank w.types) q.units none) in
    not_any (IsOffered w.rank w.types) (map (pinned_by unit.id rank) (q.units ++ free unit ∷ []))
    (All-map (NotOffered w) (pinned_by unit.id rank) (q.units ++ free unit ∷ [])
    (All-push Q q.units (free unit) before (own_pinned_not w unit rank)))

other_none : {X : Type 0} (o p : Option X) → or_else o p ≡ None → p ≡ None
other_none None p none = none
other_none (Some x) p none = absurd (cc)

-- a rank that is idle and does not get it
passed : (q : Queue) (unit : Work) (e : Waiting) → Rests q e → is_idle_for unit e ≡ false → Rests (with_unit q unit) e
passed q unit e rests fails idle =
    let not : permits unit e.wish ≡ false = rw idle at fails in
    none_more q unit e.wish (rests idle) not

-- what is said of the units alone
rests_same : (q r : Queue) → q.units ≡ r.units → (e : Waiting) → Rests q e → Rests r e
rests_same q r same e rests idle = subst (λ units. Any (IsOffered e.wish.rank e.wish.types) units → ⊥) same (rests idle)

-- where a unit has come, which is the only one of its id, and is settled
come_calm : (t : ServerModel) (q : Queue) (unit : Work) → HasNoUnit unit.id q.units → t.kept.queue.units ≡ q.units ++ free unit ∷ []
    → Each (Rests q) t.kept.parked.waiting → IsCalmIn (all_done (settles unit.id t) t).kept
come_calm t q unit new are calm =
    by_taker (taker unit t.kept.parked.waiting) refl (taker_found unit t.kept.parked.waiting)
  where
    waiting : List Waiting
    waiting = t.kept.parked.waiting

    by_taker : (o : Option Place) → taker unit t.kept.parked.waiting ≡ o → IfSome o (Takes unit t.kept.parked.waiting)
        → IsCalmIn (all_done (settles unit.id t) t).kept
    by_taker None none takes =
        let other = other_none (place_in (is_idle_first unit) waiting) (place_in (is_idle_for unit) waiting) none in
        let fails = each_all (λ e. is_idle_for unit e ≡ false) waiting (none_found (is_idle_for unit) waiting other) in
        let both = each_both (Rests q) (λ e. is_idle_for unit e ≡ false) waiting calm fails in
        let now = each_weaker (λ e. Rests q e × (is_idle_for unit e ≡ false)) (Rests t.kept.queue) waiting
        (λ e is. rests_same (with_unit q unit) t.kept.queue (sym are) e (passed q unit e is.0 is.1)) both in
        follow_calm (settles unit.id t) t (settles_decides unit.id t) now
    by_taker (Some p) some takes =
        let rank = p.here.wish.rank in
        let r = with_pin t.kept.queue unit.id rank in
        let before = each_weaker (Rests q) (Rests r) waiting
        (λ e rests. rests_same (with_pin (with_unit q unit) unit.id rank) r (ap (map (pinned_by unit.id rank)) (sym are)) e
        (λ idle. none_given q unit rank e.wish (rests idle))) calm in
        let parts = each_parts (Rests r) p.at.before (idle p.here.wish p.here.to_ask ∷ p.at.behind)
        (subst (Each (Rests r)) takes.stands before) in
        let now = each_append (Rests r) p.at.before p.at.behind parts.0 parts.1.1 in
        subst (λ list. IsCalmIn (all_done list t).kept) (sym (settles_new t q.units unit new are ∙ ap (gives t.kept unit) some)) now

-- A rank becomes idle.

-- where it is looked at again, beside one of the rank there is no other
woken_calm : (s : ServerModel) (at : Around) (wish : Wish) (from : Server) (rest : List Server)
    → s.kept.parked.waiting ≡ at.before ++ awaiting wish from rest ∷ at.behind → WaitOnce s → IsCalmIn s.kept
    → (let t = done (Wakes at wish from rest) s in IsCalmIn (all_done (looks_again wish.rank t) t).kept)
woken_calm s at wish from rest stands once calm =
    subst (λ o. IsCalmIn (all_done (look_at s.kept o) (done (Wakes at wish from rest) s)).kept) (sym found)
    (by_tests s.kept.done s.kept.exhausted (best_for s.kept wish) refl)
  where
    test : Waiting → Bool
    test e = is_of wish.rank e && is_idle e

    q : Queue
    q = s.kept.queue

    of_no_other : Each (λ e. is_of wish.rank e ≡ false) at.before
    of_no_other =
        let f : Waiting → ℕ = λ e. one (is_of wish.rank e) in
        let sum = sum_by-append f at.before (awaiting wish from rest ∷ at.behind) in
        let more = sum_by-cons f (awaiting wish from rest) at.behind in
        let it : one (wish.rank.0 == wish.rank.0) ≡ 1 = rw (eq-eqb wish.rank.0 wish.rank.0 refl) refl in
        let few : count_by (is_of wish.rank) (at.before ++ awaiting wish from rest ∷ at.behind) ≤ 1 = rw stands at (once wish.rank) in
        none_of (is_of wish.rank) at.before (omega arith)

    found : place_in (λ e. is_of wish.rank e && is_idle e) (at.before ++ idle wish rest ∷ at.behind)
        ≡ Some (record { at = at; here = idle wish rest })
    found =
        let P : Waiting → Type 0 = λ e. (is_of wish.rank e && is_idle e) ≡ false in
        found_there (λ e. is_of wish.rank e && is_idle e) at.before (idle wish rest) at.behind
        (all_each P at.before
        (each_weaker (λ e. is_of wish.rank e ≡ false) P at.before (λ e no. and_left (is_of wish.rank e) (is_idle e) no) of_no_other))
        (rw (eq-eqb wish.rank.0 wish.rank.0 refl) refl)

    parts : Each (Rests s.kept.queue) at.before × Each (Rests s.kept.queue) at.behind
    parts =
        let all = each_parts (Rests s.kept.queue) at.before (awaiting wish from rest ∷ at.behind)
        (subst (Each (Rests s.kept.queue)) stands calm) in
        (all.0, all.1.1)

    apart : IsCalmIn (record s.kept { parked = record s.kept.parked { waiting = at.before ++ at.behind } })
    apart = each_append (Rests s.kept.queue) at.before at.behind parts.0 parts.1

    by_tests : (is_done used_up : Bool) (best : Option Placed) → best_for s.kept wish ≡ best
        → IsCalmIn (all_done (look_again is_done used_up best at wish rest) (done (Wakes at wish from rest) s)).kept
    by_tests true used_up best found = apart
    by_tests false true best found = apart
    by_tests false false (Some p) found =
        each_weaker (Rests s.kept.queue) (Rests (with_pin s.kept.queue p.unit.id wish.rank)) (at.before ++ at.behind)
        (λ e rests idle. none_pinned s.kept.queue wish.rank (Some p) e.wish (rests idle)) apart
    by_tests false false None found =
        each_append (Rests s.kept.queue) at.before (idle wish rest ∷ at.behind) parts.0
        ((λ idle. none_granted_is s.kept.queue wish.rank wish.types found), parts.1)

-- Plans.

-- after the acts of the plan
abbrev Mends : ServerModel → Plan → Type 0
Mends s p = IsCalmIn (all_done (in_order ends_event s p) s).kept

-- if it handles the letter
abbrev Mends_by : ServerModel → Actor → Message → Plan → Type 0
Mends_by s from message p = Handles s from message p → Mends s p

-- the letter brings neither
abbrev is_mild : Actor → Message → Bool
is_mild (by.Rank from) (tells.Put unit) = false
is_mild (by.Server from) (tells.AskNone rank request) = false
is_mild (by.Server from) (tells.PushUnit unit) = false
is_mild _ _ = true

-- lists of one element are equal by that element
pub first_is : {X : Type 0} {x y : X} → x ∷ [] ≡ y ∷ [] → x ≡ y
first_is is = some_is (ap (λ l. slice_get l 0) is)

mild_is_peaceful : (a : Act) (from : Actor) (message : Message) → is_mild from message ≡ true
    → takes a ≡ record { from = from; message = message } ∷ [] → IsPeaceful a
mild_is_peaceful (Accepts unit) from message mild is =
    let loud = ap (λ (h : Heard). is_mild h.from h.message) (first_is is) in
    absurd (both_ways (is_mild from message) (sym loud) mild)
mild_is_peaceful (Arrives server unit) from message mild is =
    let loud = ap (λ (h : Heard). is_mild h.from h.message) (first_is is) in
    absurd (both_ways (is_mild from message) (sym loud) mild)
mild_is_peaceful (Wakes at wish server rest) from message mild is =
    let loud = ap (λ (h : Heard). is_mild h.from h.message) (first_is is) in
    absurd (both_ways (is_mild from message) (sym loud) mild)
mild_is_peaceful _ from message mild is = tt

peaceful_mends : (s : ServerModel) (from : Actor) (message : Message) (p : Plan) → IsPeaceful p.first → IsCalmIn s.kept
    → Mends_by s from message p
peaceful_mends s from message p peaceful calm h =
    let t = done p.first s in
    follow_calm (decided (p.follow ++ ends_event) t) t h.follow (act_calm p.first s peaceful h.sits h.sure calm)

mild_mends : (s : ServerModel) (from : Actor) (message : Message) → is_mild from message ≡ true → IsCalmIn s.kept → (o : Option Plan)
    → IfSome o (Mends_by s from message)
mild_mends s from message mild calm None = tt
mild_mends s from message mild calm (Some p) = λ h.
    peaceful_mends s from message p (mild_is_peaceful p.first from message mild h.takes) calm h

-- the first of the deciders leaves the server calm, and so do the others
first_mends : (d : Decider) (ds : List Decider) (t : ServerModel) → Follow (decided (d ∷ ds) t) t → IsCalmIn (all_done (d t) t).kept
    → IsCalmIn (all_done (decided (d ∷ ds) t) t).kept
first_mends d ds t follow calm =
    let u = all_done (d t) t in
    let rest = decided ds u in
    subst (λ (x : ServerModel). IsCalmIn x.kept) (sym (all_done_joined (d t) rest t))
    (follow_calm rest u (follow_rest (d t) rest t follow) calm)

put_mends : (s : ServerModel) (from : Actor) (unit : Work) → IsCalmIn s.kept → (is_done over taken : Bool)
    → Mends_by s from (tells.Put unit) (record { first = put is_done over unit; follow = settles unit.id ∷ presses taken ∷ [] })
put_mends s from unit calm true over taken h = peaceful_mends s from (tells.Put unit) _ tt calm h
put_mends s from unit calm false true taken h = peaceful_mends s from (tells.Put unit) _ tt calm h
put_mends s from unit calm false false taken h =
    let new = ((expects_put_says s unit.id.rank unit).0 h.sure.0).new in
    first_mends (settles unit.id) (presses taken ∷ ends_event) (done (Accepts unit) s) h.follow
    (come_calm (done (Accepts unit) s) s.kept.queue unit new refl calm)

arrival_mends : (s : ServerModel) (from : Server) (unit : Work) → IsCalmIn s.kept
    → Mends_by s (by.Server from) (tells.PushUnit unit) (record { first = Arrives from unit; follow = settles unit.id ∷ acks ∷ [] })
arrival_mends s from unit calm h =
    let new = ((unit_comes_says s.kept unit).0 h.sure).0 in
    first_mends (settles unit.id) (acks ∷ ends_event) (done (Arrives from unit) s) h.follow
    (come_calm (done (Arrives from unit) s) s.kept.queue unit new refl calm)

wake_mends : (s : ServerModel) (from : Actor) (message : Message) → WaitOnce s → IsCalmIn s.kept → (o : Option Place)
    → IfSome (wake_at o) (Mends_by s from message)
wake_mends s from message once calm None = tt
wake_mends s from message once calm (Some p) = by_asked p.here.asked
  where
    by_asked : (asked : Option Server) → IfSome (wake p asked) (Mends_by s from message)
    by_asked None = tt
    by_asked (Some asked) = λ h.
        let wish = p.here.wish in
        first_mends (looks_again wish.rank) (asks_on wish.rank ∷ ends_event) (done (Wakes p.at wish asked p.here.to_ask) s) h.follow
        (woken_calm s p.at wish asked p.here.to_ask h.sits once calm)

loud_mends : (s : ServerModel) (from : Actor) (message : Message) → is_mild from message ≡ false → WaitOnce s → IsCalmIn s.kept
    → IfSome (rule s from message) (Mends_by s from message)
loud_mends s (by.Rank from) (tells.Put unit) loud once calm = by_test (expects_put s from unit)
  where
    by_test : (t : Bool)
        → IfSome (cond t (plan (put_now s.kept unit) (settles unit.id ∷ presses (is_taken s.kept unit) ∷ [])) None)
        (Mends_by s (by.Rank from) (tells.Put unit))
    by_test true = put_mends s (by.Rank from) unit calm s.kept.done (is_over s.kept.queue unit) (is_taken s.kept unit)
    by_test false = tt
loud_mends s (by.Server from) (tells.AskNone rank request) loud once calm = by_self (from.0 == s.me.0)
  where
    by_self : (t : Bool)
        → IfSome (cond t None (none_rule s from rank request)) (Mends_by s (by.Server from) (tells.AskNone rank request))
    by_self true = tt
    by_self false =
        wake_mends s (by.Server from) (tells.AskNone rank request) once calm (place_in (has_asked from rank request) s.kept.parked.waiting)
loud_mends s (by.Server from) (tells.PushUnit unit) loud once calm = by_self (from.0 == s.me.0) (expects_unit s.kept unit)
  where
    by_self : (t expected : Bool)
        → IfSome (cond t None (cond expected (plan (Arrives from unit) (settles unit.id ∷ acks ∷ [])) None))
        (Mends_by s (by.Server from) (tells.PushUnit unit))
    by_self true expected = tt
    by_self false false = tt
    by_self false true = arrival_mends s from unit calm
loud_mends s _ _ loud once calm = absurd (cc)

mends : (s : ServerModel) (from : Actor) (message : Message) → WaitOnce s → IsCalmIn s.kept
    → IfSome (rule s from message) (Mends_by s from message)
mends s from message once calm = by_test (is_mild from message) refl
  where
    by_test : (t : Bool) → is_mild from message ≡ t → IfSome (rule s from message) (Mends_by s from message)
    by_test true mild = mild_mends s from message mild calm (rule s from message)
    by_test false loud = loud_mends s from message loud once calm

-- Events.

event_calm : (s : ServerModel) (from : Actor) (message : Message) (list : List Act) → WaitOnce s → IsCalmIn s.kept
    → acts s from message ≡ Some list → IsCalmIn (all_done list s).kept
event_calm s from message list once calm are = by_plan (rule s from message) refl (mends s from message once calm) are
  where
    by_plan : (o : Option Plan) → rule s from message ≡ o → IfSome o (Mends_by s from message)
        → option_map (in_order ends_event s) o ≡ Some list → IsCalmIn (all_done list s).kept
    by_plan None by mended is = absurd (cc)
    by_plan (Some p) by mended is =
        subst (λ l. IsCalmIn (all_done l s).kept) (some_is is) (mended (plan_handles s from message p by))

-- after each event no free unit lies for an idle rank
pub events_keep_calm : EventsKeepCalm
events_keep_calm s from letter x once calm is =
    let step = step_acts s from letter x is in
    let now = at_event s letter in
    let kept = event_calm now from letter.message step.list once (each_all (Rests s.kept.queue) s.kept.parked.waiting calm) step.are in
    let same : all_done step.list now ≡ x.state = sym (carried_state step.list now) ∙ ap (λ (y : Served). y.state) step.makes in
    let after = subst (λ (y : ServerModel). IsCalmIn y.kept) same kept in
    all_each (Rests x.state.kept.queue) x.state.kept.parked.waiting after

-- at the start nobody waits
pub start_is_calm : StartIsCalm
start_is_calm config me = (λ rank. omega arith, λ k d within. absurd (omega arith))
