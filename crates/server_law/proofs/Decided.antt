-- What follows the first act of a rule: each act is sure where it is carried out, and none takes a letter.
use Rattle.std.proofs.Common.{◌≡◌, inl, inr, suc, ◌==◌, Bool, true, false, cond, ◌&&◌, not, List, [], ◌∷◌, ◌++◌, find, Option, None, Some}
use Rattle.std.proofs.Common.{refl, sym, ap, ◌∙◌, subst, append_assoc, Any, arith}
use Rattle.std.specs.Prelude.{is_none}
use Rattle.std.specs.Option.{IfSome}
use Rattle.std.proofs.lemmas.Bool.{and_parts, eqb-false, eqb-true}
use Rattle.adlb_unit.specs.declared.names.Rank.{Rank}
use Rattle.adlb_unit.specs.declared.names.Server.{Server}
use Rattle.adlb_unit.specs.declared.names.UnitId.{UnitId}
use Rattle.adlb_unit.specs.declared.notes.End.{End}
use Rattle.adlb_unit.specs.declared.notes.End.TheVariants as ends_by
use Rattle.adlb_unit.specs.declared.units.Unit.{Unit as Work}
use Rattle.bag_law.proofs.Turn.{found_passes}
use Rattle.exhaust_ring.specs.Ring.{MayStart, may_start}
use Rattle.exhaust_ring.specs.declared.steps.RingStep.{RingStep}
use Rattle.exhaust_ring.specs.declared.steps.RingStep.TheVariants.{Ended, Exhausted, Fail, Pass, Shutdown}
use Rattle.work_queue.specs.Queue.{Queue, id_of}
use Rattle.work_queue.specs.declared.placing.Placed.{Placed}
use Rattle.server_law.specs.Acts.{Act, Around, Finds_alone, Hints, Starts, Tells, check_alone, takes}
use Rattle.server_components.specs.Parked.{is_idle, is_of}
use Rattle.server_law.specs.Carried.{all_done, done}
use Rattle.server_law.specs.Endings.{checks, ends_event, finds_alone, is_noted, is_quiet, notice, notices, starts, tells_all, tells_idle}
use Rattle.server_law.specs.Endings.{tells_one}
use Rattle.server_law.specs.Finding.{Place, best_for, is_free_as, permits, place_in, taker}
use Rattle.server_law.specs.Hints.{hint_all, hints_if, is_first_for, is_later_for}
use Rattle.server_law.specs.Plan.{Decider, decided}
use Rattle.server_components.specs.Pushes.{query_of}
use Rattle.server_components.specs.declared.pushing.PushQuery.{PushQuery}
use Rattle.server_law.specs.Presses.{presses, queries}
use Rattle.server_law.specs.Pushes.{acks, acks_if}
use Rattle.server_law.specs.Puts.{gives, settles, settles_as}
use Rattle.server_components.specs.declared.waits.Waiting.{Waiting}
use Rattle.server_components.specs.declared.wishes.Wish.{Wish}
use Rattle.server_law.specs.State.{Debt, ServerModel, idle, ring_at}
use Rattle.server_law.specs.Sure.{AreHintsOf, AreSure, HasCause, IsFound, TakeNone}
use Rattle.server_law.specs.Waits.{ask_at, ask_next, asks_on, look_again, look_at, looks_again}
use Rattle.server_law.proofs.Places.{IsPlace, Takes, idle_is, place_found, taker_found}
use Rattle.server_law.proofs.Starting.{exhausted_alone, may_is, shut_alone}
use Rattle.server_law.proofs.Tests.{is_free_says}

-- Acts that follow a first one.

-- each is sure where it is carried out, and none takes a letter
abbrev pub Follow : List Act → ServerModel → Type 0
Follow list s = AreSure list s × TakeNone list

-- what the decider gives is sure, and takes no letter
abbrev pub Decides : Decider → Type 0
Decides d = (s : ServerModel) → Follow (d s) s

-- so it is of each of these deciders
abbrev pub EachDecides : List Decider → Type 0
EachDecides [] = Unit {0}
EachDecides (d ∷ ds) = Decides d × EachDecides ds

-- none is a hint
abbrev pub HintsNone : Decider → Type 0
HintsNone d = (wishes : List Wish) (s : ServerModel) → AreHintsOf wishes (d s)

-- no decider of these gives a hint
abbrev pub EachHintsNone : List Decider → Type 0
EachHintsNone [] = Unit {0}
EachHintsNone (d ∷ ds) = HintsNone d × EachHintsNone ds

-- sure acts after sure acts are sure
pub are_sure_joined : (xs ys : List Act) (s : ServerModel) → AreSure xs s → AreSure ys (all_done xs s) → AreSure (xs ++ ys) s
are_sure_joined [] ys s a b = b
are_sure_joined (x ∷ xs) ys s a b = (a.0, a.1, are_sure_joined xs ys (done x s) a.2 b)

-- two lists of acts that take no letter, joined
pub take_none_joined : (xs ys : List Act) → TakeNone xs → TakeNone ys → TakeNone (xs ++ ys)
take_none_joined [] ys a b = b
take_none_joined (x ∷ xs) ys a b = (a.0, take_none_joined xs ys a.1 b)

-- two lists of acts whose hints are of these wishes, joined
pub hints_joined : (wishes : List Wish) (xs ys : List Act)
    → AreHintsOf wishes xs → AreHintsOf wishes ys → AreHintsOf wishes (xs ++ ys)
hints_joined wishes [] ys a b = b
hints_joined wishes (x ∷ xs) ys a b = (a.0, hints_joined wishes xs ys a.1 b)

-- what such deciders give has no hint
pub decided_hints_none : (ds : List Decider) (wishes : List Wish) (s : ServerModel)
    → EachHintsNone ds → AreHintsOf wishes (decided ds s)
decided_hints_none [] wishes s each = tt
decided_hints_none (d ∷ ds) wishes s each =
    hints_joined wishes (d s) (decided ds (all_done (d s) s)) (each.0 wishes s)
    (decided_hints_none ds wishes (all_done (d s) s) each.1)

-- acts that follow, and others that follow these
pub follow_joined : (xs ys : List Act) (s : ServerModel) → Follow xs s → Follow ys (all_done xs s) → Follow (xs ++ ys) s
follow_joined xs ys s first then = (are_sure_joined xs ys s first.0 then.0, take_none_joined xs ys first.1 then.1)

-- what such deciders give can follow
pub decided_follow : (ds : List Decider) (s : ServerModel) → EachDecides ds → Follow (decided ds s) s
decided_follow [] s each = (tt, tt)
decided_follow (d ∷ ds) s each =
    let first = each.0 s in
    let then = all_done (d s) s in
    follow_joined (d s) (decided ds then) s first (decided_follow ds then each.1)

-- two lists of such deciders, joined
pub each_joined : (ds es : List Decider) → EachDecides ds → EachDecides es → EachDecides (ds ++ es)
each_joined [] es each later = later
each_joined (d ∷ ds) es each later = (each.0, each_joined ds es each.1 later)

-- two lists of deciders that give no hint, joined
pub each_none_joined : (ds es : List Decider) → EachHintsNone ds → EachHintsNone es → EachHintsNone (ds ++ es)
each_none_joined [] es each later = later
each_none_joined (d ∷ ds) es each later = (each.0, each_none_joined ds es each.1 later)

-- Where a unit is settled.

-- the wishes that a unit takes off are those for which it is
hints_follow : (unit : Work) (test : Wish → Bool) (wishes : List Wish) (s : ServerModel)
    → ((w : Wish) → test w ≡ true → permits unit w ≡ true) → IsFound (find (is_free_as unit.id) s.kept.queue.units) unit
    → Follow (hints_if test wishes) s
hints_follow unit test [] s may found = (tt, tt)
hints_follow unit test (w ∷ wishes) s may found = by_test (hints_follow unit test wishes) (test w) refl
  where
    by_test : ((t : ServerModel) → ((v : Wish) → test v ≡ true → permits unit v ≡ true)
        → IsFound (find (is_free_as unit.id) t.kept.queue.units) unit → Follow (hints_if test wishes) t)
        → (t : Bool) → test w ≡ t → Follow (cond t (Hints w ∷ hints_if test wishes) (hints_if test wishes)) s
    by_test later true is =
        let rest = later (done (Hints w) s) may found in
        ((refl, (unit, (found, may w is)), rest.0), (refl, rest.1))
    by_test later false is = later s may found

-- hints leave the units
hints_keep : (test : Wish → Bool) (wishes : List Wish) (s : ServerModel)
    → (all_done (hints_if test wishes) s).kept.queue ≡ s.kept.queue
hints_keep test [] s = refl
hints_keep test (w ∷ wishes) s = by_test (hints_keep test wishes) (test w)
  where
    by_test : ((t : ServerModel) → (all_done (hints_if test wishes) t).kept.queue ≡ t.kept.queue) → (t : Bool)
        → (all_done (cond t (Hints w ∷ hints_if test wishes) (hints_if test wishes)) s).kept.queue ≡ s.kept.queue
    by_test later true = later (done (Hints w) s)
    by_test later false = later s

all_hints_follow : (unit : Work) (wishes : List Wish) (s : ServerModel)
    → IsFound (find (is_free_as unit.id) s.kept.queue.units) unit → Follow (hint_all unit wishes) s
all_hints_follow unit wishes s found =
    let xs = hints_if (is_first_for unit) wishes in
    let ys = hints_if (is_later_for unit) wishes in
    let first = hints_follow unit (is_first_for unit) wishes s (λ w is. (and_parts _ _ is).0) found in
    let then = hints_follow unit (is_later_for unit) wishes (all_done xs s) (λ w is. (and_parts _ _ is).0)
    (subst (λ (q : Queue). IsFound (find (is_free_as unit.id) q.units) unit) (sym (hints_keep (is_first_for unit) wishes s)) found) in
    follow_joined xs ys s first then

hints_of : (test : Wish → Bool) (all wishes : List Wish) → ((w : Wish) → Any (λ v. v ≡ w) wishes → Any (λ v. v ≡ w) all)
    → AreHintsOf all (hints_if test wishes)
hints_of test all [] among = tt
hints_of test all (w ∷ wishes) among = by_test (hints_of test all wishes (λ v has. among v (later_has v has))) (test w)
  where
    later_has : (v : Wish) → Any (λ x. x ≡ v) wishes → Any (λ x. x ≡ v) (w ∷ wishes)
    later_has v has = (suc has.0, has.1, omega arith, has.3, has.4)

    by_test : AreHintsOf all (hints_if test wishes) → (t : Bool)
        → AreHintsOf all (cond t (Hints w ∷ hints_if test wishes) (hints_if test wishes))
    by_test later true = (among w (0, w, omega arith, refl, refl), later)
    by_test later false = later

-- settling a unit is such a decider
pub settles_decides : (id : UnitId) → Decides (settles id)
settles_decides id s = by_unit (find (is_free_as id) s.kept.queue.units) refl
  where
    again : (p : Placed) → find (is_free_as id) s.kept.queue.units ≡ Some p
        → find (is_free_as p.unit.id) s.kept.queue.units ≡ Some p
    again p found =
        let has : id_of p ≡ id = ((is_free_says id p).0 (found_passes (is_free_as id) s.kept.queue.units p found)).0 in
        ap (λ i. find (is_free_as i) s.kept.queue.units) has ∙ found

    by_taker : (p : Placed) → find (is_free_as id) s.kept.queue.units ≡ Some p
        → (o : Option Place) → IfSome o (Takes p.unit s.kept.parked.waiting) → Follow (gives s.kept p.unit o) s
    by_taker p found None takes = all_hints_follow p.unit s.kept.parked.wishes s (p, again p found, refl)
    by_taker p found (Some at) takes = ((takes.stands, inl ((p, again p found, refl), takes.permitted), tt), (refl, tt))

    by_unit : (o : Option Placed) → find (is_free_as id) s.kept.queue.units ≡ o → Follow (settles_as s.kept o) s
    by_unit None found = (tt, tt)
    by_unit (Some p) found = by_taker p found (taker p.unit s.kept.parked.waiting) (taker_found p.unit s.kept.parked.waiting)

-- settling a unit hints of wishes that were kept
pub settles_hints : (id : UnitId) (s : ServerModel) → AreHintsOf s.kept.parked.wishes (settles id s)
settles_hints id s = by_unit (find (is_free_as id) s.kept.queue.units)
  where
    wishes : List Wish
    wishes = s.kept.parked.wishes

    by_taker : (unit : Work) (o : Option Place) → AreHintsOf s.kept.parked.wishes (gives s.kept unit o)
    by_taker unit None =
        hints_joined wishes (hints_if (is_first_for unit) wishes) (hints_if (is_later_for unit) wishes)
        (hints_of (is_first_for unit) wishes wishes (λ w has. has)) (hints_of (is_later_for unit) wishes wishes (λ w has. has))
    by_taker unit (Some p) = (tt, tt)

    by_unit : (o : Option Placed) → AreHintsOf s.kept.parked.wishes (settles_as s.kept o)
    by_unit None = tt
    by_unit (Some p) = by_taker p.unit (taker p.unit s.kept.parked.waiting)

-- Where a push begins, and where an acknowledgement is owed.

-- the beginning of a push is such a decider
pub presses_decides : (taken : Bool) → Decides (presses taken)
presses_decides false s = (tt, tt)
presses_decides true s = by_query (query_of s.config s.me s.kept.pushing s.kept.queue) refl
  where
    by_query : (o : Option PushQuery) → query_of s.config s.me s.kept.pushing s.kept.queue ≡ o → Follow (queries o) s
    by_query None is = (tt, tt)
    by_query (Some q) is = ((refl, is, tt), (refl, tt))

-- the beginning of a push gives no hint
pub presses_hints_none : (taken : Bool) → HintsNone (presses taken)
presses_hints_none false wishes s = tt
presses_hints_none true wishes s = by_query (query_of s.config s.me s.kept.pushing s.kept.queue)
  where
    by_query : (o : Option PushQuery) → AreHintsOf wishes (queries o)
    by_query None = tt
    by_query (Some q) = (tt, tt)

-- the acknowledgement is such a decider
pub acks_decides : Decides acks
acks_decides s = by_debt s.kept.owed refl
  where
    by_debt : (o : Option Debt) → s.kept.owed ≡ o → Follow (acks_if o) s
    by_debt None is = (tt, tt)
    by_debt (Some d) is = ((refl, is, tt), (refl, tt))

-- the acknowledgement gives no hint
pub acks_hints_none : HintsNone acks
acks_hints_none wishes s = by_debt s.kept.owed
  where
    by_debt : (o : Option Debt) → AreHintsOf wishes (acks_if o)
    by_debt None = tt
    by_debt (Some d) = (tt, tt)

-- Where a rank that waits is asked for, and where it has become idle.

-- asking the next server is such a decider
pub asks_on_decides : (rank : Rank) → Decides (asks_on rank)
asks_on_decides rank s = by_place (place_in (is_of rank) s.kept.parked.waiting) (place_found (is_of rank) s.kept.parked.waiting)
  where
    by_asked : (p : Place) → s.kept.parked.waiting ≡ p.at.before ++ p.here ∷ p.at.behind → (asked : Option Server) → p.here.asked ≡ asked
        → (to_ask : List Server) → p.here.to_ask ≡ to_ask → Follow (ask_next p.at p.here.wish asked to_ask) s
    by_asked p stands None asked [] to_ask = (tt, tt)
    by_asked p stands None asked (to ∷ rest) to_ask =
        let is : p.here ≡ idle p.here.wish (to ∷ rest) =
        ap (λ (o : Option Server). record { wish = p.here.wish; asked = o; to_ask = p.here.to_ask }) asked
        ∙ ap (λ l. idle p.here.wish l) to_ask in
        ((stands ∙ ap (λ e. p.at.before ++ e ∷ p.at.behind) is, tt, tt), (refl, tt))
    by_asked p stands (Some t) asked to to_ask = (tt, tt)

    by_place : (o : Option Place) → IfSome o (IsPlace (is_of rank) s.kept.parked.waiting) → Follow (ask_at o) s
    by_place None is = (tt, tt)
    by_place (Some p) is = by_asked p is.stands p.here.asked refl p.here.to_ask refl

-- asking the next server gives no hint
pub asks_on_hints_none : (rank : Rank) → HintsNone (asks_on rank)
asks_on_hints_none rank wishes s = by_place (place_in (is_of rank) s.kept.parked.waiting)
  where
    by_asked : (at : Around) (wish : Wish) (asked : Option Server) (to_ask : List Server)
        → AreHintsOf wishes (ask_next at wish asked to_ask)
    by_asked at wish None [] = tt
    by_asked at wish None (to ∷ rest) = (tt, tt)
    by_asked at wish (Some t) to_ask = tt

    by_place : (o : Option Place) → AreHintsOf wishes (ask_at o)
    by_place None = tt
    by_place (Some p) = by_asked p.at p.here.wish p.here.asked p.here.to_ask

-- the rank is found at its place, and is idle
pub record IsIdleAt (rank : Rank) (waiting : List Waiting) (p : Place) : Type 0 where
  pub stands : waiting ≡ p.at.before ++ idle p.here.wish p.here.to_ask ∷ p.at.behind
  pub own : is_of rank p.here ≡ true

-- a place that is found among those that wait is that of an idle rank
pub idle_found : (rank : Rank) (waiting : List Waiting)
    → IfSome (place_in (λ e. is_of rank e && is_idle e) waiting) (IsIdleAt rank waiting)
idle_found rank waiting = by_place (place_in test waiting) (place_found test waiting)
  where
    test : Waiting → Bool
    test e = is_of rank e && is_idle e

    by_place : (o : Option Place) → IfSome o (IsPlace test waiting) → IfSome o (IsIdleAt rank waiting)
    by_place None is = tt
    by_place (Some p) is =
        let both = and_parts (is_of rank p.here) (is_idle p.here) is.passes in
        record { stands = is.stands ∙ ap (λ e. p.at.before ++ e ∷ p.at.behind) (idle_is p.here both.1); own = both.0 }

-- looking again for a rank is such a decider
pub looks_again_decides : (rank : Rank) → Decides (looks_again rank)
looks_again_decides rank s =
    by_place (place_in (λ e. is_of rank e && is_idle e) s.kept.parked.waiting) (idle_found rank s.kept.parked.waiting)
  where
    by_tests : (is_done used_up : Bool) (best : Option Placed) (at : Around) (wish : Wish) (rest : List Server)
        → s.kept.parked.waiting ≡ at.before ++ idle wish rest ∷ at.behind → s.kept.done ≡ is_done → s.kept.exhausted ≡ used_up
        → best_for s.kept wish ≡ best → Follow (look_again is_done used_up best at wish rest) s
    by_tests true used_up best at wish rest stands done exhausted found = ((stands, done, tt), (refl, tt))
    by_tests false true best at wish rest stands done exhausted found = ((stands, exhausted, tt), (refl, tt))
    by_tests false false (Some p) at wish rest stands done exhausted found = ((stands, inr (p, found, refl), tt), (refl, tt))
    by_tests false false None at wish rest stands done exhausted found = (tt, tt)

    by_place : (o : Option Place) → IfSome o (IsIdleAt rank s.kept.parked.waiting) → Follow (look_at s.kept o) s
    by_place None is = (tt, tt)
    by_place (Some p) is =
        by_tests s.kept.done s.kept.exhausted (best_for s.kept p.here.wish) p.at p.here.wish p.here.to_ask is.stands refl refl refl

-- looking again for a rank gives no hint
pub looks_again_hints_none : (rank : Rank) → HintsNone (looks_again rank)
looks_again_hints_none rank wishes s = by_place (place_in (λ e. is_of rank e && is_idle e) s.kept.parked.waiting)
  where
    by_tests : (is_done used_up : Bool) (best : Option Placed) (at : Around) (wish : Wish) (rest : List Server)
        → AreHintsOf wishes (look_again is_done used_up best at wish rest)
    by_tests true used_up best at wish rest = (tt, tt)
    by_tests false true best at wish rest = (tt, tt)
    by_tests false false (Some p) at wish rest = (tt, tt)
    by_tests false false None at wish rest = tt

    by_place : (o : Option Place) → AreHintsOf wishes (look_at s.kept o)
    by_place None = tt
    by_place (Some p) = by_tests s.kept.done s.kept.exhausted (best_for s.kept p.here.wish) p.at p.here.wish p.here.to_ask

-- Where the end is told.

cause_stays : (end : End) (at : Around) (wish : Wish) (rest : List Server) (told : End) (s : ServerModel)
    → HasCause s.kept end → HasCause (done (Tells at wish rest told) s).kept end
cause_stays ends_by.NoMoreWork at wish rest told s cause = cause
cause_stays ends_by.Exhausted at wish rest told s cause = cause

-- telling an end to those that are idle can follow
pub told_follow : (end : End) (behind before : List Waiting) (s : ServerModel) → s.kept.parked.waiting ≡ before ++ behind
    → HasCause s.kept end → Follow (tells_all end before behind) s
told_follow end [] before s stands cause = (tt, tt)
told_follow end (e ∷ behind) before s stands cause = by_asked e.asked refl (told_follow end behind)
  where
    at : Around
    at = record { before = before; behind = behind }

    by_asked : (o : Option Server) → e.asked ≡ o
        → ((ahead : List Waiting) (t : ServerModel) → t.kept.parked.waiting ≡ ahead ++ behind → HasCause t.kept end
        → Follow (tells_all end ahead behind) t)
        → Follow (tells_one end at e o (tells_all end before behind) (tells_all end (before ++ e ∷ []) behind)) s
    by_asked None asked later =
        let rest = later before (done (Tells at e.wish e.to_ask end) s) refl (cause_stays end at e.wish e.to_ask end s cause) in
        ((stands ∙ ap (λ x. before ++ x ∷ behind) (idle_is e (ap is_none asked)), cause, rest.0), (refl, rest.1))
    by_asked (Some t) asked later = later (before ++ e ∷ []) s (stands ∙ sym (append_assoc before (e ∷ []) behind)) cause

-- telling an end gives no hint
pub told_hints_none : (end : End) (behind before : List Waiting) (wishes : List Wish)
    → AreHintsOf wishes (tells_all end before behind)
told_hints_none end [] before wishes = tt
told_hints_none end (e ∷ behind) before wishes =
    by_asked e.asked (told_hints_none end behind before wishes) (told_hints_none end behind (before ++ e ∷ []) wishes)
  where
    by_asked : (o : Option Server) → AreHintsOf wishes (tells_all end before behind)
        → AreHintsOf wishes (tells_all end (before ++ e ∷ []) behind)
        → AreHintsOf wishes (tells_one end (record { before = before; behind = behind }) e o (tells_all end before behind)
        (tells_all end (before ++ e ∷ []) behind))
    by_asked None told passed = (tt, told)
    by_asked (Some t) told passed = passed

-- telling an end to all that are idle gives no hint
pub tells_idle_hints_none : (end : End) → HintsNone (tells_idle end)
tells_idle_hints_none end wishes s = told_hints_none end s.kept.parked.waiting [] wishes

-- What follows each event.

-- notices give no hint
pub notices_hints_none : HintsNone notices
notices_hints_none wishes s = by_test (is_quiet s && not (is_noted s.kept.noted s.activity))
  where
    by_me : (zeroth : Bool) → AreHintsOf wishes (notice zeroth)
    by_me true = (tt, tt)
    by_me false = (tt, tt)

    by_test : (t : Bool) → AreHintsOf wishes (cond t (notice (s.me.0 == 0)) [])
    by_test true = by_me (s.me.0 == 0)
    by_test false = tt

-- notices are such a decider
pub notices_decides : Decides notices
notices_decides s = by_test (is_quiet s && not (is_noted s.kept.noted s.activity)) refl
  where
    by_me : is_quiet s ≡ true → (zeroth : Bool) → (s.me.0 == 0) ≡ zeroth → Follow (notice zeroth) s
    by_me quiet true is = ((refl, (eqb-true s.me.0 0 is, quiet), tt), (refl, tt))
    by_me quiet false is = ((refl, (eqb-false s.me.0 0 is, quiet), tt), (refl, tt))

    by_test : (t : Bool) → (is_quiet s && not (is_noted s.kept.noted s.activity)) ≡ t → Follow (cond t (notice (s.me.0 == 0)) []) s
    by_test true changed = by_me (and_parts (is_quiet s) (not (is_noted s.kept.noted s.activity)) changed).0 (s.me.0 == 0) refl
    by_test false changed = (tt, tt)

-- the start of a check gives no hint
pub checks_hints_none : HintsNone checks
checks_hints_none wishes s = by_test (may_start (ring_at s) (is_quiet s))
  where
    by_step : (step : RingStep) (waiting : List Waiting) → AreHintsOf wishes (finds_alone step waiting)
    by_step Exhausted waiting = (tt, told_hints_none ends_by.Exhausted waiting [] wishes)
    by_step Shutdown waiting = (tt, tt)
    by_step Ended waiting = (tt, tt)
    by_step (Pass t) waiting = (tt, tt)
    by_step (Fail t why) waiting = (tt, tt)

    by_number : (alone : Bool) → AreHintsOf wishes (cond alone (finds_alone (check_alone s).step s.kept.parked.waiting) (Starts ∷ []))
    by_number true = by_step (check_alone s).step s.kept.parked.waiting
    by_number false = (tt, tt)

    by_test : (t : Bool) → AreHintsOf wishes (cond t (starts s) [])
    by_test true = by_number (s.config.servers == 1)
    by_test false = tt

-- the start of a check is such a decider
pub checks_decides : Decides checks
checks_decides s = by_test (may_start (ring_at s) (is_quiet s)) refl
  where
    by_step : s.config.servers ≡ 1 → is_quiet s ≡ true → (step : RingStep) → (check_alone s).step ≡ step
        → Follow (finds_alone step s.kept.parked.waiting) s
    by_step alone quiet Exhausted is =
        let rest = told_follow ends_by.Exhausted s.kept.parked.waiting [] (done Finds_alone s) refl refl in
        ((refl, exhausted_alone s alone quiet is, rest.0), (refl, rest.1))
    by_step alone quiet Shutdown is = ((refl, (alone, quiet, shut_alone s alone is), tt), (refl, tt))
    by_step alone quiet Ended is = ((refl, alone, tt), (refl, tt))
    by_step alone quiet (Pass t) is = ((refl, alone, tt), (refl, tt))
    by_step alone quiet (Fail t why) is = ((refl, alone, tt), (refl, tt))

    by_number : MayStart (ring_at s) (is_quiet s) → (alone : Bool) → (s.config.servers == 1) ≡ alone
        → Follow (cond alone (finds_alone (check_alone s).step s.kept.parked.waiting) (Starts ∷ [])) s
    by_number may true is = by_step (eqb-true s.config.servers 1 is) may.rests (check_alone s).step refl
    by_number may false is = ((refl, (may, eqb-false s.config.servers 1 is), tt), (refl, tt))

    by_test : (t : Bool) → may_start (ring_at s) (is_quiet s) ≡ t → Follow (cond t (starts s) []) s
    by_test true may = by_number (may_is (ring_at s) (is_quiet s) may) (s.config.servers == 1) refl
    by_test false may = (tt, tt)

-- what follows an event gives no hint
pub ends_event_hints_none : EachHintsNone ends_event
ends_event_hints_none = (notices_hints_none, (checks_hints_none, tt))

-- what follows an event are such deciders
pub ends_event_decides : EachDecides ends_event
ends_event_decides = (notices_decides, (checks_decides, tt))
