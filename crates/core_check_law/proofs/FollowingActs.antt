-- What follows a first act that leaves all that rests as it is, or by which the token goes on. No push begins, and if the letter does not
-- raise the activity, only acts of the ring follow.
use Rattle.std.proofs.Common.{◌≡◌, ◌≢◌, ◌==◌, ◌&&◌, ◌||◌, not, Bool, true, false, cond, List, [], ◌∷◌, ◌++◌, Option, None, Some, refl, sym}
use Rattle.std.proofs.Common.{ap, ◌∙◌, subst}
use Rattle.std.specs.Option.{option_map}
use Rattle.std.proofs.lemmas.Bool.{eqb-true}
use Rattle.adlb_unit.specs.declared.actors.Actor.{Actor}
use Rattle.adlb_unit.specs.declared.actors.Actor.TheVariants as by
use Rattle.adlb_unit.specs.declared.configs.Config.{Config}
use Rattle.adlb_unit.specs.declared.messages.Message.{Message}
use Rattle.adlb_unit.specs.declared.messages.Message.TheVariants as tells
use Rattle.adlb_unit.specs.declared.names.Rank.{Rank}
use Rattle.adlb_unit.specs.declared.names.Server.{Server}
use Rattle.adlb_unit.specs.declared.notes.End.{End}
use Rattle.adlb_unit.specs.declared.notes.End.TheVariants as ends_by
use Rattle.adlb_unit.specs.declared.tokens.Token.{Token}
use Rattle.exhaust_ring.specs.Expected.{expects}
use Rattle.exhaust_ring.specs.Ring.{Asker, may_start}
use Rattle.work_queue.specs.declared.placing.Placed.{Placed}
use Rattle.server_components.specs.Calls.{is_since}
use Rattle.server_components.specs.Parked.{is_idle, is_of}
use Rattle.server_components.specs.declared.waits.Waiting.{Waiting}
use Rattle.server_components.specs.declared.wishes.Wish.{Wish}
use Rattle.server_law.specs.Acts.{Acks, Act, Around, Asks_on, Hints, Notes_own, Notices, Declines, Drops_hint, Heard, Hears_exhaust}
use Rattle.server_law.specs.Acts.{Hears_shutdown, Is_hinted, Notes_finish, Passes, Wakes, Wants, says, takes}
use Rattle.server_law.specs.Asks.{expects_ask, none_rule, wake, wake_at}
use Rattle.server_law.specs.Carried.{all_done, done}
use Rattle.server_law.specs.Checks.{token_rule, verdict, visit, visit_other, visit_zeroth}
use Rattle.server_law.specs.Endings.{checks, ends_event, is_noted, is_quiet, notice, notices, starts, tells_all, tells_one}
use Rattle.server_law.specs.Finding.{Place, best_for, place_in}
use Rattle.server_law.specs.Hints.{expects_hint, hint_at, hint_rule}
use Rattle.server_law.specs.Plan.{Decider, Plan, decided, in_order}
use Rattle.server_law.specs.State.{ServerModel, ring_at, runs}
use Rattle.server_law.specs.Step.{acts, raises, rule}
use Rattle.server_law.specs.Waits.{ask_at, ask_next, asks_on, look_again, look_at, looks_again}
use Rattle.core_law.specs.OnLinks.{Each}
use Rattle.core_law.proofs.Acts.{counted_own}
use Rattle.core_law.proofs.UnderWay.{each_append}
use Rattle.core_check_law.proofs.Follows.{Suits}
use Rattle.core_check_law.proofs.RestKept.{is_still}
use Rattle.core_check_law.proofs.ThroughActs.{goes_on}

-- Deciders.

abbrev DecidesSuited : Bool → Decider → Type 0
DecidesSuited up d = (s : ServerModel) → s.config.servers ≢ 1 → Each (Suits up) (d s)

all_done_config : (list : List Act) (s : ServerModel) → (all_done list s).config ≡ s.config
all_done_config [] s = refl
all_done_config (a ∷ list) s = all_done_config list (done a s) ∙ (counted_own _ (says a s)).0

decided_suited : (up : Bool) (ds : List Decider) (s : ServerModel) → s.config.servers ≢ 1 → Each (DecidesSuited up) ds
    → Each (Suits up) (decided ds s)
decided_suited up [] s several each = tt
decided_suited up (d ∷ ds) s several each =
    let same = ap (λ (c : Config). c.servers) (all_done_config (d s) s) in
    each_append (Suits up) (d s) (decided ds (all_done (d s) s)) (each.0 s several)
    (decided_suited up ds (all_done (d s) s) (λ e. several (sym same ∙ e)) each.1)

if_decided : (P : Act → Type 0) (t : Bool) (list : List Act) → Each P list → Each P (cond t list [])
if_decided P true list each = each
if_decided P false list each = tt

notices_suited : (up : Bool) → DecidesSuited up notices
notices_suited up s several =
    if_decided (Suits up) (is_quiet s && not (is_noted s.kept.noted s.activity)) (notice (s.me.0 == 0)) (by_place (s.me.0 == 0))
  where
    by_place : (t : Bool) → Each (Suits up) (notice t)
    by_place true = ((refl, λ e. refl), tt)
    by_place false = ((refl, λ e. refl), tt)

checks_suited : (up : Bool) → DecidesSuited up checks
checks_suited up s several =
    if_decided (Suits up) (may_start (ring_at s) (is_quiet s)) (starts s) (by_servers (s.config.servers == 1) refl)
  where
    by_servers : (t : Bool) → (s.config.servers == 1) ≡ t → Each (Suits up) (starts s)
    by_servers true alone = absurd (several (eqb-true s.config.servers 1 alone))
    by_servers false e = rw e ((refl, λ e. refl), tt)

told_suited : (end : End) (before behind : List Waiting) → Each (Suits true) (tells_all end before behind)
told_suited end before [] = tt
told_suited end before (e ∷ behind) =
    by_asked e.asked (told_suited end before behind) (told_suited end (before ++ e ∷ []) behind)
  where
    at : Around
    at = record { before = before; behind = behind }

    by_asked : (o : Option Server) → Each (Suits true) (tells_all end before behind)
        → Each (Suits true) (tells_all end (before ++ e ∷ []) behind)
        → Each (Suits true) (tells_one end at e o (tells_all end before behind) (tells_all end (before ++ e ∷ []) behind))
    by_asked None told passed = ((refl, λ f. absurd (cc)), told)
    by_asked (Some t) told passed = passed

looks_suited : (rank : Rank) → DecidesSuited true (looks_again rank)
looks_suited rank s several = by_place (place_in (λ e. is_of rank e && is_idle e) s.kept.parked.waiting)
  where
    by_state : (is_done exhausted : Bool) (best : Option Placed) (at : Around) (wish : Wish) (rest : List Server)
        → Each (Suits true) (look_again is_done exhausted best at wish rest)
    by_state true exhausted best at wish rest = ((refl, λ e. absurd (cc)), tt)
    by_state false true best at wish rest = ((refl, λ e. absurd (cc)), tt)
    by_state false false (Some p) at wish rest = ((refl, λ e. absurd (cc)), tt)
    by_state false false None at wish rest = tt

    by_place : (o : Option Place) → Each (Suits true) (look_at s.kept o)
    by_place None = tt
    by_place (Some p) = by_state s.kept.done s.kept.exhausted (best_for s.kept p.here.wish) p.at p.here.wish p.here.to_ask

asks_suited : (rank : Rank) → DecidesSuited true (asks_on rank)
asks_suited rank s several = by_place (place_in (is_of rank) s.kept.parked.waiting)
  where
    by_next : (at : Around) (wish : Wish) (asked : Option Server) (to_ask : List Server) → Each (Suits true) (ask_next at wish asked to_ask)
    by_next at wish None [] = tt
    by_next at wish None (to ∷ rest) = ((refl, λ e. absurd (cc)), tt)
    by_next at wish (Some asked) to_ask = tt

    by_place : (o : Option Place) → Each (Suits true) (ask_at o)
    by_place None = tt
    by_place (Some p) = by_next p.at p.here.wish p.here.asked p.here.to_ask

-- Plans.

-- the first act leaves all that rests as it is, or the token goes on
abbrev pub rests : Act → Bool
rests a = is_still a || goes_on a

abbrev Fine : Bool → Option Plan → Type 0
Fine up None = Unit {0}
Fine up (Some p) = rests p.first ≡ true → Each (DecidesSuited up) p.follow

either : (up t : Bool) (x y : Option Plan) → Fine up x → Fine up y → Fine up (cond t x y)
either up true x y a b = a
either up false x y a b = b

wakes_fine : (s : ServerModel) (from : Server) (rank : Rank) (request : _) → Fine true (none_rule s from rank request)
wakes_fine s from rank request = by_place (place_in _ s.kept.parked.waiting)
  where
    by_asked : (p : Place) (o : Option Server) → Fine true (wake p o)
    by_asked p None = tt
    by_asked p (Some asked) = λ e. (looks_suited p.here.wish.rank, (asks_suited p.here.wish.rank, tt))

    by_place : (o : Option Place) → Fine true (wake_at o)
    by_place None = tt
    by_place (Some p) = by_asked p p.here.asked

hints_fine : (s : ServerModel) (from : Server) (rank : Rank) (request : _) → Fine true (hint_rule s from rank request)
hints_fine s from rank request =
    either true (expects_hint s rank) (hint_at from rank request (place_in (is_since rank request) s.kept.parked.waiting)) None
    (by_place (place_in (is_since rank request) s.kept.parked.waiting)) tt
  where
    by_place : (o : Option Place) → Fine true (hint_at from rank request o)
    by_place None = λ e. tt
    by_place (Some p) = λ e. (asks_suited p.here.wish.rank, tt)

token_fine : (s : ServerModel) (from : Server) (t : Token) → Fine false (token_rule s from t)
token_fine s from t =
    either false (expects (ring_at s) from t) (visit s from t) None
    (either false (s.me.0 == 0) (visit_zeroth s from t) (visit_other s from t)
    (either false (t.wave == 1) _ (verdict s.kept.exhausted t.asked from t) (λ e. tt) (by_asked s.kept.exhausted t.asked))
    (either false (t.wave == 1) _ _ (λ e. tt) (λ e. tt))) tt
  where
    by_asked : (exhausted : Bool) (asked : List Asker) → Fine false (verdict exhausted asked from t)
    by_asked exhausted [] = λ e. tt
    by_asked true (first ∷ more) = λ e. tt
    by_asked false (first ∷ more) = λ e. absurd (cc)

-- letters that such an act may take
abbrev may_rest : Message → Bool
may_rest (tells.Ask rank request types) = true
may_rest (tells.AskNone rank request) = true
may_rest (tells.Hint rank request) = true
may_rest tells.Finish = true
may_rest tells.Notice = true
may_rest (tells.Token t) = true
may_rest tells.Exhaust = true
may_rest tells.Shutdown = true
may_rest _ = false

abbrev may_rest_all : List Heard → Bool
may_rest_all [] = true
may_rest_all (h ∷ more) = may_rest h.message

may_rest_taken : (a : Act) → rests a ≡ true → may_rest_all (takes a) ≡ true
may_rest_taken (Wakes at wish from rest) e = refl
may_rest_taken (Is_hinted at x from) e = refl
may_rest_taken (Drops_hint from rank request) e = refl
may_rest_taken (Declines from wish) e = refl
may_rest_taken (Notes_finish rank) e = refl
may_rest_taken (Hears_exhaust from) e = refl
may_rest_taken (Hears_shutdown from) e = refl
may_rest_taken (Wants from) e = refl
may_rest_taken (Passes from t) e = refl
may_rest_taken (Asks_on at wish to rest) e = refl
may_rest_taken (Hints wish) e = refl
may_rest_taken (Acks to id) e = refl
may_rest_taken Notices e = refl
may_rest_taken Notes_own e = refl
may_rest_taken _ e = absurd (cc)

-- the rule of each such letter
rank_fine : (s : ServerModel) (from : Rank) (m : Message) → may_rest m ≡ true → Fine (raises m) (rule s (by.Rank from) m)
rank_fine s from tells.Finish e = either true (runs s.kept from) _ None (λ e. tt) tt
rank_fine s from (tells.Ask rank request types) e = tt
rank_fine s from (tells.AskNone rank request) e = tt
rank_fine s from (tells.Hint rank request) e = tt
rank_fine s from tells.Notice e = tt
rank_fine s from (tells.Token t) e = tt
rank_fine s from tells.Exhaust e = tt
rank_fine s from tells.Shutdown e = tt
rank_fine s from _ e = absurd (cc)

server_fine : (s : ServerModel) (from : Server) (m : Message) → may_rest m ≡ true → Fine (raises m) (rule s (by.Server from) m)
server_fine s from (tells.Ask rank request types) e =
    either true (from.0 == s.me.0) None _ tt (either true (expects_ask s from rank) _ None (λ e. tt) tt)
server_fine s from (tells.AskNone rank request) e = either true (from.0 == s.me.0) None _ tt (wakes_fine s from rank request)
server_fine s from (tells.Hint rank request) e = either true (from.0 == s.me.0) None _ tt (hints_fine s from rank request)
server_fine s from tells.Finish e = either true (from.0 == s.me.0) None None tt tt
server_fine s from tells.Notice e = either false (from.0 == s.me.0) None _ tt (either false (s.me.0 == 0) _ None (λ e. tt) tt)
server_fine s from (tells.Token t) e = either false (from.0 == s.me.0) None _ tt (token_fine s from t)
server_fine s from tells.Exhaust e =
    either true (from.0 == s.me.0) None _ tt
    (either true (from.0 == 0) _ None (λ e. ((λ x several. told_suited ends_by.Exhausted [] x.kept.parked.waiting), tt)) tt)
server_fine s from tells.Shutdown e = either false (from.0 == s.me.0) None _ tt (either false (from.0 == 0) _ None (λ e. tt) tt)
server_fine s from _ e = absurd (cc)

rule_fine : (s : ServerModel) (from : Actor) (m : Message) → may_rest m ≡ true → Fine (raises m) (rule s from m)
rule_fine s (by.Rank from) m e = rank_fine s from m e
rule_fine s (by.Server from) m e = server_fine s from m e

-- Acts.

-- the acts that follow a first one that leaves all that rests are suited to it
pub suited : (s : ServerModel) (from : Actor) (m : Message) (first : Act) (more : List Act) → s.config.servers ≢ 1
    → acts s from m ≡ Some (first ∷ more) → takes first ≡ record { from = from; message = m } ∷ [] → rests first ≡ true
    → Each (Suits (raises m)) more
suited s from m first more several are takes_it rest =
    let may : may_rest m ≡ true = ap may_rest_all (sym takes_it) ∙ may_rest_taken first rest in
    by_rule (rule s from m) (rule_fine s from m may) are
  where
    up : Bool
    up = raises m

    by_rule : (o : Option Plan) → Fine up o → option_map (in_order ends_event s) o ≡ Some (first ∷ more) → Each (Suits up) more
    by_rule None fine e = absurd (cc)
    by_rule (Some p) fine e =
        let f : p.first ≡ first = cc in
        let m : decided (p.follow ++ ends_event) (done p.first s) ≡ more = cc in
        let same = ap (λ (c : Config). c.servers) (counted_own _ (says p.first s)).0 in
        let all = each_append (DecidesSuited up) p.follow ends_event (fine (ap rests f ∙ rest))
        (notices_suited up, (checks_suited up, tt)) in
        subst (Each (Suits up)) m
        (decided_suited up (p.follow ++ ends_event) (done p.first s) (λ e. several (sym same ∙ e)) all)
