-- Exactly the letters that are expected have a step.
use Rattle.std.proofs.Common.{◌↔◌, ◌≡◌, ◌≢◌, ◌<◌, ◌==◌, ℕ, Bool, true, false, cond, List, [], ◌∷◌, Option, None, Some, IsSome, refl, sym}
use Rattle.std.proofs.Common.{ap, ◌∙◌, subst, find}
use Rattle.std.specs.Prelude.{is_some}
use Rattle.std.specs.List.{list_any}
use Rattle.std.specs.Option.{IfSome, option_map}
use Rattle.std.proofs.lemmas.Bool.{both_ways, false_from_ne_true}
use Rattle.adlb_unit.specs.Limits.{stamp_limit}
use Rattle.adlb_unit.specs.Links.{is_within}
use Rattle.adlb_unit.specs.declared.actors.Actor.{Actor}
use Rattle.adlb_unit.specs.declared.actors.Actor.TheVariants as by
use Rattle.adlb_unit.specs.declared.letters.Letter.{Letter}
use Rattle.adlb_unit.specs.declared.messages.Message.{Message}
use Rattle.adlb_unit.specs.declared.messages.Message.TheVariants as tells
use Rattle.adlb_unit.specs.declared.names.Rank.{Rank}
use Rattle.adlb_unit.specs.declared.names.Server.{Server}
use Rattle.adlb_unit.specs.declared.names.UnitId.{UnitId}
use Rattle.adlb_unit.specs.declared.notes.UnitNote.{UnitNote}
use Rattle.adlb_unit.specs.declared.tokens.Token.{Token}
use Rattle.exhaust_ring.specs.Expected.{expects, is_running}
use Rattle.exhaust_ring.specs.Ring.{Asker}
use Rattle.exhaust_ring.proofs.Rows.{expects_is, expects_tested}
use Rattle.work_queue.specs.declared.placing.Placed.{Placed}
use Rattle.server_components.specs.Calls.{is_since}
use Rattle.server_components.specs.declared.waits.Waiting.{Waiting}
use Rattle.server_law.specs.Acts.{Act}
use Rattle.server_law.specs.Asks.{expects_ask, grant_rule, none_rule, pass_at, pass_on, wake, wake_at}
use Rattle.server_law.specs.Carried.{Served, carried}
use Rattle.server_law.specs.Checks.{marks, tests_now, verdict, visit, visit_other, visit_zeroth}
use Rattle.server_law.specs.Endings.{ends_event, is_quiet}
use Rattle.server_law.specs.Expected.{ExpectedHaveSteps, IsAwaited, IsAwaitedFrom, IsHome, IsUnanswered}
use Rattle.server_law.specs.Fetches.{fetch}
use Rattle.server_law.specs.Finding.{Place, has_asked, has_promise, is_free_as, is_pinned_as, place_in}
use Rattle.server_law.specs.Hints.{expects_hint, hint_at, hint_rule}
use Rattle.server_law.specs.Plan.{Plan, in_order, plan}
use Rattle.server_components.specs.Pushes.{Asks, HasSent, Pushing, is_push_as, some_push}
use Rattle.server_components.specs.declared.standing.StandingPush.{StandingPush}
use Rattle.server_components.proofs.StandingPushes.{asks_says, sent_says}
use Rattle.server_law.specs.Pushes.{ack_at, expects_query, expects_unit, no_at, yes_at}
use Rattle.server_law.specs.Puts.{expects_put}
use Rattle.server_law.specs.State.{ServerModel, ring_at, runs, runs_at_home}
use Rattle.server_law.specs.Step.{acts, at_event, rule, serve, server_rule}
use Rattle.adlb_unit.specs.declared.names.BatchId.{BatchId}
use Rattle.server_components.specs.Store.{part_in}
use Rattle.server_components.specs.declared.parts.Part.{Part}
use Rattle.server_law.specs.Batches.{can_close, can_fetch, close, expects_keep, part_if, share}
use Rattle.server_law.proofs.Places.{IsPlace, place_found, place_says}
use Rattle.server_law.proofs.Tests.{Says, below_says, both_say, close_says, expects_ask_says, expects_hint_says, expects_put_says}
use Rattle.server_law.proofs.Tests.{has_asked_says, keep_says, pinned_says, promise_says, query_says, running_says, runs_at_home_says}
use Rattle.server_law.proofs.Tests.{runs_says, same_says, server_says, share_says, unanswered_says, unit_comes_says}

-- Options.

-- something is there where the test is true
if_some : {X : Type 0} (b : Bool) (x : X) {A : Type 0} → Says b A → IsSome (cond b (Some x) None) ↔ A
if_some true x says = says
if_some false x says = says

where_some : {X : Type 0} (b : Bool) (o : Option X) {A B : Type 0} → Says b A → IsSome o ↔ B → IsSome (cond b o None) ↔ (A × B)
where_some true o says there = (λ some. (says.0 refl, there.0 some), λ both. there.1 both.1)
where_some false o says there = (λ some. absurd (cc), λ both. says.1 both.0)

map_some : {X Y : Type 0} (f : X → Y) (o : Option X) {A : Type 0} → IsSome o ↔ A → IsSome (option_map f o) ↔ A
map_some f None there = there
map_some f (Some x) there = there

some_where : {X : Type 0} (o : Option X) → o ≢ None → IsSome o
some_where None some = absurd (some refl)
some_where (Some x) some = refl

-- The rules.

fetch_some : (from : Rank) (request : ℕ) (id : UnitId) (o : Option Placed) {A : Type 0} → IsSome o ↔ A
    → IsSome (fetch from request id o) ↔ A
fetch_some from request id None there = there
fetch_some from request id (Some p) there = there

close_some : (request : ℕ) (batch : BatchId) (accepted : ℕ) (o : Option Part) {A : Type 0} → IsSome o ↔ A
    → IsSome (close request batch accepted o) ↔ A
close_some request batch accepted None there = there
close_some request batch accepted (Some p) there = there

share_some : (from : Rank) (request : ℕ) (batch : BatchId) (o : Option Part) {A : Type 0} → IsSome o ↔ A
    → IsSome (share from request batch o) ↔ A
share_some from request batch None there = there
share_some from request batch (Some p) there = there

-- there is a rule for what is awaited
pub rule_awaited : (s : ServerModel) (from : Rank) (message : Message) → IsSome (rule s (by.Rank from) message) ↔ IsAwaited s from message
rule_awaited s from (tells.Put unit) = if_some (expects_put s from unit) _ (expects_put_says s from unit)
rule_awaited s from (tells.Reserve request types) = if_some (runs_at_home s from) _ (runs_at_home_says s from)
rule_awaited s from (tells.Try request types) = (λ some. tt, λ is. refl)
rule_awaited s from (tells.Fetch request id) =
    fetch_some from request id (find (is_pinned_as id from) s.kept.queue.units) (pinned_says id from s.kept.queue.units)
rule_awaited s from (tells.KeepCommon request common) = if_some (expects_keep s from request common) _ (keep_says s from request common)
rule_awaited s from (tells.CloseBatch request batch accepted) =
    close_some request batch accepted (part_if (can_close from batch accepted s.kept.queue.common) (part_in s.kept.parts batch))
    (close_says s from batch accepted)
rule_awaited s from (tells.FetchCommon request batch) =
    share_some from request batch (part_if (can_fetch s.kept.queue.common) (part_in s.kept.parts batch)) (share_says s batch)
rule_awaited s from (tells.Count request kind) = if_some (runs_at_home s from) _ (runs_at_home_says s from)
rule_awaited s from (tells.Done request) = (λ some. tt, λ is. refl)
rule_awaited s from tells.Finish = if_some (runs s.kept from) _ (runs_says s from)
rule_awaited s from _ = (λ some. absurd (cc), λ never. absurd never)

-- Letters of other servers.

where_apart : {X : Type 0} (same : Bool) (o : Option X) {A B : Type 0} → (same ≡ false) ↔ A → IsSome o ↔ B
    → IsSome (cond same None o) ↔ (A × B)
where_apart true o apart there = (λ some. absurd (cc), λ both. let no = apart.1 both.0 in absurd (cc))
where_apart false o apart there = (λ some. (apart.0 refl, there.0 some), λ both. there.1 both.1)

-- a rank is found for which the sender was asked, or there is no such rank
module _ (s : ServerModel) (from : Server) (rank : Rank) (request : ℕ) where
  abbrev test : Waiting → Bool
  test = has_asked from rank request

  asked_some : (f : Place → Option Server → Option Plan) → ((p : Place) → f p (Some from) ≢ None) → (g : Option Place → Option Plan)
      → g None ≡ None → ((p : Place) → g (Some p) ≡ f p p.here.asked)
      → IsSome (g (place_in test s.kept.parked.waiting)) ↔ IsUnanswered s from rank request
  asked_some f some g none one =
      by_place (place_in test s.kept.parked.waiting) (place_found test s.kept.parked.waiting) (place_says test s.kept.parked.waiting)
    where
      by_place : (o : Option Place) → IfSome o (IsPlace test s.kept.parked.waiting) → is_some o ≡ list_any test s.kept.parked.waiting
          → IsSome (g o) ↔ IsUnanswered s from rank request
      by_place None is same = (
        λ there. let no = rw none at there in absurd (cc),
        λ has. absurd (both_ways (list_any test s.kept.parked.waiting) (sym same) ((unanswered_says s from rank request).1 has)),
      )
      by_place (Some p) is same =
          let asked = ((has_asked_says from rank request p.here).0 is.passes).2 in (
            λ there. (unanswered_says s from rank request).0 (sym same),
            λ has. rw (one p) (subst (λ o. IsSome (f p o)) (sym asked) (some_where (f p (Some from)) (some p))),
          )

  pass_some : (note : UnitNote) → IsSome (grant_rule s from rank request note) ↔ IsUnanswered s from rank request
  pass_some note = asked_some (λ p o. pass_on p o note) (λ p none. absurd (cc)) (λ o. pass_at o note) refl (λ p. refl)

  wake_some : IsSome (none_rule s from rank request) ↔ IsUnanswered s from rank request
  wake_some = asked_some wake (λ p none. absurd (cc)) wake_at refl (λ p. refl)

hint_some : (s : ServerModel) (from : Server) (rank : Rank) (request : ℕ)
    → IsSome (hint_rule s from rank request) ↔ ((rank.0 < s.config.ranks) × IsHome s rank)
hint_some s from rank request =
    by_test (expects_hint s rank) (place_in (is_since rank request) s.kept.parked.waiting) (expects_hint_says s rank)
  where
    by_test : (t : Bool) (o : Option Place) {A : Type 0} → Says t A → IsSome (cond t (hint_at from rank request o) None) ↔ A
    by_test true None says = (λ some. says.0 refl, λ is. refl)
    by_test true (Some p) says = (λ some. says.0 refl, λ is. refl)
    by_test false o says = (λ some. absurd (cc), λ is. let yes = says.1 is in absurd (cc))

-- a push stands that is of this unit to the sender, before or after the unit or a cancel was sent
push_says : (p : StandingPush) (pushing : Pushing) (from : Server) (id : UnitId) (sent : Bool) {A : Type 0}
    → Says (some_push (is_push_as from id sent) pushing.push) A → pushing.push ≡ Some p → Says (is_push_as from id sent p) A
push_says p pushing from id sent {A} says is = subst (λ o. Says (some_push (is_push_as from id sent) o) A) is says

none_stands : (pushing : Pushing) (test : StandingPush → Bool) {A : Type 0} → Says (some_push test pushing.push) A → pushing.push ≡ None
    → A → ⊥
none_stands pushing test says is has = let no : false ≡ true = sym (ap (some_push test) is) ∙ says.1 has in absurd (cc)

yes_some : (pushing : Pushing) (from : Server) (id : UnitId) (free : Option Placed) (push : Option StandingPush) → pushing.push ≡ push
    → IsSome (yes_at from id push free) ↔ Asks pushing from id
yes_some pushing from id free None is =
    (λ some. absurd (cc), λ has. absurd (none_stands pushing (is_push_as from id false) (asks_says pushing from id) is has))
yes_some pushing from id free (Some p) is =
    if_some (is_push_as from id false p) _ (push_says p pushing from id false (asks_says pushing from id) is)

no_some : (pushing : Pushing) (from : Server) (id : UnitId) (push : Option StandingPush) → pushing.push ≡ push
    → IsSome (no_at from id push) ↔ Asks pushing from id
no_some pushing from id None is =
    (λ some. absurd (cc), λ has. absurd (none_stands pushing (is_push_as from id false) (asks_says pushing from id) is has))
no_some pushing from id (Some p) is =
    if_some (is_push_as from id false p) _ (push_says p pushing from id false (asks_says pushing from id) is)

ack_some : (pushing : Pushing) (from : Server) (id : UnitId) (push : Option StandingPush) → pushing.push ≡ push
    → IsSome (ack_at from id push) ↔ HasSent pushing from id
ack_some pushing from id None is =
    (λ some. absurd (cc), λ has. absurd (none_stands pushing (is_push_as from id true) (sent_says pushing from id) is has))
ack_some pushing from id (Some p) is =
    if_some (is_push_as from id true p) _ (push_says p pushing from id true (sent_says pushing from id) is)

-- each token that is expected comes to something
always_some : {X : Type 0} (b : Bool) (o : Option X) {A : Type 0} → IsSome o → Says b A → IsSome (cond b o None) ↔ A
always_some true o some says = (λ is. says.0 refl, λ is. some)
always_some false o some says = (λ no. absurd (cc), λ is. let yes = says.1 is in absurd (cc))

visit_some : (s : ServerModel) (from : Server) (t : Token) → IsSome (visit s from t)
visit_some s from t = by_me (s.me.0 == 0)
  where
    by_verdict : (exhausted : Bool) (asked : List Asker) → IsSome (verdict exhausted asked from t)
    by_verdict exhausted [] = refl
    by_verdict true (first ∷ more) = refl
    by_verdict false (first ∷ more) = refl

    by_wave : (first : Bool) → IsSome (cond first (plan (tests_now s from t) []) (verdict s.kept.exhausted t.asked from t))
    by_wave true = refl
    by_wave false = by_verdict s.kept.exhausted t.asked

    other_wave : (first : Bool) → IsSome (cond first (plan (marks (is_quiet s) from t) []) (plan (tests_now s from t) []))
    other_wave true = refl
    other_wave false = refl

    by_me : (zeroth : Bool) → IsSome (cond zeroth (visit_zeroth s from t) (visit_other s from t))
    by_me true = by_wave (t.wave == 1)
    by_me false = other_wave (t.wave == 1)

-- a letter of another server has a rule exactly if it is awaited
pub server_rule_awaited : (s : ServerModel) (from : Server) (message : Message)
    → IsSome (server_rule s from message) ↔ IsAwaitedFrom s from message
server_rule_awaited s from (tells.Ask rank request types) = if_some (expects_ask s from rank) _ (expects_ask_says s from rank)
server_rule_awaited s from (tells.AskGrant rank request note) = pass_some s from rank request note
server_rule_awaited s from (tells.AskNone rank request) = wake_some s from rank request
server_rule_awaited s from (tells.Hint rank request) = hint_some s from rank request
server_rule_awaited s from (tells.PushQuery id length) = if_some (expects_query s.kept id) _ (query_says s.kept id)
server_rule_awaited s from (tells.PushYes id) =
    yes_some s.kept.pushing from id (find (is_free_as id) s.kept.queue.units) s.kept.pushing.push refl
server_rule_awaited s from (tells.PushNo id) = no_some s.kept.pushing from id s.kept.pushing.push refl
server_rule_awaited s from (tells.PushAck id) = ack_some s.kept.pushing from id s.kept.pushing.push refl
server_rule_awaited s from (tells.PushUnit unit) = if_some (expects_unit s.kept unit) _ (unit_comes_says s.kept unit)
server_rule_awaited s from (tells.PushCancel id) =
    if_some (has_promise id s.kept.queue.promises) _ (promise_says id s.kept.queue.promises)
server_rule_awaited s from tells.Notice = if_some (s.me.0 == 0) _ (same_says s.me.0 0)
server_rule_awaited s from (tells.Token t) =
    always_some (expects (ring_at s) from t) (visit s from t) (visit_some s from t)
    (expects_is (ring_at s) from t, expects_tested (ring_at s) from t)
server_rule_awaited s from (tells.Failed t why) = if_some (is_running (ring_at s) t) _ (running_says (ring_at s) t)
server_rule_awaited s from tells.Exhaust = if_some (from.0 == 0) _ (same_says from.0 0)
server_rule_awaited s from tells.Shutdown = if_some (from.0 == 0) _ (same_says from.0 0)
server_rule_awaited s from _ = (λ some. absurd (cc), λ never. absurd never)

-- no server writes to itself
another_says : (from me : Server) → ((from.0 == me.0) ≡ false) ↔ (from ≢ me)
another_says from me = (
  λ apart same. both_ways (from.0 == me.0) apart ((server_says from me).1 same),
  λ differs. false_from_ne_true (from.0 == me.0) (λ same. differs ((server_says from me).0 same)),
)

-- Steps.

module _ (s : ServerModel) (from : Actor) (letter : Letter) where
  abbrev now : ServerModel
  now = at_event s letter

  step_says : {A B : Type 0} → Says (is_within s.config from) A → IsSome (rule now from letter.message) ↔ B
      → IsSome (serve s from letter) ↔ ((A × (letter.stamp < stamp_limit)) × B)
  step_says says awaited =
      let within = both_say _ _ says (below_says letter.stamp stamp_limit) in
      let carry : List Act → Served = λ list. carried list now in
      let list : Option (List Act) = acts now from letter.message in
      where_some _ (option_map carry list) within
      (map_some carry list (map_some (in_order ends_event now) (rule now from letter.message) awaited))

-- exactly the letters that are expected have a step
pub expected_have_steps : ExpectedHaveSteps
expected_have_steps s (by.Server from) letter =
    let t = at_event s letter in
    let awaited = where_apart (from.0 == s.me.0) (server_rule t from letter.message) (another_says from s.me)
    (server_rule_awaited t from letter.message) in
    let step = step_says s (by.Server from) letter (below_says from.0 s.config.servers) awaited in
    (λ some. let is = step.0 some in (is.0.0, is.1.0, is.0.1, is.1.1), λ is. step.1 ((is.0, is.2), (is.1, is.3)))
expected_have_steps s (by.Rank from) letter =
    let step = step_says s (by.Rank from) letter (below_says from.0 s.config.ranks) (rule_awaited s from letter.message) in
    (λ some. let is = step.0 some in (is.0.0, is.0.1, is.1), λ is. step.1 ((is.0, is.1), is.2))
