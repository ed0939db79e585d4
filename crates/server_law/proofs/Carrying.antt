-- What acts make of a server, one after the other.
use Rattle.std.proofs.Common.{◌≡◌, ◌<◌, ◌==◌, ℕ, true, false, cond, List, [], ◌∷◌, ◌++◌, find, Option, Some, None, refl, sym, ap, ◌∙◌}
use Rattle.std.proofs.Common.{append_assoc}
use Rattle.std.specs.Option.{option_map}
use Rattle.std.proofs.lemmas.Bool.{lt-ltb}
use Rattle.std.proofs.lemmas.List.{append-nil}
use Rattle.adlb_unit.specs.Limits.{stamp_limit}
use Rattle.adlb_unit.specs.Links.{is_within}
use Rattle.adlb_unit.specs.declared.actors.Actor.{Actor}
use Rattle.adlb_unit.specs.declared.actors.Actor.TheVariants as by
use Rattle.adlb_unit.specs.declared.letters.Letter.{Letter}
use Rattle.adlb_unit.specs.declared.messages.Message.{Message}
use Rattle.adlb_unit.specs.declared.messages.Message.TheVariants as tells
use Rattle.adlb_unit.specs.declared.messages.Why.{Why}
use Rattle.adlb_unit.specs.declared.names.Rank.{Rank}
use Rattle.adlb_unit.specs.declared.names.Server.{Server}
use Rattle.adlb_unit.specs.declared.names.UnitId.{UnitId}
use Rattle.adlb_unit.specs.declared.notes.End.TheVariants as ends_by
use Rattle.adlb_unit.specs.declared.notes.UnitNote.{UnitNote}
use Rattle.adlb_unit.specs.declared.tokens.Token.{Token}
use Rattle.adlb_unit.specs.declared.units.Unit.{Unit}
use Rattle.exhaust_ring.specs.Expected.{expects, is_running}
use Rattle.work_queue.specs.declared.placing.Placed.{Placed}
use Rattle.server_law.specs.Acts.{Act, Arrives, Drops_hint, Ends_push, Fetches, Hears_done, Hears_exhaust, Hears_failed, Hears_shutdown}
use Rattle.server_law.specs.Acts.{Is_hinted, Notes_finish, Passes_on, ServerSaying, Stops_push, Wakes, Wants, Withdraws, entries}
use Rattle.server_law.specs.Asks.{answer_now, expects_ask}
use Rattle.server_law.specs.Carried.{Served, all_counted, all_done, carried, counted, done, joined, posted, sends, stamped}
use Rattle.server_law.specs.Checks.{failed_rule, token_rule, visit}
use Rattle.server_law.specs.Endings.{ends_event, tells_idle}
use Rattle.server_law.specs.Finding.{Place, exceeds, has_asked, has_promise, is_free_as, is_pinned_as, place_in}
use Rattle.server_law.specs.Hints.{expects_hint}
use Rattle.server_law.specs.Plan.{Decider, Plan, decided, in_order, plan}
use Rattle.server_components.specs.Pushes.{asks_room, has_sent}
use Rattle.server_components.proofs.StandingPushes.{push_from}
use Rattle.server_law.specs.Presses.{presses}
use Rattle.server_law.specs.Pushes.{acks, answer_query, expects_query, expects_unit, sends as sends_on}
use Rattle.server_law.specs.Puts.{expects_put, is_taken, put_now, settles}
use Rattle.server_law.specs.Reserves.{reserve_now}
use Rattle.server_components.specs.Calls.{is_since}
use Rattle.server_components.specs.declared.wishes.Wish.{Wish}
use Rattle.server_law.specs.State.{ServerModel, ring_at, runs, runs_at_home}
use Rattle.server_law.specs.Step.{acts, at_event, rule, serve}
use Rattle.server_law.specs.Waits.{asks_on, looks_again}

-- Letters.

-- the stamps and places of two lists of letters, one after the other
pub stamped_joined : (xs ys : List ServerSaying) (s : ServerModel) → stamped s (xs ++ ys) ≡ stamped s xs ++ stamped (all_counted s xs) ys
stamped_joined [] ys s = refl
stamped_joined (x ∷ xs) ys s = ap (λ l. posted s x ∷ l) (stamped_joined xs ys (counted s x.to))

-- two lists of letters counted one after the other
pub counted_joined : (xs ys : List ServerSaying) (s : ServerModel) → all_counted s (xs ++ ys) ≡ all_counted (all_counted s xs) ys
counted_joined [] ys s = refl
counted_joined (x ∷ xs) ys s = counted_joined xs ys (counted s x.to)

-- Acts.

-- one act alone
abbrev pub performed : Act → ServerModel → Served
performed a s = record { state = done a s; sends = sends a s; entries = entries a s }

-- more acts, after what was done before
abbrev pub followed : Served → List Act → Served
followed x list = joined x.sends x.entries (carried list x.state)

-- likewise one act
abbrev pub with_act : Served → Act → Served
with_act x a = record { state = done a x.state; sends = x.sends ++ sends a x.state; entries = x.entries ++ entries a x.state }

-- acts are the first, followed by the others
pub carried_more : (a : Act) (more : List Act) (s : ServerModel) → carried (a ∷ more) s ≡ followed (performed a s) more
carried_more a more s = refl

-- if no act follows, nothing changes
pub followed_none : (x : Served) → followed x [] ≡ x
followed_none x = rw (append-nil x.sends, append-nil x.entries) refl

-- one more act that follows is carried out first
pub followed_more : (x : Served) (a : Act) (more : List Act) → followed x (a ∷ more) ≡ followed (with_act x a) more
followed_more x a more =
    let rest = carried more (done a x.state) in
    rw (append_assoc x.sends (sends a x.state) rest.sends, append_assoc x.entries (entries a x.state) rest.entries) refl

-- one act that follows is carried out
pub followed_one : (x : Served) (a : Act) → followed x (a ∷ []) ≡ with_act x a
followed_one x a = followed_more x a [] ∙ followed_none (with_act x a)

-- acts that follow in two parts
pub followed_joined : (xs ys : List Act) (x : Served) → followed x (xs ++ ys) ≡ followed (followed x xs) ys
followed_joined [] ys x = ap (λ z. followed z ys) (sym (followed_none x))
followed_joined (a ∷ xs) ys x =
    followed_more x a (xs ++ ys) ∙ followed_joined xs ys (with_act x a) ∙ ap (λ z. followed z ys) (sym (followed_more x a xs))

-- acts that are carried out leave the state that they make one after the other
pub carried_state : (list : List Act) (s : ServerModel) → (carried list s).state ≡ all_done list s
carried_state [] s = refl
carried_state (a ∷ list) s = carried_state list (done a s)

-- Plans.

-- what these decide, each by the server as it is by then
abbrev pub followed_by : Served → List Decider → Served
followed_by x [] = x
followed_by x (d ∷ ds) = followed_by (followed x (d x.state)) ds

-- what deciders give is carried out one after the other
pub decided_carried : (ds : List Decider) (x : Served) → followed x (decided ds x.state) ≡ followed_by x ds
decided_carried [] x = followed_none x
decided_carried (d ∷ ds) x =
    let first = d x.state in
    followed_joined first (decided ds (all_done first x.state)) x
    ∙ ap (λ s. followed (followed x first) (decided ds s)) (sym (carried_state first x.state))
    ∙ decided_carried ds (followed x first)

-- a plan is its first act, and then what its deciders give
pub plan_carried : (last : List Decider) (s : ServerModel) (p : Plan)
    → carried (in_order last s p) s ≡ followed_by (performed p.first s) (p.follow ++ last)
plan_carried last s p = decided_carried (p.follow ++ last) (performed p.first s)

-- Steps.

-- the acts with which the message is handled, carried out
abbrev pub handled : ServerModel → Actor → Message → Option Served
handled s from message = option_map (λ list. carried list s) (acts s from message)

-- a letter with a stamp that is given is served by its rule
pub serve_is : (s : ServerModel) (from : Actor) (letter : Letter) → is_within s.config from ≡ true → letter.stamp < stamp_limit
    → serve s from letter ≡ handled (at_event s letter) from letter.message
serve_is s from letter within given = rw (within, lt-ltb letter.stamp stamp_limit given) refl

-- a letter that has a rule is handled by it
pub handled_by : (s : ServerModel) (from : Actor) (message : Message) (first : Act) (follow : List Decider)
    → rule s from message ≡ plan first follow
    → handled s from message ≡ Some (followed_by (performed first s) (follow ++ ends_event))
handled_by s from message first follow is =
    ap (λ o. option_map (λ list. carried list s) (option_map (in_order ends_event s) o)) is
    ∙ ap (λ x. Some x) (plan_carried ends_event s (record { first = first; follow = follow }))

-- how a put is handled
pub put_handled : (s : ServerModel) (from : Rank) (unit : Unit) → expects_put s from unit ≡ true
    → handled s (by.Rank from) (tells.Put unit)
    ≡ Some (followed_by (performed (put_now s.kept unit) s) (settles unit.id ∷ presses (is_taken s.kept unit) ∷ ends_event))
put_handled s from unit expected =
    handled_by s (by.Rank from) (tells.Put unit) (put_now s.kept unit)
    (settles unit.id ∷ presses (is_taken s.kept unit) ∷ []) (rw expected refl)

-- how a reserve is handled
pub reserve_handled : (s : ServerModel) (wish : Wish) → runs_at_home s wish.rank ≡ true
    → handled s (by.Rank wish.rank) (tells.Reserve wish.request wish.types)
    ≡ Some (followed_by (performed (reserve_now s.kept wish) s) (asks_on wish.rank ∷ ends_event))
reserve_handled s wish expected =
    handled_by s (by.Rank wish.rank) (tells.Reserve wish.request wish.types) (reserve_now s.kept wish) (asks_on wish.rank ∷ [])
    (rw expected refl)

-- how a fetch is handled
pub fetch_handled : (s : ServerModel) (from : Rank) (request : ℕ) (id : UnitId) (p : Placed)
    → find (is_pinned_as id from) s.kept.queue.units ≡ Some p
    → handled s (by.Rank from) (tells.Fetch request id)
    ≡ Some (followed_by (performed (Fetches from request id p.unit) s) ends_event)
fetch_handled s from request id p found =
    handled_by s (by.Rank from) (tells.Fetch request id) (Fetches from request id p.unit) [] (rw found refl)

-- how Finish is handled
pub finish_handled : (s : ServerModel) (from : Rank) → runs s.kept from ≡ true
    → handled s (by.Rank from) tells.Finish ≡ Some (followed_by (performed (Notes_finish from) s) ends_event)
finish_handled s from expected = handled_by s (by.Rank from) tells.Finish (Notes_finish from) [] (rw expected refl)

-- how the word that the problem is done is handled
pub done_handled : (s : ServerModel) (from : Rank) (request : ℕ)
    → handled s (by.Rank from) (tells.Done request)
    ≡ Some (followed_by (performed (Hears_done from request) s) (tells_idle ends_by.NoMoreWork ∷ ends_event))
done_handled s from request =
    handled_by s (by.Rank from) (tells.Done request) (Hears_done from request) (tells_idle ends_by.NoMoreWork ∷ []) refl

-- Letters of another server.

-- how a request of another home is handled
pub ask_handled : (s : ServerModel) (from : Server) (wish : Wish) → (from.0 == s.me.0) ≡ false → expects_ask s from wish.rank ≡ true
    → handled s (by.Server from) (tells.Ask wish.rank wish.request wish.types)
    ≡ Some (followed_by (performed (answer_now s.kept from wish) s) ends_event)
ask_handled s from wish other expected =
    handled_by s (by.Server from) (tells.Ask wish.rank wish.request wish.types) (answer_now s.kept from wish) []
    (rw (other, expected) refl)

-- where the sender was asked for the rank that waits here since this call
module _ (s : ServerModel) (from : Server) (rank : Rank) (request : ℕ) (p : Place) (other : (from.0 == s.me.0) ≡ false)
    (found : place_in (has_asked from rank request) s.kept.parked.waiting ≡ Some p) (asked : p.here.asked ≡ Some from) where
  -- a grant of the server that was asked is passed on to the rank
  pub grant_handled : (note : UnitNote) → handled s (by.Server from) (tells.AskGrant rank request note)
      ≡ Some (followed_by (performed (Passes_on p.at p.here.wish from p.here.to_ask note) s) ends_event)
  grant_handled note =
      handled_by s (by.Server from) (tells.AskGrant rank request note) (Passes_on p.at p.here.wish from p.here.to_ask note) []
      (rw (other, found, asked) refl)

  -- after the answer that nothing was found, the home looks again and asks on
  pub none_handled : handled s (by.Server from) (tells.AskNone rank request)
      ≡ Some (followed_by (performed (Wakes p.at p.here.wish from p.here.to_ask) s)
      (looks_again p.here.wish.rank ∷ asks_on p.here.wish.rank ∷ ends_event))
  none_handled =
      handled_by s (by.Server from) (tells.AskNone rank request) (Wakes p.at p.here.wish from p.here.to_ask)
      (looks_again p.here.wish.rank ∷ asks_on p.here.wish.rank ∷ []) (rw (other, found, asked) refl)

module _ (s : ServerModel) (from : Server) (rank : Rank) (request : ℕ) (other : (from.0 == s.me.0) ≡ false)
    (expected : expects_hint s rank ≡ true) where
  -- a hint for a rank that waits makes the home ask
  pub hint_handled : (p : Place) → place_in (is_since rank request) s.kept.parked.waiting ≡ Some p
      → handled s (by.Server from) (tells.Hint rank request)
      ≡ Some (followed_by (performed (Is_hinted p.at p.here from) s) (asks_on p.here.wish.rank ∷ ends_event))
  hint_handled p found =
      handled_by s (by.Server from) (tells.Hint rank request) (Is_hinted p.at p.here from) (asks_on p.here.wish.rank ∷ [])
      (rw (other, expected, found) refl)

  -- a hint for a rank that waits no longer is dropped
  pub late_hint_handled : place_in (is_since rank request) s.kept.parked.waiting ≡ None
      → handled s (by.Server from) (tells.Hint rank request)
      ≡ Some (followed_by (performed (Drops_hint from rank request) s) ends_event)
  late_hint_handled found =
      handled_by s (by.Server from) (tells.Hint rank request) (Drops_hint from rank request) [] (rw (other, expected, found) refl)

-- Pushes.

module _ (s : ServerModel) (from : Server) (id : UnitId) (other : (from.0 == s.me.0) ≡ false) where
  -- a query is answered by whether there is room
  pub query_handled : (n : ℕ) → expects_query s.kept id ≡ true
      → handled s (by.Server from) (tells.PushQuery id n)
      ≡ Some (followed_by (performed (answer_query (exceeds s.kept.queue n) from id n) s) ends_event)
  query_handled n expected =
      handled_by s (by.Server from) (tells.PushQuery id n) (answer_query (exceeds s.kept.queue n) from id n) [] (rw (other, expected) refl)

  -- where this server's push stands
  pub yes_handled : (n : ℕ) → s.kept.pushing.push ≡ Some (asks_room from id n)
      → handled s (by.Server from) (tells.PushYes id)
      ≡ Some (followed_by (performed (sends_on from id n (find (is_free_as id) s.kept.queue.units)) s) ends_event)
  yes_handled n stands =
      handled_by s (by.Server from) (tells.PushYes id) (sends_on from id n (find (is_free_as id) s.kept.queue.units)) []
      (rw (other, stands, push_from from id n false) refl)

  -- a refused push stops
  pub no_handled : (n : ℕ) → s.kept.pushing.push ≡ Some (asks_room from id n)
      → handled s (by.Server from) (tells.PushNo id) ≡ Some (followed_by (performed (Stops_push from id n) s) ends_event)
  no_handled n stands =
      handled_by s (by.Server from) (tells.PushNo id) (Stops_push from id n) [] (rw (other, stands, push_from from id n false) refl)

  -- an acknowledged push ends
  pub ack_handled : (n : ℕ) → s.kept.pushing.push ≡ Some (has_sent from id n)
      → handled s (by.Server from) (tells.PushAck id) ≡ Some (followed_by (performed (Ends_push from id n) s) ends_event)
  ack_handled n stands =
      handled_by s (by.Server from) (tells.PushAck id) (Ends_push from id n) [] (rw (other, stands, push_from from id n true) refl)

  -- where room was promised here
  pub cancel_handled : has_promise id s.kept.queue.promises ≡ true
      → handled s (by.Server from) (tells.PushCancel id) ≡ Some (followed_by (performed (Withdraws from id) s) ends_event)
  cancel_handled expected =
      handled_by s (by.Server from) (tells.PushCancel id) (Withdraws from id) [] (rw (other, expected) refl)

-- how a unit that comes is handled
pub unit_handled : (s : ServerModel) (from : Server) (unit : Unit) → (from.0 == s.me.0) ≡ false → expects_unit s.kept unit ≡ true
    → handled s (by.Server from) (tells.PushUnit unit)
    ≡ Some (followed_by (performed (Arrives from unit) s) (settles unit.id ∷ acks ∷ ends_event))
unit_handled s from unit other expected =
    handled_by s (by.Server from) (tells.PushUnit unit) (Arrives from unit) (settles unit.id ∷ acks ∷ []) (rw (other, expected) refl)

-- Checks.

module _ (s : ServerModel) (from : Server) (other : (from.0 == s.me.0) ≡ false) where
  -- a notice at server 0 is noted
  pub notice_handled : (s.me.0 == 0) ≡ true
      → handled s (by.Server from) tells.Notice ≡ Some (followed_by (performed (Wants from) s) ends_event)
  notice_handled zeroth = handled_by s (by.Server from) tells.Notice (Wants from) [] (rw (other, zeroth) refl)

  -- by what the visit comes to
  pub token_handled : (t : Token) (first : Act) (follow : List Decider) → expects (ring_at s) from t ≡ true
      → visit s from t ≡ plan first follow
      → handled s (by.Server from) (tells.Token t) ≡ Some (followed_by (performed first s) (follow ++ ends_event))
  token_handled t first follow expected is =
      handled_by s (by.Server from) (tells.Token t) first follow
      (ap (λ b. cond b None (token_rule s from t)) other ∙ ap (λ b. cond b (visit s from t) None) expected ∙ is)

  -- the failure of the check that runs is noted
  pub failed_handled : (t : Token) (why : Why) → is_running (ring_at s) t ≡ true
      → handled s (by.Server from) (tells.Failed t why) ≡ Some (followed_by (performed (Hears_failed from t why) s) ends_event)
  failed_handled t why runs =
      handled_by s (by.Server from) (tells.Failed t why) (Hears_failed from t why) []
      (ap (λ b. cond b None (failed_rule s from t why)) other ∙ ap (λ b. cond b (plan (Hears_failed from t why) []) None) runs)

  -- where the sender is server 0
  pub exhaust_handled : (from.0 == 0) ≡ true
      → handled s (by.Server from) tells.Exhaust
      ≡ Some (followed_by (performed (Hears_exhaust from) s) (tells_idle ends_by.Exhausted ∷ ends_event))
  exhaust_handled zeroth =
      handled_by s (by.Server from) tells.Exhaust (Hears_exhaust from) (tells_idle ends_by.Exhausted ∷ []) (rw (other, zeroth) refl)

  -- a shutdown from server 0 is noted
  pub shutdown_handled : (from.0 == 0) ≡ true
      → handled s (by.Server from) tells.Shutdown ≡ Some (followed_by (performed (Hears_shutdown from) s) ends_event)
  shutdown_handled zeroth = handled_by s (by.Server from) tells.Shutdown (Hears_shutdown from) [] (rw (other, zeroth) refl)
