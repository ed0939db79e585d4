-- The end of the run is found only where each rank has finished.
use Rattle.std.proofs.Common.{◌≡◌, ◌≢◌, ◌<◌, ◌≤◌, ◌⊎◌, inl, inr, ℕ, Bool, true, false, List, [], ◌∷◌, refl, sym, ap, ◌∙◌, subst, arith}
use Rattle.std.proofs.lemmas.Bool.{cases_eq}
use Rattle.adlb_unit.specs.Targets.{home}
use Rattle.adlb_unit.specs.declared.actors.Actor.{Actor}
use Rattle.adlb_unit.specs.declared.actors.Actor.TheVariants as by
use Rattle.adlb_unit.specs.declared.configs.Config.{Config}
use Rattle.adlb_unit.specs.declared.letters.Letter.{Letter}
use Rattle.adlb_unit.specs.declared.names.Rank.{Rank}
use Rattle.adlb_unit.specs.declared.names.Server.{Server}
use Rattle.adlb_unit.specs.declared.tokens.Token.{Token}
use Rattle.bag_ledger.specs.Bag.{Bag}
use Rattle.bag_ledger.specs.declared.entries.Call.{Call}
use Rattle.bag_ledger.specs.declared.states.Status.TheVariants as is_at
use Rattle.exhaust_ring.specs.Ring.{Asker}
use Rattle.rank_client.specs.Step.{Made}
use Rattle.server_components.specs.declared.wishes.Wish.{Wish}
use Rattle.server_law.specs.Acts.{Act, Hears_shutdown, Shuts, Shuts_alone, does, shut_after, takes, zeroth}
use Rattle.server_law.specs.Carried.{Served}
use Rattle.server_law.specs.State.{Kept, ServerModel}
use Rattle.server_law.specs.Step.{next_stamp, raises}
use Rattle.server_law.specs.Sure.{Sure, TakeNone}
use Rattle.core_run.specs.declared.events.Event.{Event}
use Rattle.core_run.specs.Runs.{Runs}
use Rattle.core_run.specs.World.{World, after_rank, client_of, pool_of, server_named, start, taken}
use Rattle.core_law.specs.Acting.{AreActs, IsAct, acted, acted_all, ticks}
use Rattle.core_law.specs.Letters.{one}
use Rattle.core_law.specs.Well.{IsWell}
use Rattle.core_law.proofs.Events.{event_chain}
use Rattle.core_law.proofs.EveryRun.{answer_heard, call_began, every_run_well, pool_at, run_config}
use Rattle.core_law.proofs.Resting.{client_finished}
use Rattle.core_law.proofs.Steps.{A_call, A_request, An_answer, Begins, Does, Hears, Serves, happens_does}
use Rattle.core_law.proofs.LettersAndActors.{act_well, inside_servers, own_of}
use Rattle.core_check_law.specs.Settling.{AsksAs, Has, IsResting, IsSettledBehind, IsSettling, Settles, asker, wished}
use Rattle.core_check_law.proofs.Classes.{IsMine, IsOthers, now}
use Rattle.core_check_law.proofs.EndsKept.{no_shutdown}
use Rattle.core_check_law.proofs.EndsAlong.{shutdown_told}
use Rattle.core_check_law.proofs.Events.{tick_holds, tick_settles}
use Rattle.core_check_law.proofs.Follows.{Holds}
use Rattle.core_check_law.proofs.Homes.{reach_zeroth}
use Rattle.core_check_law.proofs.Legal.{IsChecked, begins_checked, checked_kept}
use Rattle.core_check_law.proofs.Lists.{has_filter, has_map, home_below}
use Rattle.core_check_law.proofs.Ranks.{client_ended}
use Rattle.core_check_law.proofs.RestKept.{asked_of}
use Rattle.core_check_law.proofs.Ticks.{after}
use Rattle.core_check_law.proofs.Turns.{token_front, zeroth_here}
use Rattle.core_check_law.specs.OnWay.{of_home}

-- each rank has finished
abbrev pub AllFinished : World → Type 0
AllFinished w = (r : Rank) → r.0 < w.config.ranks → (client_of w r).finished ≡ true

-- as server 0 knows
abbrev pub IsShutRight : World → Type 0
IsShutRight w = (pool_of w zeroth).kept.shut ≡ true → AllFinished w

-- what the token of an empty list says
pub shuts_settling : (w : World) (b : Bag) (k from : Server) (t : Token) → Holds w b → Settles w b → IsAct w k (Shuts from t)
    → IsSettling w b w.config.servers []
shuts_settling w b k from t h on is =
    let at = ap (λ (x : Server). x.0) (zeroth_here w k h.well is.here is.sure.0.running.zeroth) in
    let far = reach_zeroth w.config k at in
    let was = token_front (IsSettledBehind w b) w k from t (Shuts from t) is refl on is.sure.0.wave
    (λ c high there. absurd (omega arith)) (inl is.sure.1) in
    subst (λ (asked : List Asker). IsSettling w b w.config.servers asked) is.sure.1
    (subst (λ (n : ℕ). IsSettling w b n t.asked) far was)

-- Where the list of the token is empty nobody waits, so that each rank has finished.
pub shuts_finished : (w : World) (b : Bag) (k from : Server) (t : Token) → Holds w b → Settles w b → IsAct w k (Shuts from t)
    → AllFinished w
shuts_finished w b k from t h on is r inside = by_rests ((settling.rest).ranks r inside)
  where
    settling : IsSettling w b w.config.servers []
    settling = shuts_settling w b k from t h on is

    nobody : (wish : Wish) → Has (wished (pool_of w (home w.config r)).kept) wish → ⊥
    nobody wish has =
        let at_home = home w.config r in
        let there = home_below w.config r in
        let waiting = (pool_of w at_home).kept.parked.waiting in
        has_filter (of_home w.config at_home) [] (asker wish)
        (subst (λ (xs : List Asker). Has xs (asker wish)) (sym (settling.listed at_home there ∙ asked_of waiting))
        (has_map asker (wished (pool_of w at_home).kept) wish has))

    by_rests : IsResting w b r → (client_of w r).finished ≡ true
    by_rests x = by_case x.rests
      where
        by_case : (x.state.status ≡ is_at.Finished) ⊎ AsksAs w r x.state → (client_of w r).finished ≡ true
        by_case (inl e) = let its = (h.lawful).seats r inside in client_ended w b r its.0 its.1 x.state x.here e
        by_case (inr asks) = absurd (nobody asks.0 asks.1)

-- Acts.

-- the act is no verdict of several servers by which one is shut
abbrev pub IsShuts : Act → Type 0
IsShuts (Shuts from t) = ⊥
IsShuts _ = Unit {0}

-- only a verdict of several servers shuts server 0
shut_same : (a : Act) (s : ServerModel) → Sure a s → s.config.servers ≢ 1 → ((from : Server) → a ≡ Hears_shutdown from → ⊥) → IsShuts a
    → shut_after a s.kept.shut ≡ s.kept.shut
shut_same (Shuts from t) s sure several other none = absurd none
shut_same (Hears_shutdown from) s sure several other none = absurd (other from refl)
shut_same Shuts_alone s sure several other none = absurd (several sure.0)
shut_same _ s sure several other none = refl

shut_or : (a : Act) → IsShuts a ⊎ ((from : Server) × (t : Token) × (a ≡ Shuts from t))
shut_or (Shuts from t) = inr (from, t, refl)
shut_or _ = inl tt

none_shuts : (a : Act) → takes a ≡ [] → IsShuts a
none_shuts (Shuts from t) none = absurd (cc)
none_shuts _ none = tt

act_shut : (w : World) (k : Server) (a : Act) → IsWell w → 1 < w.config.servers → IsAct w k a → IsShuts a → IsShutRight w
    → IsShutRight (acted w k a)
act_shut w k a well several is none was shut = was (by_server (now w k a well.shape is.here zeroth w.config.servers_within.0))
  where
    s : ServerModel
    s = pool_of w k

    by_server : IsMine w k a zeroth ⊎ IsOthers w k a zeroth → (pool_of w zeroth).kept.shut ≡ true
    by_server (inl m) =
        let own = own_of w k a well is in
        let first : s.me.0 ≡ 0 = ap (λ (x : Server). x.0) (own.named ∙ sym m.same) in
        let apart : s.config.servers ≢ 1 = λ e. let c = ap (λ (c : Config). c.servers) own.config in absurd (omega arith) in
        let same = shut_same a s is.sure apart (no_shutdown w k a well is first) none in
        ap (λ (x : Server). (pool_of w x).kept.shut) m.same ∙ sym same ∙ sym (ap (λ (x : Kept). x.shut) m.kept) ∙ shut
    by_server (inr o) = sym (ap (λ (x : Kept). x.shut) o.kept) ∙ shut

-- what follows takes no letter
follow_shut : (k : Server) (list : List Act) (w : World) → TakeNone list → AreActs w k list → IsWell w → 1 < w.config.servers
    → IsShutRight w
    → IsShutRight (acted_all w k list)
follow_shut k [] w none are well several was = was
follow_shut k (a ∷ more) w none are well several was =
    follow_shut k more (acted w k a) none.1 are.1 (act_well w k a well are.0) several
    (act_shut w k a well several are.0 (none_shuts a none.0) was)

-- the stamp of an event keeps that a server is shut only where all ranks have finished
pub tick_shut : (w : World) (me : Server) (stamp : ℕ) (up : Bool) → IsWell w → me.0 < w.config.servers → IsShutRight w
    → IsShutRight (ticks w me stamp up)
tick_shut w me stamp up well here was shut =
    let e = (after w me stamp up well here zeroth).kept in
    was (sym (ap (λ (x : Kept). x.shut) e) ∙ shut)

-- the first act
first_shut : (w : World) (b : Bag) (k : Server) (a : Act) → Holds w b → 1 < w.config.servers → Settles w b → IsAct w k a → IsShutRight w
    → IsShutRight (acted w k a)
first_shut w b k a h several on is was = by_act (shut_or a)
  where
    by_act : IsShuts a ⊎ ((from : Server) × (t : Token) × (a ≡ Shuts from t)) → IsShutRight (acted w k a)
    by_act (inl none) = act_shut w k a h.well several is none was
    by_act (inr (from, t, it)) = λ shut. shuts_finished w b k from t h on (subst (IsAct w k) it is)

event_shut : (w next : World) (from : Actor) (me : Server) (letter : Letter) (rest : List Letter) (x : Served) → IsChecked w
    → Serves w from me letter rest x next → IsShutRight w → IsShutRight next
event_shut w next from me letter rest x c does was =
    let stamp = next_stamp (pool_of w me) letter in
    let up = raises letter.message in
    let v = ticks w me stamp up in
    let h = c.holds in
    let here = does.here in
    let inside = inside_servers w me h.well here in
    let chain = event_chain w next from me letter rest x inside ((h.well).own.servers me here).wishes does in
    let are : AreActs v me (chain.first ∷ chain.more) = subst (AreActs v me) chain.shape chain.are in
    let is : next ≡ acted_all v me (chain.first ∷ chain.more) = chain.is ∙ ap (acted_all v me) chain.shape in
    let held = tick_holds w me stamp up c.bag h c.ring here in
    let now = first_shut v c.bag me chain.first held c.several (tick_settles w me stamp up c.bag h.well here c.settles) are.0
    (tick_shut w me stamp up h.well here was) in
    subst IsShutRight (sym is)
    (follow_shut me chain.more (acted v me chain.first) chain.follow are.1 (act_well v me chain.first held.well are.0) c.several now)

-- Steps of ranks: once the end is found no rank makes one.

call_shut : (w next : World) (me : Rank) (call : Call) (x : Made) → IsWell w → Begins w me call x next → IsShutRight w
    → IsShutRight (after_rank w me w.links x)
call_shut w next me call x well does was shut =
    let going = (call_began w next me call x well.own does).going in
    let ended = was shut me does.here in
    absurd (cc)

answer_shut : (w next : World) (from : Server) (me : Rank) (letter : Letter) (rest : List Letter) (x : Made) → IsWell w
    → Hears w from me letter rest x next → IsShutRight w
    → IsShutRight (after_rank w me (taken w (by.Server from) (by.Rank me) rest) x)
answer_shut w next from me letter rest x well does was shut =
    let going = (answer_heard w next from me letter rest x well.own does).going in
    let ended = was shut me does.here in
    absurd (cc)

-- each event keeps that a server is shut only where all ranks have finished
pub shut_kept : (w next : World) → IsChecked w → Does w next → IsShutRight w → IsShutRight next
shut_kept w next c (A_call {me = me} {call = call} {x = x} does) was =
    subst IsShutRight (sym does.is) (call_shut w next me call x (c.holds).well does was)
shut_kept w next c (An_answer {from = from} {me = me} {letter = letter} {rest = rest} {x = x} does) was =
    subst IsShutRight (sym does.is) (answer_shut w next from me letter rest x (c.holds).well does was)
shut_kept w next c (A_request {from = from} {me = me} {letter = letter} {rest = rest} {x = x} does) was =
    event_shut w next from me letter rest x c does was

-- Along every run.

run_shut : (w last : World) (events : List Event) → IsChecked w → Runs w events last → IsShutRight w → IsShutRight last
run_shut w last [] c run was = subst IsShutRight run was
run_shut w last (e ∷ events) c run was =
    let does = happens_does w run.0 e run.1 in
    run_shut run.0 last events (checked_kept w run.0 c does) run.2 (shut_kept w run.0 c does was)

-- at the start no server is shut
pub begins_open : (config : Config) → IsShutRight (start config)
begins_open config shut =
    let open_still = ap (λ (s : ServerModel). s.kept.shut) (pool_at config zeroth config.servers_within.0) in
    let both : false ≡ true = sym open_still ∙ shut in
    absurd (cc)

-- a server that is alone knows it of itself
alone_shut : (w : World) → IsWell w → w.config.servers ≡ 1 → IsShutRight w
alone_shut w well alone shut r inside =
    let here = w.config.servers_within.0 in
    let pool = well.own.servers zeroth here in
    let all = pool.shut alone shut in
    client_finished w zeroth r well inside here (all r.0 false (let long = pool.finished in omega arith))

-- in every run a server is shut only where all ranks have finished
pub every_run_shut : (config : Config) (events : List Event) (w : World) → Runs (start config) events w → IsShutRight w
every_run_shut config events w run = by_number (cases_eq config.servers 1)
  where
    same : w.config ≡ config
    same = run_config (start config) w events run

    by_number : (config.servers ≡ 1) ⊎ (config.servers ≢ 1) → IsShutRight w
    by_number (inl alone) = alone_shut w (every_run_well config events w run) (ap (λ (k : Config). k.servers) same ∙ alone)
    by_number (inr differs) =
        let some = config.servers_within.0 in
        run_shut (start config) w events (begins_checked config (omega arith)) run (begins_open config)

-- a server is told by server 0
pub shut_first : (config : Config) (events : List Event) (w : World) (server : Server) → server.0 < config.servers
    → Runs (start config) events w
    → (pool_of w server).kept.shut ≡ true → (pool_of w zeroth).kept.shut ≡ true
shut_first config events w server there run shut = by_place (cases_eq server.0 0)
  where
    is_one : (t : Bool) → 1 ≤ one t → t ≡ true
    is_one true some = refl
    is_one false some = absurd (omega arith)

    by_place : (server.0 ≡ 0) ⊎ (server.0 ≢ 0) → (pool_of w zeroth).kept.shut ≡ true
    by_place (inl first) = subst (λ (s : Server). (pool_of w s).kept.shut ≡ true) (ap server_named first) shut
    by_place (inr other) =
        let told = shutdown_told config events w server other there run in
        let mine : one (pool_of w server).kept.shut ≡ 1 = ap one shut in
        is_one (pool_of w zeroth).kept.shut (omega arith)

-- as each server knows
pub shut_is_right : (config : Config) (events : List Event) (w : World) (server : Server) (rank : Rank) → server.0 < config.servers
    → rank.0 < config.ranks → Runs (start config) events w → (pool_of w server).kept.shut ≡ true → (client_of w rank).finished ≡ true
shut_is_right config events w server rank there inside run shut =
    every_run_shut config events w run (shut_first config events w server there run shut) rank within
  where
    same : w.config ≡ config
    same = run_config (start config) w events run

    within : rank.0 < w.config.ranks
    within = let e = ap (λ (k : Config). k.ranks) same in omega arith
