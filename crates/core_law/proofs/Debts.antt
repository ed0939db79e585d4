-- Between events no server owes an acknowledgement; so of each push that stands exactly one letter is under way.
use Rattle.std.proofs.Common.{◌≡◌, ◌≢◌, ◌<◌, ℕ, ◌==◌, ◌&&◌, Bool, true, false, List, [], ◌∷◌, length, get_or, Option, None, Some, refl, sym}
use Rattle.std.proofs.Common.{ap, ◌∙◌, subst, arith}
use Rattle.std.specs.Prelude.{is_some}
use Rattle.std.proofs.lemmas.Bool.{eq-eqb, eqb-true, false_from_ne_true}
use Rattle.std.proofs.lemmas.List.{get_or_default}
use Rattle.adlb_unit.specs.Ids.{same_unit}
use Rattle.adlb_unit.specs.declared.actors.Actor.{Actor}
use Rattle.adlb_unit.specs.declared.actors.Actor.TheVariants as by
use Rattle.adlb_unit.specs.declared.configs.Config.{Config}
use Rattle.adlb_unit.specs.declared.letters.Letter.{Letter}
use Rattle.adlb_unit.specs.declared.names.Server.{Server}
use Rattle.adlb_unit.specs.declared.names.UnitId.{UnitId}
use Rattle.server_components.specs.Pushes.{is_push_as, is_sent, some_push}
use Rattle.server_components.specs.declared.standing.StandingPush.{StandingPush}
use Rattle.server_law.specs.Carried.{Served}
use Rattle.server_law.specs.State.{ServerModel, start as new_pool}
use Rattle.server_law.proofs.Debts.{events_pay}
use Rattle.core_run.specs.declared.events.Event.{Event}
use Rattle.core_run.specs.Runs.{Runs}
use Rattle.core_run.specs.World.{World, after_server, pool_of, server_named, start, taken}
use Rattle.core_law.specs.Letters.{one}
use Rattle.core_law.specs.Measures.{PushBalance, due, links_weight, measure, push_weights, server_weight, weigh_at, weight}
use Rattle.core_law.specs.Own.{NoneOwes}
use Rattle.core_law.specs.Pushed.{letters_of}
use Rattle.core_law.specs.Pushes.{is_push, push_as, push_letter, pushing, pushing_to}
use Rattle.core_law.specs.Well.{IsWell}
use Rattle.core_law.proofs.Actors.{every_pool}
use Rattle.core_law.proofs.EveryRun.{begins_well, pool_at, well_kept}
use Rattle.core_law.proofs.OnLinks.{all_zero}
use Rattle.core_law.proofs.OwedByRanks.{no_sum}
use Rattle.core_law.proofs.PushRows.{elsewhere}
use Rattle.core_law.proofs.Sums.{one_adds}
use Rattle.core_law.proofs.Steps.{A_call, A_request, An_answer, Does, Serves, happens_does}
use Rattle.core_law.proofs.LettersAndActors.{inside_servers}

-- Along a run.

abbrev OwesNone : ServerModel → Type 0
OwesNone s = s.kept.owed ≡ None

event_paid : (w next : World) (from : Actor) (me : Server) (letter : Letter) (rest : List Letter) (x : Served) → IsWell w → NoneOwes w
    → Serves w from me letter rest x next → NoneOwes (after_server w me (taken w from (by.Server me) rest) x)
event_paid w next from me letter rest x well none does =
    let now = events_pay (pool_of w me) from letter x (none me does.here) does.does in
    every_pool (λ t s. OwesNone s) w me x.state (inside_servers w me well does.here) now (λ other there differs. none other there)

paid_kept : (w next : World) → IsWell w → NoneOwes w → Does w next → NoneOwes next
paid_kept w next well none (A_call does) = subst NoneOwes (sym does.is) none
paid_kept w next well none (An_answer does) = subst NoneOwes (sym does.is) none
paid_kept w next well none (A_request {from = from} {me = me} {letter = letter} {rest = rest} {x = x} does) =
    subst NoneOwes (sym does.is) (event_paid w next from me letter rest x well none does)

run_paid : (w last : World) (events : List Event) → IsWell w → NoneOwes w → Runs w events last → NoneOwes last
run_paid w last [] well none run = subst NoneOwes run none
run_paid w last (e ∷ events) well none run =
    let d = happens_does w run.0 e run.1 in
    run_paid run.0 last events (well_kept w run.0 well d) (paid_kept w run.0 well none d) run.2

begins_paid : (config : Config) → NoneOwes (start config)
begins_paid config server within = subst OwesNone (sym (pool_at config server within)) refl

-- in every run no server owes an acknowledgement between events
pub every_run_paid : (config : Config) (events : List Event) (w : World) → Runs (start config) events w → NoneOwes w
every_run_paid config events w run = run_paid (start config) w events (begins_well config) (begins_paid config) run

-- What is under way of pushes.

none_owed : (b : PushBalance) (w : World) → IsWell w → NoneOwes w → weigh_at (server_weight (push_weights b).server) w.servers ≡ 0
none_owed b w well none =
    let d = new_pool w.config (server_named 0) in
    all_zero (server_weight (push_weights b).server) w.servers d
    (λ i inside.
    let same : get_or w.servers i d ≡ pool_of w (server_named i) =
    get_or_default w.servers i d (new_pool w.config (server_named i)) inside in
    ap (λ (s : ServerModel). weight (b.owed i) s.kept.owed) same
    ∙ ap (weight (b.owed i)) (none (server_named i) (let e = (well.shape).servers in omega arith)))

elsewhere_none : (a : Server) (place : ℕ) (o : Option StandingPush) → place ≢ a.0 → weight (λ (p : StandingPush). one (place == a.0)) o ≡ 0
elsewhere_none a place None differs = refl
elsewhere_none a place (Some p) differs =
    let no_one = false_from_ne_true (place == a.0) (λ same. differs (eqb-true place a.0 same)) in rw no_one refl

of_one : (a : Server) (o : Option StandingPush) → weight (λ (p : StandingPush). one (a.0 == a.0)) o ≡ one (is_some o)
of_one a None = refl
of_one a (Some p) = rw (eq-eqb a.0 a.0 refl) refl

in_turn : (s t u : Bool) → one (s && (true && (t && u))) ≡ one (t && (u && s))
in_turn true true true = refl
in_turn true true false = refl
in_turn true false u = refl
in_turn false true true = refl
in_turn false true false = refl
in_turn false false u = refl

of_this : (a t : Server) (id : UnitId) (sent : Bool) (o : Option StandingPush)
    → weight (λ (p : StandingPush). one (is_sent sent p.sent && is_push a t id a.0 p.to.0 p.id)) o
    ≡ one (some_push (is_push_as t id sent) o)
of_this a t id sent None = refl
of_this a t id sent (Some p) = rw (eq-eqb a.0 a.0 refl) (in_turn (is_sent sent p.sent) (p.to.0 == t.0) (same_unit p.id id))

-- the letters of a balance are as many as the push at its server weighs
under_way : (b : PushBalance) (w : World) (a : Server) → IsWell w → NoneOwes w → a.0 < w.config.servers
    → ((i : ℕ) (s : ServerModel) → i ≢ a.0 → weight (b.due i) s.kept.pushing.push ≡ 0)
    → measure (push_weights b) w ≡ due (push_weights b) w
    → links_weight w.config (letters_of b.letter) w.links ≡ weight (b.due a.0) (pool_of w a).kept.pushing.push
unfolding measure due
under_way b w a well none there others same =
    let owes = none_owed b w well none in
    let ranks = no_sum w.ranks in
    let inside : a.0 < length w.servers = let e = (well.shape).servers in omega arith in
    let only = one_adds (server_weight (push_weights b).server_due) w.servers a.0 (new_pool w.config a) inside others in
    omega arith

-- of a push that goes on exactly one letter is under way
pub letters_of_push : (w : World) (a : Server) → IsWell w → NoneOwes w → a.0 < w.config.servers
    → links_weight w.config (letters_of (push_letter a)) w.links ≡ one (is_some (pool_of w a).kept.pushing.push)
letters_of_push w a well none there =
    under_way (pushing a) w a well none there (λ i s differs. elsewhere_none a i s.kept.pushing.push differs) (well.push a).same
    ∙ of_one a (pool_of w a).kept.pushing.push

-- of a push, by server, unit and what was sent, exactly one letter is under way while it goes on
pub letters_of_this : (w : World) (a t : Server) (id : UnitId) (sent : Bool) → IsWell w → NoneOwes w → a.0 < w.config.servers
    → links_weight w.config (letters_of (push_as a t id sent)) w.links
    ≡ one (some_push (is_push_as t id sent) (pool_of w a).kept.pushing.push)
letters_of_this w a t id sent well none there =
    under_way (pushing_to a t id sent) w a well none there (λ i s differs. elsewhere a t id sent i s.kept.pushing.push differs)
    (well.push_to a t id sent).same
    ∙ of_this a t id sent (pool_of w a).kept.pushing.push
