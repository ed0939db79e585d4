-- In every run the ledger is a legal run of the bag, also where several servers find that all work is used up.
use Rattle.std.proofs.Common.{◌≡◌, ◌≢◌, ◌<◌, ◌⊎◌, inl, inr, false, List, [], ◌∷◌, None, refl, sym, subst, arith}
use Rattle.std.proofs.lemmas.Bool.{cases_eq}
use Rattle.adlb_unit.specs.Links.{place_of}
use Rattle.adlb_unit.specs.declared.configs.Config.{Config}
use Rattle.adlb_unit.specs.declared.letters.Letter.{Letter}
use Rattle.adlb_unit.specs.declared.names.Server.{Server}
use Rattle.bag_ledger.specs.Bag.{Bag, start as empty_bag}
use Rattle.bag_ledger.specs.Runs.{IsLegal, IsRun}
use Rattle.server_components.specs.declared.waits.Waiting.{Waiting}
use Rattle.core_run.specs.declared.events.Event.{Event}
use Rattle.core_run.specs.Runs.{Runs}
use Rattle.core_run.specs.World.{World, actors, pool_of, start}
use Rattle.core_law.specs.OnLinks.{Each}
use Rattle.core_law.specs.Well.{IsWell}
use Rattle.core_law.proofs.Actors.{every_pool}
use Rattle.core_law.proofs.EveryRun.{begins_well, pool_at, run_config, well_kept}
use Rattle.core_law.proofs.InLine.{empty_link}
use Rattle.core_law.proofs.Lawful.{alone_is_legal, every_run_lawful}
use Rattle.core_law.proofs.Steps.{A_call, A_request, An_answer, Does, happens_does, same_config}
use Rattle.core_law.proofs.Sums.{place_below}
use Rattle.core_law.proofs.LettersAndActors.{inside_servers}
use Rattle.core_check_law.specs.OnWay.{IsRinged, OnToken}
use Rattle.core_check_law.specs.Settling.{Has, IsSettledBehind, Settles}
use Rattle.core_check_law.proofs.Events.{event_settles}
use Rattle.core_check_law.proofs.Follows.{Behind, Holds}
use Rattle.core_check_law.proofs.RankSteps.{answer_settles, call_settles}
use Rattle.core_check_law.proofs.Rings.{begins_ringed, does_ringed}
use Rattle.core_check_law.proofs.IdleAreTold.{IsTold, serve_told, told_is}

-- no idle rank has missed an end
abbrev pub AllTold : World → Type 0
AllTold w = (t : Server) → t.0 < w.config.servers → IsTold (pool_of w t)

-- at each moment of a run of several servers
pub record IsChecked (w : World) : Type 0 where
  pub several : 1 < w.config.servers
  pub ring : IsRinged w
  pub told : AllTold w
  pub bag : Bag
  pub holds : Holds w bag
  pub settles : Settles w bag

-- An event.

event_told : (w next : World) → IsWell w → AllTold w → Does w next → AllTold next
event_told w next well told (A_call does) = subst AllTold (sym does.is) told
event_told w next well told (An_answer does) = subst AllTold (sym does.is) told
event_told w next well told (A_request {from = from} {me = me} {letter = letter} {rest = rest} {x = x} does) =
    subst AllTold (sym does.is)
    (every_pool (λ t s. IsTold s) w me x.state (inside_servers w me well does.here)
    (serve_told (pool_of w me) from letter x does.does (told me does.here)) (λ t there differs. told t there))

-- what tokens say of the bag is so after each event
pub settles_next : (w next : World) → (c : IsChecked w) → Does w next → Behind Settles next
settles_next w next c (A_call {me = me} {call = call} {x = x} does) =
    call_settles w next me call x c.bag c.holds c.ring c.settles does
settles_next w next c (An_answer {from = from} {me = me} {letter = letter} {rest = rest} {x = x} does) =
    answer_settles w next from me letter rest x c.bag c.holds c.ring c.settles does
settles_next w next c (A_request {from = from} {me = me} {letter = letter} {rest = rest} {x = x} does) =
    event_settles w next from me letter rest x c.bag c.several c.holds c.ring
    (λ t there e has idle. told_is (pool_of w t) e (c.told t there) has idle) c.settles does

-- each event keeps what is checked
pub checked_kept : (w next : World) → IsChecked w → Does w next → IsChecked next
checked_kept w next c does =
    let well = (c.holds).well in
    let b = settles_next w next c does in
    record {
      several = subst (λ (k : Config). 1 < k.servers) (sym (same_config w next does)) c.several;
      ring = does_ringed w next well does c.ring;
      told = event_told w next well c.told does;
      bag = b.0;
      holds = b.1;
      settles = b.2;
    }

-- what is checked stays so along a run
pub run_checked : (w last : World) (events : List Event) → IsChecked w → Runs w events last → IsChecked last
run_checked w last [] c run = subst IsChecked run c
run_checked w last (e ∷ events) c run =
    run_checked run.0 last events (checked_kept w run.0 c (happens_does w run.0 e run.1)) run.2

-- the start of a run with several servers is checked
pub begins_checked : (config : Config) → 1 < config.servers → IsChecked (start config)
begins_checked config several =
    let w = start config in
    let l = every_run_lawful config [] w refl in
    let ring = begins_ringed config in
    record {
      several = several;
      ring = ring;
      told = λ t there. subst IsTold (sym (pool_at config t there)) (λ e. refl);
      bag = l.0;
      holds = record { well = begins_well config; lawful = l.1; tokens = ring.tokens; legal = l.1.run };
      settles = record {
        each = λ from to f t. subst (Each (λ (x : Letter). OnToken (IsSettledBehind w l.0) from to x.message))
            (sym (empty_link (actors config) (place_of config from) (place_of config to) (place_below config from f))) tt;
      };
    }

-- the ledger of every run is a legal run of the bag
pub every_run_legal : (config : Config) (events : List Event) (w : World) → Runs (start config) events w → IsLegal config w.ledger
every_run_legal config events w run = by_number (cases_eq config.servers 1)
  where
    by_number : (config.servers ≡ 1) ⊎ (config.servers ≢ 1) → IsLegal config w.ledger
    by_number (inl alone) = alone_is_legal config events w alone run
    by_number (inr differs) =
        let some = config.servers_within.0 in
        let c = run_checked (start config) w events (begins_checked config (omega arith)) run in
        let same = run_config (start config) w events run in
        (c.bag, subst (λ (k : Config). IsRun (empty_bag k) w.ledger c.bag) same (c.holds).legal)

-- in every run tokens say what is so of the bag
pub every_run_settles : (config : Config) (events : List Event) (w : World) → 1 < config.servers → Runs (start config) events w
    → (b : Bag) × IsRun (empty_bag config) w.ledger b × Settles w b
every_run_settles config events w several run =
    let c = run_checked (start config) w events (begins_checked config several) run in
    let same = run_config (start config) w events run in
    (c.bag, subst (λ (k : Config). IsRun (empty_bag k) w.ledger c.bag) same (c.holds).legal, c.settles)

-- What is said of the end of the problem, with any number of servers.

run_told : (w last : World) (events : List Event) → IsWell w → AllTold w → Runs w events last → AllTold last
run_told w last [] well told run = subst AllTold run told
run_told w last (e ∷ events) well told run =
    let does = happens_does w run.0 e run.1 in
    run_told run.0 last events (well_kept w run.0 well does) (event_told w run.0 well told does) run.2

-- at every moment of every run no idle rank has missed an end
pub all_told : (config : Config) (events : List Event) (w : World) → Runs (start config) events w → AllTold w
all_told config events w run =
    run_told (start config) w events (begins_well config) (λ t here. subst IsTold (sym (pool_at config t here)) (λ is. refl)) run

-- in every run no rank is idle at a server that knows that the problem is done
pub every_run_told : (config : Config) (events : List Event) (w : World) (server : Server) (e : Waiting) → server.0 < config.servers
    → Runs (start config) events w → Has (pool_of w server).kept.parked.waiting e → e.asked ≡ None → (pool_of w server).kept.done ≡ false
every_run_told config events w server e there run has idle =
    let told = all_told config events w run in
    let here = subst (λ (k : Config). server.0 < k.servers) (sym (run_config (start config) w events run)) there in
    told_is (pool_of w server) e (told server here) has idle
