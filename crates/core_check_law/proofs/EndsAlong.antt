-- Server 0 tells each other server of an end once: along every run.
use Rattle.std.proofs.Common.{◌≡◌, ◌≢◌, ◌<◌, ℕ, ◌==◌, Bool, true, false, cond, List, refl, ap, ◌∙◌, arith}
use Rattle.std.proofs.lemmas.Bool.{eq-eqb, eqb-true, false_from_ne_true}
use Rattle.adlb_unit.specs.declared.configs.Config.{Config}
use Rattle.adlb_unit.specs.declared.messages.Message.{Message}
use Rattle.adlb_unit.specs.declared.names.Server.{Server}
use Rattle.server_law.specs.Acts.{zeroth}
use Rattle.server_law.specs.State.{Kept, start as new_pool}
use Rattle.server_law.specs.Step.{ticked}
use Rattle.core_run.specs.declared.events.Event.{Event}
use Rattle.core_run.specs.Runs.{Runs}
use Rattle.core_run.specs.World.{World, pool_of, server_named, start}
use Rattle.core_law.specs.Acting.{ticks}
use Rattle.core_law.specs.Letters.{one}
use Rattle.core_law.specs.Measures.{IsBalanced, measure, server_weight}
use Rattle.core_law.specs.Well.{IsWell}
use Rattle.core_law.proofs.Actors.{every_pool}
use Rattle.core_law.proofs.Balances.{weighs_none}
use Rattle.core_law.proofs.EveryRun.{AreZero, begins_even, every_run_well, pool_at, run_config}
use Rattle.core_law.proofs.Kept.{IsLaw}
use Rattle.core_law.proofs.OwedByRanks.{no_sum}
use Rattle.core_law.proofs.Sums.{one_adds}
use Rattle.core_law.proofs.LettersAndActors.{inside_servers, tick_balance}
use Rattle.core_check_law.specs.Ends.{IsToldOnce, ends, exhausts, flag_at, is_exhaust, is_exhausted, is_shut, is_shutdown, shuts}
use Rattle.core_check_law.proofs.AlongRuns.{AreKept, answer_even, call_even, every_run_keeps}
use Rattle.core_check_law.proofs.EndsKept.{AreEnding, IsGoing, IsOpenAtZeroth, act_ends, going_at, zeroth_owed}

-- Ranks neither hear nor say it.
ends_law : (config : Config) (is : Message → Bool) (flag : Kept → Bool) (t : Server) → IsLaw config (ends is flag t)
ends_law config is flag t = record {
  heard = λ me s from m x h after. let none = weighs_none x.sends in omega arith;
  begun = λ me s x b after. let none = weighs_none x.sends in omega arith;
}

tick_going : (w : World) (me : Server) (stamp : ℕ) (up : Bool) → me.0 < w.config.servers → IsWell w → IsOpenAtZeroth w
    → IsOpenAtZeroth (ticks w me stamp up)
tick_going w me stamp up here well was =
    every_pool IsGoing w me (ticked (pool_of w me) stamp up) (inside_servers w me well here) (going_at w was me)
    (λ t there differs. going_at w was t) zeroth w.config.servers_within.0 refl

ends_kept : AreKept AreEnding
ends_kept = record {
  tick = λ w me stamp up here well was. record {
    exhausts = λ t other low. tick_balance (exhausts t) w me stamp up (inside_servers w me well here) (was.exhausts t other low);
    shuts = λ t other low. tick_balance (shuts t) w me stamp up (inside_servers w me well here) (was.shuts t other low);
    going = tick_going w me stamp up here well was.going;
  };
  act = act_ends;
  call = λ w next me call x well does was. record {
    exhausts = λ t other low. call_even (exhausts t) w next me call x (ends_law w.config is_exhaust is_exhausted t) well does
        (was.exhausts t other low);
    shuts = λ t other low. call_even (shuts t) w next me call x (ends_law w.config is_shutdown is_shut t) well does
        (was.shuts t other low);
    going = was.going;
  };
  answer = λ w next from me letter rest x well does was. record {
    exhausts = λ t other low. answer_even (exhausts t) w next from me letter rest x (ends_law w.config is_exhaust is_exhausted t) well does
        (was.exhausts t other low);
    shuts = λ t other low. answer_even (shuts t) w next from me letter rest x (ends_law w.config is_shutdown is_shut t) well does
        (was.shuts t other low);
    going = was.going;
  };
}

-- At the start.

none_known : (b : Bool) → cond {A = ℕ} b (one false) 0 ≡ 0
none_known true = refl
none_known false = refl

ends_zero : (config : Config) (is : Message → Bool) (flag : Kept → Bool) (t : Server)
    → ((k : ℕ) → flag (new_pool config (server_named k)).kept ≡ false) → AreZero config (ends is flag t)
ends_zero config is flag t not_yet = record {
  server = λ i k. ap (λ f. cond (i == t.0) (one f) 0) (not_yet k) ∙ none_known (i == t.0);
  rank = λ i k. refl;
  server_due = λ i k. ap (λ f. cond (i == 0) (one f) 0) (not_yet k) ∙ none_known (i == 0);
  rank_due = λ i k. refl;
}

begins_ending : (config : Config) → AreEnding (start config)
begins_ending config = record {
  exhausts = λ t other low. begins_even config (exhausts t) (ends_zero config is_exhaust is_exhausted t (λ k. refl));
  shuts = λ t other low. begins_even config (shuts t) (ends_zero config is_shutdown is_shut t (λ k. refl));
  going = λ runs. ap (λ s. s.kept.shut) (pool_at config zeroth config.servers_within.0);
}

-- in every run server 0 tells each other server of an end once
pub every_run_ends : (config : Config) (events : List Event) (w : World) → Runs (start config) events w → AreEnding w
every_run_ends config events w run = every_run_keeps AreEnding ends_kept config events w run (begins_ending config)

-- What that says of each other server.

told_once : (is : Message → Bool) (flag : Kept → Bool) (w : World) (t : Server) → IsWell w → t.0 < w.config.servers
    → IsBalanced (ends is flag t) w → IsToldOnce is flag w t
unfolding measure
told_once is flag w t well low even =
    let inside = inside_servers w t well low in
    let owed = zeroth_owed is flag t w (omega arith) in
    let held = one_adds (server_weight (flag_at flag t.0)) w.servers t.0 (new_pool w.config t) inside
    (λ i x differs. ap (λ b. cond b (one (flag x.kept)) 0) (false_from_ne_true (i == t.0) (λ e. differs (eqb-true i t.0 e)))) in
    let mine : flag_at flag t.0 t.0 (pool_of w t).kept ≡ one (flag (pool_of w t).kept) = rw (eq-eqb t.0 t.0 refl) refl in
    let none = no_sum w.ranks in
    let same = even.same in
    omega arith

-- in every run each other server knows that all work is used up, or exactly one letter tells it
pub exhaust_told : (config : Config) (events : List Event) (w : World) (t : Server) → t.0 ≢ 0 → t.0 < config.servers
    → Runs (start config) events w → IsToldOnce is_exhaust is_exhausted w t
exhaust_told config events w t other low run =
    let there : t.0 < w.config.servers = let e = ap (λ (c : Config). c.servers) (run_config (start config) w events run) in omega arith in
    told_once is_exhaust is_exhausted w t (every_run_well config events w run) there
    ((every_run_ends config events w run).exhausts t other there)

-- in every run each other server is shut, or exactly one letter tells it
pub shutdown_told : (config : Config) (events : List Event) (w : World) (t : Server) → t.0 ≢ 0 → t.0 < config.servers
    → Runs (start config) events w → IsToldOnce is_shutdown is_shut w t
shutdown_told config events w t other low run =
    let there : t.0 < w.config.servers = let e = ap (λ (c : Config). c.servers) (run_config (start config) w events run) in omega arith in
    told_once is_shutdown is_shut w t (every_run_well config events w run) there
    ((every_run_ends config events w run).shuts t other there)
