-- How many events a run has.
use Rattle.std.proofs.Common.{◌≡◌, ◌≤◌, ◌<◌, ℕ, zero, suc, ◌+◌, ◌*◌, Bool, true, false, cond, List, [], ◌∷◌, map, replicate, length, Option}
use Rattle.std.proofs.Common.{None, Some, refl, ap, arith, ◌==◌, ◌&&◌}
use Rattle.std.specs.List.{range_with_len}
use Rattle.std.specs.Option.{option_map}
use Rattle.std.specs.Prelude.{nat_lt}
use Rattle.std.proofs.lemmas.Bool.{and_parts, ltb-true}
use Rattle.adlb_unit.specs.Links.{is_within, place_of}
use Rattle.adlb_unit.specs.declared.actors.Actor.{Actor}
use Rattle.adlb_unit.specs.declared.actors.Actor.TheVariants as by
use Rattle.adlb_unit.specs.declared.configs.Config.{Config}
use Rattle.adlb_unit.specs.declared.letters.Letter.{Letter}
use Rattle.adlb_unit.specs.declared.names.Rank.{Rank}
use Rattle.adlb_unit.specs.declared.names.Server.{Server}
use Rattle.bag_ledger.specs.declared.entries.Call.{Call}
use Rattle.rank_client.specs.State.{ClientModel, start as new_client}
use Rattle.rank_client.specs.Step.{Made, begin, hear}
use Rattle.server_law.specs.Carried.{Served}
use Rattle.server_law.specs.State.{ServerModel, start as new_pool}
use Rattle.server_law.specs.Step.{serve}
use Rattle.core_run.specs.declared.events.Event.{Event}
use Rattle.core_run.specs.declared.events.Event.TheVariants as occurs
use Rattle.core_run.specs.Runs.{Runs}
use Rattle.core_run.specs.World.{World, actors, after_rank, after_server, client_of, handle, happens, has_ended, link, pool_of, rank_named}
use Rattle.core_run.specs.World.{server_named, start, taken}
use Rattle.core_law.specs.Measures.{link_weight, links_weight, row_weight, weigh_at}
use Rattle.core_law.specs.Well.{IsWell}
use Rattle.core_law.proofs.EveryRun.{answer_heard, begins_well, call_began, inside_ranks, well_kept}
use Rattle.core_law.proofs.StepResults.{OnSome, if_some, on_some}
use Rattle.core_law.proofs.Steps.{Begins, Hears, Serves, happens_does}
use Rattle.core_law.proofs.Sums.{weigh_at-set}
use Rattle.core_bound_law.specs.Bounds.{begun, calls_begun, is_call}
use Rattle.core_bound_law.specs.Credits.{credit, if_so, letters_credit, pending_credit, server_credit}
use Rattle.core_bound_law.proofs.Events.{event_credit}
use Rattle.core_bound_law.proofs.Ranks.{answer_credit, call_credit}
use Rattle.core_bound_law.proofs.Wishes.{KeepSingle, begins_single, single_kept}

-- An event is a call that is begun, or a letter that is handled.

-- what the three kinds of steps do to a world
pub record IsEventLaw (P : World → ℕ → World → Type 0) (w : World) : Type 0 where
  pub call : (me : Rank) (call : Call) (x : Made) (next : World) → Begins w me call x next → P w 1 next
  pub answer : (from : Server) (me : Rank) (letter : Letter) (rest : List Letter) (x : Made) (next : World)
      → Hears w from me letter rest x next → P w 0 next
  pub request : (from : Actor) (me : Server) (letter : Letter) (rest : List Letter) (x : Served) (next : World)
      → Serves w from me letter rest x next → P w 0 next

module _ (P : World → ℕ → World → Type 0) (w : World) (law : IsEventLaw P w) where
  served : (from : Actor) (to : Server) (letter : Letter) (rest : List Letter) → is_within w.config from ≡ true → to.0 < w.config.servers
      → link w.links (place_of w.config from) (place_of w.config (by.Server to)) ≡ letter ∷ rest
      → OnSome (option_map (after_server w to (taken w from (by.Server to) rest)) (serve (pool_of w to) from letter)) (P w 0)
  served from to letter rest there here front = by_served (serve (pool_of w to) from letter) refl
    where
      by_served : (o : Option Served) → serve (pool_of w to) from letter ≡ o
          → OnSome (option_map (after_server w to (taken w from (by.Server to) rest)) o) (P w 0)
      by_served None is = tt
      by_served (Some x) is =
          law.request from to letter rest x _ (record { here = here; there = there; front = front; does = is; is = refl })

  unless : (t : Bool) (o : Option World) → OnSome o (P w 0) → OnSome (cond t None o) (P w 0)
  unless true o on = tt
  unless false o on = on

  handled : (from to : Actor) (letters : List Letter) → is_within w.config from ≡ true → is_within w.config to ≡ true
      → link w.links (place_of w.config from) (place_of w.config to) ≡ letters → OnSome (handle w from to letters) (P w 0)
  handled from to [] f t front = tt
  handled (by.Rank from) (by.Rank to) (letter ∷ rest) f t front = tt
  handled (by.Server from) (by.Rank to) (letter ∷ rest) f t front = by_heard (hear (client_of w to) from letter) refl
    where
      by_heard : (o : Option Made) → hear (client_of w to) from letter ≡ o
          → OnSome (option_map (after_rank w to (taken w (by.Server from) (by.Rank to) rest)) o) (P w 0)
      by_heard None is = tt
      by_heard (Some x) is =
          law.answer from to letter rest x _ (record {
            here = ltb-true to.0 w.config.ranks t;
            there = ltb-true from.0 w.config.servers f;
            front = front;
            does = is;
            is = refl;
          })
  handled (by.Rank from) (by.Server to) (letter ∷ rest) f t front =
      unless (has_ended (pool_of w to)) _ (served (by.Rank from) to letter rest f (ltb-true to.0 w.config.servers t) front)
  handled (by.Server from) (by.Server to) (letter ∷ rest) f t front =
      unless (has_ended (pool_of w to)) _ (served (by.Server from) to letter rest f (ltb-true to.0 w.config.servers t) front)

  begins_one : (me : Rank) (call : Call) → nat_lt me.0 w.config.ranks ≡ true
      → OnSome (option_map (after_rank w me w.links) (begin (client_of w me) call)) (P w 1)
  begins_one me call here = by_begun (begin (client_of w me) call) refl
    where
      by_begun : (o : Option Made) → begin (client_of w me) call ≡ o → OnSome (option_map (after_rank w me w.links) o) (P w 1)
      by_begun None is = tt
      by_begun (Some x) is = law.call me call x _ (record { here = ltb-true me.0 w.config.ranks here; does = is; is = refl })

  on_event : (e : Event) → OnSome (happens w e) (P w (is_call e))
  on_event (occurs.Call me call) =
      if_some (P w 1) (nat_lt me.0 w.config.ranks) (option_map (after_rank w me w.links) (begin (client_of w me) call)) (begins_one me call)
  on_event (occurs.Deliver from to) =
      if_some (P w 0) (is_within w.config from && is_within w.config to)
      (handle w from to (link w.links (place_of w.config from) (place_of w.config to)))
      (λ is. let parts = and_parts (is_within w.config from) (is_within w.config to) is in
      handled from to (link w.links (place_of w.config from) (place_of w.config to)) parts.0 parts.1 refl)

  -- what the three kinds of step do holds of an event
  pub by_event : (e : Event) (next : World) → happens w e ≡ Some next → P w (is_call e) next
  by_event e next is = on_some (P w (is_call e)) (happens w e) next (on_event e) is

-- Credit.

credit_law : (w : World) → IsWell w → KeepSingle w → IsEventLaw (λ v n next. credit next + 1 ≤ credit v + n * 5109) w
credit_law w well single = record {
  call = λ me call x next does. let paid = call_credit w next me call x well does in omega arith;
  answer = λ from me letter rest x next does. let paid = answer_credit w next from me letter rest x well does in omega arith;
  request = λ from me letter rest x next does. let paid = event_credit w next from me letter rest x well single does in omega arith;
}

run_credit : (w last : World) (events : List Event) → IsWell w → KeepSingle w → Runs w events last
    → credit last + length events ≤ credit w + begun events * 5109
run_credit w last [] well single run = let same = ap credit run in omega arith
run_credit w last (e ∷ events) well single run =
    let d = happens_does w run.0 e run.1 in
    let one = by_event (λ v n next. credit next + 1 ≤ credit v + n * 5109) w (credit_law w well single) e run.0 run.1 in
    let more = run_credit run.0 last events (well_kept w run.0 well d) (single_kept w run.0 well single d) run.2 in
    omega arith

start_zero : {X : Type 0} (f : ℕ → X → ℕ) (g : ℕ → X) (from n : ℕ) → ((i k : ℕ) → f i (g k) ≡ 0)
    → weigh_at f (map g (range_with_len from n)) ≡ 0
start_zero f g from zero none = refl
start_zero f g from (suc n) none =
    let here = none zero from in let later = start_zero (λ i. f (suc i)) g (from + 1) n (λ i k. none (suc i) k) in omega arith

same_zero : {X : Type 0} (f : ℕ → X → ℕ) (n : ℕ) (x : X) → ((i : ℕ) → f i x ≡ 0) → weigh_at f (replicate n x) ≡ 0
same_zero f zero x none = refl
same_zero f (suc n) x none = let here = none zero in let later = same_zero (λ i. f (suc i)) n x (λ i. none (suc i)) in omega arith

-- at the start: each server has a notice to give, and server 0 has yet to find that all work is used up

few_each : (f : ℕ → ServerModel → ℕ) (g : ℕ → ServerModel) (from n : ℕ) → ((i k : ℕ) → f i (g k) ≤ 199)
    → weigh_at f (map g (range_with_len from n)) ≤ n * 199
few_each f g from zero few = omega arith
few_each f g from (suc n) few =
    let here = few zero from in let later = few_each (λ i. f (suc i)) g (from + 1) n (λ i k. few (suc i) k) in omega arith

new_credit : (config : Config) (k : ℕ) → server_credit (new_pool config (server_named k)) ≤ 199
new_credit config k = let few = unfound_few (k == 0) in omega arith
  where
    unfound_few : (t : Bool) → if_so (t && true) 175 ≤ 175
    unfound_few true = omega arith
    unfound_few false = omega arith

start_credit : (config : Config) → credit (start config) ≤ 1592
unfolding credit
start_credit config =
    let n = actors config in
    let none : List Letter = [] in
    let a = same_zero (row_weight config letters_credit) n (replicate n none)
    (λ i. same_zero (link_weight config letters_credit i) n none (λ j. refl)) in
    let b = few_each (λ i (s : ServerModel). server_credit s) (λ k. new_pool config (server_named k)) 0 config.servers
    (λ i k. new_credit config k) in
    let d = start_zero (λ i (s : ClientModel). pending_credit s.pending) (λ k. new_client config (rank_named k)) 0 config.ranks
    (λ i k. refl) in
    let top = config.servers_within.1 in
    omega arith

-- what is left of the credit of the calls is under way, or is an actor's
pub credit_left : (config : Config) (events : List Event) (w : World) → Runs (start config) events w
    → links_weight w.config letters_credit w.links + length events ≤ 1592 + begun events * 5109
unfolding credit
credit_left config events w run =
    let all = run_credit (start config) w events (begins_well config) (begins_single config) run in
    let first = start_credit config in
    omega arith

-- so a run has few events for the calls that it begins
pub few_events : (config : Config) (events : List Event) (w : World) → Runs (start config) events w
    → length events ≤ 1592 + begun events * 5109
few_events config events w run = let left = credit_left config events w run in omega arith

-- Calls that were begun.

count_law : (w : World) → IsWell w → IsEventLaw (λ v n next. calls_begun next ≡ calls_begun v + n) w
count_law w well = record {
  call = λ me call x next does.
      let began = call_began w next me call x well.own does in
      let set = weigh_at-set (λ i (s : ClientModel). s.next) w.ranks me.0 x.state (new_client w.config me)
      (inside_ranks w me well does.here) in
      let is = ap calls_begun does.is in
      let up = began.next in
      omega arith;
  answer = λ from me letter rest x next does.
      let heard = answer_heard w next from me letter rest x well.own does in
      let set = weigh_at-set (λ i (s : ClientModel). s.next) w.ranks me.0 x.state (new_client w.config me)
      (inside_ranks w me well does.here) in
      let is = ap calls_begun does.is in
      let same = heard.next in
      omega arith;
  request = λ from me letter rest x next does. let is = ap calls_begun does.is in omega arith;
}

run_count : (w last : World) (events : List Event) → IsWell w → Runs w events last → calls_begun last ≡ calls_begun w + begun events
run_count w last [] well run = let same = ap calls_begun run in omega arith
run_count w last (e ∷ events) well run =
    let one = by_event (λ v n next. calls_begun next ≡ calls_begun v + n) w (count_law w well) e run.0 run.1 in
    let more = run_count run.0 last events (well_kept w run.0 well (happens_does w run.0 e run.1)) run.2 in
    omega arith

-- the numbers of the next calls tell how many calls a run has begun
pub begun_count : (config : Config) (events : List Event) (w : World) → Runs (start config) events w → calls_begun w ≡ begun events
begun_count config events w run =
    let all = run_count (start config) w events (begins_well config) run in
    let none = start_zero (λ i (s : ClientModel). s.next) (λ k. new_client config (rank_named k)) 0 config.ranks (λ i k. refl) in
    omega arith
