-- That the problem is done is in no ledger before that all work was found used up: one server, and every run.
use Rattle.std.proofs.Common.{ℕ, ◌≡◌, ◌<◌, ◌⊎◌, inl, inr, ◌==◌, ◌&&◌, not, Bool, true, false, cond, List, [], ◌∷◌, ◌++◌, append-nil, Option}
use Rattle.std.proofs.Common.{None, Some, refl, sym, ap, ◌∙◌, subst, arith, length, ◌≢◌}
use Rattle.std.specs.Option.{IfSome, option_map}
use Rattle.std.proofs.lemmas.Bool.{cases_eq}
use Rattle.core_check_law.proofs.IdleAreTold.{Settles, more_told, settles_by, told_is, IsTold, act_told}
use Rattle.core_law.proofs.Steps.{A_call, A_request, An_answer, Does, Serves, happens_does}
use Rattle.server_law.specs.Acts.{Act, Checks_alone, Finds, Finds_alone, Notes_own, Notices, Shuts_alone, Starts, check_alone}
use Rattle.adlb_unit.specs.declared.actors.Actor.{Actor}
use Rattle.core_progress_law.proofs.Following.{AllBring, EachBrings, FollowsBring, brings, decided_brings, rank_follows, told_bring}
use Rattle.core_law.specs.Acting.{AreActs, AreFront, IsAct, acted, acted_all, ticks}
use Rattle.core_progress_law.proofs.Ordered.{AreOrdered, IsOrdered, SomeKnows, act_ordered, answer_ordered, call_ordered, event_ordered}
use Rattle.core_progress_law.proofs.Ordered.{has_done, order_first, tick_ordered}
use Rattle.server_law.specs.Sure.{AreSure, TakeNone}
use Rattle.core_wish_law.proofs.Agreed.{AreTelling, SomePending, done_at, every_run_telling}
use Rattle.bag_ledger.specs.Bag.{Bag}
use Rattle.adlb_unit.specs.declared.configs.Config.{Config}
use Rattle.exhaust_ring.specs.declared.steps.RingStep.TheVariants.{Ended, Fail, Pass, Shutdown, Exhausted}
use Rattle.bag_ledger.specs.declared.entries.Entry.{Entry}
use Rattle.core_run.specs.declared.events.Event.{Event}
use Rattle.core_check_law.specs.Settling.{Has}
use Rattle.core_law.proofs.Events.{IsChain, event_chain}
use Rattle.core_law.specs.Lawful.{IsLawful, IsWaiting}
use Rattle.core_check_law.proofs.ToldRanks.{IsModest}
use Rattle.server_law.proofs.Plans.{IsPlan}
use Rattle.core_law.specs.Own.{IsPool}
use Rattle.core_law.specs.Well.{IsWell}
use Rattle.core_law.proofs.Lawful.{Lawful, every_run_lawful}
use Rattle.adlb_unit.specs.declared.letters.Letter.{Letter}
use Rattle.adlb_unit.specs.declared.messages.Message.{Message}
use Rattle.server_law.specs.Plan.{Plan, decided, in_order}
use Rattle.adlb_unit.specs.declared.names.Rank.{Rank}
use Rattle.exhaust_ring.specs.declared.steps.RingStep.{RingStep}
use Rattle.core_run.specs.Runs.{Runs}
use Rattle.server_law.specs.Carried.{Served, all_done, done}
use Rattle.adlb_unit.specs.declared.names.Server.{Server}
use Rattle.server_law.specs.State.{ServerModel, is_finished, ring_at}
use Rattle.server_components.specs.declared.waits.Waiting.{Waiting}
use Rattle.server_law.specs.Expected.{WaitsIdle}
use Rattle.core_run.specs.World.{World, client_of, pool_of, server_named, start}
use Rattle.core_law.proofs.ActLawful.{act_lawful, tick_lawful}
use Rattle.core_law.proofs.LettersAndActors.{act_well, inside_servers, tick_well}
use Rattle.server_law.specs.Step.{acts, next_stamp, raises, rule, ticked}
use Rattle.server_law.proofs.Waiters.{all_done_joined}
use Rattle.core_check_law.proofs.Legal.{begins_checked, run_checked, all_told}
use Rattle.bag_ledger.specs.Words.{causes}
use Rattle.server_law.specs.Endings.{checks, ends_event, finds_alone, is_noted, is_quiet, notice, starts, tells_all}
use Rattle.core_law.proofs.Resting.{client_finished}
use Rattle.core_progress_law.proofs.Ends.{decided_split}
use Rattle.core_check_law.proofs.Lists.{each_has, has_at, home_below}
use Rattle.core_check_law.proofs.AfterEnds.{every_run_after}
use Rattle.core_law.proofs.EveryRun.{every_run_well, run_config}
use Rattle.core_check_law.proofs.Runs.{finds}
use Rattle.adlb_unit.specs.Targets.{home}
use Rattle.adlb_unit.specs.Links.{is_within}
use Rattle.std.specs.List.{list_any}
use Rattle.exhaust_ring.specs.Ring.{may_start}
use Rattle.core_progress_law.proofs.FullAlone.{only_ranks}
use Rattle.core_law.proofs.Chains.{pool_is}
use Rattle.core_law.proofs.Actors.{pool_there}
use Rattle.server_law.proofs.Tests.{quiet_is_tested}
use Rattle.core_wish_law.proofs.Pools.{snoc}
use Rattle.adlb_unit.specs.declared.actors.Actor.TheVariants as by
use Rattle.adlb_unit.specs.declared.notes.End.TheVariants as ends_by
use Rattle.bag_ledger.proofs.Tests.{some_is}
use Rattle.bag_ledger.specs.declared.entries.Entry.TheVariants as enters
use Rattle.rank_client.specs.declared.pendings.Pending.TheVariants as waits_for
use Rattle.core_check_law.proofs.AfterEnds.{every_run_after}
use Rattle.server_law.proofs.Handled.{planned}
use Rattle.core_progress_law.proofs.AloneGoes.{all_idle}

-- At a server that is alone: where it finds all work used up no rank is idle if it knows that the problem is done.

abbrev FindsTold : List Act → ServerModel → Type 0
FindsTold [] s = Unit {0}
FindsTold (a ∷ more) s = (finds a ≡ true → IsTold s) × FindsTold more (done a s)

bring_unfound : (a : Act) → brings a ≡ true → finds a ≡ false
bring_unfound (Finds from t) is = absurd (cc)
bring_unfound Finds_alone is = absurd (cc)
bring_unfound _ is = refl

unfound : (a : Act) (s : ServerModel) → finds a ≡ false → finds a ≡ true → IsTold s
unfound a s other found = let bad : false ≡ true = sym other ∙ found in absurd (cc)

brought : (xs ys : List Act) (s : ServerModel) → AllBring xs → FindsTold ys (all_done xs s) → FindsTold (xs ++ ys) s
brought [] ys s all then = then
brought (x ∷ xs) ys s all then = (unfound x s (bring_unfound x all.0), brought xs ys (done x s) all.1 then)

-- the check
checks_found : (s : ServerModel) → IsTold s → FindsTold (checks s) s
checks_found s told = by_test (may_start (ring_at s) (is_quiet s))
  where
    waiting : List Waiting
    waiting = s.kept.parked.waiting

    by_step : (step : RingStep) → FindsTold (finds_alone step waiting) s
    by_step Exhausted =
        let told_list = tells_all ends_by.Exhausted [] waiting in (
          λ found. told,
          subst (λ (l : List Act). FindsTold l (done Finds_alone s)) (append-nil told_list)
              (brought told_list [] (done Finds_alone s) (told_bring ends_by.Exhausted [] waiting) tt),
        )
    by_step Shutdown = (unfound Shuts_alone s refl, tt)
    by_step (Pass token) = (unfound Checks_alone s refl, tt)
    by_step (Fail token why) = (unfound Checks_alone s refl, tt)
    by_step Ended = (unfound Checks_alone s refl, tt)

    by_number : (t : Bool) → FindsTold (cond t (finds_alone (check_alone s).step waiting) (Starts ∷ [])) s
    by_number true = by_step (check_alone s).step
    by_number false = (unfound Starts s refl, tt)

    by_test : (t : Bool) → FindsTold (cond t (starts s) []) s
    by_test true = by_number (s.config.servers == 1)
    by_test false = tt

-- what follows each event
ends_found : (u : ServerModel) → IsTold u → FindsTold (decided ends_event u) u
ends_found u told = by_test (is_quiet u && not (is_noted u.kept.noted u.activity))
  where
    after_notices : (list : List Act) → IsTold (all_done list u) → FindsTold (checks (all_done list u) ++ []) (all_done list u)
    after_notices list told =
        subst (λ (l : List Act). FindsTold l (all_done list u)) (sym (append-nil (checks (all_done list u))))
        (checks_found (all_done list u) told)

    by_place : (t : Bool) → FindsTold (notice t ++ (checks (all_done (notice t) u) ++ [])) u
    by_place true = (unfound Notes_own u refl, after_notices (Notes_own ∷ []) (act_told Notes_own u refl refl told))
    by_place false = (unfound Notices u refl, after_notices (Notices ∷ []) (act_told Notices u refl refl told))

    by_test : (t : Bool)
        → FindsTold (cond t (notice (u.me.0 == 0)) [] ++ (checks (all_done (cond t (notice (u.me.0 == 0)) []) u) ++ [])) u
    by_test true = by_place (u.me.0 == 0)
    by_test false = after_notices [] told

-- A plan.

sure_front : (xs ys : List Act) (s : ServerModel) → AreSure (xs ++ ys) s → AreSure xs s
sure_front [] ys s sure = tt
sure_front (x ∷ xs) ys s sure = (sure.0, sure.1, sure_front xs ys (done x s) sure.2)

sure_rest : (xs ys : List Act) (s : ServerModel) → AreSure (xs ++ ys) s → AreSure ys (all_done xs s)
sure_rest [] ys s sure = sure
sure_rest (x ∷ xs) ys s sure = sure_rest xs ys (done x s) sure.2

none_front : (xs ys : List Act) → TakeNone (xs ++ ys) → TakeNone xs
none_front [] ys none = tt
none_front (x ∷ xs) ys none = (none.0, none_front xs ys none.1)

none_rest : (xs ys : List Act) → TakeNone (xs ++ ys) → TakeNone ys
none_rest [] ys none = none
none_rest (x ∷ xs) ys none = none_rest xs ys none.1

-- before what follows each event
decided_told : (s : ServerModel) (from : Actor) (m : Message) (p : Plan) → IsTold s → IsPlan s from m p → Settles s p
    → IsTold (all_done (decided p.follow (done p.first s)) (done p.first s))
decided_told s from m p told plan settles = by_settles settles
  where
    t : ServerModel
    t = done p.first s

    us : List Act
    us = decided p.follow (done p.first s)

    split : decided (p.follow ++ ends_event) (done p.first s)
        ≡ decided p.follow (done p.first s) ++ decided ends_event (all_done (decided p.follow (done p.first s)) (done p.first s))
    split = decided_split p.follow ends_event (done p.first s)

    sure : AreSure (decided p.follow (done p.first s)) (done p.first s)
    sure =
        sure_front (decided p.follow (done p.first s))
        (decided ends_event (all_done (decided p.follow (done p.first s)) (done p.first s))) (done p.first s)
        (subst (λ (l : List Act). AreSure l (done p.first s)) split plan.follow.0)

    none : TakeNone (decided p.follow (done p.first s))
    none =
        none_front (decided p.follow (done p.first s))
        (decided ends_event (all_done (decided p.follow (done p.first s)) (done p.first s)))
        (subst TakeNone split plan.follow.1)

    by_settles : Settles s p → IsTold (all_done (decided p.follow (done p.first s)) (done p.first s))
    by_settles (inl low) = more_told us t sure none (act_told p.first s plan.sits low told)
    by_settles (inr (inl off)) = more_told us t sure none (λ e. let no : false ≡ true = sym off ∙ e in absurd (cc))
    by_settles (inr (inr (d, ds, same, here))) =
        let xs = d t in
        let ys = decided ds (all_done xs t) in
        let list : us ≡ xs ++ ys = ap (λ l. decided l t) same in
        let rest = sure_rest xs ys t (subst (λ l. AreSure l t) list sure) in
        let free = none_rest xs ys (subst TakeNone list none) in
        subst IsTold (sym (ap (λ l. all_done l t) list ∙ all_done_joined xs ys t)) (more_told ys (all_done xs t) rest free here)

plan_found : (s : ServerModel) (from : Actor) (m : Message) (p : Plan) → IsTold s → IsPlan s from m p → Settles s p
    → EachBrings p.follow → FindsTold (in_order ends_event s p) s
plan_found s from m p told plan settles each =
    let t = done p.first s in
    let us = decided p.follow t in
    let u = all_done us t in (
      λ found. told,
      subst (λ (l : List Act). FindsTold l t) (sym (decided_split p.follow ends_event t))
          (brought us (decided ends_event u) t (decided_brings p.follow t each) (ends_found u (decided_told s from m p told plan settles))),
    )

-- In a world.

module _ (w : World) (b : Bag) (k : Server) (well : IsWell w) (l : IsLawful w b) (alone : w.config.servers ≡ 1)
    (there : k.0 < w.config.servers) where
  abbrev s : ServerModel
  s = pool_of w k

  -- a rank that calls the problem done is neither idle nor has it finished
  none_tells : is_quiet s ≡ true → SomePending w → ⊥
  none_tells quiet (r, low, q, tried, pending) = by_rest (((quiet_is_tested s).0 quiet).rest r inside here)
    where
      pool : IsPool w.config k (pool_of w k)
      pool = well.own.servers k there

      inside : r.0 < (pool_of w k).config.ranks
      inside = rw (pool.config) low

      here : (home (pool_of w k).config r).0 ≡ (pool_of w k).me.0
      here = rw (pool.config, pool.me) (let e = home_below w.config r in omega arith)

      by_rest : WaitsIdle (pool_of w k) r ⊎ (is_finished (pool_of w k).kept r ≡ true) → ⊥
      by_rest (inl (i, e, within, read, (same, idle))) =
          let its = l.seats r low in
          let has = has_at (pool_of w k).kept.parked.waiting i e within read in
          let waits = each_has (IsWaiting (client_of w r) its.0) (pool_of w k).kept.parked.waiting e ((its.1).waits k there) has
          (same ∙ sym (its.1).named) in
          let bad : waits_for.SetDone q tried ≡ waits_for.Reserve e.wish.request e.wish.types = sym pending ∙ waits.0 in
          absurd (cc)
      by_rest (inr ended) =
          let over = (well.own.ranks r low).rests (client_finished w k r well low there ended) in
          let bad : waits_for.SetDone q tried ≡ waits_for.Nothing = sym pending ∙ over in
          absurd (cc)

  found_alone : IsAct w k Finds_alone → IsTold s → IsOrdered w → has_done w.ledger ≡ false
  found_alone is told was = by_flag (has_done w.ledger) refl
    where
      first : Waiting
      first = (is.sure).first

      has : Has (pool_of w k).kept.parked.waiting first
      has = subst (λ (es : List Waiting). Has es first) (sym (is.sure).waits) (inl refl)

      by_heard : SomePending w ⊎ SomeKnows w → ⊥
      by_heard (inl some) = none_tells (is.sure).quiet some
      by_heard (inr (t, low, knows)) =
          let same : t ≡ k = ap server_named (let e = there in omega arith) in
          let idle = all_idle w.config k (pool_of w k) (well.own.servers k there) alone there first has in
          let off = told_is (pool_of w k) first told has idle in
          let bad : true ≡ false = sym (ap (λ (x : Server). done_at w x) (sym same) ∙ knows) ∙ off in
          absurd (cc)

      by_flag : (f : Bool) → has_done w.ledger ≡ f → has_done w.ledger ≡ false
      by_flag false e = e
      by_flag true e = absurd (by_heard (was.heard e))

  alone_undone : (a : Act) → IsAct w k a → (finds a ≡ true → IsTold s) → IsOrdered w → finds a ≡ true → has_done w.ledger ≡ false
  alone_undone (Finds from t) is told was found =
      let running = (is.sure).0.running in
      let stopped = (well.own.servers k there).alone alone in
      let bad : true ≡ false = sym running.runs ∙ stopped in
      absurd (cc)
  alone_undone Finds_alone is told was found = found_alone is (told refl) was
  alone_undone _ is told was found = absurd (cc)

-- acts of an event
acts_ordered : (k : Server) (list : List Act) (w : World) (b : Bag) → AreActs w k list → IsWell w → IsLawful w b → w.config.servers ≡ 1
    → k.0 < w.config.servers → FindsTold list (pool_of w k) → IsOrdered w → IsOrdered (acted_all w k list)
acts_ordered k [] w b are well l alone there told was = was
acts_ordered k (a ∷ more) w b are well l alone there told was =
    let inside = inside_servers w k well there in
    let next = act_lawful w k b well l a are.0 in
    acts_ordered k more (acted w k a) next.0 are.1 (act_well w k a well are.0) next.1 alone there
    (subst (FindsTold more) (sym (pool_is w k a inside)) told.1)
    (act_ordered w k a well are.0 (alone_undone w b k well l alone there a are.0 told.0 was) was)

event_alone : (w next : World) (from : Actor) (me : Server) (letter : Letter) (rest : List Letter) (x : Served) → IsWell w → Lawful w
    → w.config.servers ≡ 1 → IsTold (pool_of w me) → Serves w from me letter rest x next → IsOrdered w → IsOrdered next
event_alone w next from me letter rest x well lawful alone told serving was =
    subst IsOrdered (sym chain.is)
    (acts_ordered me chain.list v lawful.0 chain.are (tick_well w me stamp up serving.here well)
    (tick_lawful w me stamp up lawful.0 serving.here well lawful.1) alone serving.here
    (subst (FindsTold chain.list) (sym pool_v) (by_from chain.from refl))
    (tick_ordered w me stamp up well serving.here was))
  where
    stamp : ℕ
    stamp = next_stamp (pool_of w me) letter

    up : Bool
    up = raises letter.message

    v : World
    v = ticks w me stamp up

    t : ServerModel
    t = ticked (pool_of w me) stamp up

    inside : me.0 < length w.servers
    inside = inside_servers w me well serving.here

    chain : IsChain w next me stamp up
    chain = event_chain w next from me letter rest x inside (well.own.servers me serving.here).wishes serving

    pool_v : pool_of v me ≡ t
    pool_v = pool_there w me t inside

    by_plan : (r : Rank) (o : Option Plan) → IfSome o (IsPlan t (by.Rank r) chain.message) → IfSome o (Settles t) → FollowsBring o
        → option_map (in_order ends_event t) o ≡ Some chain.list → FindsTold chain.list t
    by_plan r None plan settles each e = absurd (cc)
    by_plan r (Some p) plan settles each e =
        subst (λ (list : List Act). FindsTold list t) (some_is e) (plan_found t (by.Rank r) chain.message p told plan settles each)

    by_from : (f : Actor) → chain.from ≡ f → FindsTold chain.list t
    by_from (by.Rank r) e =
        let its : acts t (by.Rank r) chain.message ≡ Some chain.list = ap (λ (f : Actor). acts t f chain.message) (sym e) ∙ chain.acts in
        let plan = planned t (by.Rank r) chain.message in
        by_plan r (rule t (by.Rank r) chain.message) plan (settles_by t told (by.Rank r) chain.message plan)
        (rank_follows t r chain.message) its
    by_from (by.Server k) e =
        let are : AreActs v me (chain.first ∷ chain.more) = subst (AreActs v me) chain.shape chain.are in
        let front = subst (AreFront v.config me v.links) chain.takes (are.0).front in
        let own = well.own.servers me serving.here in
        let within : is_within (pool_of w me).config (by.Server k) ≡ true =
        ap (λ (c : Config). is_within c (by.Server k)) own.config ∙ ap (is_within w.config) (sym e) ∙ front.2 in
        let zero_me : me.0 ≡ 0 = let low = serving.here in omega arith in
        let refused = only_ranks t k chain.message (ap (λ (c : Config). c.servers) own.config ∙ alone)
        (ap (λ (s : Server). s.0) own.me ∙ zero_me) within in
        let bad : None ≡ Some chain.list =
        ap (option_map (in_order ends_event t)) (sym refused) ∙ ap (λ (f : Actor). acts t f chain.message) (sym e) ∙ chain.acts in
        absurd (cc)

-- Every run.

begins_ordered : (config : Config) → IsOrdered (start config)
begins_ordered config = record { heard = λ called. absurd (cc); order = tt }

-- at each moment of a run: its ranks, and one server
pub record IsUsual (w : World) : Type 0 where
  pub well : IsWell w
  pub lawful : Lawful w
  pub telling : AreTelling w
  pub modest : (r : Rank) → r.0 < w.config.ranks → IsModest (client_of w r)

usual : (config : Config) (events : List Event) (w : World) → Runs (start config) events w → IsUsual w
usual config events w run = record {
  well = every_run_well config events w run;
  lawful = every_run_lawful config events w run;
  telling = every_run_telling config events w run;
  modest = (every_run_after config events w run).modest;
}

rank_next : (w next : World) → IsUsual w → Does w next
    → ((from : Actor) (me : Server) (letter : Letter) (rest : List Letter) (x : Served) → Serves w from me letter rest x next
    → IsOrdered next)
    → IsOrdered w → IsOrdered next
rank_next w next is (A_call {me = me} {call = call} {x = x} does) served was =
    subst IsOrdered (sym does.is) (call_ordered w next me call x is.well does was)
rank_next w next is (An_answer {from = from} {me = me} {letter = letter} {rest = rest} {x = x} does) served was =
    subst IsOrdered (sym does.is)
    (answer_ordered w next from me letter rest x is.well is.telling (is.modest me does.here) does was)
rank_next w next is (A_request {from = from} {me = me} {letter = letter} {rest = rest} {x = x} does) served was =
    served from me letter rest x does

event_next : (config : Config) (events : List Event) (w next : World) → Runs (start config) events w → Does w next → IsOrdered w
    → IsOrdered next
event_next config events w next run does was =
    rank_next w next (usual config events w run) does
    (λ from me letter rest x serves. by_number from me letter rest x serves (cases_eq config.servers 1)) was
  where
    same : w.config ≡ config
    same = run_config (start config) w events run

    by_number : (from : Actor) (me : Server) (letter : Letter) (rest : List Letter) (x : Served) → Serves w from me letter rest x next
        → (config.servers ≡ 1) ⊎ (config.servers ≢ 1) → IsOrdered next
    by_number from me letter rest x serves (inl alone) =
        let is = usual config events w run in
        event_alone w next from me letter rest x is.well is.lawful (ap (λ (c : Config). c.servers) same ∙ alone)
        (all_told config events w run me serves.here) serves was
    by_number from me letter rest x serves (inr differs) =
        let some = config.servers_within.0 in
        let c = run_checked (start config) w events (begins_checked config (omega arith)) run in
        event_ordered w next from me letter rest x c (every_run_telling config events w run) serves was

run_ordered : (config : Config) (w last : World) (before events : List Event) → Runs (start config) before w → Runs w events last
    → IsOrdered w → IsOrdered last
run_ordered config w last before [] run more was = subst IsOrdered more was
run_ordered config w last before (e ∷ events) run more was =
    run_ordered config more.0 last (before ++ e ∷ []) events (snoc (start config) w more.0 before e run more.1) more.2
    (event_next config before w more.0 run (happens_does w more.0 e more.1) was)

-- no such entry comes before that one
pub none_before : (config : Config) (events : List Event) (w : World) (before behind : List Entry) → Runs (start config) events w
    → w.ledger ≡ before ++ enters.Exhausted ∷ behind → list_any (causes ends_by.NoMoreWork) before ≡ false
none_before config events w before behind run is =
    let all = (run_ordered config (start config) w [] events refl run (begins_ordered config)).order in
    (order_first false before behind (subst (AreOrdered false) is all)).1
