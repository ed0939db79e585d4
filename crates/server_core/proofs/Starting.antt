-- A check that starts, and what is said of it.
use Rattle.std.proofs.Common.{◌≡◌, ◌≤◌, ◌<◌, ◌+◌, ◌-◌, ◌==◌, ℕ, Bool, true, false, cond, List, [], ◌∷◌, map, Option, None, Some, refl, sym}
use Rattle.std.proofs.Common.{ap, ◌∙◌, subst, arith}
use Rattle.std.specs.List.{range_with_len}
use Rattle.std.proofs.lemmas.Bool.{eq-eqb, eqb-true}
use Rattle.adlb_unit.specs.Ring.{behind}
use Rattle.adlb_unit.specs.declared.messages.Message.{Message}
use Rattle.adlb_unit.specs.declared.messages.Message.TheVariants as tells
use Rattle.adlb_unit.specs.declared.messages.Why.{Why}
use Rattle.adlb_unit.specs.declared.names.Server.{Server}
use Rattle.adlb_unit.specs.declared.names.UnitId.{UnitId}
use Rattle.adlb_unit.specs.declared.notes.End.TheVariants as ends_by
use Rattle.exhaust_ring.specs.Ring.{AreOfOne, Asker, MayStart, RingModel, begun, ended, with_exhausted, with_ring, with_tests}
use Rattle.exhaust_ring.specs.Tests.{first_failing}
use Rattle.exhaust_ring.specs.Visits.{Outcome, first_token, judged, judged_alone, outcome, started}
use Rattle.exhaust_ring.specs.declared.steps.RingStep.{RingStep}
use Rattle.exhaust_ring.specs.declared.steps.RingStep.TheVariants.{Pass, Fail, Exhausted, Shutdown, Ended}
use Rattle.server_law.specs.Acts.{Act, Checks_alone, Finds_alone, Shuts_alone, Starts, askers, check_alone, does, entries, fit_among, says}
use Rattle.server_law.specs.Acts.{to_others, to_server}
use Rattle.server_law.specs.Endings.{checks, finds_alone, is_quiet, starts, tells_all}
use Rattle.server_law.specs.State.{ServerModel, ring_at}
use Rattle.server_law.proofs.Starting.{may_tested}
use Rattle.server_core.specs.Checks.{step_enters, step_letters, step_says, step_tells, stepped, with_check}
use Rattle.server_core.specs.inside.{IsInside, state_of}
use Rattle.server_core.specs.Out.{Out, going_on}
use Rattle.server_core.specs.declared.states.ServerState.TheInside.{Inside}
use Rattle.server_core.proofs.Askers.{ring_seen}
use Rattle.server_core.proofs.Checking.{act_steps}
use Rattle.server_core.proofs.Sounds.{ring_inside}

-- where other servers are in the run, what fits does not matter
started_same : (m : RingModel) (activity : ℕ) (parked : List Asker) (f g : Option UnitId) → ((m.config.servers == 1) ≡ true → f ≡ g)
    → started m activity parked f ≡ started m activity parked g
started_same m activity parked f g same = by_test (m.config.servers == 1) refl
  where
    by_test : (b : Bool) → (m.config.servers == 1) ≡ b → started m activity parked f ≡ started m activity parked g
    by_test true alone = ap (started m activity parked) (same alone)
    by_test false others = rw others refl

-- What a server that is alone finds: whether all work is used up, whether it is shut, and no token goes on.

abbrev exhausted_by : RingStep → Bool → Bool
exhausted_by Exhausted before = true
exhausted_by _ before = before

abbrev shut_by : RingStep → Bool → Bool
shut_by Shutdown before = true
shut_by _ before = before

abbrev stays_here : RingStep → Bool
stays_here (Pass t) = false
stays_here (Fail t why) = false
stays_here _ = true

record IsFound (m : RingModel) (o : Outcome) : Type 0 where
  pub check : o.ring.ring.check ≡ m.ring.check + 1
  pub exhausted : o.ring.exhausted ≡ exhausted_by o.step m.exhausted
  pub shut : o.ring.shut ≡ shut_by o.step m.shut
  pub here : stays_here o.step ≡ true

module _ (m : RingModel) (activity : ℕ) (parked : List Asker) where
  abbrev after : RingModel
  after = with_ring m (begun m.ring activity)

  abbrev tested : RingModel
  tested = with_ring after (with_tests after.ring)

  either : (b : Bool) (x y : Outcome) → IsFound m x → IsFound m y → IsFound m (cond b x y)
  either true x y first second = first
  either false x y first second = second

  found : (o : Option Why) → m.me.0 ≡ 0 → IsFound m (judged_alone (judged after (first_token after parked) o))
  found None zeroth = by_list parked
    where
      by_list : (asked : List Asker) → IsFound m (judged_alone (judged after (first_token after asked) None))
      by_list [] = record { check = refl; exhausted = refl; shut = refl; here = refl }
      by_list (a ∷ asked) =
          either m.exhausted (outcome (with_ring tested (ended tested.ring)) Ended) (outcome (with_exhausted tested) Exhausted)
          (record { check = refl; exhausted = refl; shut = refl; here = refl })
          (record { check = refl; exhausted = refl; shut = refl; here = refl })
  found (Some why) zeroth = rw (eq-eqb m.me.0 0 zeroth) (record { check = refl; exhausted = refl; shut = refl; here = refl })

  -- the check of a server that is alone
  found_alone : (fits : Option UnitId) → m.config.servers ≡ 1 → m.me.0 ≡ 0 → IsFound m (started m activity parked fits)
  found_alone fits alone zeroth =
      rw (eq-eqb m.config.servers 1 alone) (found (first_failing true activity activity fits) zeroth)

  -- of each check that starts, the number is one more
  one_more : (fits : Option UnitId) → m.me.0 ≡ 0 → (started m activity parked fits).ring.ring.check ≡ m.ring.check + 1
  one_more fits zeroth = by_test (m.config.servers == 1) refl
    where
      by_test : (b : Bool) → (m.config.servers == 1) ≡ b → (started m activity parked fits).ring.ring.check ≡ m.ring.check + 1
      by_test true alone = (found_alone fits (eqb-true m.config.servers 1 alone) zeroth).check
      by_test false others = rw others refl

-- The check of this server, with the ranks that wait.

check_here : {i : Inside} {asked : List Asker} {fits : Option UnitId} → IsInside i → asked ≡ askers (state_of i).kept
    → (i.config.servers ≡ 1 → fits ≡ fit_among (state_of i).kept asked) → started i.ring i.activity asked fits ≡ check_alone (state_of i)
check_here {i} {asked} {fits} inside front alone =
    let s = state_of i in
    ap (λ (l : List Asker). started i.ring i.activity l fits) front
    ∙ ap (λ (m : RingModel). started m i.activity (askers s.kept) fits) (ring_seen inside)
    ∙ started_same (ring_at s) i.activity (askers s.kept) fits (fit_among s.kept (askers s.kept))
    (λ one. alone (eqb-true s.config.servers 1 one) ∙ ap (fit_among s.kept) front)

-- the check that is started is that of the rule
pub check_is : {i : Inside} {s : ServerModel} {asked : List Asker} {fits : Option UnitId} → IsInside i → state_of i ≡ s
    → asked ≡ askers s.kept → (s.config.servers ≡ 1 → fits ≡ fit_among s.kept asked) → started i.ring i.activity asked fits ≡ check_alone s
check_is {i} {s} {asked} {fits} inside is =
    subst
    (λ (u : ServerModel). asked ≡ askers u.kept → (u.config.servers ≡ 1 → fits ≡ fit_among u.kept asked)
    → started i.ring i.activity asked fits ≡ check_alone u) is (check_here inside)

-- a server is sound after it starts a check
pub started_inside : {i : Inside} {s : ServerModel} {n : RingModel} (asked : List Asker) (fits : Option UnitId) → IsInside i
    → state_of i ≡ s
    → n ≡ (started i.ring i.activity asked fits).ring → AreOfOne i.ring n → s.me.0 ≡ 0 → s.kept.ring.check < s.clock
    → IsInside (record i { ring = n })
started_inside {i} asked fits inside is now own zeroth young =
    let at = ap (λ (me : Server). me.0) inside.ring_me ∙ ap (λ (s : ServerModel). s.me.0) is ∙ zeroth in
    let check = ap (λ (m : RingModel). m.ring.check) now ∙ one_more i.ring i.activity asked fits at in
    let before = subst (λ (s : ServerModel). s.kept.ring.check < s.clock) (sym is) young in
    ring_inside inside own (omega (arith, check, before))

-- What is said.

module _ (s : ServerModel) (out : Out) (may : MayStart (ring_at s) (is_quiet s)) where
  abbrev o : Outcome
  o = check_alone s

  abbrev v : ServerModel
  v = with_check s o.ring

  abbrev Goes : Type 0
  Goes = stepped o.step out v ≡ going_on out (starts s) s

  -- the server after the act by which this is found
  abbrev with_found : Bool → Bool → ServerModel
  with_found exhausted shut = record s { kept = record s.kept { ring = o.ring.ring; exhausted = exhausted; shut = shut } }

  starts_alone : s.config.servers ≡ 1 → Goes
  starts_alone alone = by_step o.step refl
    where
      is : IsFound (ring_at s) o
      is = found_alone (ring_at s) s.activity (askers s.kept) (fit_among s.kept (askers s.kept)) alone may.zeroth

      all : starts s ≡ finds_alone o.step s.kept.parked.waiting
      all = rw (eq-eqb s.config.servers 1 alone) refl

      after_act : (step : RingStep) → o.step ≡ step → v ≡ with_found (exhausted_by step s.kept.exhausted) (shut_by step s.kept.shut)
      after_act step is_step =
          ap (λ e. with_found e o.ring.shut) (is.exhausted ∙ ap (λ k. exhausted_by k s.kept.exhausted) is_step)
          ∙ ap (with_found (exhausted_by step s.kept.exhausted)) (is.shut ∙ ap (λ k. shut_by k s.kept.shut) is_step)

      one : (step : RingStep) (a : Act) (more : List Act) → o.step ≡ step → v ≡ does a s → says a s ≡ step_says step v
          → entries a s ≡ step_enters step → step_tells step s.kept.parked.waiting ≡ more
          → finds_alone step s.kept.parked.waiting ≡ a ∷ more → Goes
      one step a more is_step state told entered then list =
          ap (λ k. stepped k out v) is_step ∙ sym (act_steps a step s v out state told entered more then)
          ∙ ap (λ l. going_on out l s) (sym list ∙ ap (λ k. finds_alone k s.kept.parked.waiting) (sym is_step) ∙ sym all)

      nobody : (message : Message) → s.config.servers ≡ 1 → [] ≡ to_others v message
      nobody message alone = ap (λ n. map (λ t. to_server t message) (map (behind v.config v.me) (range_with_len 1 (n - 1)))) (sym alone)

      none_told : (step : RingStep) → s.config.servers ≡ 1 → stays_here step ≡ true → [] ≡ step_says step v
      none_told Exhausted alone here = nobody tells.Exhaust alone
      none_told Shutdown alone here = nobody tells.Shutdown alone
      none_told Ended alone here = refl
      none_told (Pass t) alone here = absurd (cc)
      none_told (Fail t why) alone here = absurd (cc)

      by_step : (step : RingStep) → o.step ≡ step → Goes
      by_step Exhausted is_step =
          let told = tells_all ends_by.Exhausted [] s.kept.parked.waiting in
          one Exhausted Finds_alone told is_step (after_act Exhausted is_step) (none_told Exhausted alone refl) refl refl refl
      by_step Shutdown is_step =
          one Shutdown Shuts_alone [] is_step (after_act Shutdown is_step) (none_told Shutdown alone refl) refl refl refl
      by_step Ended is_step = one Ended Checks_alone [] is_step (after_act Ended is_step) refl refl refl refl
      by_step (Pass t) is_step = let no : false ≡ true = sym (ap stays_here is_step) ∙ is.here in absurd (cc)
      by_step (Fail t why) is_step = let no : false ≡ true = sym (ap stays_here is_step) ∙ is.here in absurd (cc)

  starts_round : (s.config.servers == 1) ≡ false → Goes
  starts_round others =
      let m = with_ring (ring_at s) (begun s.kept.ring s.activity) in
      let t = first_token m (askers s.kept) in
      let begins : o ≡ outcome m (Pass t) = rw others refl in
      let u = with_check s m in
      let list : Starts ∷ [] ≡ starts s = rw others refl in
      ap (λ (x : Outcome). stepped x.step out (with_check s x.ring)) begins
      ∙ sym (act_steps Starts (Pass t) s u out refl refl refl [] refl)
      ∙ ap (λ l. going_on out l s) list

  -- a check that may start is carried out as the rule says
  pub checks_go : stepped o.step out v ≡ going_on out (checks s) s
  checks_go = by_test (s.config.servers == 1) refl ∙ ap (λ l. going_on out l s) list
    where
      list : starts s ≡ checks s
      list = rw (may_tested (ring_at s) (is_quiet s) may) refl

      by_test : (b : Bool) → (s.config.servers == 1) ≡ b → Goes
      by_test true alone = starts_alone (eqb-true s.config.servers 1 alone)
      by_test false others = starts_round others

  -- room for one letter or entry, besides those to ranks, is enough
  pub check_letters : step_letters o.step v ≤ 1
  check_letters = by_test (s.config.servers == 1) refl
    where
      by_step : (step : RingStep) → s.config.servers ≡ 1 → step_letters step v ≤ 1
      by_step Exhausted alone = omega (arith, alone)
      by_step Shutdown alone = omega (arith, alone)
      by_step Ended alone = omega arith
      by_step (Pass t) alone = omega arith
      by_step (Fail t why) alone = omega arith

      by_test : (b : Bool) → (s.config.servers == 1) ≡ b → step_letters o.step v ≤ 1
      by_test true alone = by_step o.step (eqb-true s.config.servers 1 alone)
      by_test false others = rw others (omega arith)
