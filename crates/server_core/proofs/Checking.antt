-- What a check makes of a server, and what is said of it.
use Rattle.std.proofs.Common.{◌≡◌, ◌≤◌, ◌<◌, ◌+◌, ◌-◌, ◌*◌, ◌==◌, ◌↔◌, ◌⊎◌, inl, inr, ℕ, suc, Bool, true, false, cond, List, [], ◌∷◌, ◌++◌}
use Rattle.std.proofs.Common.{append-nil, append_assoc, length, map, Option, None, Some, IsTrue, All, refl, sym, ap, ◌∙◌, subst, arith}
use Rattle.std.specs.Prelude.{if◌then◌else◌}
use Rattle.std.specs.List.{range_with_len}
use Rattle.std.proofs.lemmas.Bool.{both_ways, eq-eqb, ne_eqb}
use Rattle.std.proofs.lemmas.List.Elements.{All-weaker}
use Rattle.adlb_unit.specs.Ring.{behind}
use Rattle.adlb_unit.specs.declared.messages.Message.{Message}
use Rattle.adlb_unit.specs.declared.messages.Message.TheVariants as tells
use Rattle.adlb_unit.specs.declared.messages.Why.{Why}
use Rattle.adlb_unit.specs.declared.messages.Why.TheVariants.{Busy}
use Rattle.adlb_unit.specs.declared.names.Server.{Server}
use Rattle.adlb_unit.specs.declared.names.UnitId.{UnitId}
use Rattle.adlb_unit.specs.declared.notes.End.TheVariants as ends_by
use Rattle.adlb_unit.specs.declared.tokens.Token.{Token}
use Rattle.bag_ledger.specs.declared.entries.Entry.{Entry}
use Rattle.bag_ledger.specs.declared.entries.Entry.TheVariants as enters
use Rattle.bag_ledger.proofs.Tests.{some_is}
use Rattle.exhaust_ring.specs.Expected.{Expects, HasComeBack, IsToJudge, IsToMark, IsToTest, expects}
use Rattle.exhaust_ring.proofs.Rows.{expects_is, expects_tested}
use Rattle.exhaust_ring.specs.Ring.{Asker, Ring, RingModel, ended, token, with_exhausted, with_mark, with_ring, with_shut, with_tests}
use Rattle.exhaust_ring.specs.Tests.{first_failing}
use Rattle.exhaust_ring.specs.Visits.{Outcome, judged, outcome, found_of, verdict_of, visited1, visited2}
use Rattle.exhaust_ring.specs.declared.steps.RingStep.{RingStep}
use Rattle.exhaust_ring.specs.declared.steps.RingStep.TheVariants.{Pass, Fail, Exhausted, Shutdown, Ended}
use Rattle.server_components.specs.Parked.{Parked}
use Rattle.server_law.specs.Acts.{Act, Fails, Finds, Gives_up, Hears_exhaust, Marks, Passes, ServerSaying, Shuts, askers, does, entries}
use Rattle.server_law.specs.Acts.{says, tested_in, to_others, to_server}
use Rattle.server_law.specs.Carried.{Served, all_counted, carried, counted, done, joined, posted, stamped}
use Rattle.server_law.specs.Checks.{exhaust_rule, marks, tests, tests_now, token_rule, verdict, visit}
use Rattle.server_law.specs.Endings.{is_quiet, tells_all, tells_idle}
use Rattle.server_law.specs.Plan.{Decider, Plan, plan}
use Rattle.server_law.specs.State.{Kept, ServerModel, ring_at}
use Rattle.server_law.proofs.Carrying.{followed, followed_more}
use Rattle.server_core.specs.Checks.{said, step_enters, step_letters, step_says, step_tells, stepped, with_check}
use Rattle.server_core.specs.Out.{HasRoom, Out, event_letters, going_on, made, planned, with_entry, with_letter}
use Rattle.server_core.proofs.Going.{goes_nowhere, plan_if, plan_one, room_less, silent}

-- what counts letters keeps the rest
pub counted_kept : (list : List ServerSaying) (s : ServerModel) → (all_counted s list).kept ≡ s.kept
counted_kept [] s = refl
counted_kept (x ∷ list) s = counted_kept list (counted s x.to)

-- Other servers are told, one after the other.

-- those from this place on
abbrev pub told_from : ServerModel → Message → ℕ → List ServerSaying
told_from s message n = map (λ t. to_server t message) (map (behind s.config s.me) (range_with_len n (s.config.servers - n)))

-- the message is said to the next server, and then to those after it
pub told_next : (s : ServerModel) (message : Message) (n : ℕ) → n < s.config.servers
    → told_from s message n ≡ to_server (behind s.config s.me n) message ∷ told_from s message (n + 1)
told_next s message n within = let more : s.config.servers - n ≡ suc (s.config.servers - (n + 1)) = omega arith in rw more refl

-- after the last server nothing is said
pub told_none : (s : ServerModel) (message : Message) → told_from s message s.config.servers ≡ []
told_none s message = let none : s.config.servers - s.config.servers ≡ 0 = omega arith in rw none refl

-- one letter said is one less to say
pub said_one : (out : Out) (x : ServerSaying) (list : List ServerSaying) (s : ServerModel)
    → said (with_letter out (posted s x)) list (counted s x.to) ≡ said out (x ∷ list) s
said_one out x list s = rw (append_assoc out.sends (posted s x ∷ []) (stamped (counted s x.to) list)) refl

-- with nothing to say, nothing changes
pub said_none : (out : Out) (s : ServerModel) → said out [] s ≡ made s out
said_none out s = rw (append-nil out.sends) refl

-- An entry takes room for one.
pub entered_room : (s : ServerModel) (out : Out) (e : Entry) (more : ℕ) → HasRoom s out (more + 1) → HasRoom s (with_entry out e) more
entered_room s out e more room =
    let was = room.tells in
    let F : ℕ → Type 0 = λ n. n + out.room ≤ event_letters * s.clock in
    let G : ℕ → Type 0 = λ n. n + (out.room - 1) ≤ event_letters * s.clock in
    record { tells = omega (arith, was); places = All-weaker F G (λ n fits. omega (arith, fits)) s.sent room.places }

-- All work is used up: that is entered, other servers are told, and then all who are idle.
pub exhausted_goes : (s t u : ServerModel) (out mid last : Out)
    → made t mid ≡ said (with_entry out enters.Exhausted) (to_others s tells.Exhaust) s
    → made u last ≡ going_on mid (tells_all ends_by.Exhausted [] t.kept.parked.waiting) t
    → made u last ≡ stepped Exhausted out s
exhausted_goes s t u out mid last others idle =
    let list = to_others s tells.Exhaust in
    let now = said (with_entry out enters.Exhausted) list s in
    let F : Served → Kept → Served = λ x k. followed x (tells_all ends_by.Exhausted [] k.parked.waiting) in
    idle ∙ ap (λ (x : Served). F x x.state.kept) others ∙ ap (F now) (counted_kept list s)

-- An act that says what becomes of a check.

module _ (a : Act) (step : RingStep) (s v : ServerModel) (out : Out) (state : v ≡ does a s) (told : says a s ≡ step_says step v)
    (entered : entries a s ≡ step_enters step) where
  -- an act whose check step says this carries the step out
  pub act_steps : (more : List Act) → step_tells step v.kept.parked.waiting ≡ more → going_on out (a ∷ more) s ≡ stepped step out v
  act_steps more idle =
      let F : ServerModel → List ServerSaying → List Entry → List Act → Served = λ t list es l.
      joined (out.sends ++ stamped t list) (out.entries ++ es) (carried l (all_counted t list)) in
      followed_more (made s out) a more
      ∙ ap (λ l. F (does a s) (says a s) (entries a s) l) (sym idle)
      ∙ ap (λ list. F (does a s) list (entries a s) (step_tells step v.kept.parked.waiting)) told
      ∙ ap (λ es. F (does a s) (step_says step v) es (step_tells step v.kept.parked.waiting)) entered
      ∙ ap (λ t. F t (step_says step v) (step_enters step) (step_tells step v.kept.parked.waiting)) (sym state)

module _ (s : ServerModel) (out : Out) (from : Server) (t : Token) (n : RingModel) (step : RingStep) (x : Served)
    (goes : x ≡ stepped step out (with_check s n)) where
  -- one act, by which the ring is so and this is said
  one_act : (a : Act) (m : RingModel) (k : RingStep) → n ≡ m → step ≡ k → with_check s m ≡ does a s
      → says a s ≡ step_says k (with_check s m) → entries a s ≡ step_enters k
      → (more : List Act) → step_tells k s.kept.parked.waiting ≡ more → x ≡ going_on out (a ∷ more) s
  one_act a m k ring is state told entered more idle =
      goes ∙ ap (λ j. stepped j out (with_check s n)) is ∙ ap (λ r. stepped k out (with_check s r)) ring
      ∙ sym (act_steps a k s (with_check s m) out state told entered more idle)

  -- where a test fails the ring is so
  fails_so : (why : Why) (r : Ring) → r ≡ tested_in t.wave s.kept.ring
      → with_check s (with_ring (ring_at s) r) ≡ does (Fails from t why) s
  fails_so why r is = ap (λ r. with_check s (with_ring (ring_at s) r)) is

  -- in the first wave
  pub marks_go : (quiet : Bool) → t.wave ≡ 1 → let o = visited1 (ring_at s) t quiet s.activity (askers s.kept) in n ≡ o.ring → step ≡ o.step
      → x ≡ going_on out (marks quiet from t ∷ []) s
  marks_go true first ring is =
      one_act (Marks from t) (with_ring (ring_at s) (with_mark s.kept.ring t.check s.activity))
      (Pass (token t.check t.wave (t.asked ++ askers s.kept))) ring is refl refl refl [] refl
  marks_go false first ring is =
      let same = sym (ap (λ w. tested_in w s.kept.ring) first) in
      one_act (Fails from t Busy) (ring_at s) (Fail t Busy) ring is (fails_so Busy s.kept.ring same) refl refl [] refl

  -- the tests
  pub tests_go : (quiet : Bool) (fits : Option UnitId) → ((s.me.0 == 0) ≡ false → t.wave ≡ 2)
      → let o = visited2 (ring_at s) t quiet s.activity fits in n ≡ o.ring → step ≡ o.step
      → x ≡ going_on out (tests (s.me.0 == 0) (first_failing quiet s.kept.ring.mark s.activity fits) from t ∷ []) s
  tests_go quiet fits second ring is = by_test (first_failing quiet s.kept.ring.mark s.activity fits) (s.me.0 == 0) refl ring is
    where
      by_test : (o : Option Why) (z : Bool) → (s.me.0 == 0) ≡ z → n ≡ (judged (ring_at s) t o).ring → step ≡ (judged (ring_at s) t o).step
          → x ≡ going_on out (tests z o from t ∷ []) s
      by_test None z zeroth ring is =
          one_act (Passes from t) (with_ring (ring_at s) (with_tests s.kept.ring)) (Pass (token t.check 2 t.asked)) ring is refl
          refl refl [] refl
      by_test (Some why) z zeroth ring is =
          by_place z (ring ∙ ap (λ b. (at b).ring) zeroth) (is ∙ ap (λ b. (at b).step) zeroth) (λ no. second (zeroth ∙ no))
        where
          at : Bool → Outcome
          at b =
              cond b (outcome (with_ring (ring_at s) (ended s.kept.ring)) Ended)
              (outcome (with_ring (ring_at s) (with_tests s.kept.ring)) (Fail t why))

          by_place : (b : Bool) → n ≡ (at b).ring → step ≡ (at b).step → (b ≡ false → t.wave ≡ 2)
              → x ≡ going_on out (tests b (Some why) from t ∷ []) s
          by_place true ring is second =
              one_act (Gives_up from t) (with_ring (ring_at s) (ended s.kept.ring)) Ended ring is refl refl refl [] refl
          by_place false ring is second =
              one_act (Fails from t why) (with_ring (ring_at s) (with_tests s.kept.ring)) (Fail t why) ring is
              (fails_so why (with_tests s.kept.ring) (sym (ap (λ w. tested_in w s.kept.ring) (second refl)))) refl refl [] refl

  -- the verdict
  pub judges_go : n ≡ (verdict_of (ring_at s) t).ring → step ≡ (verdict_of (ring_at s) t).step
      → (p : Plan) → verdict s.kept.exhausted t.asked from t ≡ Some p → x ≡ planned out p s
  judges_go ring is = by_list t.asked s.kept.exhausted refl ring is
    where
      Goes : Act → List Decider → Type 0
      Goes a follow = x ≡ planned out (record { first = a; follow = follow }) s

      planned_by : (a : Act) (follow : List Decider) → Goes a follow → (p : Plan) → plan a follow ≡ Some p → x ≡ planned out p s
      planned_by a follow goes p is = subst (λ q. x ≡ planned out q s) (some_is is) goes

      by_list : (asked : List Asker) (z : Bool) → s.kept.exhausted ≡ z → n ≡ (found_of (ring_at s) asked).ring
          → step ≡ (found_of (ring_at s) asked).step → (p : Plan) → verdict z asked from t ≡ Some p → x ≡ planned out p s
      by_list [] z found ring is =
          planned_by (Shuts from t) [] (one_act (Shuts from t) (with_shut (ring_at s)) Shutdown ring is refl refl refl [] refl)
      by_list (a ∷ asked) z found ring is = by_found z (ring ∙ ap (λ b. (at b).ring) found) (is ∙ ap (λ b. (at b).step) found)
        where
          at : Bool → Outcome
          at b = cond b (outcome (with_ring (ring_at s) (ended s.kept.ring)) Ended) (outcome (with_exhausted (ring_at s)) Exhausted)

          by_found : (b : Bool) → n ≡ (at b).ring → step ≡ (at b).step → (p : Plan) → verdict b (a ∷ asked) from t ≡ Some p
              → x ≡ planned out p s
          by_found true ring is =
              planned_by (Gives_up from t) []
              (one_act (Gives_up from t) (with_ring (ring_at s) (ended s.kept.ring)) Ended ring is refl refl refl [] refl)
          by_found false ring is =
              let told = tells_all ends_by.Exhausted [] s.kept.parked.waiting in
              let find = Finds from t in
              let kept = counted_kept (to_others s tells.Exhaust) (does find s) in
              let same = ap (λ (k : Kept). tells_all ends_by.Exhausted [] k.parked.waiting) kept in
              planned_by find (tells_idle ends_by.Exhausted ∷ [])
              (one_act find (with_exhausted (ring_at s)) Exhausted ring is refl refl refl told refl
              ∙ sym (plan_one find (tells_idle ends_by.Exhausted) s out ∙ ap (λ l. going_on out (find ∷ l) s) same))

-- As much room as a step needs, and room for one more letter.

letters_few : (step : RingStep) (s : ServerModel) → step_letters step s ≤ 8
letters_few (Pass t) s = omega arith
letters_few (Fail t why) s = omega arith
letters_few Exhausted s = s.config.servers_within.1
letters_few Shutdown s = s.config.servers_within.1
letters_few Ended s = omega arith

-- there is room for the letters of a step and one more
pub step_room : (step : RingStep) {s : ServerModel} (n : RingModel) {out : Out} → HasRoom s out 9
    → HasRoom (with_check s n) out (step_letters step (with_check s n) + 1)
step_room step {s} n room =
    let few = letters_few step (with_check s n) in
    let was = room.tells in
    record { tells = omega (arith, few, was); places = room.places }

-- there is room for the letters of a step
pub step_fits : (step : RingStep) {s : ServerModel} (n : RingModel) {out : Out} → HasRoom s out 9
    → HasRoom (with_check s n) out (step_letters step (with_check s n))
step_fits step n room = room_less (step_room step n room) (omega arith)

-- The row by which a token is expected.

-- the number of a server
abbrev pub number : ServerModel → ℕ
number s = s.me.0

module _ (s : ServerModel) (t : Token) where
  abbrev Row : Type 0
  Row = IsToMark (ring_at s) t ⊎ HasComeBack (ring_at s) t ⊎ IsToTest (ring_at s) t ⊎ IsToJudge (ring_at s) t

  abbrev Tests : Type 0
  Tests = HasComeBack (ring_at s) t ⊎ IsToTest (ring_at s) t

  -- at server 0 a token of wave 1 comes back for the test
  pub comes_back : s.me.0 ≡ 0 → t.wave ≡ 1 → Row → Tests
  comes_back zeroth first (inl r) = absurd (r.other zeroth)
  comes_back zeroth first (inr (inl r)) = inl r
  comes_back zeroth first (inr (inr (inl r))) = inr r
  comes_back zeroth first (inr (inr (inr r))) = absurd (omega (arith, first, r.wave))

  -- at server 0 a token of wave 2 comes for the verdict
  pub comes_last : s.me.0 ≡ 0 → (t.wave ≡ 1 → ⊥) → Row → IsToJudge (ring_at s) t
  comes_last zeroth later (inl r) = absurd (r.other zeroth)
  comes_last zeroth later (inr (inl r)) = absurd (later r.wave)
  comes_last zeroth later (inr (inr (inl r))) = absurd (r.other zeroth)
  comes_last zeroth later (inr (inr (inr r))) = r

  -- at another server a token of wave 1 comes for its mark
  pub comes_first : (s.me.0 ≡ 0 → ⊥) → t.wave ≡ 1 → Row → IsToMark (ring_at s) t
  comes_first other first (inl r) = r
  comes_first other first (inr (inl r)) = absurd (other r.running.zeroth)
  comes_first other first (inr (inr (inl r))) = absurd (omega (arith, first, r.wave))
  comes_first other first (inr (inr (inr r))) = absurd (other r.running.zeroth)

  -- at another server a token of wave 2 comes for the test
  pub comes_again : (s.me.0 ≡ 0 → ⊥) → (t.wave ≡ 1 → ⊥) → Row → Tests
  comes_again other later (inl r) = absurd (later r.wave)
  comes_again other later (inr (inl r)) = inl r
  comes_again other later (inr (inr (inl r))) = inr r
  comes_again other later (inr (inr (inr r))) = absurd (other r.running.zeroth)

  -- elsewhere than at server 0 the tests are of the second wave
  pub tests_second : Tests → (s.me.0 == 0) ≡ false → t.wave ≡ 2
  tests_second (inl r) other = absurd (both_ways (s.me.0 == 0) other (eq-eqb s.me.0 0 r.running.zeroth))
  tests_second (inr r) other = r.wave

-- What is done with a token is as its rule says.

module _ (s : ServerModel) (out : Out) (from : Server) (t : Token) (x : Served) where
  abbrev visits : Bool → Bool → Option Plan
  visits zeroth first =
      if zeroth then (if first then plan (tests_now s from t) [] else verdict s.kept.exhausted t.asked from t)
      else (if first then plan (marks (is_quiet s) from t) [] else plan (tests_now s from t) [])

  visit_is : (zeroth first : Bool) → (s.me.0 == 0) ≡ zeroth → (t.wave == 1) ≡ first → (p : Plan) → token_rule s from t ≡ Some p
      → visits zeroth first ≡ Some p
  visit_is zeroth first is wave p rule =
      sym (ap (λ b. visits b (t.wave == 1)) is ∙ ap (visits zeroth) wave) ∙ expected (expects (ring_at s) from t) rule
    where
      expected : (b : Bool) → cond b (visit s from t) None ≡ Some p → visit s from t ≡ Some p
      expected true is = is
      expected false is = absurd (cc)

  abbrev Goes : Type 0
  Goes = (p : Plan) → token_rule s from t ≡ Some p → x ≡ planned out p s

  -- at server 0 a token of wave 1 is handled by its rule
  pub back_goes : s.me.0 ≡ 0 → t.wave ≡ 1 → x ≡ going_on out (tests_now s from t ∷ []) s → Goes
  back_goes zeroth first goes p rule =
      subst (λ q. x ≡ planned out q s) (some_is (visit_is true true (eq-eqb s.me.0 0 zeroth) (eq-eqb t.wave 1 first) p rule)) goes

  -- at server 0 a token of wave 2 is handled by its rule
  pub last_goes : s.me.0 ≡ 0 → (t.wave ≡ 1 → ⊥)
      → ((p : Plan) → verdict s.kept.exhausted t.asked from t ≡ Some p → x ≡ planned out p s) → Goes
  last_goes zeroth later goes p rule = goes p (visit_is true false (eq-eqb s.me.0 0 zeroth) (ne_eqb t.wave 1 later) p rule)

  -- at another server a token of wave 1 is handled by its rule
  pub first_goes : (s.me.0 ≡ 0 → ⊥) → t.wave ≡ 1 → x ≡ going_on out (marks (is_quiet s) from t ∷ []) s → Goes
  first_goes other first goes p rule =
      subst (λ q. x ≡ planned out q s) (some_is (visit_is false true (ne_eqb s.me.0 0 other) (eq-eqb t.wave 1 first) p rule)) goes

  -- at another server a token of wave 2 is handled by its rule
  pub again_goes : (s.me.0 ≡ 0 → ⊥) → (t.wave ≡ 1 → ⊥) → x ≡ going_on out (tests_now s from t ∷ []) s → Goes
  again_goes other later goes p rule =
      subst (λ q. x ≡ planned out q s) (some_is (visit_is false false (ne_eqb s.me.0 0 other) (ne_eqb t.wave 1 later) p rule)) goes

-- Server 0 tells its verdict.
pub exhaust_goes : (s : ServerModel) (out : Out) (from : Server) (n : RingModel) (x : Served) → n ≡ record (ring_at s) { exhausted = true }
    → x ≡ (let v = with_check s n in going_on out (tells_all ends_by.Exhausted [] v.kept.parked.waiting) v)
    → (p : Plan) → exhaust_rule s from ≡ Some p → x ≡ planned out p s
exhaust_goes s out from n x ring goes =
    let a = Hears_exhaust from in
    let d = tells_idle ends_by.Exhausted in
    let F : RingModel → Served = λ m. let v = with_check s m in going_on out (tells_all ends_by.Exhausted [] v.kept.parked.waiting) v in
    plan_if (from.0 == 0) a (d ∷ []) s out x (goes ∙ ap F ring ∙ sym (plan_one a d s out ∙ silent a (d (done a s)) s out refl refl))

-- what is tested of a token
pub token_says : {m n : RingModel} {b : Bool} (from : Server) (t : Token) → m ≡ n → b ≡ expects m from t → IsTrue b ↔ Expects n from t
token_says {m} {n} {b} from t same is =
    let now = is ∙ ap (λ k. expects k from t) same in
    (λ yes. expects_is n from t (sym now ∙ yes), λ row. now ∙ expects_tested n from t row)

-- What is heard without a word.
pub heard_goes : (b : Bool) (a : Act) (s : ServerModel) {t : ServerModel} (out : Out) → says a s ≡ [] → entries a s ≡ [] → t ≡ does a s
    → (p : Plan) → cond b (plan a []) None ≡ Some p → made t out ≡ planned out p s
heard_goes b a s {t} out nothing none after =
    plan_if b a [] s out (made t out) (ap (λ u. made u out) after ∙ goes_nowhere out (does a s) ∙ sym (silent a [] s out nothing none))

-- the room stays where nobody comes or goes and nothing is said
pub stays_room : {s t u : ServerModel} {out : Out} → u ≡ t → HasRoom s out 9 → t.kept.parked ≡ s.kept.parked → t.sent ≡ s.sent
    → t.clock ≡ s.clock → HasRoom u out 1
stays_room {s} {t} {u} {out} is room same sent clock =
    let was = room.tells in
    let waiting = ap (λ (k : Parked). length k.waiting) same in
    let wishes = ap (λ (k : Parked). length k.wishes) same in
    subst (λ v. HasRoom v out 1) (sym is)
    (record {
      tells = omega (arith, was, waiting, wishes);
      places = subst (λ c. All (λ n. n + out.room ≤ event_letters * c) t.sent) (sym clock)
          (subst (All (λ n. n + out.room ≤ event_letters * s.clock)) (sym sent) room.places);
    })

-- No visit changes how many checks were started.

-- a mark leaves the number of the check
pub marked_check : (m : RingModel) (t : Token) (quiet : Bool) (activity : ℕ) (parked : List Asker)
    → (visited1 m t quiet activity parked).ring.ring.check ≡ m.ring.check
marked_check m t true activity parked = refl
marked_check m t false activity parked = refl

-- a verdict leaves the number of the check
pub judged_check : (m : RingModel) (t : Token) (o : Option Why) → (judged m t o).ring.ring.check ≡ m.ring.check
judged_check m t None = refl
judged_check m t (Some why) = by_test (m.me.0 == 0)
  where
    by_test : (b : Bool)
        → (cond b (outcome (with_ring m (ended m.ring)) Ended) (outcome (with_ring m (with_tests m.ring)) (Fail t why))).ring.ring.check
        ≡ m.ring.check
    by_test true = refl
    by_test false = refl
