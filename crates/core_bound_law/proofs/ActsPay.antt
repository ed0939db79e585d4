-- What each act takes pays for what it says and changes.
use Rattle.std.proofs.Common.{◌≡◌, ◌≢◌, ◌≤◌, ◌<◌, ◌⊎◌, inl, inr, ℕ, ◌+◌, ◌*◌, ◌-◌, ◌%◌, ◌==◌, Bool, true, false, cond, List, [], ◌∷◌}
use Rattle.std.proofs.Common.{Option, None, Some, refl, sym, ap, ◌∙◌, arith}
use Rattle.std.proofs.lemmas.Bool.{cases_lt, eq-eqb}
use Rattle.std.proofs.lemmas.Nat.{mod-mul-add}
use Rattle.std.proofs.Math.Nat.{mod-eq_of_lt}
use Rattle.adlb_unit.specs.declared.messages.Why.{Why}
use Rattle.adlb_unit.specs.declared.names.Server.{Server}
use Rattle.adlb_unit.specs.declared.tokens.Token.{Token}
use Rattle.exhaust_ring.specs.Expected.{HasComeBack, IsBefore, IsToTest}
use Rattle.exhaust_ring.specs.Ring.{Asker, Ring, RingModel, begun, with_ring, with_tests}
use Rattle.exhaust_ring.specs.Tests.{first_failing}
use Rattle.exhaust_ring.specs.Visits.{first_token, found_of, judged, judged_alone}
use Rattle.adlb_unit.specs.declared.messages.Message.TheVariants as tells
use Rattle.server_law.specs.Acts.{Act, Parks, Is_hinted, Finds, Shuts, Notices, Notes_own, Wants, Starts, Marks, Passes, Fails, Gives_up}
use Rattle.server_law.specs.Acts.{Finds_alone, Shuts_alone, Checks_alone, Hears_exhaust, Acks, askers, check_alone, fit_among, tested_in}
use Rattle.server_law.specs.State.{ServerModel, ring_at}
use Rattle.server_law.specs.Sure.{SitsIn, Sure}
use Rattle.core_law.proofs.Waits.{waits}
use Rattle.core_bound_law.specs.Costs.{ActPays, IsDue}
use Rattle.core_bound_law.specs.Credits.{if_so, token_credit, unfound_credit, waits_credit}
use Rattle.core_bound_law.proofs.Lists.{few_others, one_more, others_told}

if_wanted : (t : Bool) → if_so t 23 ≤ 23
if_wanted true = omega arith
if_wanted false = omega arith

-- each token has as much as the letters of an end
some_token : (wave from : ℕ) → 8 ≤ token_credit wave from
some_token wave from = by_wave (wave == 1)
  where
    by_wave : (t : Bool) → 8 ≤ cond t (8 + (15 - from)) (8 + (7 - from))
    by_wave true = omega arith
    by_wave false = omega arith

-- the next server, where it is not server 0
onward : (s : ServerModel) (from : Server) → IsBefore (ring_at s) from → s.me.0 ≢ 0 → s.me.0 ≡ from.0 + 1
onward s from before other = by_end (cases_lt (from.0 + 1) s.config.servers)
  where
    is : (from.0 + 1) % s.config.servers ≡ s.me.0
    is = ap (λ (t : Server). t.0) before.1

    by_end : ((from.0 + 1) < s.config.servers) ⊎ (s.config.servers ≤ (from.0 + 1)) → s.me.0 ≡ from.0 + 1
    by_end (inl low) = sym is ∙ mod-eq_of_lt low
    by_end (inr high) =
        let few = before.0 in
        let sum : from.0 + 1 ≡ 1 * s.config.servers + 0 = omega arith in
        let e : (from.0 + 1) % s.config.servers ≡ 0 =
        ap (λ n. n % s.config.servers) sum ∙ mod-mul-add 1 s.config.servers 0 (omega arith) in
        absurd (other (sym is ∙ e))

-- the token goes on in wave 2
passed : (s : ServerModel) (from : Server) (t : Token) → s.me.0 < s.config.servers → IsBefore (ring_at s) from
    → HasComeBack (ring_at s) t ⊎ IsToTest (ring_at s) t
    → 1 + (8 + (7 - s.me.0)) ≤ token_credit t.wave from.0
passed s from t here before (inl back) =
    let few = before.0 in let top = s.config.servers_within.1 in
    let was : token_credit t.wave from.0 ≡ 8 + (15 - from.0) = rw back.wave refl in
    omega arith
passed s from t here before (inr test) =
    let few = before.0 in let top = s.config.servers_within.1 in
    let next = onward s from before test.other in
    let was : token_credit t.wave from.0 ≡ 8 + (7 - from.0) = rw test.wave refl in
    omega arith

tested_wanted : (wave : ℕ) (r : Ring) → (tested_in wave r).wanted ≡ r.wanted
tested_wanted wave r = by_test (wave == 2) refl
  where
    by_test : (t : Bool) → (wave == 2) ≡ t → (tested_in wave r).wanted ≡ r.wanted
    by_test true is = rw is refl
    by_test false is = rw is refl

-- after the whole check of a server that is alone none is wanted
found_wanted : (m : RingModel) (asked : List Asker) → (found_of m asked).ring.ring.wanted ≡ m.ring.wanted
found_wanted m [] = refl
found_wanted m (first ∷ more) = by_test m.exhausted refl
  where
    by_test : (t : Bool) → m.exhausted ≡ t → (found_of m (first ∷ more)).ring.ring.wanted ≡ m.ring.wanted
    by_test true is = rw is refl
    by_test false is = rw is refl

judged_wanted : (m : RingModel) (t : Token) (o : Option Why) → (judged_alone (judged m t o)).ring.ring.wanted ≡ m.ring.wanted
judged_wanted m t None = found_wanted (with_ring m (with_tests m.ring)) t.asked
judged_wanted m t (Some why) = by_test (m.me.0 == 0) refl
  where
    by_test : (b : Bool) → (m.me.0 == 0) ≡ b → (judged_alone (judged m t (Some why))).ring.ring.wanted ≡ m.ring.wanted
    by_test true is = rw is refl
    by_test false is = rw is refl

alone_wanted : (s : ServerModel) → s.config.servers ≡ 1 → (check_alone s).ring.ring.wanted ≡ false
alone_wanted s alone =
    let m = ring_at s in
    let asked = askers s.kept in
    let after = with_ring m (begun m.ring s.activity) in
    let all = judged_wanted after (first_token after asked) (first_failing true s.activity s.activity (fit_among s.kept asked)) in
    rw (eq-eqb s.config.servers 1 alone) all

unfound : (me : ℕ) (exhausted : Bool) → unfound_credit me true ≤ unfound_credit me exhausted
unfound me exhausted = by_test (me == 0) refl
  where
    by_test : (t : Bool) → (me == 0) ≡ t → unfound_credit me true ≤ unfound_credit me exhausted
    by_test true is = rw is (omega arith)
    by_test false is = rw is (omega arith)

-- what an act takes pays for what it says and changes
pub acts_pay : (a : Act) (s : ServerModel) → SitsIn a s → Sure a s → IsDue a s → s.me.0 < s.config.servers → ActPays a s
acts_pay (Parks wish) s sits sure due here = let w = waits waits_credit (Parks wish) s sits in let few = few_others s in omega arith
acts_pay (Is_hinted at e from) s sits sure due here =
    let w = waits waits_credit (Is_hinted at e from) s sits in let more = one_more s.config s.me e.to_ask from here in omega arith
acts_pay (Finds from t) s sits sure due here = let w = waits waits_credit (Finds from t) s sits in let all = others_told s tells.Exhaust in
    let top = s.config.servers_within.1 in let tok = some_token t.wave from.0 in
    let was : unfound_credit s.me.0 s.kept.exhausted ≡ 175 = rw (sure.0.running.zeroth, sure.2) refl in
    let now : unfound_credit s.me.0 true ≡ 0 = rw sure.0.running.zeroth refl in
    omega arith
acts_pay (Shuts from t) s sits sure due here = let w = waits waits_credit (Shuts from t) s sits in let all = others_told s tells.Shutdown in
    let top = s.config.servers_within.1 in let tok = some_token t.wave from.0 in omega arith
acts_pay Notices s sits sure due here = let same = eq-eqb s.activity s.activity refl in rw (due, same) (omega arith)
acts_pay Notes_own s sits sure due here =
    let same = eq-eqb s.activity s.activity refl in let w = if_wanted s.kept.ring.wanted in rw (due, same) (omega arith)
acts_pay (Wants from) s sits sure due here = let w = if_wanted s.kept.ring.wanted in omega arith
acts_pay Starts s sits sure due here = rw (sure.0.wanted, sure.0.zeroth) (omega arith)
acts_pay (Marks from t) s sits sure due here =
    let next = onward s from sure.0.before sure.1.other in let top = s.config.servers_within.1 in
    let was : token_credit t.wave from.0 ≡ 8 + (15 - from.0) = rw sure.1.wave refl in
    let now : token_credit t.wave s.me.0 ≡ 8 + (15 - s.me.0) = rw sure.1.wave refl in
    omega arith
acts_pay (Passes from t) s sits sure due here =
    let less = passed s from t here sure.0.before sure.1 in omega arith
acts_pay (Fails from t why) s sits sure due here = let tok = some_token t.wave from.0 in let same =
    tested_wanted t.wave s.kept.ring in rw same (omega arith)
acts_pay (Gives_up from t) s sits sure due here = let tok = some_token t.wave from.0 in omega arith
acts_pay Finds_alone s sits sure due here = let same = alone_wanted s sure.alone in let found = unfound s.me.0 s.kept.exhausted in rw same
    (omega arith)
acts_pay Shuts_alone s sits sure due here = let same = alone_wanted s sure.0 in rw same (omega arith)
acts_pay Checks_alone s sits sure due here = let same = alone_wanted s sure in rw same (omega arith)
acts_pay (Hears_exhaust from) s sits sure due here = let found = unfound s.me.0 s.kept.exhausted in omega arith
acts_pay (Acks to id) s sits sure due here = rw sure (omega arith)
acts_pay a s sits sure due here = let w = waits waits_credit a s sits in omega arith
