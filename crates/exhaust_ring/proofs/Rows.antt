-- The tests of the tokens that are expected, and what they say.
use Rattle.std.proofs.Common.{◌≡◌, ◌≢◌, ◌<◌, ◌+◌, ◌==◌, ◌&&◌, ◌||◌, ◌⊎◌, ◌↔◌, inl, inr, ℕ, zero, suc, Bool, true, false, not, ltb, List, []}
use Rattle.std.proofs.Common.{◌∷◌, length, get_or, None, All, refl, sym, ap, ◌∙◌, arith}
use Rattle.std.specs.Prelude.{IsTrue}
use Rattle.std.specs.List.{AllPairs, list_all, list_any}
use Rattle.std.proofs.lemmas.Bool.{and_parts, eq-eqb, eqb-false, eqb-true, lt-ltb, ltb-true, ne_eqb}
use Rattle.std.proofs.lemmas.List.Elements.{All-from_get_or, All-get_or}
use Rattle.std.proofs.lemmas.List.Folds.{Any-from_list_any, list_any_at}
use Rattle.std.proofs.lemmas.List.Kept.{AllPairs-cons}
use Rattle.adlb_unit.specs.Ring.{behind}
use Rattle.adlb_unit.specs.Targets.{home_of}
use Rattle.adlb_unit.specs.declared.configs.Config.{Config}
use Rattle.adlb_unit.specs.declared.names.Rank.{Rank}
use Rattle.adlb_unit.specs.declared.names.Server.{Server}
use Rattle.adlb_unit.specs.declared.tokens.Token.{Token}
use Rattle.exhaust_ring.specs.Expected.{AreAway, AreNamed, Expects, HasComeBack, IsBefore, IsRunning, IsToJudge, IsToMark, IsToTest}
use Rattle.exhaust_ring.specs.Expected.{are_away, are_inside, are_named, expects, has_come_back, is_before, is_each_once, is_named}
use Rattle.exhaust_ring.specs.Expected.{is_running, is_to_judge, is_to_mark, is_to_test}
use Rattle.exhaust_ring.specs.Ring.{Asker, RingModel}

abbrev IsApart : Asker → Asker → Type 0
IsApart a b = a.0.0 ≢ b.0.0

some : Asker
some = (record { 0 = 0 }, None)

not_true : (t : Bool) → not t ≡ true → t ≡ false
not_true true e = absurd (cc)
not_true false e = refl

-- A test that all pass, and that all are so.

module _ (test : Asker → Bool) (P : Asker → Type 0) where
  all_are : ((a : Asker) → test a ≡ true → P a) → (asked : List Asker) → list_all test asked ≡ true → All P asked
  all_are is [] e i d within = absurd (omega arith)
  all_are is (a ∷ asked) e zero d within = is a (and_parts (test a) (list_all test asked) e).0
  all_are is (a ∷ asked) e (suc i) d within = all_are is asked (and_parts (test a) (list_all test asked) e).1 i d (omega arith)

  all_pass : ((a : Asker) → P a → test a ≡ true) → (asked : List Asker) → All P asked → list_all test asked ≡ true
  all_pass is [] all = refl
  all_pass is (a ∷ asked) all = rw (is a (all 0 a (omega arith)), all_pass is asked (λ i d within. all (suc i) d (omega arith))) refl

-- No rank is named again.

apart_from : (rank : Rank) (asked : List Asker) → is_named rank asked ≡ false → All (λ (b : Asker). rank.0 ≢ b.0.0) asked
apart_from rank asked e = All-from_get_or (λ (b : Asker). rank.0 ≢ b.0.0) asked some differs
  where
    differs : (i : ℕ) → i < length asked → rank.0 ≢ (get_or asked i some).0.0
    differs i within same =
        let found = list_any_at (λ (b : Asker). b.0.0 == rank.0) asked i some within (eq-eqb (get_or asked i some).0.0 rank.0 (sym same)) in
        let no : true ≡ false = sym found ∙ e in
        absurd (cc)

once_is : (asked : List Asker) → is_each_once asked ≡ true → AllPairs IsApart asked
once_is [] e = λ i j d before within. absurd (omega arith)
once_is (a ∷ asked) e =
    let parts = and_parts (not (is_named a.0 asked)) (is_each_once asked) e in
    AllPairs-cons IsApart a asked (apart_from a.0 asked (not_true (is_named a.0 asked) parts.0)) (once_is asked parts.1)

once_tested : (asked : List Asker) → AllPairs IsApart asked → is_each_once asked ≡ true
once_tested [] once = refl
once_tested (a ∷ asked) once =
    rw (
      unnamed (is_named a.0 asked) refl,
      once_tested asked (λ i j d before within. once (suc i) (suc j) d (omega arith) (omega arith)),
    ) refl
  where
    unnamed : (t : Bool) → is_named a.0 asked ≡ t → is_named a.0 asked ≡ false
    unnamed false e = e
    unnamed true e =
        let at = Any-from_list_any (λ (b : Asker). b.0.0 == a.0.0) asked e in
        let same = eqb-true at.1.0.0 a.0.0 at.4 in
        absurd (once 0 (suc at.0) at.1 (omega arith) (omega (arith, at.2)) (sym same ∙ sym (ap (λ (b : Asker). b.0.0) at.3)))

named_is : (config : Config) (asked : List Asker) → are_named config asked ≡ true → AreNamed config asked
named_is config asked e =
    let parts = and_parts (are_inside config asked) (is_each_once asked) e in
    record {
      inside = all_are (λ a. ltb a.0.0 config.ranks) (λ (a : Asker). a.0.0 < config.ranks) (λ a. ltb-true a.0.0 config.ranks) asked parts.0;
      once = once_is asked parts.1;
    }

named_tested : (config : Config) (asked : List Asker) → AreNamed config asked → are_named config asked ≡ true
named_tested config asked named =
    let inside =
    all_pass (λ a. ltb a.0.0 config.ranks) (λ (a : Asker). a.0.0 < config.ranks) (λ a. lt-ltb a.0.0 config.ranks) asked named.inside in
    rw (inside, once_tested asked named.once) refl

module _ (config : Config) (me : Server) where
  abbrev test : Asker → Bool
  test a = not (home_of config.servers a.0 == me.0)

  abbrev Away : Asker → Type 0
  Away a = home_of config.servers a.0 ≢ me.0

  away_is : (asked : List Asker) → are_away config me asked ≡ true → AreAway config me asked
  away_is = all_are test Away (λ a e. eqb-false (home_of config.servers a.0) me.0 (not_true (home_of config.servers a.0 == me.0) e))

  away_tested : (asked : List Asker) → AreAway config me asked → are_away config me asked ≡ true
  away_tested = all_pass test Away (λ a far. ap (λ t. not t) (ne_eqb (home_of config.servers a.0) me.0 far))

-- The rows.

module _ (m : RingModel) (t : Token) where
  running_is : is_running m t ≡ true → IsRunning m t
  running_is e =
      let parts = and_parts (m.me.0 == 0) (m.ring.runs && (t.check == m.ring.check)) e in
      let more = and_parts m.ring.runs (t.check == m.ring.check) parts.1 in
      record { zeroth = eqb-true m.me.0 0 parts.0; runs = more.0; check = eqb-true t.check m.ring.check more.1 }

  running_tested : IsRunning m t → is_running m t ≡ true
  running_tested r = rw (eq-eqb m.me.0 0 r.zeroth, r.runs, eq-eqb t.check m.ring.check r.check) refl

  other_is : not (m.me.0 == 0) ≡ true → m.me.0 ≢ 0
  other_is e = eqb-false m.me.0 0 (not_true (m.me.0 == 0) e)

  -- where the test passes, the token is to be marked
  pub mark_is : is_to_mark m t ≡ true → IsToMark m t
  mark_is e =
      let a = and_parts (not (m.me.0 == 0))
      ((t.wave == 1) && (are_named m.config t.asked && (not (m.ring.number == t.check) && are_away m.config m.me t.asked))) e in
      let b = and_parts (t.wave == 1)
      (are_named m.config t.asked && (not (m.ring.number == t.check) && are_away m.config m.me t.asked)) a.1 in
      let c = and_parts (are_named m.config t.asked) (not (m.ring.number == t.check) && are_away m.config m.me t.asked) b.1 in
      let d = and_parts (not (m.ring.number == t.check)) (are_away m.config m.me t.asked) c.1 in
      record {
        other = other_is a.0;
        wave = eqb-true t.wave 1 b.0;
        named = named_is m.config t.asked c.0;
        fresh = eqb-false m.ring.number t.check (not_true (m.ring.number == t.check) d.0);
        away = away_is m.config m.me t.asked d.1;
      }

  mark_tested : IsToMark m t → is_to_mark m t ≡ true
  mark_tested r =
      rw (
        ne_eqb m.me.0 0 r.other,
        eq-eqb t.wave 1 r.wave,
        named_tested m.config t.asked r.named,
        ne_eqb m.ring.number t.check r.fresh,
        away_tested m.config m.me t.asked r.away,
      ) refl

  back_is : has_come_back m t ≡ true → HasComeBack m t
  back_is e =
      let a = and_parts (is_running m t) ((t.wave == 1) && are_named m.config t.asked) e in
      let b = and_parts (t.wave == 1) (are_named m.config t.asked) a.1 in
      record { running = running_is a.0; wave = eqb-true t.wave 1 b.0; named = named_is m.config t.asked b.1 }

  back_tested : HasComeBack m t → has_come_back m t ≡ true
  back_tested r = rw (running_tested r.running, eq-eqb t.wave 1 r.wave, named_tested m.config t.asked r.named) refl

  test_is : is_to_test m t ≡ true → IsToTest m t
  test_is e =
      let a = and_parts (not (m.me.0 == 0)) ((t.wave == 2) && ((m.ring.number == t.check) && not m.ring.tested)) e in
      let b = and_parts (t.wave == 2) ((m.ring.number == t.check) && not m.ring.tested) a.1 in
      let c = and_parts (m.ring.number == t.check) (not m.ring.tested) b.1 in
      record {
        other = other_is a.0;
        wave = eqb-true t.wave 2 b.0;
        marked = eqb-true m.ring.number t.check c.0;
        untested = not_true m.ring.tested c.1;
      }

  test_tested : IsToTest m t → is_to_test m t ≡ true
  test_tested r = rw (ne_eqb m.me.0 0 r.other, eq-eqb t.wave 2 r.wave, eq-eqb m.ring.number t.check r.marked, r.untested) refl

  -- where the test passes, the token is to be judged
  pub judge_is : is_to_judge m t ≡ true → IsToJudge m t
  judge_is e =
      let a = and_parts (is_running m t) ((t.wave == 2) && m.ring.tested) e in
      let b = and_parts (t.wave == 2) m.ring.tested a.1 in
      record { running = running_is a.0; wave = eqb-true t.wave 2 b.0; tested = b.1 }

  -- where the test passes, the token has come back or is to be tested
  pub comes_back : has_come_back m t ≡ true → HasComeBack m t ⊎ IsToTest m t
  comes_back e = inl (back_is e)

  -- a token that is to be tested is one that comes back
  pub comes_again : is_to_test m t ≡ true → HasComeBack m t ⊎ IsToTest m t
  comes_again e = inr (test_is e)

  judge_tested : IsToJudge m t → is_to_judge m t ≡ true
  judge_tested r = rw (running_tested r.running, eq-eqb t.wave 2 r.wave, r.tested) refl

either : (x y : Bool) → x || y ≡ true → (x ≡ true) ⊎ (y ≡ true)
either true y e = inl refl
either false y e = inr e

right : (x y : Bool) → y ≡ true → x || y ≡ true
right true y e = refl
right false y e = e

module _ (m : RingModel) (from : Server) (t : Token) where
  before_is : is_before m from ≡ true → IsBefore m from
  before_is e =
      let a = and_parts (ltb from.0 m.config.servers) ((behind m.config from 1).0 == m.me.0) e in
      (ltb-true from.0 m.config.servers a.0, ap (λ (n : ℕ). record { 0 = n }) (eqb-true (behind m.config from 1).0 m.me.0 a.1))

  before_tested : IsBefore m from → is_before m from ≡ true
  before_tested r = rw (lt-ltb from.0 m.config.servers r.0, eq-eqb (behind m.config from 1).0 m.me.0 (ap (λ (s : Server). s.0) r.1)) refl

  -- a token that passes the test is expected
  pub expects_is : expects m from t ≡ true → Expects m from t
  expects_is e =
      let a = and_parts (is_before m from) (is_to_mark m t || (has_come_back m t || (is_to_test m t || is_to_judge m t))) e in
      (before_is a.0, by_row (either (is_to_mark m t) (has_come_back m t || (is_to_test m t || is_to_judge m t)) a.1))
    where
      by_last : (is_to_test m t ≡ true) ⊎ (is_to_judge m t ≡ true) → IsToTest m t ⊎ IsToJudge m t
      by_last (inl e) = inl (test_is m t e)
      by_last (inr e) = inr (judge_is m t e)

      by_next : (has_come_back m t ≡ true) ⊎ (is_to_test m t || is_to_judge m t ≡ true) → HasComeBack m t ⊎ IsToTest m t ⊎ IsToJudge m t
      by_next (inl e) = inl (back_is m t e)
      by_next (inr e) = inr (by_last (either (is_to_test m t) (is_to_judge m t) e))

      by_row : (is_to_mark m t ≡ true) ⊎ (has_come_back m t || (is_to_test m t || is_to_judge m t) ≡ true)
          → IsToMark m t ⊎ HasComeBack m t ⊎ IsToTest m t ⊎ IsToJudge m t
      by_row (inl e) = inl (mark_is m t e)
      by_row (inr e) = inr (by_next (either (has_come_back m t) (is_to_test m t || is_to_judge m t) e))

  -- a token that is expected passes the test
  pub expects_tested : Expects m from t → expects m from t ≡ true
  expects_tested r = rw (before_tested r.0, by_row r.1) refl
    where
      by_row : IsToMark m t ⊎ HasComeBack m t ⊎ IsToTest m t ⊎ IsToJudge m t
          → is_to_mark m t || (has_come_back m t || (is_to_test m t || is_to_judge m t)) ≡ true
      by_row (inl r) = rw (mark_tested m t r) refl
      by_row (inr (inl r)) = right (is_to_mark m t) (has_come_back m t || (is_to_test m t || is_to_judge m t)) (rw (back_tested m t r) refl)
      by_row (inr (inr (inl r))) =
          right (is_to_mark m t) (has_come_back m t || (is_to_test m t || is_to_judge m t))
          (right (has_come_back m t) (is_to_test m t || is_to_judge m t) (rw (test_tested m t r) refl))
      by_row (inr (inr (inr r))) =
          right (is_to_mark m t) (has_come_back m t || (is_to_test m t || is_to_judge m t))
          (right (has_come_back m t) (is_to_test m t || is_to_judge m t) (right (is_to_test m t) (is_to_judge m t) (judge_tested m t r)))
