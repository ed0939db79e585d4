-- The rules of the letters by which servers check together, by their plans.
use Rattle.std.proofs.Common.{◌≡◌, ◌≢◌, ◌==◌, inl, inr, ℕ, Bool, true, false, cond, ◌&&◌, List, [], ◌∷◌, Option, None, Some, refl, sym, ap}
use Rattle.std.proofs.Common.{◌∙◌, subst}
use Rattle.std.specs.Prelude.{is_none}
use Rattle.std.specs.Option.{IfSome}
use Rattle.std.proofs.lemmas.Bool.{both_ways, eq-eqb, ne_eqb}
use Rattle.adlb_unit.specs.declared.actors.Actor.TheVariants as by
use Rattle.adlb_unit.specs.declared.messages.Message.TheVariants as tells
use Rattle.adlb_unit.specs.declared.messages.Why.{Why}
use Rattle.adlb_unit.specs.declared.messages.Why.TheVariants.{Busy, Changed}
use Rattle.adlb_unit.specs.declared.names.Server.{Server}
use Rattle.adlb_unit.specs.declared.names.UnitId.{UnitId}
use Rattle.adlb_unit.specs.declared.notes.End.TheVariants as ends_by
use Rattle.adlb_unit.specs.declared.tokens.Token.{Token}
use Rattle.exhaust_ring.specs.Expected.{Expects, HasComeBack, IsToJudge, IsToMark, IsToTest, expects}
use Rattle.exhaust_ring.specs.Ring.{Asker}
use Rattle.exhaust_ring.specs.Tests.{first_failing, fitting}
use Rattle.exhaust_ring.proofs.Rows.{expects_is}
use Rattle.server_law.specs.Acts.{Finds, fit_among}
use Rattle.server_law.specs.Checks.{marks, tests, tests_now, token_rule, verdict, visit, visit_other, visit_zeroth}
use Rattle.server_law.specs.Endings.{is_quiet}
use Rattle.server_law.specs.Plan.{Plan, plan}
use Rattle.server_law.specs.State.{ServerModel, ring_at}
use Rattle.server_law.specs.Sure.{IsRound}
use Rattle.server_law.proofs.Plans.{IsPlan, made, told}
use Rattle.server_law.proofs.Tests.{server_says}

-- where no test fails, all pass
none_fails : (quiet same : Bool) (was now : ℕ) (fits : Option UnitId)
    → cond quiet (cond same (fitting fits) (Some (Changed was now))) (Some Busy) ≡ None → quiet && (same && is_none fits) ≡ true
none_fails false same was now fits none = absurd (cc)
none_fails true false was now fits none = absurd (cc)
none_fails true true was now None none = refl
none_fails true true was now (Some id) none = absurd (cc)

module _ (s : ServerModel) (from : Server) (t : Token) where
  abbrev IsVisit : Option Plan → Type 0
  IsVisit o = IfSome o (IsPlan s (by.Server from) (tells.Token t))

  abbrev failing : Option Why
  failing = first_failing (is_quiet s) s.kept.ring.mark s.activity (fit_among s.kept t.asked)

  -- by server and wave
  abbrev by_me : Bool → Option Plan
  by_me zeroth = cond zeroth (visit_zeroth s from t) (visit_other s from t)

  abbrev zeroth_wave : Bool → Option Plan
  zeroth_wave first = cond first (plan (tests_now s from t) []) (verdict s.kept.exhausted t.asked from t)

  abbrev other_wave : Bool → Option Plan
  other_wave first = cond first (plan (marks (is_quiet s) from t) []) (plan (tests_now s from t) [])

  abbrev testing : Bool → Option Plan
  testing zeroth = plan (tests zeroth failing from t) []

  module _ (round : IsRound s from) where
    mark_plan : IsToMark (ring_at s) t → IsVisit (visit s from t)
    mark_plan r =
        let is : visit s from t ≡ plan (marks (is_quiet s) from t) [] =
        ap by_me (ne_eqb s.me.0 0 r.other) ∙ ap other_wave (eq-eqb t.wave 1 r.wave) in
        subst IsVisit (sym is) (by_quiet (is_quiet s) refl)
      where
        by_quiet : (quiet : Bool) → is_quiet s ≡ quiet → IsVisit (plan (marks quiet from t) [])
        by_quiet true quiet = made refl (round, r, quiet) refl tt tt
        by_quiet false quiet = made refl (round, inl (r, quiet, refl)) refl tt tt

    back_plan : HasComeBack (ring_at s) t → IsVisit (visit s from t)
    back_plan r =
        let zeroth = eq-eqb s.me.0 0 r.running.zeroth in
        let is : visit s from t ≡ testing true = ap by_me zeroth ∙ ap zeroth_wave (eq-eqb t.wave 1 r.wave) ∙ ap testing zeroth in
        subst IsVisit (sym is) (by_test failing refl)
      where
        by_test : (o : Option Why) → failing ≡ o → IsVisit (plan (tests true o from t) [])
        by_test None none = made refl (round, inl r, none_fails (is_quiet s) _ _ _ (fit_among s.kept t.asked) none) refl tt tt
        by_test (Some why) fails = made refl r.running refl tt tt

    test_plan : IsToTest (ring_at s) t → IsVisit (visit s from t)
    test_plan r =
        let other = ne_eqb s.me.0 0 r.other in
        let is : visit s from t ≡ testing false = ap by_me other ∙ ap other_wave (ap (λ n. n == 1) r.wave) ∙ ap testing other in
        subst IsVisit (sym is) (by_test failing refl)
      where
        by_test : (o : Option Why) → failing ≡ o → IsVisit (plan (tests false o from t) [])
        by_test None none = made refl (round, inr r, none_fails (is_quiet s) _ _ _ (fit_among s.kept t.asked) none) refl tt tt
        by_test (Some why) fails = made refl (round, inr (r, fails)) refl tt tt

    judge_plan : IsToJudge (ring_at s) t → IsVisit (visit s from t)
    judge_plan r =
        let is : visit s from t ≡ verdict s.kept.exhausted t.asked from t =
        ap by_me (eq-eqb s.me.0 0 r.running.zeroth) ∙ ap zeroth_wave (ap (λ n. n == 1) r.wave) in
        subst IsVisit (sym is) (by_list s.kept.exhausted refl t.asked refl)
      where
        by_list : (before : Bool) → s.kept.exhausted ≡ before → (asked : List Asker) → t.asked ≡ asked
            → IsVisit (verdict before asked from t)
        by_list before was [] are = made refl (r, are) refl tt tt
        by_list true was (first ∷ more) are = made refl r.running refl tt tt
        by_list false was (first ∷ more) are =
            let some : t.asked ≢ [] = λ none. let no : first ∷ more ≡ [] = sym are ∙ none in absurd (cc) in
            told s ends_by.Exhausted (Finds from t) refl (r, some, was) refl refl

-- the rule of a token is a plan
pub token_plan : (s : ServerModel) (from : Server) (t : Token) → (from.0 == s.me.0) ≡ false
    → IfSome (token_rule s from t) (IsPlan s (by.Server from) (tells.Token t))
token_plan s from t apart = by_test (expects (ring_at s) from t) refl
  where
    by_row : Expects (ring_at s) from t → IsVisit s from t (visit s from t)
    by_row row =
        let other : from ≢ s.me = λ same. both_ways (from.0 == s.me.0) apart ((server_says from s.me).1 same) in
        let round : IsRound s from = record { before = row.0; other = other } in
        elim row.1 [
          | inl mark ↦ mark_plan s from t round mark
          | inr (inl back) ↦ back_plan s from t round back
          | inr (inr (inl test)) ↦ test_plan s from t round test
          | inr (inr (inr judge)) ↦ judge_plan s from t round judge
        ]

    by_test : (b : Bool) → expects (ring_at s) from t ≡ b → IsVisit s from t (cond b (visit s from t) None)
    by_test true is = by_row (expects_is (ring_at s) from t is)
    by_test false is = tt
