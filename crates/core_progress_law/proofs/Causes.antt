-- Why a check ends: a test that fails, or a verdict that was given before.
use Rattle.adlb_unit.specs.declared.messages.Why.{Why}
use Rattle.adlb_unit.specs.declared.names.Server.{Server}
use Rattle.adlb_unit.specs.declared.tokens.Token.{Token}
use Rattle.bag_ledger.proofs.Tests.{some_is}
use Rattle.core_progress_law.proofs.First.{may_fail}
use Rattle.exhaust_ring.specs.Expected.{expects}
use Rattle.exhaust_ring.specs.Ring.{Asker}
use Rattle.exhaust_ring.specs.Tests.{first_failing}
use Rattle.server_law.specs.Acts.{Act, fit_among}
use Rattle.server_law.specs.Carried.{done}
use Rattle.server_law.specs.Checks.{marks, tests, tests_now, token_rule, verdict, visit, visit_other, visit_zeroth}
use Rattle.server_law.specs.Endings.{ends_event, is_quiet}
use Rattle.server_law.specs.Plan.{Plan, decided, in_order, plan}
use Rattle.server_law.specs.State.{ServerModel, ring_at}
use Rattle.server_law.specs.Step.{acts, rule}
use Rattle.std.proofs.Common.{Bool, List, None, Option, Some, [], ap, cond, false, inl, inr, refl, sym, true, ◌++◌, ◌==◌, ◌∙◌, ◌∷◌, ◌≡◌}
use Rattle.std.proofs.Common.{◌⊎◌}
use Rattle.std.proofs.lemmas.Bool.{eq-eqb, eqb-true}
use Rattle.std.specs.Option.{IfSome, option_map}
use Rattle.adlb_unit.specs.declared.actors.Actor.TheVariants as by
use Rattle.adlb_unit.specs.declared.messages.Message.TheVariants as tells

-- a rank is named though all work was found used up before; or a test fails; or the server is not quiet
pub record IsLate (s : ServerModel) (t : Token) : Type 0 where
  pub zero_here : s.me.0 ≡ 0
  pub wave : t.wave ≡ 2
  pub exhausted : s.kept.exhausted ≡ true
  pub first : Asker
  pub others : List Asker
  pub asked : t.asked ≡ first ∷ others

-- a test fails
pub record IsFailed (s : ServerModel) (t : Token) : Type 0 where
  pub why : Why
  pub fails : first_failing (is_quiet s) s.kept.ring.mark s.activity (fit_among s.kept t.asked) ≡ Some why
  pub at : (t.wave ≡ 2) ⊎ (s.me.0 ≡ 0)

-- the server is not quiet, or a test fails, or the verdict is late
abbrev pub Cause : ServerModel → Token → Type 0
Cause s t = (is_quiet s ≡ false) ⊎ IsFailed s t ⊎ IsLate s t

module _ (s : ServerModel) (from : Server) (t : Token) (waves : (t.wave ≡ 1) ⊎ (t.wave ≡ 2)) where
  abbrev HasCause : Option Plan → Type 0
  HasCause o = IfSome o (λ (p : Plan). may_fail p.first ≡ true → Cause s t)

  second : (t.wave == 1) ≡ false → t.wave ≡ 2
  second differs = by_wave waves
    where
      by_wave : (t.wave ≡ 1) ⊎ (t.wave ≡ 2) → t.wave ≡ 2
      by_wave (inl one_is) = let yes : (t.wave == 1) ≡ true = eq-eqb t.wave 1 one_is in let bad : false ≡ true = sym differs
          ∙ yes in absurd (cc)
      by_wave (inr two) = two

  tested : (t.wave ≡ 2) ⊎ (s.me.0 ≡ 0) → (zero_test : Bool) → (o : Option Why)
      → first_failing (is_quiet s) s.kept.ring.mark s.activity (fit_among s.kept t.asked) ≡ o
      → HasCause (plan (tests zero_test o from t) [])
  tested at zero_test None is = λ no. absurd (cc)
  tested at true (Some why) is = λ no. inr (inl (record { why = why; fails = is; at = at }))
  tested at false (Some why) is = λ no. inr (inl (record { why = why; fails = is; at = at }))

  judged : s.me.0 ≡ 0 → t.wave ≡ 2 → (before : Bool) → s.kept.exhausted ≡ before → (asked : List Asker) → t.asked ≡ asked
      → HasCause (verdict before asked from t)
  judged z two before was [] are = λ no. absurd (cc)
  judged z two true was (first ∷ more) are =
      λ no. inr (inr (record { zero_here = z; wave = two; exhausted = was; first = first; others = more; asked = are }))
  judged z two false was (first ∷ more) are = λ no. absurd (cc)

  at_zeroth : s.me.0 ≡ 0 → (first : Bool) → (t.wave == 1) ≡ first
      → HasCause (cond first (plan (tests_now s from t) []) (verdict s.kept.exhausted t.asked from t))
  at_zeroth z true is =
      tested (inr z) (s.me.0 == 0) (first_failing (is_quiet s) s.kept.ring.mark s.activity (fit_among s.kept t.asked)) refl
  at_zeroth z false is = judged z (second is) s.kept.exhausted refl t.asked refl

  marked : (quiet : Bool) → is_quiet s ≡ quiet → HasCause (plan (marks quiet from t) [])
  marked true is = λ no. absurd (cc)
  marked false is = λ no. inl is

  at_other : (first : Bool) → (t.wave == 1) ≡ first
      → HasCause (cond first (plan (marks (is_quiet s) from t) []) (plan (tests_now s from t) []))
  at_other true is = marked (is_quiet s) refl
  at_other false is =
      tested (inl (second is)) (s.me.0 == 0) (first_failing (is_quiet s) s.kept.ring.mark s.activity (fit_among s.kept t.asked)) refl

  visited : (zero_here : Bool) → (s.me.0 == 0) ≡ zero_here → HasCause (cond zero_here (visit_zeroth s from t) (visit_other s from t))
  visited true is = at_zeroth (eqb-true s.me.0 0 is) (t.wave == 1) refl
  visited false is = at_other (t.wave == 1) refl

  expected_cause : (b : Bool) → HasCause (cond b (visit s from t) None)
  expected_cause true = visited (s.me.0 == 0) refl
  expected_cause false = tt

  other_cause : (b : Bool) → HasCause (cond b None (token_rule s from t))
  other_cause true = tt
  other_cause false = expected_cause (expects (ring_at s) from t)

  -- the first act of the rule
  pub cause : (a : Act) (more : List Act) → acts s (by.Server from) (tells.Token t) ≡ Some (a ∷ more) → may_fail a ≡ true → Cause s t
  cause a more is fails = by_plan (rule s (by.Server from) (tells.Token t)) (other_cause (from.0 == s.me.0)) is
    where
      first_of : List Act → Act
      first_of [] = a
      first_of (b ∷ bs) = b

      by_plan : (o : Option Plan) → HasCause o → option_map (in_order ends_event s) o ≡ Some (a ∷ more) → Cause s t
      by_plan None has e = absurd (cc)
      by_plan (Some p) has e =
          let same : p.first ∷ decided (p.follow ++ ends_event) (done p.first s) ≡ a ∷ more = some_is e in
          has (ap may_fail (ap first_of same) ∙ fails)
