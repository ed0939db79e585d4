-- What is in a body, if this is its body: one set of laws for the four units.
use Rattle.std.proofs.Common.{◌≡◌, ◌↔◌, ◌&&◌, ℕ, Bool, true, false, cond, List, Option, Some, None, refl, ap, sym, ◌∙◌, subst}
use Rattle.std.specs.Str.{bytes_eq}
use Rattle.std.proofs.lemmas.Slice.Eq.{bytes_eq-Decides}
use Rattle.job_units.specs.Reading.{if_its_body}

-- a test of two parts that gives a value
if_some : {X : Type 0} (a b : Bool) (x y : X) → cond (a && b) (Some x) None ≡ Some y → (a ≡ true) × (b ≡ true) × (x ≡ y)
if_some true true x y e = (refl, refl, cc)
if_some true false x y e = absurd (cc)
if_some false b x y e = absurd (cc)

if_both : {X : Type 0} (a b : Bool) (x : X) → a ≡ true → b ≡ true → cond (a && b) (Some x) None ≡ Some x
if_both true true x ea eb = refl
if_both true false x ea eb = absurd (cc)
if_both false b x ea eb = absurd (cc)

only_none : {X : Type 0} (o : Option X) → ((x : X) → o ≡ Some x → ⊥) → None ≡ o
only_none None never = refl
only_none (Some x) never = absurd (never x refl)

-- of units that are tested by `fits` and written by `write`
module _ (X : Type 0) (fits : X → Bool) (write : X → List ℕ) where
  -- what is found fits, this is its body, and it is there
  pub whose_body : (body : List ℕ) (there x : X) → if_its_body X fits write body there ≡ Some x
      → (fits x ≡ true) × (body ≡ write x) × (there ≡ x)
  whose_body body there x e =
      let parts = if_some (fits there) (bytes_eq body (write there)) there x e in (
        subst (λ (y : X). fits y ≡ true) parts.2 parts.0,
        (bytes_eq-Decides body (write there)).0 parts.1 ∙ ap write parts.2,
        parts.2,
      )

  own_body : (body : List ℕ) (x : X) → fits x ≡ true → body ≡ write x → if_its_body X fits write body x ≡ Some x
  own_body body x fine same = if_both (fits x) (bytes_eq body (write x)) x fine ((bytes_eq-Decides body (write x)).1 same)

  -- what is there, fits and has this body is found
  pub body_found : (body : List ℕ) (there x : X) → x ≡ there → fits x ≡ true → body ≡ write x → Some x ≡ if_its_body X fits write body there
  body_found body there x is fine same =
      let found : X → Option X = λ y. if_its_body X fits write body y in
      sym (own_body body x fine same) ∙ ap found is

  -- if this is the body of none that fits, none is found
  pub no_body : (body : List ℕ) (there : X) → ((x : X) → fits x ≡ true → body ≡ write x → ⊥) → None ≡ if_its_body X fits write body there
  no_body body there never =
      only_none (if_its_body X fits write body there) (λ x e. let is = whose_body body there x e in never x is.0 is.1)

  -- what is in its own body is found of this body alone
  pub body_law : (into : List ℕ → X) (body : List ℕ) (x : X) → fits x ≡ true → into (write x) ≡ x
      → (if_its_body X fits write body (into body) ≡ Some x) ↔ (body ≡ write x)
  body_law into body x fine back = (
    λ e. (whose_body body (into body) x e).1,
    λ e. sym (body_found body (into body) x (sym (ap into e ∙ back)) fine e),
  )

-- as it is read by code
pub exactly : {X : Type 0} (write : X → List ℕ) (body : List ℕ) (x : X) (found read : Option X) → read ≡ found
    → ((found ≡ Some x) ↔ (body ≡ write x)) → (read ≡ Some x) ↔ (body ≡ write x)
exactly write body x found read is law = (λ e. law.0 (sym is ∙ e), λ e. is ∙ law.1 e)
