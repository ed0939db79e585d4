-- A search that goes over the units and keeps the one that comes first so far.
use Rattle.std.proofs.Common.{◌≡◌, ◌≢◌, ◌<◌, ℕ, zero, suc, ◌⊎◌, Bool, true, false, cond, List, [], ◌∷◌, ◌++◌, length, Option, Some, None}
use Rattle.std.proofs.Common.{Any, fold, refl, sym, ap, ◌∙◌, subst, arith, inl, inr, append_assoc, append-nil}
use Rattle.std.specs.List.{slice_get}
use Rattle.std.proofs.lemmas.Bool.{both_ways, cases_eq}
use Rattle.std.proofs.lemmas.Option.{none-some, same_Some, slice_get_within, slice_get-get_or, get_or_from_slice_get}
use Rattle.work_queue.specs.declared.placing.Placed.{Placed}

pushed_cases : (xs : List Placed) (y : Placed) (k : ℕ) (q : Placed) → slice_get (xs ++ y ∷ []) k ≡ Some q
    → (slice_get xs k ≡ Some q) ⊎ ((k ≡ length xs) × (y ≡ q))
pushed_cases [] y zero q at = inr (refl, same_Some y q at)
pushed_cases [] y (suc k) q at = absurd (none-some q at)
pushed_cases (x ∷ xs) y zero q at = inl at
pushed_cases (x ∷ xs) y (suc k) q at = elim (pushed_cases xs y k q at) [ inl there ↦ inl there | inr last ↦ inr (ap suc last.0, last.1) ]

kept_place : (xs : List Placed) (y : Placed) (k : ℕ) (q : Placed) → slice_get xs k ≡ Some q → slice_get (xs ++ y ∷ []) k ≡ Some q
kept_place [] y k q at = absurd (none-some q at)
kept_place (x ∷ xs) y zero q at = at
kept_place (x ∷ xs) y (suc k) q at = kept_place xs y k q at

last_place : (xs : List Placed) (y : Placed) → slice_get (xs ++ y ∷ []) (length xs) ≡ Some y
last_place [] y = refl
last_place (x ∷ xs) y = last_place xs y

-- The order. A later unit that does not beat an earlier one comes after it. One that does comes before it and before all that the earlier
-- one came before.
pub record IsOrder {R : Type 0} (rate : Placed → R) (beats : R → R → Bool) (Before : ℕ → Placed → ℕ → Placed → Type 0) : Type 0 where
  pub stays : (i j : ℕ) (u y : Placed) → i < j → beats (rate y) (rate u) ≡ false → Before i u j y
  pub passes : (i j : ℕ) (u y : Placed) → i < j → beats (rate y) (rate u) ≡ true → Before j y i u
  pub passes_all : (i j k : ℕ) (u y q : Placed) → k < j → beats (rate y) (rate u) ≡ true → Before i u k q → Before j y k q

-- one more unit is looked at
pub record IsPick {R : Type 0} (may : Placed → Bool) (rate : Placed → R) (beats : R → R → Bool)
    (pick : Option R → Placed → Option R) : Type 0 where
  pub at_none : (p : Placed) → pick None p ≡ cond (may p) (Some (rate p)) None
  pub at_some : (r : R) (p : Placed) → pick (Some r) p ≡ cond (may p) (Some (cond (beats (rate p) r) (rate p) r)) (Some r)

module _ {R : Type 0} (may : Placed → Bool) (rate : Placed → R) (beats : R → R → Bool) (Before : ℕ → Placed → ℕ → Placed → Type 0)
    (pick : Option R → Placed → Option R) (order : IsOrder rate beats Before) (picks : IsPick may rate beats pick) where
  -- a unit that is rated so comes before each other unit that may be taken
  pub record Leads (units : List Placed) (r : R) : Type 0 where
    pub place : ℕ
    pub unit : Placed
    pub here : slice_get units place ≡ Some unit
    pub rated : rate unit ≡ r
    pub is : may unit ≡ true
    pub is_first : (other : ℕ) (q : Placed) → slice_get units other ≡ Some q → other ≢ place → may q ≡ true → Before place unit other q

  -- nothing is found where no unit may be taken, and else one that leads
  abbrev pub Found : List Placed → Option R → Type 0
  Found units None = (k : ℕ) (q : Placed) → slice_get units k ≡ Some q → may q ≡ false
  Found units (Some r) = Leads units r

  none_more : (units : List Placed) (y : Placed) → Found units None → may y ≡ false → Found (units ++ y ∷ []) None
  none_more units y none fails k q at = elim (pushed_cases units y k q at) [
    | inl there ↦ none k q there
    | inr last ↦ rw (sym last.1) fails
  ]

  first_found : (units : List Placed) (y : Placed) → Found units None → may y ≡ true → Leads (units ++ y ∷ []) (rate y)
  first_found units y none may_be = record {
    place = length units;
    unit = y;
    here = last_place units y;
    rated = refl;
    is = may_be;
    is_first = λ other q at differs allowed. elim (pushed_cases units y other q at) [
      | inl there ↦ absurd (both_ways (may q) (none other q there) allowed)
      | inr last ↦ absurd (differs last.0)
    ];
  }

  passed_over : (units : List Placed) (y : Placed) (r : R) → Leads units r → may y ≡ false → Leads (units ++ y ∷ []) r
  passed_over units y r leads fails = record {
    place = leads.place;
    unit = leads.unit;
    here = kept_place units y leads.place leads.unit leads.here;
    rated = leads.rated;
    is = leads.is;
    is_first = λ other q at differs allowed. elim (pushed_cases units y other q at) [
      | inl there ↦ leads.is_first other q there differs allowed
      | inr last ↦ absurd (both_ways (may y) fails (rw (sym last.1) at allowed))
    ];
  }

  stays_so : (units : List Placed) (y : Placed) (r : R) → Leads units r → beats (rate y) r ≡ false → Leads (units ++ y ∷ []) r
  stays_so units y r leads fails =
      let u = leads.unit in
      let test : beats (rate y) (rate u) ≡ false = ap (λ x. beats (rate y) x) leads.rated ∙ fails in
      let before : leads.place < length units = slice_get_within units leads.place u leads.here in
      record {
        place = leads.place;
        unit = u;
        here = kept_place units y leads.place u leads.here;
        rated = leads.rated;
        is = leads.is;
        is_first = λ other q at differs allowed. elim (pushed_cases units y other q at) [
          | inl there ↦ leads.is_first other q there differs allowed
          | inr last ↦
              let P : Placed → Type 0 = λ x. Before leads.place u other x in
              subst P last.1 (order.stays leads.place other u y (omega arith) test)
        ];
      }

  takes : (units : List Placed) (y : Placed) (r : R) → Leads units r → may y ≡ true → beats (rate y) r ≡ true
      → Leads (units ++ y ∷ []) (rate y)
  takes units y r leads may_be wins =
      let u = leads.unit in
      let test : beats (rate y) (rate u) ≡ true = ap (λ x. beats (rate y) x) leads.rated ∙ wins in
      let before : leads.place < length units = slice_get_within units leads.place u leads.here in
      record {
        place = length units;
        unit = y;
        here = last_place units y;
        rated = refl;
        is = may_be;
        is_first = λ other q at differs allowed. elim (pushed_cases units y other q at) [
          | inl there ↦ elim (cases_eq other leads.place) [
            | inl here ↦
                let is : u ≡ q = same_Some u q (sym leads.here ∙ ap (λ k. slice_get units k) (sym here) ∙ there) in
                let P : Placed → Type 0 = λ x. Before (length units) y other x in
                subst P is (order.passes other (length units) u y (omega arith) test)
            | inr apart ↦
                let within : other < length units = slice_get_within units other q there in
                order.passes_all leads.place (length units) other u y q within test (leads.is_first other q there apart allowed)
          ]
          | inr last ↦ absurd (differs last.0)
        ];
      }

  found_one : (units : List Placed) (y : Placed) (found : Option R) → Found units found → (t : Bool) → may y ≡ t
      → Found (units ++ y ∷ []) (pick found y)
  found_one units y None so true test = rw (picks.at_none y, test) (first_found units y so test)
  found_one units y None so false test = rw (picks.at_none y, test) (none_more units y so test)
  found_one units y (Some r) so false test = rw (picks.at_some r y, test) (passed_over units y r so test)
  found_one units y (Some r) so true test = rw (picks.at_some r y, test) (by_match (beats (rate y) r) refl)
    where
      by_match : (b : Bool) → beats (rate y) r ≡ b → Found (units ++ y ∷ []) (Some (cond b (rate y) r))
      by_match true wins = takes units y r so test wins
      by_match false fails = stays_so units y r so fails

  found_more : (units more : List Placed) (found : Option R) → Found units found → Found (units ++ more) (fold pick found more)
  found_more units [] found so = rw append-nil so
  found_more units (y ∷ more) found so =
      let F : List Placed → Type 0 = λ l. Found l (fold pick (pick found y) more) in
      subst F (append_assoc units (y ∷ []) more)
      (found_more (units ++ y ∷ []) more (pick found y) (found_one units y found so (may y) refl))

  -- what the fold finds leads
  pub found_all : (units : List Placed) → Found units (fold pick None units)
  found_all units = found_more [] units None (λ k q at. absurd (none-some q at))

  -- if some rating leads, some unit may be taken
  pub some_may : (units : List Placed) (r : R) → Leads units r → Any (λ p. may p ≡ true) units
  some_may units r leads = (
    leads.place,
    leads.unit,
    slice_get_within units leads.place leads.unit leads.here,
    get_or_from_slice_get units leads.place leads.unit leads.unit leads.here,
    leads.is,
  )

  -- if no rating is found, no unit may be taken
  pub none_may : (units : List Placed) → Found units None → Any (λ p. may p ≡ true) units → ⊥
  none_may units none some =
      both_ways (may some.1) (none some.0 some.1 (slice_get-get_or units some.0 some.1 some.2 ∙ ap (λ p. Some p) some.3)) some.4
