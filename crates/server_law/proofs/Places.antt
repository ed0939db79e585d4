-- Where a rank that waits is found.
use Rattle.std.proofs.Common.{◌≡◌, Bool, true, false, ◌||◌, cond, List, [], ◌∷◌, ◌++◌, Option, None, Some, refl, ap, ◌∙◌, All}
use Rattle.std.specs.Prelude.{is_none, is_some}
use Rattle.std.specs.List.{list_any}
use Rattle.std.specs.Option.{IfSome}
use Rattle.std.proofs.lemmas.Bool.{and_left, and_parts}
use Rattle.std.proofs.lemmas.List.Elements.{All-cons, All-head, All-nil, All-tail, All-weaker}
use Rattle.adlb_unit.specs.declared.names.Server.{Server}
use Rattle.adlb_unit.specs.declared.units.Unit.{Unit}
use Rattle.server_components.specs.Calls.{or_else}
use Rattle.server_components.specs.Parked.{is_idle}
use Rattle.server_law.specs.Finding.{Place, behind_one, is_idle_first, is_idle_for, permits, place_in, taker}
use Rattle.server_components.specs.declared.waits.Waiting.{Waiting}
use Rattle.server_law.specs.State.{idle}

-- with those round about
abbrev pub place : List Waiting → Waiting → List Waiting → Place
place before here behind = record { at = record { before = before; behind = behind }; here = here }

-- the test is true of the one that stands here, and of none before
pub record IsPlace (test : Waiting → Bool) (waiting : List Waiting) (p : Place) : Type 0 where
  pub stands : waiting ≡ p.at.before ++ p.here ∷ p.at.behind
  pub passes : test p.here ≡ true
  pub fails : All (λ e. test e ≡ false) p.at.before

module _ (test : Waiting → Bool) where
  place_behind : (e : Waiting) (waiting : List Waiting) (o : Option Place) → test e ≡ false → IfSome o (IsPlace test waiting)
      → IfSome (behind_one e o) (IsPlace test (e ∷ waiting))
  place_behind e waiting None fails is = tt
  place_behind e waiting (Some p) fails is = record {
    stands = ap (λ l. e ∷ l) is.stands;
    passes = is.passes;
    fails = All-cons (λ x. test x ≡ false) e p.at.before fails is.fails;
  }

  -- what is found
  pub place_found : (waiting : List Waiting) → IfSome (place_in test waiting) (IsPlace test waiting)
  place_found [] = tt
  place_found (e ∷ waiting) = by_test (test e) refl (place_found waiting)
    where
      by_test : (t : Bool) → test e ≡ t → IfSome (place_in test waiting) (IsPlace test waiting)
          → IfSome (cond t (Some (place [] e waiting)) (behind_one e (place_in test waiting))) (IsPlace test (e ∷ waiting))
      by_test true is rest = record { stands = refl; passes = is; fails = All-nil (λ x. test x ≡ false) }
      by_test false is rest = place_behind e waiting (place_in test waiting) is rest

  -- something is found where the test is true of some
  pub place_says : (waiting : List Waiting) → is_some (place_in test waiting) ≡ list_any test waiting
  place_says [] = refl
  place_says (e ∷ waiting) = by_test (test e) (place_says waiting)
    where
      behind : (o : Option Place) → is_some (behind_one e o) ≡ is_some o
      behind None = refl
      behind (Some p) = refl

      by_test : (t : Bool) → is_some (place_in test waiting) ≡ list_any test waiting
          → is_some (cond t (Some (place [] e waiting)) (behind_one e (place_in test waiting))) ≡ (t || list_any test waiting)
      by_test true rest = refl
      by_test false rest = behind (place_in test waiting) ∙ rest

  behind_none : (e : Waiting) (o : Option Place) → behind_one e o ≡ None → o ≡ None
  behind_none e None none = refl
  behind_none e (Some p) none = absurd (cc)

  -- where nothing is found, it is true of none
  pub none_found : (waiting : List Waiting) → place_in test waiting ≡ None → All (λ e. test e ≡ false) waiting
  none_found [] none = All-nil (λ e. test e ≡ false)
  none_found (e ∷ waiting) none = by_test (test e) refl none (none_found waiting)
    where
      by_test : (t : Bool) → test e ≡ t → cond t (Some (place [] e waiting)) (behind_one e (place_in test waiting)) ≡ None
          → (place_in test waiting ≡ None → All (λ x. test x ≡ false) waiting) → All (λ x. test x ≡ false) (e ∷ waiting)
      by_test true is none rest = absurd (cc)
      by_test false is none rest = All-cons (λ x. test x ≡ false) e waiting is (rest (behind_none e (place_in test waiting) none))

  -- the first of which it is true is found, where it is
  pub found_there : (before : List Waiting) (here : Waiting) (behind : List Waiting) → All (λ e. test e ≡ false) before → test here ≡ true
      → place_in test (before ++ here ∷ behind) ≡ Some (place before here behind)
  found_there [] here behind fails passes = rw passes refl
  found_there (e ∷ before) here behind fails passes =
      let F : Waiting → Type 0 = λ x. test x ≡ false in
      rw (All-head F e before fails, found_there before here behind (All-tail F e before fails) passes) refl

  -- where it is true of none, nothing is found
  pub nothing_there : (waiting : List Waiting) → All (λ e. test e ≡ false) waiting → place_in test waiting ≡ None
  nothing_there [] fails = refl
  nothing_there (e ∷ waiting) fails =
      let F : Waiting → Type 0 = λ x. test x ≡ false in
      rw (All-head F e waiting fails, nothing_there waiting (All-tail F e waiting fails)) refl

-- Who takes a unit.

-- a rank that is idle is one for which no server is asked
pub idle_is : (e : Waiting) → is_idle e ≡ true → e ≡ idle e.wish e.to_ask
idle_is e is = by_asked e.asked refl is
  where
    by_asked : (o : Option Server) → e.asked ≡ o → is_none o ≡ true → e ≡ idle e.wish e.to_ask
    by_asked None asked is = ap (λ (a : Option Server). record { wish = e.wish; asked = a; to_ask = e.to_ask }) asked
    by_asked (Some t) asked is = absurd (cc)

-- an idle rank that may have the unit stands here
pub record Takes (unit : Unit) (waiting : List Waiting) (p : Place) : Type 0 where
  pub stands : waiting ≡ p.at.before ++ idle p.here.wish p.here.to_ask ∷ p.at.behind
  pub permitted : permits unit p.here.wish ≡ true

takes_where : (unit : Unit) (waiting : List Waiting) (p : Place) → waiting ≡ p.at.before ++ p.here ∷ p.at.behind
    → is_idle_for unit p.here ≡ true → Takes unit waiting p
takes_where unit waiting p stands passes =
    let both = and_parts (is_idle p.here) (permits unit p.here.wish) passes in
    record { stands = stands ∙ ap (λ e. p.at.before ++ e ∷ p.at.behind) (idle_is p.here both.0); permitted = both.1 }

-- the rank that takes a unit waits, is idle, and is permitted the unit
pub taker_found : (unit : Unit) (waiting : List Waiting) → IfSome (taker unit waiting) (Takes unit waiting)
taker_found unit waiting =
    by_places (place_in (is_idle_first unit) waiting) (place_in (is_idle_for unit) waiting)
    (place_found (is_idle_first unit) waiting) (place_found (is_idle_for unit) waiting)
  where
    by_places : (first other : Option Place) → IfSome first (IsPlace (is_idle_first unit) waiting)
        → IfSome other (IsPlace (is_idle_for unit) waiting) → IfSome (or_else first other) (Takes unit waiting)
    by_places (Some p) other is there = takes_where unit waiting p is.stands (and_parts _ _ is.passes).0
    by_places None (Some p) is there = takes_where unit waiting p there.stands there.passes
    by_places None None is there = tt

-- where no idle rank may have it, nobody takes it
pub none_takes : (unit : Unit) (waiting : List Waiting) → All (λ e. is_idle_for unit e ≡ false) waiting → taker unit waiting ≡ None
none_takes unit waiting fails =
    let first : Waiting → Type 0 = λ e. is_idle_first unit e ≡ false in
    let fails_first = All-weaker (λ e. is_idle_for unit e ≡ false) first (λ e no. and_left (is_idle_for unit e) _ no) waiting fails in
    rw (nothing_there (is_idle_first unit) waiting fails_first, nothing_there (is_idle_for unit) waiting fails) refl
