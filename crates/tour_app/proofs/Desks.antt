-- What a desk has when units come.
use Rattle.std.proofs.Common.{◌≡◌, ◌<◌, ◌≤◌, ◌+◌, ◌-◌, ◌==◌, ℕ, zero, suc, Bool, true, false, cond, not, List, [], ◌∷◌, ◌++◌, map, length}
use Rattle.std.proofs.Common.{Option, Some, None, refl, sym, ap, ◌∙◌, subst, arith, append_assoc, append-nil}
use Rattle.std.specs.Prelude.{OnOk, Result, filter, flat_map, option_to_list}
use Rattle.std.specs.List.{range_with_len}
use Rattle.std.proofs.lemmas.List.{map-append}
use Rattle.std.proofs.lemmas.List.Elements.{filter-append}
use Rattle.work_law.specs.Books.{over_bytes}
use Rattle.work_law.specs.Work.{Arrival, arrival, made_by}
use Rattle.tour_search.proofs.Through.{range_more}
use Rattle.tour_app.specs.Desk.{Brings, TakesOver}
use Rattle.tour_app.specs.Works.{cities, found, found_in, made_of, makes, over, pairs, pairs_among, pairs_with, tours}
use Rattle.tour_app.specs.declared.desk.Desk.{Desk}
use Rattle.tour_app.specs.declared.units.TourUnit.{TourUnit}
use Rattle.tour_app.specs.declared.units.TourUnit.TheVariants.{Pair, Answer}
use Rattle.tour_app.proofs.Lists.{flat-append}

-- the common part is of no use for a tour
over_same : (common : List ℕ) (unit : TourUnit) → made_of (over unit common) unit ≡ made_of common unit
over_same common (Pair a b) = refl
over_same common (Answer cost tour) = refl

-- what the work on a unit that comes makes
pub made_is : (common : List ℕ) (unit : TourUnit) (o : Option TourUnit) → o ≡ made_of common unit →
    made_by tours (arrival tours common unit) ≡ option_to_list o
made_is common unit o e = ap option_to_list (over_same common unit ∙ sym e)

-- what a unit makes is put in front of what waits
pub front_is : (common : List ℕ) (unit : TourUnit) (o : Option TourUnit) (old mid new : List TourUnit)
    → o ≡ made_of common unit → mid ≡ old →
    new ≡ option_to_list o ++ mid → new ≡ made_by tours (arrival tours common unit) ++ old
front_is common unit o old mid new e same more =
    more ∙ ap (λ l. option_to_list o ++ l) same ∙ ap (λ l. l ++ old) (sym (made_is common unit o e))

-- what a unit makes is put after what waits
pub back_is : (common : List ℕ) (unit : TourUnit) (o : Option TourUnit) (old mid new : List TourUnit)
    → o ≡ made_of common unit → mid ≡ old →
    new ≡ mid ++ option_to_list o → new ≡ old ++ made_by tours (arrival tours common unit)
back_is common unit o old mid new e same more =
    more ∙ ap (λ l. l ++ option_to_list o) same ∙ ap (λ l. old ++ l) (sym (made_is common unit o e))

-- a fetch that comes, by its parts
pub brings_by : {X E : Type 0} (common front : List ℕ) (unit read : Option TourUnit) (old new : Desk) (r : Result X E) → front ≡ common →
    read ≡ unit → OnOk r (Brings front read old new) → OnOk r (Brings common unit old new)
brings_by common front unit read old new r same is brings =
    subst (λ (c : List ℕ). OnOk r (Brings c unit old new)) same (subst (λ (u : Option TourUnit). OnOk r (Brings front u old new)) is brings)

-- Units that come one after the other.

-- what a rank has taken over so far of a refused batch
pub record OverSoFar (common : List ℕ) (all : List TourUnit) (old now : Desk) (left : List TourUnit) : Type 0 where
  pub waiting : now.waiting.items ++ flat_map (made_by tours) (over_bytes tours common left)
      ≡ old.waiting.items ++ flat_map (made_by tours) (over_bytes tours common all)
  pub found_are : now.found.items ++ found (over_bytes tours common left) ≡ old.found.items ++ found (over_bytes tours common all)

-- one unit more of the batch is taken over
pub over_more : (common : List ℕ) (all : List TourUnit) (old now next : Desk) (left rest : List TourUnit) (unit : TourUnit) →
    OverSoFar common all old now left → left ≡ unit ∷ rest →
    next.waiting.items ≡ now.waiting.items ++ made_by tours (arrival tours common unit)
    → next.found.items ≡ now.found.items ++ found_in unit →
    OverSoFar common all old next rest
over_more common all old now next left rest unit far is waits stays =
    let later : List TourUnit = flat_map (made_by tours) (over_bytes tours common rest) in
    let tours_later : List (ℕ × List ℕ) = found (over_bytes tours common rest) in
    record {
      waiting = ap (λ l. l ++ later) waits ∙ append_assoc now.waiting.items (made_by tours (arrival tours common unit)) later
          ∙ ap (λ l. now.waiting.items ++ flat_map (made_by tours) (over_bytes tours common l)) (sym is) ∙ far.waiting;
      found_are = ap (λ l. l ++ tours_later) stays ∙ append_assoc now.found.items (found_in unit) tours_later
          ∙ ap (λ l. now.found.items ++ found (over_bytes tours common l)) (sym is) ∙ far.found_are;
    }

-- after its last unit the batch is taken over
pub over_end : (common : List ℕ) (all : List TourUnit) (old now : Desk) (left : List TourUnit) → OverSoFar common all old now left →
    left ≡ [] → TakesOver common all old now
over_end common all old now left far none = record {
  waiting = sym (append-nil now.waiting.items)
      ∙ sym (ap (λ l. now.waiting.items ++ flat_map (made_by tours) (over_bytes tours common l)) none) ∙ far.waiting;
  found_are = sym (append-nil now.found.items)
      ∙ sym (ap (λ l. now.found.items ++ found (over_bytes tours common l)) none) ∙ far.found_are;
}

-- The pairs.

among_more : (a : ℕ) (xs ys : List ℕ) → pairs_among a (xs ++ ys) ≡ pairs_among a xs ++ pairs_among a ys
among_more a xs ys =
    ap (map (Pair a)) (filter-append (λ b. not (b == a)) xs ys)
    ∙ map-append (Pair a) (filter (λ b. not (b == a)) xs) (filter (λ b. not (b == a)) ys)

-- the pairs of a city and one more
pub among_step : (a b : ℕ) (first now new : List TourUnit) → 1 ≤ b → now ≡ first ++ pairs_among a (range_with_len 1 (b - 1)) →
    new ≡ now ++ pairs_among a (b ∷ []) → new ≡ first ++ pairs_among a (range_with_len 1 ((b + 1) - 1))
among_step a b first now new some is more =
    let count : (b - 1) + 1 ≡ (b + 1) - 1 = omega arith in
    let last : 1 + (b - 1) ≡ b = omega arith in
    let xs : List ℕ = range_with_len 1 (b - 1) in
    more ∙ ap (λ l. l ++ pairs_among a (b ∷ [])) is ∙ append_assoc first (pairs_among a xs) (pairs_among a (b ∷ []))
    ∙ ap (λ l. first ++ l) (sym (among_more a xs (b ∷ [])))
    ∙ ap (λ k. first ++ pairs_among a (xs ++ k ∷ [])) (sym last)
    ∙ ap (λ l. first ++ pairs_among a l) (sym (range_more 1 (b - 1)))
    ∙ ap (λ k. first ++ pairs_among a (range_with_len 1 k)) count

-- the pairs of all cities below and one city more
pub pairs_step : (n a : ℕ) (now new : List TourUnit) → 1 ≤ a → now ≡ flat_map (pairs_with n) (range_with_len 1 (a - 1)) →
    new ≡ now ++ pairs_with n a → new ≡ flat_map (pairs_with n) (range_with_len 1 ((a + 1) - 1))
pairs_step n a now new some is more =
    let count : (a - 1) + 1 ≡ (a + 1) - 1 = omega arith in
    let last : 1 + (a - 1) ≡ a = omega arith in
    let xs : List ℕ = range_with_len 1 (a - 1) in
    more ∙ ap (λ l. l ++ pairs_with n a) is ∙ ap (λ l. flat_map (pairs_with n) xs ++ l) (sym (append-nil (pairs_with n a)))
    ∙ sym (flat-append (pairs_with n) xs (a ∷ []))
    ∙ ap (λ k. flat_map (pairs_with n) (xs ++ k ∷ [])) (sym last)
    ∙ ap (flat_map (pairs_with n)) (sym (range_more 1 (a - 1)))
    ∙ ap (λ k. flat_map (pairs_with n) (range_with_len 1 k)) count
