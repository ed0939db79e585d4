-- What a count tells: a bag and a server that agree count alike.
use Rattle.std.proofs.Common.{◌≡◌, ◌⊎◌, inl, inr, ◌≤ℤ◌, ◌<◌, ◌+◌, ◌==◌, ◌&&◌, ℕ, ℤ, Bool, true, false, cond, List, [], ◌∷◌, length, map}
use Rattle.std.proofs.Common.{filter, fold, sum_by, count_by, Contains, All, refl, sym, ap, ◌∙◌, arith, add-one}
use Rattle.std.specs.Prelude.{int_le}
use Rattle.std.specs.Int.{int_max}
use Rattle.std.proofs.lemmas.Int.{fold-int_max_bounds, fold-int_max_reached, ints}
use Rattle.std.proofs.lemmas.List.Elements.{All-cons, All-head, All-tail}
use Rattle.std.proofs.lemmas.List.Sums.{get_or-le-sum_by, sum_by-cons}
use Rattle.adlb_unit.specs.Infos.{info_of_prios}
use Rattle.adlb_unit.specs.declared.names.Server.{Server}
use Rattle.adlb_unit.specs.declared.names.WorkType.{WorkType}
use Rattle.adlb_unit.specs.declared.units.Unit.{Unit}
use Rattle.bag_ledger.specs.Bag.{Bag, info_of, is_free_at}
use Rattle.bag_ledger.specs.declared.states.Placed.{Placed as Lodged}
use Rattle.bag_ledger.specs.declared.states.UnitPlace.{UnitPlace}
use Rattle.bag_ledger.specs.declared.states.UnitPlace.TheVariants.{Free, Travelling, Pinned, Spent}
use Rattle.bag_law.proofs.Turn.{sum_same}
use Rattle.work_queue.specs.Counts.{counts_of, is_counted}
use Rattle.work_queue.specs.declared.placing.Placed.{Placed}
use Rattle.work_queue.proofs.Counted.{same_told}
use Rattle.server_law.specs.Agreement.{ServerAgrees, UnitWeight, weight_at}
use Rattle.server_law.specs.State.{ServerModel}

-- Priorities.

-- alike by every weight
abbrev pub WeighAlike : List ℤ → List ℤ → Type 0
WeighAlike ps qs = (f : ℤ → ℕ) → sum_by f ps ≡ sum_by f qs

-- 1 for a priority that is at least this one
abbrev from_on : ℤ → ℤ → ℕ
from_on m p = cond (int_le m p) 1 0

ones : (ps : List ℤ) → sum_by (λ p. 1) ps ≡ length ps
ones [] = refl
ones (p ∷ ps) = omega (arith, sum_by-cons {X = ℤ} (λ q. 1) p ps, ones ps)

itself : (m : ℤ) → int_le m m ≡ true
itself m = grind (arith, ints)

from_on_low : (m t p : ℤ) → p ≤ℤ t → int_le m p ≡ true → m ≤ℤ t
from_on_low m t p low is = grind (arith, ints)

both_low : (m t : ℤ) → m ≤ℤ t → t ≤ℤ m → m ≡ t
both_low m t low high = grind (arith, ints)

-- one that is there is counted
counted_here : (m : ℤ) (ps : List ℤ) → Contains ps m → 0 < sum_by (from_on m) ps
counted_here m ps at =
    let one : from_on m m ≡ 1 = rw (itself m) refl in
    let held = rw at.2 at (get_or-le-sum_by (from_on m) ps at.0 m at.1) in
    omega (arith, one, held)

-- where one is counted that is at least m, and all are at most t
counted_low : (m t : ℤ) (ps : List ℤ) → All (λ p. p ≤ℤ t) ps → 0 < sum_by (from_on m) ps → m ≤ℤ t
counted_low m t [] low some = absurd (omega (arith, some))
counted_low m t (p ∷ ps) low some = by_test (counted_low m t ps (All-tail (λ q. q ≤ℤ t) p ps low)) (int_le m p) refl
  where
    by_test : (0 < sum_by (from_on m) ps → m ≤ℤ t) → (b : Bool) → int_le m p ≡ b → m ≤ℤ t
    by_test rest true is = from_on_low m t p (All-head (λ q. q ≤ℤ t) p ps low) is
    by_test rest false is =
        let none : from_on m p ≡ 0 = rw is refl in
        rest (omega (arith, some, none, sum_by-cons (from_on m) p ps))

abbrev highest : ℤ → List ℤ → ℤ
highest p ps = fold int_max p ps

highest_stands : (p : ℤ) (ps : List ℤ) → Contains (p ∷ ps) (highest p ps)
highest_stands p ps = by_place (fold-int_max_reached p ps (highest p ps) refl)
  where
    by_place : (highest p ps ≡ p) ⊎ Contains ps (highest p ps) → Contains (p ∷ ps) (highest p ps)
    by_place (inl first) = (0, omega arith, sym first)
    by_place (inr later) = (later.0 + 1, omega (arith, later.1), rw add-one later.2)

-- the highest of one list is at most that of the other
highest_low : (p q : ℤ) (ps qs : List ℤ) → WeighAlike (p ∷ ps) (q ∷ qs) → highest p ps ≤ℤ highest q qs
highest_low p q ps qs alike =
    let m = highest p ps in
    let t = highest q qs in
    let bounds = fold-int_max_bounds q qs t refl in
    let some = counted_here m (p ∷ ps) (highest_stands p ps) in
    let same = alike (from_on m) in
    counted_low m t (q ∷ qs) (All-cons (λ x. x ≤ℤ t) q qs bounds.0 bounds.1) (omega (arith, some, same))

same_length : (ps qs : List ℤ) → WeighAlike ps qs → length ps ≡ length qs
same_length ps qs alike = sym (ones ps) ∙ alike (λ p. 1) ∙ ones qs

-- they tell the same
pub told_alike : (ps qs : List ℤ) → WeighAlike ps qs → info_of_prios ps ≡ info_of_prios qs
told_alike [] [] alike = refl
told_alike [] (q ∷ qs) alike = absurd (omega (arith, same_length [] (q ∷ qs) alike))
told_alike (p ∷ ps) [] alike = absurd (omega (arith, same_length (p ∷ ps) [] alike))
told_alike (p ∷ ps) (q ∷ qs) alike =
    let m = highest p ps in
    let t = highest q qs in
    let same : m ≡ t = both_low m t (highest_low p q ps qs alike) (highest_low q p qs ps (λ f. sym (alike f))) in
    same_told (length (p ∷ ps)) (length (q ∷ qs)) m t (count_by (int_le m) (p ∷ ps)) (count_by (int_le t) (q ∷ qs))
    (same_length (p ∷ ps) (q ∷ qs) alike) same (alike (from_on m) ∙ ap (λ x. count_by (int_le x) (q ∷ qs)) same)

-- Units.

-- a sum over what is kept of a list
sum_part : {X Y : Type 0} (test : X → Bool) (g : X → Y) (f : Y → ℕ) (xs : List X)
    → sum_by f (map g (filter test xs)) ≡ sum_by (λ x. cond (test x) (f (g x)) 0) xs
sum_part test g f [] = refl
sum_part test g f (x ∷ xs) =
    rw (sum_by-cons (λ y. cond (test y) (f (g y)) 0) x xs, ← sum_part test g f xs) (by_test (test x) refl)
  where
    by_test : (b : Bool) → test x ≡ b
        → sum_by f (map g (filter test (x ∷ xs))) ≡ cond (test x) (f (g x)) 0 + sum_by f (map g (filter test xs))
    by_test true is = rw is (sum_by-cons f (g x) (map g (filter test xs)))
    by_test false is = rw is (omega arith)

-- what a free unit of the type weighs by its priority
abbrev by_prio : WorkType → (ℤ → ℕ) → UnitWeight
by_prio kind f unit free = cond (free && (unit.kind.0 == kind.0)) (f unit.prio) 0

abbrev is_of_kind : Server → WorkType → Lodged → Bool
is_of_kind me kind u = is_free_at me u.place && (u.unit.kind.0 == kind.0)

unit_weighs : (me : Server) (kind : WorkType) (f : ℤ → ℕ) (unit : Unit) (place : UnitPlace)
    → cond (is_of_kind me kind (record { unit = unit; place = place })) (f unit.prio) 0
    ≡ weight_at me (by_prio kind f) (record { unit = unit; place = place })
unit_weighs me kind f unit (Free at) = by_test (at.0 == me.0) refl
  where
    by_test : (t : Bool) → (at.0 == me.0) ≡ t
        → cond (is_of_kind me kind (record { unit = unit; place = Free at })) (f unit.prio) 0
        ≡ weight_at me (by_prio kind f) (record { unit = unit; place = Free at })
    by_test true is = rw is refl
    by_test false is = rw is refl
unit_weighs me kind f unit (Pinned at rank) = by_test (at.0 == me.0) refl
  where
    by_test : (t : Bool) → (at.0 == me.0) ≡ t → 0 ≡ weight_at me (by_prio kind f) (record { unit = unit; place = Pinned at rank })
    by_test true is = rw is refl
    by_test false is = rw is refl
unit_weighs me kind f unit (Travelling to) = refl
unit_weighs me kind f unit Spent = refl

-- what the bag says of the units that are free at the server is what the server's queue says
pub info_agrees : (b : Bag) (s : ServerModel) (kind : WorkType) → ServerAgrees b s → info_of b s.me kind ≡ counts_of kind s.kept.queue.units
info_agrees b s kind m =
    told_alike (map (λ (u : Lodged). u.unit.prio) (filter (is_of_kind s.me kind) b.units))
    (map (λ (p : Placed). p.unit.prio) (filter (is_counted kind) s.kept.queue.units)) alike
  where
    alike : WeighAlike (map (λ (u : Lodged). u.unit.prio) (filter (is_of_kind s.me kind) b.units))
        (map (λ (p : Placed). p.unit.prio) (filter (is_counted kind) s.kept.queue.units))
    alike f =
        sum_part (is_of_kind s.me kind) (λ (u : Lodged). u.unit.prio) f b.units
        ∙ sum_same (λ u. cond (is_of_kind s.me kind u) (f u.unit.prio) 0) (weight_at s.me (by_prio kind f)) b.units
        (λ k u at. unit_weighs s.me kind f u.unit u.place)
        ∙ m.units.weighs (by_prio kind f)
        ∙ sym (sum_part (is_counted kind) (λ (p : Placed). p.unit.prio) f s.kept.queue.units)
