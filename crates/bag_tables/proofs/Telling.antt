-- What the counts tell is what a count of the units tells.
use Rattle.std.proofs.Common.{◌≡◌, ◌∙◌, sym, ◌==◌, ◌&&◌, ◌+◌, ◌<◌, ℕ, ℤ, Bool, true, false, List, [], ◌∷◌, length, map, filter, fold}
use Rattle.std.proofs.Common.{Option, Some, None, All, Contains, ◌⊎◌, inl, inr, add-one, ◌≤ℤ◌, refl, ap, arith, sum_by, count_by}
use Rattle.std.specs.Prelude.{MatchOption, int_le, if◌then◌else◌}
use Rattle.std.specs.Int.{int_max}
use Rattle.std.specs.Ordering.{int_cmp, int_eq, is_eq, nat_cmp, ordering_then}
use Rattle.std.specs.declared.cmp.Ordering.{Ordering}
use Rattle.std.specs.declared.cmp.Ordering.TheVariants.{Less, Equal, Greater}
use Rattle.std.specs.BTreeMap.Range.{IsLeBy}
use Rattle.std.proofs.lemmas.Bool.Decides.{nat_tests, Decides-int_eq}
use Rattle.std.proofs.lemmas.Int.{ints, fold-int_max_bounds, fold-int_max_reached}
use Rattle.std.proofs.lemmas.List.Sums.{sum_by-cons, get_or-le-sum_by}
use Rattle.std.proofs.lemmas.List.Elements.{All-head, All-tail, All-cons}
use Rattle.adlb_unit.specs.Infos.{info_of_prios}
use Rattle.adlb_unit.specs.declared.names.Server.{Server}
use Rattle.adlb_unit.specs.declared.names.WorkType.{WorkType}
use Rattle.adlb_unit.specs.declared.notes.Info.{Info}
use Rattle.bag_ledger.specs.declared.states.Placed.{Placed}
use Rattle.bag_ledger.specs.declared.states.UnitPlace.{UnitPlace}
use Rattle.bag_ledger.specs.declared.states.UnitPlace.TheVariants.{Free, Travelling, Pinned, Spent}
use Rattle.bag_ledger.specs.Bag.{is_free_at}
use Rattle.bag_tables.specs.declared.counts.FreeCounts.{FreeCounts}
use Rattle.bag_tables.specs.Keys.{by_kind, by_prio, free_key, kind_of, prio_of}
use Rattle.bag_tables.specs.Tallies.{count_of, one_at}
use Rattle.bag_tables.specs.Counted.{IsCounted, IsTold, IsTop, prio_count}

-- Sums over a part of a list.

sum_same : {X : Type 0} (f g : X → ℕ) → ((x : X) → f x ≡ g x) → (xs : List X) → sum_by f xs ≡ sum_by g xs
sum_same f g same [] = refl
sum_same f g same (x ∷ xs) = rw (sum_by-cons f x xs, sum_by-cons g x xs, same x, sum_same f g same xs) refl

sum_part : {X Y : Type 0} (test : X → Bool) (g : X → Y) (f : Y → ℕ) (xs : List X)
    → sum_by f (map g (filter test xs)) ≡ sum_by (λ x. if test x then f (g x) else 0) xs
sum_part test g f [] = refl
sum_part test g f (x ∷ xs) = rw (sum_by-cons (λ y. if test y then f (g y) else 0) x xs, ← sum_part test g f xs) (by_test (test x) refl)
  where
    by_test : (b : Bool) → test x ≡ b
        → sum_by f (map g (filter test (x ∷ xs))) ≡ (if test x then f (g x) else 0) + sum_by f (map g (filter test xs))
    by_test true is = rw is (sum_by-cons f (g x) (map g (filter test xs)))
    by_test false is = rw is (omega arith)

ones : {X : Type 0} (xs : List X) → sum_by (λ x. 1) xs ≡ length xs
ones [] = refl
ones (x ∷ xs) = rw (sum_by-cons (λ y. 1) x xs, ones xs) (omega arith)

-- The priorities that are counted.

abbrev of_kind : Server → WorkType → Placed → Bool
of_kind server kind u = is_free_at server u.place && (u.unit.kind.0 == kind.0)

abbrev prios_of : Server → WorkType → List Placed → List ℤ
prios_of server kind units = map (λ u. u.unit.prio) (filter (of_kind server kind) units)

one_kind : (server : Server) (kind : WorkType) (u : Placed)
    → one_at by_kind (free_key kind_of u) (server.0, kind.0) ≡ (if of_kind server kind u then 1 else 0)
one_kind server kind u = by_place u.place refl
  where
    by_place : (place : UnitPlace) → u.place ≡ place
        → one_at by_kind (free_key kind_of u) (server.0, kind.0) ≡ (if of_kind server kind u then 1 else 0)
    by_place (Free at) is = rw is (grind (arith, nat_tests))
    by_place (Travelling at) is = rw is refl
    by_place (Pinned at to) is = rw is refl
    by_place Spent is = rw is refl

same_prio : (a s b k : ℕ) (o : Ordering)
    → ◌≡◌ {A = ℕ} (if is_eq (ordering_then (ordering_then (nat_cmp a s) (nat_cmp b k)) o) then 1 else 0)
    (if (a == s) && (b == k) then (if is_eq o then 1 else 0) else 0)
same_prio a s b k Less = grind (arith, nat_tests)
same_prio a s b k Equal = grind (arith, nat_tests)
same_prio a s b k Greater = grind (arith, nat_tests)

one_prio : (server : Server) (kind : WorkType) (prio : ℤ) (u : Placed)
    → one_at by_prio (free_key prio_of u) (server.0, kind.0, Some (record { 0 = prio }))
    ≡ (if of_kind server kind u then (if int_eq prio u.unit.prio then 1 else 0) else 0)
one_prio server kind prio u = by_place u.place refl
  where
    by_place : (place : UnitPlace) → u.place ≡ place → one_at by_prio (free_key prio_of u) (server.0, kind.0, Some (record { 0 = prio }))
        ≡ (if of_kind server kind u then (if int_eq prio u.unit.prio then 1 else 0) else 0)
    by_place (Free at) is = rw is (same_prio at.0 server.0 u.unit.kind.0 kind.0 (int_cmp prio u.unit.prio))
    by_place (Travelling at) is = rw is refl
    by_place (Pinned at to) is = rw is refl
    by_place Spent is = rw is refl

free_count : (free : FreeCounts) (units : List Placed) → IsCounted free units → (server : Server) (kind : WorkType)
    → count_of by_kind free.kinds (server.0, kind.0) ≡ length (prios_of server kind units)
free_count free units is server kind =
    is.kinds.counts (server.0, kind.0)
    ∙ sum_same (λ u. one_at by_kind (free_key kind_of u) (server.0, kind.0)) (λ u. if of_kind server kind u then 1 else 0)
    (one_kind server kind) units
    ∙ sym (sum_part (of_kind server kind) (λ u. u.unit.prio) (λ x. 1) units)
    ∙ ones (prios_of server kind units)

prio_counted : (free : FreeCounts) (units : List Placed) → IsCounted free units → (server : Server) (kind : WorkType) (prio : ℤ)
    → prio_count free server kind prio ≡ count_by (int_eq prio) (prios_of server kind units)
prio_counted free units is server kind prio =
    is.prios.counts (server.0, kind.0, Some (record { 0 = prio }))
    ∙ sum_same (λ u. one_at by_prio (free_key prio_of u) (server.0, kind.0, Some (record { 0 = prio })))
    (λ u. if of_kind server kind u then (if int_eq prio u.unit.prio then 1 else 0) else 0) (one_prio server kind prio) units
    ∙ sym (sum_part (of_kind server kind) (λ u. u.unit.prio) (λ x. if int_eq prio x then 1 else 0) units)

-- The highest of a list of priorities.

le_is : (a b : ℤ) → IsLeBy int_cmp a b → a ≤ℤ b
le_is a b is = grind (arith, ints)

counted_here : (prio : ℤ) (prios : List ℤ) → Contains prios prio → 0 < count_by (int_eq prio) prios
counted_here prio prios at =
    let f : ℤ → ℕ = λ x. if int_eq prio x then 1 else 0 in
    let one : f prio ≡ 1 = rw ((Decides-int_eq prio prio).1 refl) refl in
    let held = rw at.2 at (get_or-le-sum_by f prios at.0 prio at.1) in
    omega (arith, one, held)

counted_low : (m prio : ℤ) (prios : List ℤ) → All (λ x. x ≤ℤ m) prios → 0 < count_by (int_eq prio) prios → prio ≤ℤ m
counted_low m prio [] low some = absurd (omega (arith, some))
counted_low m prio (x ∷ xs) low some = by_test (counted_low m prio xs (All-tail (λ y. y ≤ℤ m) x xs low)) (int_eq prio x) refl
  where
    by_test : (0 < count_by (int_eq prio) xs → prio ≤ℤ m) → (b : Bool) → int_eq prio x ≡ b → prio ≤ℤ m
    by_test rest true is = rw ((Decides-int_eq prio x).0 is) (All-head (λ y. y ≤ℤ m) x xs low)
    by_test rest false is =
        let none : ◌≡◌ {A = ℕ} (if int_eq prio x then 1 else 0) 0 = rw is refl in
        rest (omega (arith, some, none, sum_by-cons (λ y. if int_eq prio y then 1 else 0) x xs))

-- of what is at most m, m itself is what is at least m
at_most : (m : ℤ) (prios : List ℤ) → All (λ x. x ≤ℤ m) prios → count_by (int_le m) prios ≡ count_by (int_eq m) prios
at_most m [] low = refl
at_most m (x ∷ xs) low =
    rw (
      sum_by-cons (λ y. if int_le m y then 1 else 0) x xs,
      sum_by-cons (λ y. if int_eq m y then 1 else 0) x xs,
      at_most m xs (All-tail (λ y. y ≤ℤ m) x xs low),
      here (All-head (λ y. y ≤ℤ m) x xs low),
    ) refl
  where
    here : x ≤ℤ m → int_le m x ≡ int_eq m x
    here is = grind (arith, ints)

info_is : (info : Info) (n : ℕ) (top : Option ℤ) (m : ℕ) → info.free ≡ n → info.top ≡ top → info.at_top ≡ m
    → info ≡ record { free = n; top = top; at_top = m }
info_is info n top m free is also = rw (← free, ← is, ← also) refl

-- the top of a list of priorities, as counts show it
record IsTopOf (prios : List ℤ) (top : ℤ) (n : ℕ) : Type 0 where
  count : count_by (int_eq top) prios ≡ n
  some : 0 < n
  highest : (prio : ℤ) → 0 < count_by (int_eq prio) prios → prio ≤ℤ top

told_of : (info : Info) (prios : List ℤ) (top : Option ℤ) → info.top ≡ top → info.free ≡ length prios
    → MatchOption top ((info.at_top ≡ 0) × ((prio : ℤ) → count_by (int_eq prio) prios ≡ 0)) (λ prio. IsTopOf prios prio info.at_top)
    → info ≡ info_of_prios prios
told_of info [] None is free told = info_is info 0 None 0 free is told.0
told_of info [] (Some top) is free told = absurd (let count = told.count in let some = told.some in omega (arith, count, some))
told_of info (p ∷ ps) None is free told =
    let some = counted_here p (p ∷ ps) (0, omega arith, refl) in
    absurd (omega (arith, some, told.1 p))
told_of info (p ∷ ps) (Some top) is free told =
    let m : ℤ = fold int_max p ps in
    let bounds = fold-int_max_bounds p ps m refl in
    let low : All (λ x. x ≤ℤ m) (p ∷ ps) = All-cons (λ x. x ≤ℤ m) p ps bounds.0 bounds.1 in
    let up = told.highest m (reached (fold-int_max_reached p ps m refl)) in
    let down = counted_low m top (p ∷ ps) low (rw (← told.count) at told.some) in
    let same : top ≡ m = omega (arith, ints, up, down) in
    info_is info (length (p ∷ ps)) (Some m) (count_by (int_le m) (p ∷ ps)) free (is ∙ ap Some same)
    (sym told.count ∙ ap (λ t. count_by (int_eq t) (p ∷ ps)) same ∙ sym (at_most m (p ∷ ps) low))
  where
    reached : {m : ℤ} → (m ≡ p) ⊎ Contains ps m → 0 < count_by (int_eq m) (p ∷ ps)
    reached (inl is) = counted_here _ (p ∷ ps) (0, omega arith, sym is)
    reached (inr at) = counted_here _ (p ∷ ps) (at.0 + 1, omega (arith, at.1), rw add-one at.2)

-- what the counts say of a server and type is the info of its free units
pub info_told : (free : FreeCounts) (units : List Placed) → IsCounted free units → (server : Server) (kind : WorkType) (info : Info)
    → IsTold free server kind info
    → info ≡ info_of_prios (map (λ u. u.unit.prio) (filter (λ u. is_free_at server u.place && (u.unit.kind.0 == kind.0)) units))
info_told free units is server kind info told =
    told_of info (prios_of server kind units) info.top refl (told.units ∙ free_count free units is server kind) (by_top info.top told.top)
  where
    by_top : (top : Option ℤ) → MatchOption top ((info.at_top ≡ 0) × ((prio : ℤ) → prio_count free server kind prio ≡ 0))
        (λ prio. IsTop free server kind (prio, info.at_top)) → MatchOption top
        ((info.at_top ≡ 0) × ((prio : ℤ) → count_by (int_eq prio) (prios_of server kind units) ≡ 0))
        (λ prio. IsTopOf (prios_of server kind units) prio info.at_top)
    by_top None none = (none.0, λ prio. sym (prio_counted free units is server kind prio) ∙ none.1 prio)
    by_top (Some top) at = record {
      count = sym (prio_counted free units is server kind top) ∙ at.count;
      some = at.some;
      highest = λ prio some. le_is prio top (at.highest prio (rw (prio_counted free units is server kind prio) some));
    }
