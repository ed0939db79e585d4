-- The order of the entries.
use Rattle.std.proofs.Common.{◌≡◌, ◌≢◌, ◌<◌, ◌<ℤ◌, ◌⊎◌, ℕ, ℤ, Bool, true, false, not, ◌&&◌, ◌||◌, int_lt, nat_lt, refl, sym, ap, ◌∙◌, arith}
use Rattle.std.proofs.Common.{inl, inr}
use Rattle.std.proofs.lemmas.Bool.Decides.{nat_tests}
use Rattle.std.proofs.lemmas.Int.{ints}
use Rattle.adlb_unit.specs.declared.names.Target.{Target}
use Rattle.adlb_unit.specs.declared.names.Target.TheVariants.{Any, Only, Soft}
use Rattle.adlb_unit.specs.declared.names.WorkType.{WorkType}
use Rattle.work_queue.specs.inside.Index.{by_run, by_turn, goes_before, lower_first, named_by, runs_before, sort_of}
use Rattle.work_queue.specs.declared.entries.Entry.{Entry}

-- what passes the test is lower, or equal and passes the rest
pub lower_is : (a b : ℕ) (t : Bool) → lower_first a b t ≡ true → (a < b) ⊎ ((a ≡ b) × (t ≡ true))
lower_is a b t test = grind (arith, nat_tests)

-- what is lower, or equal and passes the rest, passes the test
pub is_lower : (a b : ℕ) (t : Bool) → (a < b) ⊎ ((a ≡ b) × (t ≡ true)) → lower_first a b t ≡ true
is_lower a b t is = grind (arith, nat_tests)

-- what fails the test is higher, or equal and fails the rest
pub lower_isnt : (a b : ℕ) (t : Bool) → lower_first a b t ≡ false → (b < a) ⊎ ((a ≡ b) × (t ≡ false))
lower_isnt a b t test = grind (arith, nat_tests)

-- the lower of the lower is lower
pub lower_trans : (a b c : ℕ) (s t u : Bool) → (s ≡ true → t ≡ true → u ≡ true) → lower_first a b s ≡ true → lower_first b c t ≡ true
    → lower_first a c u ≡ true
lower_trans a b c s t u both first second = is_lower a c u (by_cases (lower_is a b s first) (lower_is b c t second))
  where
    by_cases : (a < b) ⊎ ((a ≡ b) × (s ≡ true)) → (b < c) ⊎ ((b ≡ c) × (t ≡ true)) → (a < c) ⊎ ((a ≡ c) × (u ≡ true))
    by_cases (inl x) (inl y) = inl (omega arith)
    by_cases (inl x) (inr y) = inl (omega (arith, y.0))
    by_cases (inr x) (inl y) = inl (omega (arith, x.0))
    by_cases (inr x) (inr y) = inr (x.0 ∙ y.0, both x.1 y.1)

lower_other : (a b : ℕ) (s t : Bool) → (s ≡ false → t ≡ true) → lower_first a b s ≡ false → lower_first b a t ≡ true
lower_other a b s t other test = is_lower b a t (by_cases (lower_isnt a b s test))
  where
    by_cases : (b < a) ⊎ ((a ≡ b) × (s ≡ false)) → (b < a) ⊎ ((b ≡ a) × (t ≡ true))
    by_cases (inl x) = inl x
    by_cases (inr x) = inr (sym x.0, other x.1)

lower_even : (a b : ℕ) (s t : Bool) → lower_first a b s ≡ true → lower_first a b t ≡ false → (a ≡ b) × (s ≡ true) × (t ≡ false)
lower_even a b s t is isnt = by_cases (lower_is a b s is) (lower_isnt a b t isnt)
  where
    by_cases : (a < b) ⊎ ((a ≡ b) × (s ≡ true)) → (b < a) ⊎ ((a ≡ b) × (t ≡ false)) → (a ≡ b) × (s ≡ true) × (t ≡ false)
    by_cases (inl x) (inl y) = absurd (omega arith)
    by_cases (inl x) (inr y) = absurd (omega (arith, y.0))
    by_cases (inr x) (inl y) = absurd (omega (arith, x.0))
    by_cases (inr x) (inr y) = (x.0, x.1, y.1)

-- the order of runs is transitive
pub run_trans : (a b c : Entry) (s t u : Bool) → (s ≡ true → t ≡ true → u ≡ true) → by_run a b s ≡ true → by_run b c t ≡ true
    → by_run a c u ≡ true
run_trans a b c s t u both =
    lower_trans a.kind.0 b.kind.0 c.kind.0 _ _ _
    (lower_trans (sort_of a.target) (sort_of b.target) (sort_of c.target) _ _ _
    (lower_trans (named_by a.target) (named_by b.target) (named_by c.target) s t u both))

turn_trans : (x y z : ℤ) (k l m : ℕ) → (int_lt y x || (not (int_lt x y) && nat_lt k l)) ≡ true
    → (int_lt z y || (not (int_lt y z) && nat_lt l m)) ≡ true → (int_lt z x || (not (int_lt x z) && nat_lt k m)) ≡ true
turn_trans x y z k l m first second = grind (arith, ints, nat_tests)

turn_other : (x y : ℤ) (k l : ℕ) → k ≢ l → (int_lt y x || (not (int_lt x y) && nat_lt k l)) ≡ false
    → (int_lt x y || (not (int_lt y x) && nat_lt l k)) ≡ true
turn_other x y k l differs test = grind (arith, ints, nat_tests)

-- the order of entries is transitive
pub before_trans : (a b c : Entry) → goes_before a b ≡ true → goes_before b c ≡ true → goes_before a c ≡ true
before_trans a b c = run_trans a b c (by_turn a b) (by_turn b c) (by_turn a c) (turn_trans a.prio b.prio c.prio a.stamp b.stamp c.stamp)

-- of two entries of different stamps one comes before the other
pub before_other : (a b : Entry) → a.stamp ≢ b.stamp → goes_before a b ≡ false → goes_before b a ≡ true
before_other a b differs =
    lower_other a.kind.0 b.kind.0 _ _
    (lower_other (sort_of a.target) (sort_of b.target) _ _
    (lower_other (named_by a.target) (named_by b.target) (by_turn a b) (by_turn b a) (turn_other a.prio b.prio a.stamp b.stamp differs)))

-- what comes after an entry of a later run is of a later run
pub run_stays : (a b c : Entry) → runs_before a b ≡ true → goes_before b c ≡ true → runs_before a c ≡ true
run_stays a b c = run_trans a b c false (by_turn b c) false (λ no _. no)

-- no entry comes before itself by priority and stamp
pub turn_self : (x : ℤ) (k : ℕ) → (int_lt x x || (not (int_lt x x) && nat_lt k k)) ≡ false
turn_self x k = grind (arith, ints, nat_tests)

-- no number is lower than itself
pub lower_self : (a : ℕ) (t : Bool) → t ≡ false → lower_first a a t ≡ false
lower_self a t isnt = grind (arith, nat_tests)

-- none comes before itself
pub before_self : (a : Entry) → goes_before a a ≡ false
before_self a = lower_self a.kind.0 _ (lower_self (sort_of a.target) _ (lower_self (named_by a.target) _ (turn_self a.prio a.stamp)))

same_target : (x y : Target) → sort_of x ≡ sort_of y → named_by x ≡ named_by y → x ≡ y
same_target (Only a) (Only b) sort named = let wrapped : ℕ → Target = λ n. Only (record { 0 = n }) in ap wrapped named
same_target (Only a) (Soft b) sort named = absurd (omega (arith, sort))
same_target (Only a) Any sort named = absurd (omega (arith, sort))
same_target (Soft a) (Only b) sort named = absurd (omega (arith, sort))
same_target (Soft a) (Soft b) sort named = let wrapped : ℕ → Target = λ n. Soft (record { 0 = n }) in ap wrapped named
same_target (Soft a) Any sort named = absurd (omega (arith, sort))
same_target Any (Only b) sort named = absurd (omega (arith, sort))
same_target Any (Soft b) sort named = absurd (omega (arith, sort))
same_target Any Any sort named = refl

-- of two entries of one run, the type and target of one are those of the other, and the turns decide
pub record IsNext (a b : Entry) : Type 0 where
  pub kind : a.kind ≡ b.kind
  pub target : a.target ≡ b.target
  pub turn : by_turn a b ≡ true

-- entries in order without a new run are next to each other in one
pub run_of : (a b : Entry) → goes_before a b ≡ true → runs_before a b ≡ false → IsNext a b
run_of a b is isnt =
    let kinds = lower_even a.kind.0 b.kind.0 _ _ is isnt in
    let sorts = lower_even (sort_of a.target) (sort_of b.target) _ _ kinds.1 kinds.2 in
    let names = lower_even (named_by a.target) (named_by b.target) _ _ sorts.1 sorts.2 in
    let wrapped : ℕ → WorkType = λ n. record { 0 = n } in
    record { kind = ap wrapped kinds.0; target = same_target a.target b.target sorts.0 names.0; turn = names.1 }

turn_cases : (x y : ℤ) (k l : ℕ) → (int_lt y x || (not (int_lt x y) && nat_lt k l)) ≡ true → (y <ℤ x) ⊎ ((x ≡ y) × (k < l))
turn_cases x y k l test = grind (arith, ints, nat_tests)

-- in a run, higher priorities come first, and then lower stamps
pub turn_is : (a b : Entry) → by_turn a b ≡ true → (b.prio <ℤ a.prio) ⊎ ((a.prio ≡ b.prio) × (a.stamp < b.stamp))
turn_is a b = turn_cases a.prio b.prio a.stamp b.stamp
