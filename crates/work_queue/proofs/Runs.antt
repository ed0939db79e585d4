-- The runs of the index, and the entry that leads.
use Rattle.std.proofs.Common.{◌≡◌, ◌<◌, ◌≤◌, ◌+◌, ◌-◌, ◌⊎◌, ◌||◌, ◌&&◌, ℕ, ℤ, Bool, true, false, cond, not, int_lt, nat_lt, List, get_or}
use Rattle.std.proofs.Common.{length, Option, Some, None, Contains, refl, sym, ap, ◌∙◌, arith, inl, inr}
use Rattle.std.specs.List.Sorted.{IsPartitionPoint}
use Rattle.std.proofs.lemmas.Bool.{both_ways, cases_eq, cases_lt}
use Rattle.std.proofs.lemmas.Bool.Decides.{nat_tests}
use Rattle.std.proofs.lemmas.Int.{ints}
use Rattle.std.proofs.lemmas.List.{get_or_default}
use Rattle.work_queue.proofs.Orders.{IsNext, lower_is, lower_isnt, lower_self, run_of, turn_self}
use Rattle.work_queue.specs.inside.Index.{IsInOrder, IsLeading, IsRun, by_turn, came_first, leading, lower_first, may_have, may_move}
use Rattle.work_queue.specs.inside.Index.{may_serve, moves_first, named_by, runs_before, sort_of, suits_better}
use Rattle.work_queue.specs.declared.indexing.Run.{Run}
use Rattle.adlb_unit.specs.Permit.{class_for}
use Rattle.adlb_unit.specs.declared.names.Rank.{Rank}
use Rattle.adlb_unit.specs.declared.names.WorkType.{WorkType}
use Rattle.work_queue.specs.declared.entries.Entry.{Entry}

-- a test that ranks the entries, and one that lets some through
pub record IsRanking (outranks : Entry → Entry → Bool) : Type 0 where
  pub not_both : (a b : Entry) → outranks a b ≡ true → outranks b a ≡ false
  pub passes_on : (a b c : Entry) → outranks b a ≡ false → outranks c b ≡ false → outranks c a ≡ false

turn_not_both : (x y : ℤ) (k l : ℕ) → (int_lt y x || (not (int_lt x y) && nat_lt k l)) ≡ true
    → (int_lt x y || (not (int_lt y x) && nat_lt l k)) ≡ false
turn_not_both x y k l test = grind (arith, ints, nat_tests)

turn_passes_on : (x y z : ℤ) (k l m : ℕ) → (int_lt x y || (not (int_lt y x) && nat_lt l k)) ≡ false
    → (int_lt y z || (not (int_lt z y) && nat_lt m l)) ≡ false → (int_lt x z || (not (int_lt z x) && nat_lt m k)) ≡ false
turn_passes_on x y z k l m first second = grind (arith, ints, nat_tests)

-- priority and stamp rank the entries of a run
pub turn_ranks : IsRanking by_turn
turn_ranks = record {
  not_both = λ a b. turn_not_both a.prio b.prio a.stamp b.stamp;
  passes_on = λ a b c. turn_passes_on a.prio b.prio c.prio a.stamp b.stamp c.stamp;
}

-- no run is before itself
runs_self : (a : Entry) → runs_before a a ≡ false
runs_self a = lower_self a.kind.0 _ (lower_self (sort_of a.target) _ (lower_self (named_by a.target) _ refl))

runs_alike : (a b : Entry) → a.kind ≡ b.kind → a.target ≡ b.target → runs_before a b ≡ false
runs_alike a b kind target =
    rw (kind, target) (lower_self b.kind.0 _ (lower_self (sort_of b.target) _ (lower_self (named_by b.target) _ refl)))

module _ (entries : List Entry) (place end : ℕ) (e : Entry) (order : IsInOrder entries) (within : place < length entries)
    (here : e ≡ get_or entries place e)
    (point : IsPartitionPoint (λ x. runs_before e x ≡ false) (λ x. runs_before e x ≡ true) entries end) where
  -- a run ends after its place
  pub run_goes_on : place < end
  run_goes_on = elim (cases_lt place end) [
    | inl below ↦ below
    | inr past ↦ absurd (both_ways (runs_before e e) (runs_self e) (rw (sym here) at (point.1 place e past within)))
  ]

  -- the entries within the run are its first and those next to it
  pub in_run : (k : ℕ) (d : Entry) → place ≤ k → k < end → k < length entries → (get_or entries k d ≡ e) ⊎ IsNext e (get_or entries k d)
  in_run k d from below inside = elim (cases_eq k place) [
    | inl same ↦ inl (ap (λ m. get_or entries m d) same ∙ get_or_default entries place d e within ∙ sym here)
    | inr differs ↦
        let before = order place k d (omega arith) inside in
        let read : get_or entries place d ≡ e = get_or_default entries place d e within ∙ sym here in
        inr (run_of e (get_or entries k d) (rw read at before) (point.0 k d (omega arith) below))
  ]

  alike : (k : ℕ) (d : Entry) → place ≤ k → k < end → k < length entries → ((get_or entries k d).kind ≡ e.kind)
      × ((get_or entries k d).target ≡ e.target) × (by_turn (get_or entries k d) e ≡ false)
  alike k d from below inside = elim (in_run k d from below inside) [
    | inl same ↦ rw same (refl, refl, turn_self e.prio e.stamp)
    | inr next ↦ (sym next.kind, sym next.target, turn_ranks.not_both e (get_or entries k d) next.turn)
  ]

  none_later : (k : ℕ) (d : Entry) → place ≤ k → k < end → end ≤ length entries
      → by_turn (get_or entries (end - 1) d) (get_or entries k d) ≡ false
  none_later k d from below whole = elim (cases_eq k (end - 1)) [
    | inl same ↦ rw same (turn_self (get_or entries (end - 1) d).prio (get_or entries (end - 1) d).stamp)
    | inr differs ↦
        let before = order k (end - 1) d (omega arith) (omega arith) in
        let a = alike k d from below (omega arith) in
        let b = alike (end - 1) d (omega arith) (omega arith) (omega arith) in
        let next = run_of (get_or entries k d) (get_or entries (end - 1) d) before
        (runs_alike (get_or entries k d) (get_or entries (end - 1) d) (a.0 ∙ sym b.0) (a.1 ∙ sym b.1)) in
        turn_ranks.not_both (get_or entries k d) (get_or entries (end - 1) d) next.turn
  ]

  -- the entries from a place to its end are a run
  pub is_run : (last : Entry) → last ≡ get_or entries (end - 1) last → end ≤ length entries
      → IsRun entries place (record { first = e; last = last; end = end })
  is_run last is whole = record {
    first_is = here;
    last_is = is;
    goes_on = run_goes_on;
    within = whole;
    alike = λ k d from below.
        let a = alike k d from below (omega arith) in
        let read : get_or entries (end - 1) d ≡ last = get_or_default entries (end - 1) d last (omega (arith, run_goes_on)) ∙ sym is in
        record { kind = a.0; target = a.1; not_earlier = a.2; not_later = rw read at (none_later k d from below whole) };
  }

module _ (may : Entry → Bool) (outranks : Entry → Entry → Bool) (ranking : IsRanking outranks) (entries : List Entry) (place end : ℕ)
    (first : Entry) (below : place ≤ end) (listed : Contains entries first)
    (run : (k : ℕ) (d : Entry) → place ≤ k → k < end → (may (get_or entries k d) ≡ may first)
    × (outranks (get_or entries k d) first ≡ false)) where
  -- no entry of the run passes
  pub passed_by : (found : Option Entry) → may first ≡ false → IsLeading may outranks entries place found
      → IsLeading may outranks entries end found
  passed_by None fails leads = λ k d before. elim (cases_lt k place) [
    | inl early ↦ leads k d early
    | inr late ↦ (run k d late before).0 ∙ fails
  ]
  passed_by (Some found) fails leads = (
    leads.0,
    leads.1,
    λ k d before passes. elim (cases_lt k place) [
      | inl early ↦ leads.2 k d early passes
      | inr late ↦ absurd (both_ways (may (get_or entries k d)) ((run k d late before).0 ∙ fails) passes)
    ],
  )

  -- the first of the run is taken into account
  pub taken_up : (found : Option Entry) → may first ≡ true → IsLeading may outranks entries place found
      → IsLeading may outranks entries end (Some (leading outranks found first))
  taken_up None passes leads = (
    listed,
    passes,
    λ k d before other. elim (cases_lt k place) [
      | inl early ↦ absurd (both_ways (may (get_or entries k d)) (leads k d early) other)
      | inr late ↦ (run k d late before).1
    ],
  )
  taken_up (Some found) passes leads = by_test (outranks first found) refl
    where
      by_test : (t : Bool) → outranks first found ≡ t → IsLeading may outranks entries end (Some (cond t first found))
      by_test true wins = (
        listed,
        passes,
        λ k d before other. elim (cases_lt k place) [
          | inl early ↦ ranking.passes_on first found (get_or entries k d) (ranking.not_both first found wins) (leads.2 k d early other)
          | inr late ↦ (run k d late before).1
        ],
      )
      by_test false loses = (
        leads.0,
        leads.1,
        λ k d before other. elim (cases_lt k place) [
          | inl early ↦ leads.2 k d early other
          | inr late ↦ ranking.passes_on found first (get_or entries k d) loses (run k d late before).1
        ],
      )

lower_not_both : (a b : ℕ) (s t : Bool) → (s ≡ true → t ≡ false) → lower_first a b s ≡ true → lower_first b a t ≡ false
lower_not_both a b s t other test = by_cases (lower_is a b s test)
  where
    by_cases : (a < b) ⊎ ((a ≡ b) × (s ≡ true)) → lower_first b a t ≡ false
    by_cases (inl low) = grind (arith, nat_tests)
    by_cases (inr even) = let off = other even.1 in grind (arith, nat_tests)

lower_passes_on : (a b c : ℕ) (s t u : Bool) → (s ≡ false → t ≡ false → u ≡ false) → lower_first b a s ≡ false → lower_first c b t ≡ false
    → lower_first c a u ≡ false
lower_passes_on a b c s t u both first second = by_cases (lower_isnt b a s first) (lower_isnt c b t second)
  where
    by_cases : (a < b) ⊎ ((b ≡ a) × (s ≡ false)) → (b < c) ⊎ ((c ≡ b) × (t ≡ false)) → lower_first c a u ≡ false
    by_cases (inl x) (inl y) = grind (arith, nat_tests)
    by_cases (inl x) (inr y) = let e = y.0 in grind (arith, nat_tests)
    by_cases (inr x) (inl y) = let e = x.0 in grind (arith, nat_tests)
    by_cases (inr x) (inr y) = let e = x.0 in let f = y.0 in let off = both x.1 y.1 in grind (arith, nat_tests)

-- what suits a rank better ranks the entries
pub suits_ranks : (rank : Rank) → IsRanking (suits_better rank)
suits_ranks rank = record {
  not_both =
      λ a b. lower_not_both (class_for rank a.target) (class_for rank b.target) (by_turn a b) (by_turn b a) (turn_ranks.not_both a b);
  passes_on =
      λ a b c. lower_passes_on (class_for rank a.target) (class_for rank b.target) (class_for rank c.target) (by_turn b a) (by_turn c b)
      (by_turn c a) (turn_ranks.passes_on a b c);
}

turn_back : (x y z : ℤ) (k l m : ℕ) → (int_lt y x || (not (int_lt x y) && nat_lt k l)) ≡ false
    → (int_lt z y || (not (int_lt y z) && nat_lt l m)) ≡ false → (int_lt z x || (not (int_lt x z) && nat_lt k m)) ≡ false
turn_back x y z k l m first second = grind (arith, ints, nat_tests)

-- what moves first ranks the entries
pub moves_ranks : IsRanking moves_first
moves_ranks = record {
  not_both = λ a b. turn_ranks.not_both b a;
  passes_on = λ a b c. turn_back a.prio b.prio c.prio a.stamp b.stamp c.stamp;
}

-- the run beside its first, for a rank, and beside its last
pub run_suits : (rank : Rank) (types : Option (List WorkType)) (entries : List Entry) (place : ℕ) (run : Run) → IsRun entries place run
    → (k : ℕ) (d : Entry) → place ≤ k → k < run.end → (may_have rank types (get_or entries k d) ≡ may_have rank types run.first)
    × (suits_better rank (get_or entries k d) run.first ≡ false)
run_suits rank types entries place run is k d from below =
    let of = is.alike k d from below in
    (rw (of.kind, of.target) refl, rw of.target (lower_self (class_for rank run.first.target) _ of.not_earlier))

-- the last entry of a run goes first among those to move
pub run_moves : (entries : List Entry) (place : ℕ) (run : Run) → IsRun entries place run → (k : ℕ) (d : Entry) → place ≤ k → k < run.end
    → (may_move (get_or entries k d) ≡ may_move run.last) × (moves_first (get_or entries k d) run.last ≡ false)
run_moves entries place run is k d from below =
    let on = is.goes_on in
    let whole = is.within in
    let of = is.alike k d from below in
    let last = is.alike (run.end - 1) run.last (omega arith) (omega arith) in
    let last_target : run.last.target ≡ run.first.target = rw (sym is.last_is) at last.target in
    (rw (of.target, last_target) refl, of.not_later)

-- the first entry of a run is listed
pub first_listed : (entries : List Entry) (place : ℕ) (run : Run) → IsRun entries place run → Contains entries run.first
first_listed entries place run is = let on = is.goes_on in let whole = is.within in (place, omega arith, sym is.first_is)

-- the last entry of a run is listed
pub last_listed : (entries : List Entry) (place : ℕ) (run : Run) → IsRun entries place run → Contains entries run.last
last_listed entries place run is = let on = is.goes_on in let whole = is.within in (run.end - 1, omega arith, sym is.last_is)

-- a run as its places are read
module _ (entries : List Entry) (place end : ℕ) (z : Entry) (order : IsInOrder entries) (within : place < length entries)
    (point : IsPartitionPoint (λ x. runs_before (get_or entries place z) x ≡ false) (λ x. runs_before (get_or entries place z) x ≡ true)
    entries end) where
  read : get_or entries place z ≡ get_or entries place (get_or entries place z)
  read = get_or_default entries place z (get_or entries place z) within

  -- a run read at its place ends after it
  pub read_goes_on : place < end
  read_goes_on = run_goes_on entries place end (get_or entries place z) order within read point

  -- the entries read from a place to its end are a run
  pub read_run : end ≤ length entries
      → IsRun entries place (record { first = get_or entries place z; last = get_or entries (end - 1) z; end = end })
  read_run whole =
      let on = read_goes_on in
      is_run entries place end (get_or entries place z) order within read point (get_or entries (end - 1) z)
      (get_or_default entries (end - 1) z (get_or entries (end - 1) z) (omega arith)) whole

came_not_both : (k l : ℕ) → nat_lt k l ≡ true → nat_lt l k ≡ false
came_not_both k l test = grind (arith, nat_tests)

came_passes_on : (k l m : ℕ) → nat_lt l k ≡ false → nat_lt m l ≡ false → nat_lt m k ≡ false
came_passes_on k l m first second = grind (arith, nat_tests)

-- what came first ranks the entries
pub came_ranks : IsRanking came_first
came_ranks = record {
  not_both = λ a b. came_not_both a.stamp b.stamp;
  passes_on = λ a b c. came_passes_on a.stamp b.stamp c.stamp;
}

-- all of a run are permitted to a request, or none
pub run_serves : (asked : List (Rank × Option (List WorkType))) (entries : List Entry) (place : ℕ) (run : Run) → IsRun entries place run
    → (k : ℕ) (d : Entry) → place ≤ k → k < run.end → may_serve asked (get_or entries k d) ≡ may_serve asked run.first
run_serves asked entries place run is k d from below = let of = is.alike k d from below in rw (of.kind, of.target) refl

-- no entry of a run is: what leads stays
pub run_passed : (may : Entry → Bool) (outranks : Entry → Entry → Bool) (entries : List Entry) (place end : ℕ) (found : Option Entry)
    → ((k : ℕ) (d : Entry) → place ≤ k → k < end → may (get_or entries k d) ≡ false) → IsLeading may outranks entries place found
    → IsLeading may outranks entries end found
run_passed may outranks entries place end None fails leads = λ k d before. elim (cases_lt k place) [
  | inl early ↦ leads k d early
  | inr late ↦ fails k d late before
]
run_passed may outranks entries place end (Some found) fails leads = (
  leads.0,
  leads.1,
  λ k d before passes. elim (cases_lt k place) [
    | inl early ↦ leads.2 k d early passes
    | inr late ↦ absurd (both_ways (may (get_or entries k d)) (fails k d late before) passes)
  ],
)

-- one entry more is taken into account
pub came_next : (asked : List (Rank × Option (List WorkType))) (entries : List Entry) (place : ℕ) (e : Entry) (found : Option Entry)
    → place < length entries → e ≡ get_or entries place e → may_serve asked e ≡ true
    → IsLeading (may_serve asked) came_first entries place found
    → IsLeading (may_serve asked) came_first entries (place + 1) (Some (leading came_first found e))
came_next asked entries place e found within read passes leads =
    taken_up (may_serve asked) came_first came_ranks entries place (place + 1) e (omega arith) (place, within, sym read)
    (λ k d from below.
    let same : k ≡ place = omega arith in
    let it : get_or entries k d ≡ e = ap (λ m. get_or entries m d) same ∙ get_or_default entries place d e within ∙ sym read in
    rw it (refl, came_self e.stamp)) found passes leads
  where
    came_self : (n : ℕ) → nat_lt n n ≡ false
    came_self n = grind (arith, nat_tests)
