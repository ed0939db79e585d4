use Rattle.std.proofs.Common.{◌≡◌, ◌≤◌, ◌<◌, ℕ}
use Rattle.tour_search.specs.Cities.{costs}
use Rattle.tour_search.proofs.ways.way_out.Given as goal

abbrev pub invariant-loop-to : goal.invariant-loop-to
invariant-loop-to l = record {
  low : l.least ≤ 1000000;
  cheap : (to : ℕ) → to < l.to → (l.from ≡ to → ⊥) → l.least ≤ costs l.cities l.from to;
}
