-- The programs of the ranks of a run over cities.
use Rattle.std.proofs.Common.{◌≡◌, ◌<◌, ◌==◌, ◌∙◌, ℕ, zero, suc, List, [], ◌∷◌, ◌++◌, length, Some, None, sym, subst, arith, slice_get}
use Rattle.std.specs.Bool.{if◌then◌else◌}
use Rattle.std.proofs.lemmas.Bool.{cond-false, ne_eqb}
use Rattle.adlb_unit.specs.declared.names.Rank.{Rank}
use Rattle.least_law.specs.Joined.{StartsWell}
use Rattle.tour_app.specs.Starts.{StartModel}
use Rattle.tour_app.specs.declared.program.TourProgram.{TourProgram}
use Rattle.tour_command.specs.Tours.{ArePrograms}
use Rattle.tour_search.specs.Cities.{CitiesModel}

-- a fact on each place of a list, also of one more element
placed_more : {X : Type 0} (P : ℕ → X → Type 0) (xs : List X) (x : X) → P (length xs) x →
    ((k : ℕ) (y : X) → slice_get xs k ≡ Some y → P k y) → (k : ℕ) (y : X) → slice_get (xs ++ x ∷ []) k ≡ Some y → P k y
placed_more P [] x new old zero y at = let same : x ≡ y = cc in subst (P 0) same new
placed_more P [] x new old (suc k) y at = absurd cc
placed_more P (z ∷ zs) x new old zero y at = old zero y at
placed_more P (z ∷ zs) x new old (suc k) y at =
    placed_more (λ n. P (suc n)) zs x new (λ n w here. old (suc n) w here) k y at

-- this program is of the rank with this number
abbrev IsProgramOf : StartModel → ℕ → TourProgram → Type 0
IsProgramOf s number p = p.start ≡ (if number == 0 then Some s else None)

-- the program of the first rank is the only one at its place; one more rank has no cities
pub first_program : (s : StartModel) (cities : CitiesModel) (p : TourProgram) → s.cities ≡ cities → StartsWell s → p.start ≡ Some s →
    ArePrograms cities (p ∷ [])
first_program s cities p same well is = record {
  start = s;
  cities_are = same;
  well = well;
  each = λ rank q at. placed_more (IsProgramOf s) [] p is (λ k x none. absurd cc) rank.0 q at;
}

-- programs are those of the ranks with one more that has no start
pub more_programs : (cities : CitiesModel) (programs : List TourProgram) (p : TourProgram) → 0 < length programs → p.start ≡ None →
    ArePrograms cities programs → ArePrograms cities (programs ++ p ∷ [])
more_programs cities programs p some none are =
    let s : StartModel = are.start in
    let n : ℕ = length programs in
    let differs : n ≡ 0 → ⊥ = λ e. omega (arith, some, e) in
    let later : (if n == 0 then Some s else None) ≡ None = cond-false (n == 0) (Some s) None (ne_eqb n 0 differs) in
    record {
      start = s;
      cities_are = are.cities_are;
      well = are.well;
      each = λ rank q at.
          placed_more (IsProgramOf s) programs p (none ∙ sym later) (λ k x here. are.each (record { 0 = k }) x here) rank.0 q at;
    }
