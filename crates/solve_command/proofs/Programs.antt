-- The programs of the ranks of a run.
use Rattle.std.proofs.Common.{◌≡◌, ◌<◌, ◌==◌, ◌∙◌, ℕ, zero, suc, List, [], ◌∷◌, ◌++◌, length, Some, None, sym, subst, arith, slice_get}
use Rattle.std.specs.Bool.{if◌then◌else◌}
use Rattle.std.proofs.lemmas.Bool.{cond-false, ne_eqb}
use Rattle.job_text.specs.declared.jobs.Job.{Job}
use Rattle.puzzle_app.specs.declared.outcomes.Settings.{Settings}
use Rattle.puzzle_app.specs.declared.program.PuzzleProgram.{PuzzleProgram}
use Rattle.solve_command.specs.Puzzles.{ArePrograms}

-- a fact on each place of a list, also of one more element
placed_more : {X : Type 0} (P : ℕ → X → Type 0) (xs : List X) (x : X) → P (length xs) x →
    ((k : ℕ) (y : X) → slice_get xs k ≡ Some y → P k y) → (k : ℕ) (y : X) → slice_get (xs ++ x ∷ []) k ≡ Some y → P k y
placed_more P [] x new old zero y at = let same : x ≡ y = cc in subst (P 0) same new
placed_more P [] x new old (suc k) y at = absurd cc
placed_more P (z ∷ zs) x new old zero y at = old zero y at
placed_more P (z ∷ zs) x new old (suc k) y at =
    placed_more (λ n. P (suc n)) zs x new (λ n w here. old (suc n) w here) k y at

-- this program is of the rank with this number
abbrev IsProgramOf : Settings → List Job → ℕ → PuzzleProgram → Type 0
IsProgramOf settings jobs number p = (p.settings ≡ settings) × (p.jobs ≡ (if number == 0 then Some jobs else None))

-- the program of the first rank is the only one at its place; one more rank has no jobs
pub first_program : (settings : Settings) (jobs : List Job) (p : PuzzleProgram) → p.settings ≡ settings → p.jobs ≡ Some jobs →
    ArePrograms settings jobs (p ∷ [])
first_program settings jobs p settings_are jobs_are =
    placed_more (IsProgramOf settings jobs) [] p (settings_are, jobs_are) (λ k q none. absurd cc)

-- programs are those of the ranks with one more that has no jobs
pub more_programs : (settings : Settings) (jobs : List Job) (programs : List PuzzleProgram) (p : PuzzleProgram) →
    0 < length programs → p.settings ≡ settings → p.jobs ≡ None → ArePrograms settings jobs programs →
    ArePrograms settings jobs (programs ++ p ∷ [])
more_programs settings jobs programs p some settings_are none are =
    let n : ℕ = length programs in
    let differs : n ≡ 0 → ⊥ = λ e. omega (arith, some, e) in
    let later : (if n == 0 then Some jobs else None) ≡ None = cond-false (n == 0) (Some jobs) None (ne_eqb n 0 differs) in
    placed_more (IsProgramOf settings jobs) programs p (settings_are, none ∙ sym later) are
