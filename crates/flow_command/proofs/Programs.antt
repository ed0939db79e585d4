-- The programs of the ranks of a run over a flow.
use Rattle.std.proofs.Common.{◌≡◌, ◌<◌, ◌==◌, ◌∙◌, ℕ, zero, suc, List, [], ◌∷◌, ◌++◌, length, Some, None, sym, subst, arith, slice_get}
use Rattle.std.proofs.Common.{Result, Ok, Err, IfOk}
use Rattle.std.specs.Bool.{if◌then◌else◌}
use Rattle.std.proofs.lemmas.Bool.{cond-false, ne_eqb}
use Rattle.adlb_unit.specs.declared.names.Rank.{Rank}
use Rattle.flow_law.specs.declared.Definition.{Definition}
use Rattle.flow_work.specs.declared.program.FlowProgram.{FlowProgram}
use Rattle.flow_command.specs.Flows.{ArePrograms, IsProgram}

-- a fact on each place of a list, also of one more element
placed_more : {X : Type 0} (P : ℕ → X → Type 0) (xs : List X) (x : X) → P (length xs) x →
    ((k : ℕ) (y : X) → slice_get xs k ≡ Some y → P k y) → (k : ℕ) (y : X) → slice_get (xs ++ x ∷ []) k ≡ Some y → P k y
placed_more P [] x new old zero y at = let same : x ≡ y = cc in subst (P 0) same new
placed_more P [] x new old (suc k) y at = absurd cc
placed_more P (z ∷ zs) x new old zero y at = old zero y at
placed_more P (z ∷ zs) x new old (suc k) y at =
    placed_more (λ n. P (suc n)) zs x new (λ n w here. old (suc n) w here) k y at

-- this program is of the rank with this number
abbrev IsProgramOf : ℕ → List Definition → ℕ → FlowProgram → Type 0
IsProgramOf ranks flow number p = IsProgram ranks flow (record { 0 = number }) p

-- the program of the first rank has the flow; that of one more rank has none
pub first_program : (ranks : ℕ) (flow : List Definition) (p : FlowProgram) → p.ranks ≡ ranks → p.flow ≡ Some flow →
    ArePrograms ranks flow (p ∷ [])
first_program ranks flow p of is = record {
  each = λ rank q at.
      placed_more (IsProgramOf ranks flow) [] p (record { ranks_are = of; flow_is = is }) (λ k x none. absurd cc) rank.0 q at;
}

-- programs are those of the ranks with one more that has no flow
pub more_programs : (ranks : ℕ) (flow : List Definition) (programs : List FlowProgram) (p : FlowProgram) → 0 < length programs →
    p.ranks ≡ ranks → p.flow ≡ None → ArePrograms ranks flow programs → ArePrograms ranks flow (programs ++ p ∷ [])
more_programs ranks flow programs p some of none are =
    let n : ℕ = length programs in
    let differs : n ≡ 0 → ⊥ = λ e. omega (arith, some, e) in
    let later : (if n == 0 then Some flow else None) ≡ None = cond-false (n == 0) (Some flow) None (ne_eqb n 0 differs) in
    record {
      each = λ rank q at.
          placed_more (IsProgramOf ranks flow) programs p (record { ranks_are = of; flow_is = none ∙ sym later })
          (λ k x here. are.each (record { 0 = k }) x here) rank.0 q at;
    }

-- each program fits the number of ranks
pub all_fit : {V E : Type 0} (items : V → List FlowProgram) (ranks : ℕ) (flow : List Definition) (r : Result V E) →
    IfOk r (λ v. ArePrograms ranks flow (items v)) →
    IfOk r (λ v. (k : ℕ) (p : FlowProgram) → slice_get (items v) k ≡ Some p → p.ranks ≡ ranks)
all_fit items ranks flow (Ok v) are = λ k p at. (are.each (record { 0 = k }) p at).ranks_are
all_fit items ranks flow (Err e) are = tt
