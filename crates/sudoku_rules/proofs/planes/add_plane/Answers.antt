use Rattle.std.proofs.Common.{◌≡◌, ◌<◌, ◌+◌, ◌&&◌, ◌||◌, ℕ, cond, length, get_or, set, refl, sym, ap, ◌∙◌, inl, inr, arith, ltb, leb}
use Rattle.std.specs.Int.Bits.{bit_or}
use Rattle.std.proofs.lemmas.Bool.{cases_eq, le-leb}
use Rattle.std.proofs.lemmas.List.{length-set, get_or-set_same, get_or-set_other}
use Rattle.sudoku_rules.specs.inside.Planes.{has}
use Rattle.sudoku_rules.proofs.PlaneBits.{has_and, has_or, level_next, carried_on}
use Rattle.sudoku_rules.proofs.planes.add_plane.Goals as goal

pub loop-n-init : goal.loop-n-init
loop-n-init c = record {
  long = refl;
  done = λ count are i k below. absurd (omega arith);
  rest = λ i above. refl;
  carry = λ count are k. sym (ap (λ t. t && has c.args.plane k) (le-leb 0 (count k) (omega arith)));
}

pub loop-n-preserved : goal.loop-n-preserved
loop-n-preserved c =
    let n : ℕ = c.loop-n.n in
    let inv = c.loop-n.invariant in
    let level : ℕ = get_or c.loop-n.levels n 0 in
    let at : level ≡ get_or c.args.levels.now n 0 = inv.rest n (omega arith) in
    let within : n < length c.loop-n.levels = omega arith in
    let old : n < length c.args.levels.now = omega (arith, inv.long) in
    let next : ℕ = bit_or level c.loop-n.carry in
    record {
      long = length-set c.loop-n.levels n next ∙ inv.long;
      done = λ count are i k below. elim (cases_eq i n) [
        | inl same ↦
            ap (λ j. has (get_or (set c.loop-n.levels n next) j 0) k) same
            ∙ ap (λ p. has p k) (get_or-set_same c.loop-n.levels n next 0 within)
            ∙ has_or level c.loop-n.carry k
            ∙ ap (λ t. t || has c.loop-n.carry k) (ap (λ p. has p k) at ∙ are n k old)
            ∙ ap (λ t. ltb n (count k) || t) (inv.carry count are k)
            ∙ level_next n (count k) (has c.args.plane k)
            ∙ ap (λ j. ltb j (count k + cond (has c.args.plane k) 1 0)) (sym same)
        | inr differs ↦
            ap (λ p. has p k) (get_or-set_other c.loop-n.levels n i next 0 differs)
            ∙ inv.done count are i k (omega arith)
      ];
      rest = λ i above. get_or-set_other c.loop-n.levels n i next 0 (λ e. omega arith) ∙ inv.rest i (omega arith);
      carry = λ count are k.
          has_and c.loop-n.carry level k
          ∙ ap (λ t. t && has level k) (inv.carry count are k)
          ∙ ap (λ t. (leb n (count k) && has c.args.plane k) && t) (ap (λ p. has p k) at ∙ are n k old)
          ∙ carried_on n (count k) (has c.args.plane k);
    }

pub returns : goal.returns
returns c = λ count are n k within. c.loop-n.invariant.done count are n k (omega (arith, c.loop-n.invariant.long))
