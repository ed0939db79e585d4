use Rattle.std.proofs.Common.{◌≡◌, ◌<◌, ◌^◌, ℕ, Bool, get_or, sym, ap, ◌∙◌, arith, subst}
use Rattle.std.specs.Int.Bits.{bit_and}
use Rattle.std.proofs.lemmas.Nat.{one_shl}
use Rattle.sudoku_rules.specs.inside.Planes.{has}
use Rattle.sudoku_rules.proofs.PlaneBits.{mask_more, mask_kept, test_off, test_on}
use Rattle.sudoku_rules.proofs.boards.Board.options_at.Goals as goal
use Rattle.sudoku_rules.proofs.boards.Board.options_at.Goals.{then-self-x-ne0, else-self-x-ne0}

pub loop-x-init : goal.loop-x-init
loop-x-init g c = record { small = omega arith; bits = λ x below. absurd (omega arith) }

pub loop-x-preserved : goal.loop-x-preserved
loop-x-preserved g c =
    let n : ℕ = c.loop-x.x in
    let plane : ℕ = get_or c.args.self.now.options n 0 in
    let p : ℕ → Bool = λ x. has (get_or c.args.self.now.options x 0) c.args.cell in
    let inv = c.loop-x.invariant in
    let few : n < 16 = omega arith in
    let one = one_shl c.args.cell 128 c.requires.cell in
    elim c.if-self-x-ne0.branch [
      | then-self-x-ne0 w ↦ rw w.mask-is
          (let r = mask_more n c.loop-x.mask p few inv.small inv.bits
          (test_on plane c.args.cell (λ e. w.if-self-x-ne0.true (ap (λ b. bit_and plane b) one ∙ e))) in
          record { small = r.0; bits = r.1 })
      | else-self-x-ne0 w ↦ rw w.mask-is
          (let r = mask_kept n c.loop-x.mask p inv.small inv.bits
          (test_off plane c.args.cell (sym (ap (λ b. bit_and plane b) one) ∙ w.if-self-x-ne0.false)) in
          record { small = r.0; bits = r.1 })
    ]

pub returns : goal.returns
returns g c =
    let done : c.loop-x.x ≡ g.row.SIDE = omega arith in
    record {
      small = subst (λ n. c.loop-x.mask < 2 ^ n) done c.loop-x.invariant.small;
      bits = λ x below. c.loop-x.invariant.bits x (omega arith);
    }
