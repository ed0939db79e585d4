use Rattle.std.proofs.Common.{◌≡◌, ◌<◌, ◌≤◌, ◌+◌, ◌%◌, ◌/◌, [], ◌∷◌, ◌++◌, append_assoc, append-nil, arith, ap, drop, get_or, length, set}
use Rattle.std.proofs.Common.{sym, take, ◌∙◌}
use Rattle.std.proofs.lemmas.List.{length-set, take-set, take_more_set}
use Rattle.sudoku_rules.specs.inside.Packed.{halves}
use Rattle.sudoku_rules.proofs.Packed.{halves_next, halves_none, two_more}
use Rattle.sudoku_rules.proofs.kept.apart.Goals as goal
use Rattle.sudoku_rules.proofs.kept.apart.Goals.{After-loop-byte}

pub loop-byte-preserved : goal.loop-byte-preserved
loop-byte-preserved c =
    let v = c.loop-byte.invariant in
    let k = c.loop-byte.byte-index in
    let at = c.loop-byte.at in
    let b = get_or c.args.bytes.now k 0 in
    let rest = halves (drop (k + 1) c.args.bytes.now) in
    let room : at + 1 < length c.loop-byte.cells = omega (arith, v.long, v.place, c.requires, c.loop-byte-test.true) in
    record {
      long = length-set (set c.loop-byte.cells at (b % 16)) (at + 1) (b / 16) ∙ length-set c.loop-byte.cells at (b % 16) ∙ v.long;
      place = omega (arith, v.place);
      written = ap (λ l. l ++ rest) (two_more c.loop-byte.cells at (b % 16) (b / 16) room)
          ∙ append_assoc (take at c.loop-byte.cells) (b % 16 ∷ b / 16 ∷ []) rest
          ∙ ap (λ l. take at c.loop-byte.cells ++ l) (sym (halves_next c.args.bytes.now k c.loop-byte-test.true)) ∙ v.written;
    }

-- what is written after the loop: all halves
all_halves : (c : After-loop-byte) → (c.loop-byte.at ≡ length c.args.bytes.now + length c.args.bytes.now)
    × (take c.loop-byte.at c.loop-byte.cells ≡ halves c.args.bytes.now)
all_halves c =
    let v = c.loop-byte.invariant in
    let k = c.loop-byte.byte-index in
    let bytes = c.args.bytes.now in
    let over : length bytes ≤ k = omega (arith, c.loop-byte-test.false) in (
      omega (arith, v.place, over, c.loop-byte.auto.byte-index-end),
      sym (append-nil (take c.loop-byte.at c.loop-byte.cells))
          ∙ ap (λ l. take c.loop-byte.at c.loop-byte.cells ++ l) (sym (halves_none bytes k over)) ∙ v.written,
    )

pub returns-clause-halves : goal.returns-clause-halves
returns-clause-halves c =
    let all = all_halves c in
    ap (λ n. take n (set c.loop-byte.cells c.loop-byte.at c.args.last)) (sym all.0)
    ∙ take-set c.loop-byte.cells c.loop-byte.at c.args.last ∙ all.1

pub returns-clause-last : goal.returns-clause-last
returns-clause-last c =
    let all = all_halves c in
    let v = c.loop-byte.invariant in
    ap (λ n. take (n + 1) (set c.loop-byte.cells c.loop-byte.at c.args.last)) (sym all.0)
    ∙ take_more_set c.loop-byte.cells c.loop-byte.at c.args.last (omega (arith, v.long, all.0, c.requires))
    ∙ ap (λ l. l ++ c.args.last ∷ []) all.1
