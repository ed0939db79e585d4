use Rattle.std.proofs.Common.{◌≡◌, ◌+◌, ◌*◌, ◌++◌, ◌∷◌, [], append_assoc, append-nil, arith, ap, drop, get_or, sym, take, take_all, refl}
use Rattle.std.proofs.Common.{◌∙◌}
use Rattle.std.proofs.lemmas.List.{length-set}
use Rattle.std.proofs.lemmas.Grind.{take-set_at}
use Rattle.sudoku_rules.specs.inside.Packed.{pairs}
use Rattle.sudoku_rules.proofs.Packed.{pairs_at, pairs_over}
use Rattle.sudoku_rules.proofs.kept.in_pairs.Goals as goal

pub loop-at-preserved : goal.loop-at-preserved
loop-at-preserved g c =
    let v = c.loop-at.invariant in
    let at = c.loop-at.at in
    let cells = c.args.cells.now in
    let byte = get_or cells (at + at) 0 + 16 * get_or cells (at + at + 1) 0 in
    let next : at + at + 2 ≡ at + 1 + (at + 1) = omega arith in
    record {
      long = length-set c.loop-at.bytes at byte ∙ v.long;
      written = ap (λ l. l ++ pairs (drop (at + 1 + (at + 1)) cells))
          (take-set_at c.loop-at.bytes at (at + 1) byte refl (omega (arith, v.long, c.loop-at-test.true)))
          ∙ append_assoc (take at c.loop-at.bytes) (byte ∷ []) (pairs (drop (at + 1 + (at + 1)) cells))
          ∙ ap (λ n. take at c.loop-at.bytes ++ byte ∷ pairs (drop n cells)) (sym next)
          ∙ ap (λ l. take at c.loop-at.bytes ++ l)
          (sym (pairs_at cells (at + at) (omega (arith, c.requires.enough, c.loop-at-test.true))))
          ∙ v.written;
    }

pub returns : goal.returns
returns g c =
    let v = c.loop-at.invariant in
    let at = c.loop-at.at in
    let cells = c.args.cells.now in
    let bytes = c.loop-at.bytes in
    sym (append-nil bytes)
    ∙ ap (λ l. bytes ++ l) (sym (pairs_over cells (at + at) (omega (arith, c.requires.few, c.loop-at-test.false))))
    ∙ ap (λ l. l ++ pairs (drop (at + at) cells)) (sym (take_all at bytes (omega (arith, v.long, c.loop-at-test.false))))
    ∙ v.written
