use Rattle.std.proofs.Common.{◌∙◌, ap, sym, arith}
use Rattle.std.proofs.lemmas.Grind.{common_steps}
use Rattle.std.proofs.lemmas.List.{take_all}
use Rattle.ledger_file.specs.inside.Reading.{free}
use Rattle.ledger_file.proofs.Bytes.{cut_here, free_more}
use Rattle.ledger_file.proofs.cursor.cut.Goals as goal

pub returns-then-b-at : goal.returns-then-b-at
returns-then-b-at c =
    cut_here c.args.at c.args.bytes.now c.loop-i.i _ _ (omega arith) c.loop-i.invariant c.if-b-at.true (grind (arith, common_steps))
    (grind (arith, common_steps))

pub loop-i-preserved : goal.loop-i-preserved
loop-i-preserved c = free_more c.args.at c.args.bytes.now c.loop-i.i (omega arith) c.loop-i.invariant c.if-b-at.false

pub returns : goal.returns
returns c = ap (free c.args.at) (sym (take_all c.loop-i.i c.args.bytes.now (omega arith))) ∙ c.loop-i.invariant
