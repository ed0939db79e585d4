use Rattle.std.proofs.Common.{◌∙◌, ap}
use Rattle.ledger_file.specs.inside.Reading.{parts_in}
use Rattle.ledger_file.proofs.Bytes.{parts_cut, split_nowhere}
use Rattle.ledger_file.proofs.cursor.Parts.next.Goals as goal

pub returns-in-Some : goal.returns-in-Some
returns-in-Some c =
    let k = c.args.self.now.separator in
    ap (parts_in k) c.in_ok-text.was ∙ parts_cut k c.in_ok-text.text.now c.in-Some.part.now c.in-Some.rest.now c.in-Some.ensures

pub returns-in-None : goal.returns-in-None
returns-in-None c =
    let k = c.args.self.now.separator in
    ap (parts_in k) c.in_ok-text.was ∙ split_nowhere k c.in_ok-text.text.now c.in-None.ensures
