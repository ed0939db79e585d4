use Rattle.ledger_file.specs.Fields.{told}
use Rattle.ledger_file.specs.inside.Reading.{parts_left, end_in}
use Rattle.ledger_file.proofs.Parsing.{first_gives}
use Rattle.ledger_file.proofs.Readers.{end_reads}
use Rattle.ledger_file.proofs.cursor.Parts.end.Goals as goal

pub returns : goal.returns
returns c = first_gives told end_in end_reads
    (parts_left c.args.self.now) c.in_ok-word.field-0.now _ c.end.result c.in_ok-word.ensures c.end.ensures
