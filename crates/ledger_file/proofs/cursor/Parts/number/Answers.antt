use Rattle.ledger_file.specs.Fields.{u64}
use Rattle.ledger_file.specs.inside.Reading.{parts_left, number_in}
use Rattle.ledger_file.proofs.Parsing.{first_gives}
use Rattle.ledger_file.proofs.Readers.{number_reads}
use Rattle.ledger_file.proofs.cursor.Parts.number.Goals as goal

pub returns : goal.returns
returns c = first_gives u64 number_in number_reads
    (parts_left c.args.self.now) c.in_ok-word.field-0.now _ c.number.result c.in_ok-word.ensures c.number.ensures
