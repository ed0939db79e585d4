use Rattle.ledger_file.specs.Fields.{wanted}
use Rattle.ledger_file.specs.inside.Reading.{parts_left, types_in}
use Rattle.ledger_file.proofs.Parsing.{first_gives}
use Rattle.ledger_file.proofs.Readers.{types_reads}
use Rattle.ledger_file.proofs.cursor.Parts.types.Goals as goal

pub returns : goal.returns
returns c = first_gives wanted types_in types_reads
    (parts_left c.args.self.now) c.in_ok-word.field-0.now _ c.types.result c.in_ok-word.ensures c.types.ensures
