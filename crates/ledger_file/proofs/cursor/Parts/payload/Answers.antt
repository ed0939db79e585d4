use Rattle.ledger_file.specs.Fields.{body}
use Rattle.ledger_file.specs.inside.Reading.{parts_left, bytes_in}
use Rattle.ledger_file.proofs.Parsing.{first_gives}
use Rattle.ledger_file.proofs.Readers.{bytes_reads}
use Rattle.ledger_file.proofs.cursor.Parts.payload.Goals as goal

pub returns : goal.returns
returns c = first_gives body bytes_in bytes_reads
    (parts_left c.args.self.now) c.in_ok-word.field-0.now _ c.payload.result c.in_ok-word.ensures c.payload.ensures
