use Rattle.ledger_file.specs.Fields.{u32}
use Rattle.ledger_file.specs.inside.Reading.{parts_left, length_in}
use Rattle.ledger_file.proofs.Parsing.{first_gives}
use Rattle.ledger_file.proofs.Readers.{length_reads}
use Rattle.ledger_file.proofs.cursor.Parts.length.Goals as goal

pub returns : goal.returns
returns c = first_gives u32 length_in length_reads
    (parts_left c.args.self.now) c.in_ok-word.field-0.now _ c.short.result c.in_ok-word.ensures c.short.ensures
