use Rattle.ledger_file.specs.Fields.{i32}
use Rattle.ledger_file.specs.inside.Reading.{parts_left, prio_in}
use Rattle.ledger_file.proofs.Parsing.{first_gives}
use Rattle.ledger_file.proofs.Readers.{prio_reads}
use Rattle.ledger_file.proofs.cursor.Parts.prio.Goals as goal

pub returns : goal.returns
returns c = first_gives i32 prio_in prio_reads
    (parts_left c.args.self.now) c.in_ok-word.field-0.now _ c.prio.result c.in_ok-word.ensures c.prio.ensures
