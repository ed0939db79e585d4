use Rattle.ledger_file.specs.Fields.{prio_or_none}
use Rattle.ledger_file.specs.inside.Reading.{parts_left, top_in}
use Rattle.ledger_file.proofs.Parsing.{first_gives}
use Rattle.ledger_file.proofs.Readers.{top_reads}
use Rattle.ledger_file.proofs.cursor.Parts.top.Goals as goal

pub returns : goal.returns
returns c = first_gives prio_or_none top_in top_reads
    (parts_left c.args.self.now) c.in_ok-word.field-0.now _ c.top.result c.in_ok-word.ensures c.top.ensures
