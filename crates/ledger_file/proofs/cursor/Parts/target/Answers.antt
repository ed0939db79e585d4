use Rattle.ledger_file.specs.Fields.{aim}
use Rattle.ledger_file.specs.inside.Reading.{parts_left, target_in}
use Rattle.ledger_file.proofs.Parsing.{first_gives}
use Rattle.ledger_file.proofs.Readers.{target_reads}
use Rattle.ledger_file.proofs.cursor.Parts.target.Goals as goal

pub returns : goal.returns
returns c = first_gives aim target_in target_reads
    (parts_left c.args.self.now) c.in_ok-word.field-0.now _ c.target.result c.in_ok-word.ensures c.target.ensures
