use Rattle.ledger_file.specs.inside.Reading.{parts_left, pair_in}
use Rattle.ledger_file.proofs.Parsing.{first_gives}
use Rattle.ledger_file.proofs.Readers.{pair_field, pair_reads}
use Rattle.ledger_file.proofs.cursor.Parts.id.Goals as goal

pub returns : goal.returns
returns c = first_gives pair_field pair_in pair_reads
    (parts_left c.args.self.now) c.in_ok-word.field-0.now _ c.id.result c.in_ok-word.ensures c.id.ensures
