use Rattle.ledger_file.specs.Fields.{rank_or_none}
use Rattle.ledger_file.specs.inside.Reading.{parts_left, answer_in}
use Rattle.ledger_file.proofs.Parsing.{first_gives}
use Rattle.ledger_file.proofs.Readers.{answer_reads}
use Rattle.ledger_file.proofs.cursor.Parts.answer.Goals as goal

pub returns : goal.returns
returns c = first_gives rank_or_none answer_in answer_reads
    (parts_left c.args.self.now) c.in_ok-word.field-0.now _ c.answer.result c.in_ok-word.ensures c.answer.ensures
