use Rattle.ledger_file.proofs.Beginnings.{no_text_of_two, no_text, one_line}
use Rattle.ledger_file.proofs.laws.text_laws.Goals as goal

pub returns-clause-no_text_of_two : goal.returns-clause-no_text_of_two
returns-clause-no_text_of_two c = no_text_of_two

pub returns-clause-no_text : goal.returns-clause-no_text
returns-clause-no_text c = λ config ledger bytes line refused is. no_text config ledger bytes line is refused

pub returns-clause-one_line : goal.returns-clause-one_line
returns-clause-one_line c = one_line
