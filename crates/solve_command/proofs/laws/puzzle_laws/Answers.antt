use Rattle.solve_command.proofs.Ended.{accepted_fine, overlong_told, refused_at_line, short_fine}
use Rattle.solve_report.specs.Told.{IsTold}
use Rattle.solve_command.proofs.laws.puzzle_laws.Goals as goal

pub returns-clause-complete : goal.returns-clause-complete
returns-clause-complete c = λ settings ranks wanted before after fault kept bytes ends told no_read short fine no_write no_refusal.
    accepted_fine settings ranks (IsTold (λ tail. tail) settings wanted) before after fault kept bytes ends told no_read short fine
    no_write no_refusal

pub returns-clause-refused : goal.returns-clause-refused
returns-clause-refused c = λ settings ranks wanted before after fault kept bytes ends told no_read line why short is.
    refused_at_line settings ranks (IsTold (λ tail. tail) settings wanted) before after fault kept bytes ends told no_read line why
    short is

pub returns-clause-overlong : goal.returns-clause-overlong
returns-clause-overlong c = λ settings ranks wanted before after fault kept bytes ends told no_read long.
    overlong_told settings ranks (IsTold (λ tail. tail) settings wanted) before after fault kept bytes ends told no_read long

pub returns-clause-short : goal.returns-clause-short
returns-clause-short c = λ settings ranks wanted before after fault kept bytes ends told few fine.
    short_fine settings ranks (IsTold (λ tail. tail) settings wanted) before after fault kept bytes ends told few fine
