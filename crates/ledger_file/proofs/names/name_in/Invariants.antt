use Rattle.std.proofs.Common.{◌≡◌, drop}
use Rattle.ledger_file.specs.inside.Names.{name_in}
use Rattle.ledger_file.proofs.names.name_in.Given as goal

abbrev pub invariant-loop-name : goal.invariant-loop-name
invariant-loop-name l = name_in (drop l.name-index l.names) l.word ≡ name_in l.names l.word
