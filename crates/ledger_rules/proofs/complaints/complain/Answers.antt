use Rattle.std.proofs.Common.{◌∙◌, sym}
use Rattle.ledger_rules.proofs.Finding.{broken_from}
use Rattle.ledger_rules.proofs.complaints.complain.Goals as goal

pub unreachable-requires : goal.unreachable-requires
unreachable-requires c = broken_from c.args.machine.now c.args.stop.entry c.requires.stops (sym c.first_broken.ensures ∙ c.in-None.is)
