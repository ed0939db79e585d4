use Rattle.std.proofs.lemmas.List.Elements.{All-rest}
use Rattle.packed_ledger.specs.inside.Chunks.{IsFilled}
use Rattle.packed_ledger.proofs.kept.turn.Goals as goal

pub returns-in-Some-clause-filled : goal.returns-in-Some-clause-filled
returns-in-Some-clause-filled c = All-rest IsFilled c.in-Some.next c.pop_front.new.self.items c.args.full.now.items
    c.in-Some.ensures.items c.requires.filled
