use Rattle.std.proofs.Common.{sym}
use Rattle.bag_tables.specs.Changes.{part_changed}
use Rattle.bag_tables.proofs.PartsKept.{parts_changed}
use Rattle.bag_tables.proofs.parts.Parts.change.Goals as goal

pub invariant_of-self : goal.invariant_of-self
invariant_of-self c =
    parts_changed c.self.inside.places c.take_at-self-inside.new.charges c.take_at-self-inside.result c.self.inside.held.items
    c.take_at-self-inside.new.parts.items c.in-Some.at c.args.change c.self.invariant.placed c.take_at-self-inside.ensures.changed
    c.take_at-self-inside.ensures.charged c.take_at-self-inside.ensures.counted

pub returns-in_default : goal.returns-in_default
returns-in_default c = sym (c.in_default.ensures.changed (part_changed c.args.change))
