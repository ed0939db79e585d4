use Rattle.std.proofs.Common.{◌∙◌}
use Rattle.bag_tables.proofs.Slots.{all_empty}
use Rattle.bag_tables.proofs.promises.Promises.is_empty.Goals as goal

pub returns : goal.returns
returns c = c.are_empty.ensures ∙ rw (c.as_slice.ensures.value, ← c.self.view_is) (all_empty c.self.inside.slots.items)
