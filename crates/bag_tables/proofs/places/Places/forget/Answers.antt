use Rattle.std.proofs.Common.{◌∙◌, refl}
use Rattle.bag_tables.proofs.Ids.{at_id}
use Rattle.bag_tables.proofs.places.Places.forget.Goals as goal

pub returns : goal.returns
returns c = λ r n. c.remove.ensures.updates.0 (r, n) ∙ rw (at_id c.args.rank c.args.number r n) refl
