use Rattle.std.proofs.Common.{◌∙◌, ◌==◌, ◌&&◌, rules}
use Rattle.bag_tables.specs.Places.{place_at}
use Rattle.bag_tables.proofs.Ids.{at_id, now_noted, same_place}
use Rattle.bag_tables.proofs.places.Places.note.Goals as goal

pub returns-in-Ok-clause-noted : goal.returns-in-Ok-clause-noted
returns-in-Ok-clause-noted c = λ r n.
    c.in-Ok.ensures.updates.0 (r, n)
    ∙ rw (at_id c.args.rank c.args.number r n)
    (now_noted c.args.place ((c.args.rank == r) && (c.args.number == n)) (place_at c.args.self.now c.args.rank c.args.number)
    (place_at c.args.self.now r n) (search rules) (same_place c.args.self.now c.args.rank c.args.number r n))
