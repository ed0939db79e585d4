use Rattle.std.proofs.Common.{◌≡◌, [], length, refl, arith}
use Rattle.exhaust_ring.proofs.Named.{named_few}
use Rattle.exhaust_ring.proofs.keeping.Ring.begin.Goals as goal

pub put_last-requires : goal.put_last-requires
put_last-requires c =
    let config = c.args.self.now.config in
    let few = named_few config c.args.parked.now c.requires.parked.named in
    let none : c.in-Some.asked ≡ [] =
    grind (arith, c.self.invariant.list, c.take.ensures.value, c.in-Some.is, c.in-Some.ensures.value, c.requires.may, c.self.view_is) in
    let empty : length c.in-Some.asked ≡ 0 = rw none refl in
    omega (arith, few, config.ranks_within.1, empty)
