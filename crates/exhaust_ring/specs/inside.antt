-- The fields of the ring.
use Rattle.std.specs.Prelude.{◌≡◌, false, [], Some}
use Rattle.exhaust_ring.specs.Ring.{IsRing, RingModel}
use Rattle.exhaust_ring.specs.declared.keeping.Ring.TheInside.{Inside}

-- what contracts see of the fields
abbrev pub ring_of : Inside → RingModel
ring_of i = record {
  config = i.config;
  me = i.me;
  ring = record { check = i.check; runs = i.runs; wanted = i.wanted; number = i.number; mark = i.mark; tested = i.tested };
  exhausted = i.exhausted;
  shut = i.shut;
}

-- what is so of the fields
pub record IsInside (i : Inside) : Type 0 where
  pub sound : IsRing (ring_of i)
  -- while no check runs, server 0 has the list at hand
  pub list : i.me.0 ≡ 0 → i.runs ≡ false → i.list ≡ Some []
