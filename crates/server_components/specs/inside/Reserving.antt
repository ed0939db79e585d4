-- The fields of what waits.
use Rattle.std.specs.Prelude.{◌≤◌}
use Rattle.std.specs.Vec.{vec_capacity}
use Rattle.server_components.specs.Parked.{IsParked, ParkedModel}
use Rattle.server_components.specs.declared.parking.Parked.TheInside.{Inside}

-- what contracts see of what waits
abbrev pub parked_of : Inside → ParkedModel
parked_of i = record { config = i.config; me = i.me; parked = record { waiting = i.waiting.items; wishes = i.wishes.items } }

-- what is so of it
pub record IsInside (i : Inside) : Type 0 where
  pub sound : IsParked (parked_of i)
  -- each rank of the run finds room to wait, and for a wish
  pub room : i.config.ranks ≤ vec_capacity i.waiting
  pub wish_room : i.config.ranks ≤ vec_capacity i.wishes
