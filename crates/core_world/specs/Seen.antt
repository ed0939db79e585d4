-- What contracts see of a world that is stepped by hand.
use Rattle.std.specs.Prelude.{◌&&◌, List, [], Option, None, if◌then◌else◌}
use Rattle.adlb_unit.specs.Links.{is_within, place_of}
use Rattle.adlb_unit.specs.declared.actors.Actor.{Actor}
use Rattle.adlb_unit.specs.declared.configs.Config.{Config}
use Rattle.adlb_unit.specs.declared.letters.Letter.{Letter}
use Rattle.adlb_unit.specs.declared.notes.Trouble.{Trouble}
use Rattle.core_run.specs.World.{World, link, start}

-- a world, and what made it fail
pub record Seen : Type 0 where
  pub world : World
  -- what made it fail, if anything did
  pub trouble : Option Trouble

-- the world at the start
abbrev pub new_world : Config → Seen
new_world config = record { world = start config; trouble = None }

-- the letters from one actor to another that were sent and not handled; none where one of the two is no actor of the run
abbrev pub under_way : World → Actor → Actor → List Letter
under_way w from to =
    if is_within w.config from && is_within w.config to then link w.links (place_of w.config from) (place_of w.config to) else []
