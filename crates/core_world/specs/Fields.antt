-- The fields of a world.
use Rattle.std.specs.Prelude.{◌≡◌, None}
use Rattle.core_world.specs.declared.worlds.World.TheInside.{Inside}
use Rattle.core_world.specs.Seen.{Seen}
use Rattle.core_world.specs.Stage.{IsReached, IsWhole}

-- what is seen of the fields
abbrev pub seen_of : Inside → Seen
seen_of i = record { world = i.stage; trouble = i.trouble }

-- as long as it has not failed, no actor has, and a run leads to it
abbrev pub IsSound : Inside → Type 0
IsSound i = i.trouble ≡ None → IsWhole i.stage × IsReached i.stage
