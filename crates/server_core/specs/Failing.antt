-- What is left after a failure.
use Rattle.std.specs.Prelude.{Bool, true, List, Option, None, Some, slice_set}
use Rattle.adlb_unit.specs.declared.actors.Actor.{Actor}
use Rattle.adlb_unit.specs.declared.actors.Actor.TheVariants as by
use Rattle.adlb_unit.specs.declared.messages.Message.{Message}
use Rattle.adlb_unit.specs.declared.messages.Message.TheVariants as tells
use Rattle.adlb_unit.specs.declared.names.Rank.{Rank}

-- the rank of which this is the Finish letter
abbrev pub finishing : Actor → Message → Option Rank
finishing (by.Rank from) tells.Finish = Some from
finishing from message = None

-- its letter counts as handled
abbrev pub with_finished : List Bool → Option Rank → List Bool
with_finished finished None = finished
with_finished finished (Some rank) = slice_set finished rank.0 true
