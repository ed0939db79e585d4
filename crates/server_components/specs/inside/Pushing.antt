-- The fields of the state of pushes.
use Rattle.server_components.specs.Pushes.{IsPushModel, PushModel}
use Rattle.server_components.specs.declared.pushing.PushState.TheInside.{Inside}

-- what contracts see of the fields
abbrev pub pushes_of : Inside → PushModel
pushes_of i = record { config = i.config; me = i.me; pushing = record { push = i.push; pushes = i.pushes } }

-- what is so of the fields
abbrev pub IsInside : Inside → Type 0
IsInside i = IsPushModel (pushes_of i)
