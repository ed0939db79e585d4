-- A push begins, after a put that was accepted.
use Rattle.std.specs.Prelude.{Bool, true, false, List, [], ◌∷◌, Option, None, Some}
use Rattle.server_components.specs.Pushes.{query_of}
use Rattle.server_components.specs.declared.pushing.PushQuery.{PushQuery}
use Rattle.server_law.specs.Acts.{Act, Queries}
use Rattle.server_law.specs.Plan.{Decider}

-- the server that is next in turn is asked for room, if the queue is pressed, no push stands, and a unit may move
abbrev pub queries : Option PushQuery → List Act
queries None = []
queries (Some q) = Queries q.to q.id q.length ∷ []

-- after a put that was accepted a push may begin
abbrev pub presses : Bool → Decider
presses false s = []
presses true s = queries (query_of s.config s.me s.kept.pushing s.kept.queue)
