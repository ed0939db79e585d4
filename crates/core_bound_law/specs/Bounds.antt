-- Calls that were begun: of a list of events, and of a world.
use Rattle.std.specs.Prelude.{ℕ, ◌+◌, List, [], ◌∷◌}
use Rattle.rank_client.specs.State.{ClientModel}
use Rattle.core_run.specs.declared.events.Event.{Event}
use Rattle.core_run.specs.declared.events.Event.TheVariants as occurs
use Rattle.core_run.specs.World.{World}
use Rattle.core_law.specs.Measures.{weigh_at}

-- 1 for the begin of a call
abbrev pub is_call : Event → ℕ
is_call (occurs.Call rank call) = 1
is_call (occurs.Deliver from to) = 0

-- how many of these events begin a call
abbrev pub begun : List Event → ℕ
begun [] = 0
begun (e ∷ events) = is_call e + begun events

-- how many calls the ranks have begun, by the numbers of their next ones
abbrev pub calls_begun : World → ℕ
calls_begun w = weigh_at (λ i (s : ClientModel). s.next) w.ranks
