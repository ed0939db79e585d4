-- How a rule is written: the act that takes the letter, and what is decided after it, each time by the server as it is by then.
use Rattle.std.specs.Prelude.{List, [], ◌∷◌, ◌++◌, Option, Some}
use Rattle.server_law.specs.Acts.{Act}
use Rattle.server_law.specs.Carried.{all_done, done}
use Rattle.server_law.specs.State.{ServerModel}

-- what follows, by the server as it is by then
abbrev pub Decider : Type 0
Decider = ServerModel → List Act

-- the act that takes a letter, and what follows it
pub record Plan : Type 0 where
  pub first : Act
  pub follow : List Decider

-- a letter that has a step, with its plan
abbrev pub plan : Act → List Decider → Option Plan
plan first follow = Some (record { first = first; follow = follow })

-- what the deciders decide, each when the acts of those before are carried out
abbrev pub decided : List Decider → ServerModel → List Act
decided [] s = []
decided (d ∷ ds) s = d s ++ decided ds (all_done (d s) s)

-- the acts of the plan, after which comes what follows each event
abbrev pub in_order : List Decider → ServerModel → Plan → List Act
in_order last s p = p.first ∷ decided (p.follow ++ last) (done p.first s)
