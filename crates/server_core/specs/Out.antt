-- What an event has sent and entered so far.
use Rattle.std.specs.Prelude.{ℕ, ◌+◌, ◌-◌, ◌*◌, ◌<◌, ◌≤◌, List, [], ◌∷◌, ◌++◌, length, All}
use Rattle.adlb_unit.specs.declared.actors.Actor.{Actor}
use Rattle.adlb_unit.specs.declared.actors.Actor.TheVariants as by
use Rattle.adlb_unit.specs.declared.configs.Config.{Config}
use Rattle.adlb_unit.specs.declared.letters.Sending.{Sending}
use Rattle.bag_ledger.specs.declared.entries.Entry.{Entry}
use Rattle.server_law.specs.Acts.{Act}
use Rattle.server_law.specs.Carried.{Served, carried, done, joined}
use Rattle.server_law.specs.Plan.{Plan, decided}
use Rattle.server_law.specs.State.{ServerModel}

-- what an event has sent and entered
pub record Out : Type 0 where
  pub sends : List Sending
  pub entries : List Entry
  -- how many letters more there is room for, and how many entries
  pub room : ℕ

-- nothing yet, with this room
abbrev pub nothing : ℕ → Out
nothing room = record { sends = []; entries = []; room = room }

-- one entry more, one letter, and both
abbrev pub with_entry : Out → Entry → Out
with_entry out entry = record { sends = out.sends; entries = out.entries ++ entry ∷ []; room = out.room - 1 }

-- with one letter more
abbrev pub with_letter : Out → Sending → Out
with_letter out sending = record { sends = out.sends ++ sending ∷ []; entries = out.entries; room = out.room - 1 }

-- with one letter and one entry more
abbrev pub with_answer : Out → Sending → Entry → Out
with_answer out sending entry = record { sends = out.sends ++ sending ∷ []; entries = out.entries ++ entry ∷ []; room = out.room - 1 }

-- the server with what it has sent and entered
abbrev pub made : ServerModel → Out → Served
made s out = record { state = s; sends = out.sends; entries = out.entries }

-- the acts, after what was sent and entered before
abbrev pub going_on : Out → List Act → ServerModel → Served
going_on out acts s = joined out.sends out.entries (carried acts s)

-- and so the acts of a plan
abbrev pub planned : Out → Plan → ServerModel → Served
planned out p s = going_on out (p.first ∷ decided p.follow (done p.first s)) s

-- more letters than an event sends
abbrev pub event_letters : ℕ
event_letters = 128

-- the actor is one of the run
abbrev pub IsWithin : Config → Actor → Type 0
IsWithin config (by.Rank rank) = rank.0 < config.ranks
IsWithin config (by.Server server) = server.0 < config.servers

-- there are numbers for the places of the letters that there is room for
abbrev pub HasPlaces : ServerModel → Out → Type 0
HasPlaces s out = All (λ n. n + out.room ≤ event_letters * s.clock) s.sent

-- and there is room to tell each rank that waits, to hint for each wish, and for `more` letters and entries besides
pub record HasRoom (s : ServerModel) (out : Out) (more : ℕ) : Type 0 where
  pub tells : length s.kept.parked.waiting + length s.kept.parked.wishes + more ≤ out.room
  pub places : HasPlaces s out
