-- What follows for a rank that waits.
use Rattle.std.specs.Prelude.{Bool, true, false, ◌&&◌, List, [], ◌∷◌, Option, None, Some}
use Rattle.adlb_unit.specs.declared.names.Rank.{Rank}
use Rattle.adlb_unit.specs.declared.names.Server.{Server}
use Rattle.adlb_unit.specs.declared.notes.End.TheVariants as ends_by
use Rattle.server_components.specs.Parked.{is_idle, is_of}
use Rattle.server_components.specs.declared.wishes.Wish.{Wish}
use Rattle.work_queue.specs.declared.placing.Placed.{Placed}
use Rattle.server_law.specs.Acts.{Act, Around, Asks_on, Gives, Tells}
use Rattle.server_law.specs.Finding.{Place, best_for, place_in}
use Rattle.server_law.specs.Plan.{Decider}
use Rattle.server_law.specs.State.{Kept}

-- Where it is idle, the first of the servers that are still to be asked is asked.

-- the next server is asked, if no server is unanswered
abbrev pub ask_next : Around → Wish → Option Server → List Server → List Act
ask_next at wish None [] = []
ask_next at wish None (to ∷ rest) = Asks_on at wish to rest ∷ []
ask_next at wish (Some asked) to_ask = []

-- the next server is asked for the rank that waits there
abbrev pub ask_at : Option Place → List Act
ask_at None = []
ask_at (Some p) = ask_next p.at p.here.wish p.here.asked p.here.to_ask

-- the next server is asked for the rank
abbrev pub asks_on : Rank → Decider
asks_on rank s = ask_at (place_in (is_of rank) s.kept.parked.waiting)

-- Where it has become idle: where the problem is done; where all work is used up; where there is a unit; else nothing.

-- the rank is told an end, or gets the best unit, if there is one
abbrev pub look_again : Bool → Bool → Option Placed → Around → Wish → List Server → List Act
look_again true exhausted best at wish rest = Tells at wish rest ends_by.NoMoreWork ∷ []
look_again false true best at wish rest = Tells at wish rest ends_by.Exhausted ∷ []
look_again false false (Some p) at wish rest = Gives at wish rest p.unit ∷ []
look_again false false None at wish rest = []

-- so for the rank that waits there
abbrev pub look_at : Kept → Option Place → List Act
look_at k None = []
look_at k (Some p) = look_again k.done k.exhausted (best_for k p.here.wish) p.at p.here.wish p.here.to_ask

-- the home looks again for the rank, if it is idle
abbrev pub looks_again : Rank → Decider
looks_again rank s = look_at s.kept (place_in (λ e. is_of rank e && is_idle e) s.kept.parked.waiting)
