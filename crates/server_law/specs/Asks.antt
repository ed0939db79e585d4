-- The rules of Ask, AskGrant and AskNone: the home of a rank that waits asks another server for it, and is answered.
use Rattle.std.specs.Prelude.{ℕ, nat_lt, Bool, true, false, ◌&&◌, [], ◌∷◌, Option, None, Some, if◌then◌else◌}
use Rattle.adlb_unit.specs.declared.names.Rank.{Rank}
use Rattle.adlb_unit.specs.declared.names.Server.{Server}
use Rattle.adlb_unit.specs.declared.notes.UnitNote.{UnitNote}
use Rattle.server_components.specs.declared.wishes.Wish.{Wish}
use Rattle.work_queue.specs.declared.placing.Placed.{Placed}
use Rattle.server_law.specs.Acts.{Act, Answers, Declines, Passes_on, Wakes}
use Rattle.server_law.specs.Finding.{Place, best_for, has_asked, place_in}
use Rattle.server_law.specs.Plan.{Plan, plan}
use Rattle.server_law.specs.State.{Kept, ServerModel, is_home}
use Rattle.server_law.specs.Waits.{asks_on, looks_again}

-- Where the server is asked.

-- the rank is one of the run, and the sender is its home
abbrev pub expects_ask : ServerModel → Server → Rank → Bool
expects_ask s from rank = nat_lt rank.0 s.config.ranks && is_home s.config from rank

-- where the problem is done; where there is a unit; else
abbrev pub answer : Bool → Option Placed → Server → Wish → Act
answer true best from wish = Declines from wish
answer false (Some p) from wish = Answers from wish p.unit
answer false None from wish = Declines from wish

-- as the server is
abbrev pub answer_now : Kept → Server → Wish → Act
answer_now k from wish = answer k.done (best_for k wish) from wish

-- Ask: a unit is pinned to the rank, or its wish is kept
abbrev pub ask_rule : ServerModel → Server → Wish → Option Plan
ask_rule s from wish = if expects_ask s from wish.rank then plan (answer_now s.kept from wish) [] else None

-- At the rank's home, where the sender was asked for it in this call: it has pinned a unit.

-- the note is passed on to the rank, if a server was asked for it
abbrev pub pass_on : Place → Option Server → UnitNote → Option Plan
pass_on p None note = None
pass_on p (Some asked) note = plan (Passes_on p.at p.here.wish asked p.here.to_ask note) []

-- it is passed on to the rank that waits
abbrev pub pass_at : Option Place → UnitNote → Option Plan
pass_at None note = None
pass_at (Some p) note = pass_on p p.here.asked note

-- AskGrant: the unit is passed on to the rank
abbrev pub grant_rule : ServerModel → Server → Rank → ℕ → UnitNote → Option Plan
grant_rule s from rank request note = pass_at (place_in (has_asked from rank request) s.kept.parked.waiting) note

-- It had none: the rank is idle, and what is here is looked at again.

-- the rank gets a unit here, or its next server is asked
abbrev pub wake : Place → Option Server → Option Plan
wake p None = None
wake p (Some asked) =
    plan (Wakes p.at p.here.wish asked p.here.to_ask) (looks_again p.here.wish.rank ∷ asks_on p.here.wish.rank ∷ [])

-- so for the rank that waits
abbrev pub wake_at : Option Place → Option Plan
wake_at None = None
wake_at (Some p) = wake p p.here.asked

-- AskNone: the home looks again, and asks on
abbrev pub none_rule : ServerModel → Server → Rank → ℕ → Option Plan
none_rule s from rank request = wake_at (place_in (has_asked from rank request) s.kept.parked.waiting)
