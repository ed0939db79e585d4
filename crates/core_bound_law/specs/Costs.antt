-- What an act of a server pays for, and with what.
use Rattle.std.specs.Prelude.{ℕ, ◌+◌, ◌≤◌, ◌≡◌, Bool, true, false}
use Rattle.adlb_unit.specs.declared.messages.Message.{Message}
use Rattle.server_law.specs.Acts.{Accepts, Act, Arrives, Heard, Hints, Notes_own, Notices, Queries, does, says, takes}
use Rattle.server_law.specs.Endings.{is_noted}
use Rattle.server_law.specs.State.{ServerModel}
use Rattle.server_law.specs.Step.{raises}
use Rattle.core_law.specs.Measures.{heard_weight, said_weight, weigh}
use Rattle.core_bound_law.specs.Credits.{letters_credit, server_credit}

-- an event, and the notice that may be given of it
abbrev pub toll_of : Bool → ℕ
toll_of true = 25
toll_of false = 1

-- what a letter pays for the activity that it raises
abbrev pub toll : Message → ℕ
toll m = toll_of (raises m)

-- what an act leaves for those that follow it in its event, and what such an act costs
abbrev pub allowance : Act → ℕ
allowance (Accepts unit) = 4900
allowance (Arrives from unit) = 2400
allowance _ = 0

-- what an act costs
abbrev pub cost : Act → ℕ
cost (Hints wish) = 75
cost (Queries to id length) = 2500
cost _ = 0

-- of a notice: none was given of this activity
abbrev pub IsDue : Act → ServerModel → Type 0
IsDue Notices s = is_noted s.kept.noted s.activity ≡ false
IsDue Notes_own s = is_noted s.kept.noted s.activity ≡ false
IsDue _ s = Unit {0}

-- what the act takes pays for what it says and changes
abbrev pub ActPays : Act → ServerModel → Type 0
ActPays a s =
    said_weight letters_credit.letter s.me (says a s) + server_credit (does a s) + weigh (λ (h : Heard). toll h.message)
    (takes a) + allowance a
    ≤ heard_weight letters_credit.letter s.me (takes a) + server_credit s + cost a
