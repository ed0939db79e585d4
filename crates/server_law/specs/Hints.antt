-- The rule of Hint, and the hints that a free unit makes.
use Rattle.std.specs.Prelude.{ℕ, nat_lt, Bool, ◌&&◌, not, List, [], ◌∷◌, ◌++◌, Option, None, Some, if◌then◌else◌}
use Rattle.adlb_unit.specs.declared.names.Rank.{Rank}
use Rattle.adlb_unit.specs.declared.names.Server.{Server}
use Rattle.adlb_unit.specs.declared.units.Unit.{Unit}
use Rattle.server_components.specs.Calls.{is_since, is_soft_for}
use Rattle.server_components.specs.declared.wishes.Wish.{Wish}
use Rattle.server_law.specs.Acts.{Act, Drops_hint, Hints, Is_hinted}
use Rattle.server_law.specs.Finding.{Place, permits, place_in}
use Rattle.server_law.specs.Plan.{Plan, plan}
use Rattle.server_law.specs.State.{ServerModel, is_home}
use Rattle.server_law.specs.Waits.{asks_on}

-- A unit that is free, and goes to no rank that waits here, takes off the wishes of ranks to which it is permitted. First comes that of the
-- rank which its target names before others, then each in its order. The rank's home is told.

-- a hint for each wish that passes
abbrev pub hints_if : (Wish → Bool) → List Wish → List Act
hints_if test [] = []
hints_if test (w ∷ wishes) = if test w then Hints w ∷ hints_if test wishes else hints_if test wishes

-- the unit is permitted to the wish, and names its rank before others
abbrev pub is_first_for : Unit → Wish → Bool
is_first_for unit w = permits unit w && is_soft_for unit.target w.rank

-- the unit is permitted to the wish, and does not name its rank
abbrev pub is_later_for : Unit → Wish → Bool
is_later_for unit w = permits unit w && not (is_soft_for unit.target w.rank)

-- a hint for each wish to which the unit is permitted, in order
abbrev pub hint_all : Unit → List Wish → List Act
hint_all unit wishes = hints_if (is_first_for unit) wishes ++ hints_if (is_later_for unit) wishes

-- A hint comes.

-- the rank is one of the run, and at home here
abbrev pub expects_hint : ServerModel → Rank → Bool
expects_hint s rank = nat_lt rank.0 s.config.ranks && is_home s.config s.me rank

-- where the rank waits since this call, the sender is to be asked; else it comes too late
abbrev pub hint_at : Server → Rank → ℕ → Option Place → Option Plan
hint_at from rank request None = plan (Drops_hint from rank request) []
hint_at from rank request (Some p) = plan (Is_hinted p.at p.here from) (asks_on p.here.wish.rank ∷ [])

-- Hint: the sender is to be asked
abbrev pub hint_rule : ServerModel → Server → Rank → ℕ → Option Plan
hint_rule s from rank request =
    if expects_hint s rank then hint_at from rank request (place_in (is_since rank request) s.kept.parked.waiting) else None
