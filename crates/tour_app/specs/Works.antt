-- The work of a run over cities: its units, what the work on each makes, and what stays with a rank.
use Rattle.std.specs.Prelude.{ℕ, ◌-◌, ◌==◌, ◌^◌, nat_le, nat_lt, pos, Bool, true, false, not, ◌&&◌, is_none, option_to_list, List, [], ◌∷◌}
use Rattle.std.specs.Prelude.{◌++◌, length, map, filter, flat_map, Option, Some, None, if◌then◌else◌}
use Rattle.std.specs.List.{range_with_len}
use Rattle.adlb_unit.specs.declared.names.Rank.{Rank}
use Rattle.adlb_unit.specs.declared.names.Target.TheVariants.{Any, Only}
use Rattle.adlb_unit.specs.declared.names.WorkType.{WorkType}
use Rattle.tour_law.specs.Tours.{cost}
use Rattle.tour_law.specs.Search.{is_better, pair_best}
use Rattle.work_law.specs.Work.{Arrival, Form, Work}
use Rattle.work_law.specs.Books.{Task, Begin, Put}
use Rattle.tour_app.specs.Bodies.{answer_in, body_of, common_part, pair_in, shared}
use Rattle.tour_app.specs.Starts.{StartModel, costs}
use Rattle.tour_app.specs.declared.units.TourUnit.{TourUnit}
use Rattle.tour_app.specs.declared.units.TourUnit.TheVariants.{Pair, Answer}

-- How units are put and read.

-- the rank that has the answers
abbrev pub answer_rank : Rank
answer_rank = record { 0 = 0 }

-- how a unit is put
abbrev pub form : TourUnit → Form
form (Pair a b) = record { kind = record { 0 = 0 }; prio = pos 0; target = Any; answer = Some answer_rank; body = body_of (Pair a b) }
form (Answer cost tour) =
    record { kind = record { 0 = 1 }; prio = pos 100; target = Only answer_rank; answer = None; body = body_of (Answer cost tour) }

-- a unit can be put if its numbers fit their places
abbrev pub fits : TourUnit → Bool
fits (Pair a b) = true
fits (Answer cost tour) = nat_lt cost (2 ^ 64) && nat_le (length tour) 12

-- the answer rank is rank 0
abbrev pub is_for_answers : Option Rank → Bool
is_for_answers None = false
is_for_answers (Some rank) = rank.0 == 0

-- the unit of a work type, answer rank and body
abbrev pub unit_of : ℕ → Option Rank → List ℕ → Option TourUnit
unit_of kind answer body =
    if (kind == 0) && is_for_answers answer then pair_in body
    else if (kind == 1) && is_none answer then answer_in body
    else None

-- the unit that is read of a fetch
abbrev pub read : WorkType → Option Rank → List ℕ → Option TourUnit
read kind answer body = unit_of kind.0 answer body

-- What the work on a pair makes.

-- two different cities from 1 on
abbrev pub is_pair : ℕ → ℕ → ℕ → Bool
is_pair n a b = (nat_le 1 a && nat_lt a n) && (nat_le 1 b && nat_lt b n) && not (a == b)

-- the best of the first tour and of those that begin with 0 and a pair
abbrev pub pair_tour : StartModel → ℕ → ℕ → List ℕ
pair_tour s a b = pair_best s.cities.count (costs s) s.first a b

-- the answer of a pair: that tour, if it is better than the first
unfoldable pub answer_of : StartModel → ℕ → ℕ → Option TourUnit
answer_of s a b =
    if is_better (costs s) (pair_tour s a b) s.first then Some (Answer (cost (costs s) (pair_tour s a b)) (pair_tour s a b)) else None

-- the answer to a pair over a start, if it has one
abbrev pub answer_over : Option StartModel → ℕ → ℕ → Option TourUnit
answer_over None a b = None
answer_over (Some s) a b = if is_pair s.cities.count a b then answer_of s a b else None

-- what the work on a unit makes, if it makes something
abbrev pub made_of : List ℕ → TourUnit → Option TourUnit
made_of common (Pair a b) = answer_over (shared common) a b
made_of common (Answer cost tour) = None

-- what it makes, as a list
abbrev pub makes : List ℕ → TourUnit → List TourUnit
makes common unit = option_to_list (made_of common unit)

-- the common part is of use for a pair alone
abbrev pub over : TourUnit → List ℕ → List ℕ
over (Pair a b) common = common
over (Answer cost tour) common = []

-- tours as a program of units
abbrev pub tours : Work TourUnit
tours = record { form = form; fits = fits; read = read; over = over; makes = makes }

-- What stays with a rank: the tours that come to it, with their costs.

-- the tour of an answer
abbrev pub found_in : TourUnit → List (ℕ × List ℕ)
found_in (Pair a b) = []
found_in (Answer cost tour) = (cost, tour) ∷ []

-- the tours of all answers that came
abbrev pub found : List (Arrival TourUnit) → List (ℕ × List ℕ)
found came = flat_map (λ (a : Arrival TourUnit). found_in a.unit) came

-- the tours among units that are still to be put
abbrev pub found_at : Task TourUnit → List (ℕ × List ℕ)
found_at (Put unit) = found_in unit
found_at _ = []

-- the tours of answers that were still to be put
abbrev pub left_over : List (Task TourUnit) → List (ℕ × List ℕ)
left_over tasks = flat_map found_at tasks

-- What a rank is to do: if it has cities, and they are four at least, it begins a batch in which it puts each pair.

-- the pairs of different cities from 1 on, in order
abbrev pub cities : ℕ → List ℕ
cities n = range_with_len 1 (n - 1)

-- the pairs of a city with these others
abbrev pub pairs_among : ℕ → List ℕ → List TourUnit
pairs_among a others = map (Pair a) (filter (λ b. not (b == a)) others)

-- the pairs of a city
abbrev pub pairs_with : ℕ → ℕ → List TourUnit
pairs_with n a = pairs_among a (cities n)

-- all pairs of two cities other than city 0
abbrev pub pairs : ℕ → List TourUnit
pairs n = flat_map (pairs_with n) (cities n)

-- a batch of all pairs, if there are four cities or more
abbrev pub tasks : Option StartModel → List (Task TourUnit)
tasks None = []
tasks (Some s) = if nat_lt s.cities.count 4 then [] else Begin (common_part s) (pairs s.cities.count) ∷ []

-- the tour that it has at first
abbrev pub known : Option StartModel → List (ℕ × List ℕ)
known None = []
known (Some s) = (cost (costs s) s.first, s.first) ∷ []
