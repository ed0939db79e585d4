-- What the acts of an event cost that follow the first: nothing, but the hints and the push that follow a unit which becomes free. For
-- these the first act leaves enough.
use Rattle.std.proofs.Common.{◌≡◌, ◌≤◌, ℕ, ◌+◌, ◌==◌, Bool, true, false, cond, not, ◌&&◌, List, [], ◌∷◌, ◌++◌, Option, None, Some, refl}
use Rattle.std.proofs.Common.{arith}
use Rattle.std.proofs.lemmas.Bool.{and_parts, not-true}
use Rattle.adlb_unit.specs.declared.names.Rank.{Rank}
use Rattle.adlb_unit.specs.declared.names.Server.{Server}
use Rattle.adlb_unit.specs.declared.notes.End.{End}
use Rattle.adlb_unit.specs.declared.notes.End.TheVariants as ends_by
use Rattle.exhaust_ring.specs.Ring.{may_start}
use Rattle.exhaust_ring.specs.declared.steps.RingStep.{RingStep}
use Rattle.exhaust_ring.specs.declared.steps.RingStep.TheVariants.{Ended, Exhausted, Fail, Pass, Shutdown}
use Rattle.work_queue.specs.declared.placing.Placed.{Placed}
use Rattle.server_components.specs.Parked.{is_idle, is_of}
use Rattle.server_components.specs.declared.waits.Waiting.{Waiting}
use Rattle.server_components.specs.declared.wishes.Wish.{Wish}
use Rattle.server_law.specs.Acts.{Act, Around, Starts, check_alone}
use Rattle.server_law.specs.Carried.{all_done, done}
use Rattle.server_law.specs.Endings.{checks, ends_event, finds_alone, is_noted, is_quiet, notice, notices, starts, tells_all, tells_idle}
use Rattle.server_law.specs.Endings.{tells_one}
use Rattle.server_law.specs.Finding.{Place, best_for, place_in}
use Rattle.server_law.specs.Plan.{Decider, decided}
use Rattle.server_law.specs.Pushes.{acks, acks_if}
use Rattle.server_law.specs.State.{Debt, ServerModel, ring_at}
use Rattle.server_law.specs.Waits.{ask_at, ask_next, asks_on, look_again, look_at, looks_again}
use Rattle.core_law.specs.Measures.{weigh}
use Rattle.core_law.proofs.Sums.{weigh-append}
use Rattle.core_bound_law.specs.Costs.{IsDue, cost}

-- Acts one after the other.

-- each act is due at the server as it is by then
abbrev pub AreDue : List Act → ServerModel → Type 0
AreDue [] s = Unit {0}
AreDue (a ∷ more) s = IsDue a s × AreDue more (done a s)

-- what acts cost together
abbrev pub costs : List Act → ℕ
costs list = weigh cost list

-- of acts and those after them
pub due_joined : (xs ys : List Act) (s : ServerModel) → AreDue xs s → AreDue ys (all_done xs s) → AreDue (xs ++ ys) s
due_joined [] ys s first then = then
due_joined (a ∷ xs) ys s first then = (first.0, due_joined xs ys (done a s) first.1 then)

-- the acts are due, and cost so much at most
pub record Costs (most : ℕ) (list : List Act) (s : ServerModel) : Type 0 where
  pub due : AreDue list s
  pub few : costs list ≤ most

-- no act costs nothing
pub none_costs : (s : ServerModel) → Costs 0 [] s
none_costs s = record { due = tt; few = omega arith }

-- of acts and those after them
pub cost_joined : (m n : ℕ) (xs ys : List Act) (s : ServerModel) → Costs m xs s → Costs n ys (all_done xs s) → Costs (m + n) (xs ++ ys) s
cost_joined m n xs ys s a b = record {
  due = due_joined xs ys s a.due b.due;
  few = let sum = weigh-append cost xs ys in let p = a.few in let q = b.few in omega arith;
}

-- Deciders that cost nothing.

-- the decider gives acts that cost nothing
abbrev pub IsFree : Decider → Type 0
IsFree d = (s : ServerModel) → Costs 0 (d s) s

-- each decider is free
abbrev pub AllFree : List Decider → Type 0
AllFree [] = Unit {0}
AllFree (d ∷ ds) = IsFree d × AllFree ds

-- what free deciders decide costs nothing
pub free_cost : (ds : List Decider) (s : ServerModel) → AllFree ds → Costs 0 (decided ds s) s
free_cost [] s free = none_costs s
free_cost (d ∷ ds) s free = cost_joined 0 0 (d s) (decided ds (all_done (d s) s)) s (free.0 s) (free_cost ds (all_done (d s) s) free.1)

-- of deciders and those after them
pub all_free : (ds es : List Decider) → AllFree ds → AllFree es → AllFree (ds ++ es)
all_free [] es a b = b
all_free (d ∷ ds) es a b = (a.0, all_free ds es a.1 b)

-- one act
single : (a : Act) (s : ServerModel) → cost a ≡ 0 → IsDue a s → Costs 0 (a ∷ []) s
single a s none due = record { due = (due, tt); few = omega arith }

told_free : (end : End) (before behind : List Waiting) (s : ServerModel) → Costs 0 (tells_all end before behind) s
told_free end before [] s = none_costs s
told_free end before (e ∷ behind) s =
    by_asked e.asked (λ t. told_free end before behind t) (told_free end (before ++ e ∷ []) behind s)
  where
    at : Around
    at = record { before = before; behind = behind }

    by_asked : (o : Option Server) → ((t : ServerModel) → Costs 0 (tells_all end before behind) t)
        → Costs 0 (tells_all end (before ++ e ∷ []) behind) s
        → Costs 0 (tells_one end at e o (tells_all end before behind) (tells_all end (before ++ e ∷ []) behind)) s
    by_asked None told passed = let later = told _ in record { due = (tt, later.due); few = let f = later.few in omega arith }
    by_asked (Some t) told passed = passed

-- to tell an end costs nothing
pub tells_idle_free : (end : End) → IsFree (tells_idle end)
tells_idle_free end s = told_free end [] s.kept.parked.waiting s

-- an acknowledgement costs nothing
pub acks_free : IsFree acks
acks_free s = by_debt s.kept.owed
  where
    by_debt : (o : Option Debt) → Costs 0 (acks_if o) s
    by_debt None = none_costs s
    by_debt (Some d) = single _ s refl tt

-- to ask the next server costs nothing
pub asks_on_free : (rank : Rank) → IsFree (asks_on rank)
asks_on_free rank s = by_place (place_in (is_of rank) s.kept.parked.waiting)
  where
    by_asked : (at : Around) (wish : Wish) (asked : Option Server) (to_ask : List Server) → Costs 0 (ask_next at wish asked to_ask) s
    by_asked at wish None [] = none_costs s
    by_asked at wish None (to ∷ rest) = single _ s refl tt
    by_asked at wish (Some t) to_ask = none_costs s

    by_place : (o : Option Place) → Costs 0 (ask_at o) s
    by_place None = none_costs s
    by_place (Some p) = by_asked p.at p.here.wish p.here.asked p.here.to_ask

-- to look again costs nothing
pub looks_again_free : (rank : Rank) → IsFree (looks_again rank)
looks_again_free rank s = by_place (place_in (λ e. is_of rank e && is_idle e) s.kept.parked.waiting)
  where
    by_tests : (is_done used_up : Bool) (best : Option Placed) (at : Around) (wish : Wish) (rest : List Server)
        → Costs 0 (look_again is_done used_up best at wish rest) s
    by_tests true used_up best at wish rest = single _ s refl tt
    by_tests false true best at wish rest = single _ s refl tt
    by_tests false false (Some p) at wish rest = single _ s refl tt
    by_tests false false None at wish rest = none_costs s

    by_place : (o : Option Place) → Costs 0 (look_at s.kept o) s
    by_place None = none_costs s
    by_place (Some p) = by_tests s.kept.done s.kept.exhausted (best_for s.kept p.here.wish) p.at p.here.wish p.here.to_ask

-- What follows each event.

notices_free : IsFree notices
notices_free s = by_test (is_quiet s && not (is_noted s.kept.noted s.activity)) refl
  where
    due : (is_quiet s && not (is_noted s.kept.noted s.activity)) ≡ true → is_noted s.kept.noted s.activity ≡ false
    due is = not-true (is_noted s.kept.noted s.activity) (and_parts (is_quiet s) (not (is_noted s.kept.noted s.activity)) is).1

    by_place : (t : Bool) → is_noted s.kept.noted s.activity ≡ false → Costs 0 (notice t) s
    by_place true new = single _ s refl new
    by_place false new = single _ s refl new

    by_test : (t : Bool) → (is_quiet s && not (is_noted s.kept.noted s.activity)) ≡ t → Costs 0 (cond t (notice (s.me.0 == 0)) []) s
    by_test true is = by_place (s.me.0 == 0) (due is)
    by_test false is = none_costs s

alone_free : (step : RingStep) (s : ServerModel) → Costs 0 (finds_alone step s.kept.parked.waiting) s
alone_free Exhausted s =
    let later =
    told_free ends_by.Exhausted [] s.kept.parked.waiting _ in record { due = (tt, later.due); few = let f = later.few in omega arith }
alone_free Shutdown s = single _ s refl tt
alone_free (Pass t) s = single _ s refl tt
alone_free (Fail t why) s = single _ s refl tt
alone_free Ended s = single _ s refl tt

checks_free : IsFree checks
checks_free s = by_test (may_start (ring_at s) (is_quiet s))
  where
    by_servers : (t : Bool) → Costs 0 (cond t (finds_alone (check_alone s).step s.kept.parked.waiting) (Starts ∷ [])) s
    by_servers true = alone_free (check_alone s).step s
    by_servers false = single _ s refl tt

    by_test : (t : Bool) → Costs 0 (cond t (starts s) []) s
    by_test true = by_servers (s.config.servers == 1)
    by_test false = none_costs s

-- what follows each event costs nothing
pub ends_free : AllFree ends_event
ends_free = (notices_free, (checks_free, tt))
