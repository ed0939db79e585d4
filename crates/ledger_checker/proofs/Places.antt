-- What the place that is found says of the ledger.
use Rattle.std.proofs.Common.{◌≡◌, ◌∙◌, ◌↔◌, ℕ, ◌+◌, List, [], ◌∷◌, Option, Some, None, Ok, Err, sym, ap, refl, arith}
use Rattle.std.specs.Option.{option_map}
use Rattle.std.specs.Prelude.{IfOk, Result}
use Rattle.adlb_unit.specs.declared.configs.Config.{Config}
use Rattle.adlb_unit.specs.declared.names.NoMemory.{NoMemory}
use Rattle.bag_ledger.specs.declared.entries.Entry.{Entry}
use Rattle.bag_ledger.specs.Bag.{Bag, start}
use Rattle.bag_ledger.specs.Step.{step}
use Rattle.bag_ledger.specs.Runs.{IsLegal, IsFirstIllegal, first_after, first_illegal}
use Rattle.bag_ledger.proofs.Bridge.{is_row}
use Rattle.bag_ledger.proofs.Legal.{run_from, none_found, found_is, is_found}
use Rattle.ledger_checker.specs.Room.{HasRoom}
use Rattle.ledger_checker.specs.Stops.{first_stop, stop_or}
use Rattle.ledger_checker.specs.declared.checking.Stop.{Stop}
use Rattle.ledger_checker.proofs.Growing.{room_kept}

-- where an entry is a step, the stop follows it
pub stop_behind : (b next : Bag) (e : Entry) (place : ℕ) (es : List Entry) → step b e ≡ Some next
    → first_stop next (place + 1) es ≡ first_stop b place (e ∷ es)
stop_behind b next e place es is = rw is refl

-- the place of the stop is that of the first illegal entry
pub stops_there : (b : Bag) (place : ℕ) (es : List Entry) → option_map (λ (s : ℕ × Entry × Bag). s.0) (first_stop b place es)
    ≡ first_illegal b place es
stops_there b place [] = refl
stops_there b place (e ∷ es) = by_step (λ next. stops_there next (place + 1) es) (step b e)
  where
    by_step : ((next : Bag) → option_map (λ (s : ℕ × Entry × Bag). s.0) (first_stop next (place + 1) es)
        ≡ first_illegal next (place + 1) es) → (next : Option Bag)
        → option_map (λ (s : ℕ × Entry × Bag). s.0) (stop_or (λ next. first_stop next (place + 1) es) place e b next)
        ≡ first_after (λ next. first_illegal next (place + 1) es) place next
    by_step later None = refl
    by_step later (Some next) = later next

-- the place of the stop that is found is that of the first illegal entry
pub place_is : (found : Option Stop) (b last : Bag) (ledger : List Entry) → option_map (λ (s : Stop). (s.place, s.entry, last)) found
    ≡ first_stop b 0 ledger → option_map (λ (s : Stop). s.place) found ≡ first_illegal b 0 ledger
place_is found b last ledger is = parts found ∙ ap (option_map (λ (s : ℕ × Entry × Bag). s.0)) is ∙ stops_there b 0 ledger
  where
    parts : (found : Option Stop) → option_map (λ (s : Stop). s.place) found
        ≡ option_map (λ (s : ℕ × Entry × Bag). s.0) (option_map (λ (s : Stop). (s.place, s.entry, last)) found)
    parts None = refl
    parts (Some s) = refl

-- a step leaves room for one step less
pub room_behind : (b next : Bag) (e : Entry) (n : ℕ) → step b e ≡ Some next → HasRoom n b → HasRoom (n + 1) next
room_behind b next e n is room = rw (is_row b next e is).2 (room_kept n b e room)

-- no place is found exactly if the ledger is legal
pub legal_found : (config : Config) (b : Bag) (ledger : List Entry) (found : Result (Option ℕ) NoMemory) → b ≡ start config
    → IfOk found (λ place. place ≡ first_illegal b 0 ledger) → IfOk found (λ place. (place ≡ None) ↔ IsLegal config ledger)
legal_found config b ledger (Err e) start_is is = tt
legal_found config b ledger (Ok place) start_is is =
    let found : place ≡ first_illegal (start config) 0 ledger = rw (← start_is) is in
    (λ none. run_from (start config) 0 ledger (sym found ∙ none), λ run. found ∙ none_found (start config) run.0 0 ledger run.1)

-- a place is found exactly if the first illegal entry is there
pub least_found : (config : Config) (b : Bag) (ledger : List Entry) (found : Result (Option ℕ) NoMemory) → b ≡ start config
    → IfOk found (λ place. place ≡ first_illegal b 0 ledger) → (k : ℕ)
    → IfOk found (λ place. (place ≡ Some k) ↔ IsFirstIllegal (start config) ledger k)
least_found config b ledger (Err e) start_is is k = tt
least_found config b ledger (Ok place) start_is is k =
    let found : place ≡ first_illegal (start config) 0 ledger = rw (← start_is) is in (
      λ some.
          let first = found_is (start config) 0 k ledger (sym found ∙ some) in
          let same : k ≡ first.0 = omega (arith, first.1) in
          rw same first.2,
      λ first. found ∙ is_found (start config) 0 k ledger first ∙ ap Some (omega arith),
    )
