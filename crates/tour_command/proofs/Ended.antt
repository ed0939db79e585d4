-- What follows from how a run over cities ended, where no read failed.
use Rattle.std.proofs.Common.{◌≡◌, ◌⊎◌, ◌<◌, ◌≤◌, ◌+◌, ℕ, List, length, Option, Some, None, Result, Ok, Err, sym, ap, ◌∙◌}
use Rattle.adlb_io.specs.Outside.{Rises}
use Rattle.run_command.specs.Ends.{IsFine, Scene, input_limit}
use Rattle.run_command.specs.Kept.{IsKept, Kept}
use Rattle.run_command.specs.declared.faults.Fault.{Fault}
use Rattle.run_command.specs.declared.faults.Fault.TheVariants.{Input, Memory, TooLarge}
use Rattle.run_command.proofs.Laws as ends
use Rattle.tour_app.specs.declared.outcomes.TourOutcome.{TourOutcome}
use Rattle.tour_command.specs.Ends.{EndsWith}
use Rattle.tour_command.specs.Tours.{ArePrograms, FollowsTours, HasCities, RefusesLine, TellsLeast}
use Rattle.tour_search.specs.Cities.{CitiesModel}
use Rattle.tour_search.specs.Reading.{input_cities}
use Rattle.tour_search.specs.declared.faults.CitiesWhy.{CitiesWhy}

-- what was read is not refused
not_both : {X E : Type 0} (r : Result X E) (x : X) (e : E) → r ≡ Ok x → r ≡ Err e → ⊥
not_both (Ok y) x e ok err = absurd (cc)
not_both (Err y) x e ok err = absurd (cc)

-- the fault of a refused line
abbrev fault_with : {X : Type 0} → Result X (ℕ × CitiesWhy) → Option (Fault CitiesWhy)
fault_with (Ok x) = None
fault_with (Err e) = Some (Input e.0 e.1)

module _ (before after : Scene) (fault : Option (Fault CitiesWhy)) (kept : Option (Kept TourOutcome)) (bytes : List ℕ)
    (ended : EndsWith before after fault kept) (told : before.left ≡ Some bytes) (no_read : Rises before.reads after.reads → ⊥)
  where
    -- an accepted input is answered
    pub accepted_fine : (cities : CitiesModel) → length bytes ≤ input_limit → input_cities bytes ≡ Ok cities →
        (Rises before.writes after.writes → ⊥) → (Rises before.refused after.refused → ⊥) → IsFine fault
    accepted_fine cities short is no_write no_refusal =
        ends.asked_fine HasCities RefusesLine (IsKept (λ ranks. ArePrograms) FollowsTours) (λ c k t. TellsLeast c t) (λ c. Unit {0})
        before after kept bytes told no_read (λ line why at. not_both (input_cities bytes) cities (line, why) is at) short no_write
        no_refusal fault ended

    -- a refused one is refused at its line
    pub refused_at_line : (line : ℕ) (why : CitiesWhy) → length bytes ≤ input_limit → input_cities bytes ≡ Err (line, why) →
        (fault ≡ Some (Input line why)) ⊎ (fault ≡ Some Memory)
    refused_at_line line why short is =
        ends.refused_there HasCities RefusesLine (IsKept (λ ranks. ArePrograms) FollowsTours) (λ c k t. TellsLeast c t) (λ c. Unit {0})
        before after kept bytes told no_read (λ cities ok. not_both (input_cities bytes) cities (line, why) ok is) short line why
        (λ l w at. ap fault_with (sym at ∙ is)) fault ended

    -- one that is too long is told as such
    pub overlong_told : input_limit < length bytes → (fault ≡ Some (TooLarge (input_limit + 1))) ⊎ (fault ≡ Some Memory)
    overlong_told long =
        ends.overlong_told HasCities RefusesLine (IsKept (λ ranks. ArePrograms) FollowsTours) (λ c k t. TellsLeast c t) (λ c. Unit {0})
        before after kept bytes told no_read long fault ended
