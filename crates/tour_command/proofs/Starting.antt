-- The ends of a run over cities for which an allocation failed before anything was done.
use Rattle.std.proofs.Common.{◌≡◌, Some, None}
use Rattle.adlb_unit.specs.declared.configs.Config.{Config}
use Rattle.run_command.specs.Ends.{Scene, StartsNone}
use Rattle.run_command.specs.Kept.{IsKept}
use Rattle.run_command.specs.declared.faults.Fault.TheVariants.{Memory}
use Rattle.run_command.proofs.Ending.{ends_early}
use Rattle.tour_command.specs.Ends.{FindsTour}
use Rattle.tour_command.specs.Tours.{ArePrograms, FollowsTours, HasCities, RefusesLine, TellsLeast}

-- nothing was written, and no thread was started
pub toured_early : (IsOf : Config → Type 0) (before after : Scene) → after.taken ≡ before.taken → StartsNone before after →
    FindsTour IsOf before after (Some Memory) None
toured_early IsOf before after same none = record {
  ends =
      ends_early HasCities RefusesLine (IsKept (λ ranks. ArePrograms) FollowsTours) (λ c k t. TellsLeast c t) (λ c. Unit {0})
      before after Memory tt same;
  run = record { numbers = tt; threaded = λ e. tt; untouched = λ e. none };
}
