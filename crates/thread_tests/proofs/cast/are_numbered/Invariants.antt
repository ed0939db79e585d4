use Rattle.std.proofs.Common.{◌≡◌, ◌<◌, ℕ, Some, slice_get}
use Rattle.actor_desk.specs.Desks.{DeskModel}
use Rattle.thread_tests.proofs.cast.are_numbered.Given as goal

-- the desks before this place stand by their numbers
abbrev pub invariant-loop-place : goal.invariant-loop-place
invariant-loop-place g l = (k : ℕ) (d : DeskModel) → k < l.place → slice_get l.desks k ≡ Some d → d.number ≡ k
