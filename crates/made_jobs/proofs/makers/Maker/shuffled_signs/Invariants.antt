use Rattle.std.proofs.Common.{◌≡◌, ◌≤◌, ◌-◌, length}
use Rattle.made_jobs.specs.Made.{exchanges, shuffled}
use Rattle.made_jobs.proofs.makers.Maker.shuffled_signs.Given as goal

abbrev pub invariant-loop-place : goal.invariant-loop-place
invariant-loop-place l = record {
  long : length l.signs ≡ 9;
  some : 1 ≤ l.place;
  drawn : exchanges (l.place - 1) (l.signs, l.self.generator) ≡ shuffled l.initial.self.generator;
}
