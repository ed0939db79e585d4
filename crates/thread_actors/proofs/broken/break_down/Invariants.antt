use Rattle.std.proofs.Common.{◌≡◌}
use Rattle.thread_actors.specs.inside.Serving.{IsReading}
use Rattle.thread_actors.proofs.broken.break_down.Given as goal

abbrev pub invariant-loop : goal.invariant-loop
invariant-loop g l = record {
  reading : IsReading l.fn.me l.desk l.roll.over l.fn.broken.fault l.fn.broken.own;
  config : l.desk.config ≡ l.fn.desk.config;
  number : l.desk.number ≡ l.fn.desk.number;
}
