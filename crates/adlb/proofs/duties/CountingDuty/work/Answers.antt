use Rattle.std.proofs.Common.{rules, ◌≤◌, ◌^◌}
use Rattle.adlb.proofs.duties.CountingDuty.work.Goals as goal

pub overflow_add-got : goal.overflow_add-got
overflow_add-got g c = let few : c.args.got.now ≤ 2 ^ 112 = c.requires.room tt in search rules
