use Rattle.std.proofs.Common.{arith}
use Rattle.work_queue.proofs.Runs.{is_run, run_goes_on}
use Rattle.work_queue.proofs.indexing.run_at.Goals as goal

pub overflow_sub-end : goal.overflow_sub-end
overflow_sub-end c =
    let on = run_goes_on c.args.entries.now.items c.args.place c.run_end-end.result c.at-first.result c.requires.order c.requires.there
    c.at-first.ensures c.run_end-end.ensures.point in
    omega (arith, on)

pub returns : goal.returns
returns c = is_run c.args.entries.now.items c.args.place c.run_end-end.result c.at-first.result c.requires.order c.requires.there
    c.at-first.ensures c.run_end-end.ensures.point c.at.result c.at.ensures c.run_end-end.ensures.within
