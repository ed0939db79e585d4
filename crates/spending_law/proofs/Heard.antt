-- How many calls of its program one rank has heard in a run of its own, whatever the run told beyond them.
use Rattle.std.proofs.Common.{◌≡◌, ◌≤◌, ◌++◌, List, length, Some, ap, arith, refl, subst, sym}
use Rattle.adlb_unit.specs.declared.configs.Config.{Config}
use Rattle.bag_ledger.specs.declared.entries.Entry.{Entry}
use Rattle.bag_ledger.specs.declared.entries.Said.{Said}
use Rattle.bag_ledger.specs.Bag.{Bag, start}
use Rattle.bag_ledger.specs.Runs.{IsRun, calls}
use Rattle.balance_law.specs.Balanced.{over_ranks}
use Rattle.cover_law.specs.Begun.{begun_by}
use Rattle.cover_law.proofs.Begun.{only, zeroth}
use Rattle.cover_law.proofs.Fronts.{front_at}
use Rattle.job_text.specs.declared.jobs.Job.{Job}
use Rattle.puzzle_app.specs.Follows.{IsSoFar}
use Rattle.puzzle_app.specs.declared.program.PuzzleProgram.{PuzzleProgram}
use Rattle.spending_law.specs.Most.{most_calls}
use Rattle.spending_law.specs.UnderWay.{AreUnderWay, IsRankUnderWay, works}
use Rattle.spending_law.proofs.Together.{few_calls}

module _ (config : Config) (ledger : List Entry) (last : Bag) (program : PuzzleProgram) (jobs : List Job) (said more : List Said)
    (run : IsRun (start config) ledger last) (one : config.ranks ≡ 1) (its : program.jobs ≡ Some jobs) (so : IsSoFar program said)
    (is : calls config ledger zeroth ≡ said ++ more)
  where
    -- The run is cut where the rank has heard these calls and no more: up to there its calls are those of the program so far.
    pub heard_few : length said ≤ most_calls program.settings.budget program.settings.grain 1 jobs
    heard_few =
        let f = front_at (start config) last ledger zeroth said more run is in
        let alone : IsRankUnderWay config f.front f.middle program.settings jobs zeroth = record {
          program = program;
          settings_are = refl;
          jobs_are = its;
          stands = works (subst (λ l. IsSoFar program l) (sym f.calls_are) so);
        } in
        let under_way : AreUnderWay config f.front f.middle program.settings jobs = λ rank below.
        only (λ r. IsRankUnderWay config f.front f.middle program.settings jobs r) alone rank.0 (omega (arith, below, one)) in
        let few = few_calls config f.front f.middle program.settings jobs f.run under_way in
        let all = ap (λ n. over_ranks n (begun_by config f.front f.middle)) one in
        omega (arith, few, all, one, ap length f.calls_are)
