-- How many calls of its program one rank has heard in a run of its own, whatever the run told beyond them.
use Rattle.std.proofs.Common.{◌≡◌, ◌≤◌, ◌++◌, List, length, Some, ap, arith, subst, sym}
use Rattle.adlb_unit.specs.declared.configs.Config.{Config}
use Rattle.bag_ledger.specs.declared.entries.Entry.{Entry}
use Rattle.bag_ledger.specs.declared.entries.Said.{Said}
use Rattle.bag_ledger.specs.Bag.{Bag, start}
use Rattle.bag_ledger.specs.Runs.{IsRun, calls}
use Rattle.balance_law.specs.Balanced.{over_ranks}
use Rattle.cover_law.specs.Begun.{begun_by, pending_of}
use Rattle.cover_law.proofs.Begun.{only, zeroth}
use Rattle.cover_law.proofs.Fronts.{front_at}
use Rattle.flow_law.specs.declared.Definition.{Definition}
use Rattle.flow_run_law.specs.Desk.{Desk, Goes, at_start}
use Rattle.flow_run_law.specs.Run.{flow_of}
use Rattle.flow_run_law.specs.Units.{AreForms, Forms}
use Rattle.flow_bound_law.specs.Most.{most_calls}
use Rattle.flow_bound_law.specs.UnderWay.{AreUnderWay, HasCome, works}
use Rattle.flow_bound_law.proofs.Together.{few_calls}

-- The run is cut where the rank has heard these calls and no more: up to there its calls are those of the program so far.
pub heard_few : (F : Forms) (config : Config) (ledger : List Entry) (last : Bag) (flow : List Definition) (said more : List Said)
    → AreForms config.ranks F → IsRun (start config) ledger last → config.ranks ≡ 1 → (desk : Desk) → Goes F (Some flow) at_start said desk
    → calls config ledger zeroth ≡ said ++ more → length said ≤ most_calls 1 flow
heard_few F config ledger last flow said more forms run one desk goes is =
    let f = front_at (start config) last ledger zeroth said more run is in
    let alone : HasCome F (flow_of flow zeroth) (calls config f.front zeroth) (pending_of f.middle zeroth) =
    works desk (subst (λ l. Goes F (Some flow) at_start l desk) (sym f.calls_are) goes) in
    let under_way : AreUnderWay F config f.front f.middle flow = λ rank below.
    only (λ r. HasCome F (flow_of flow r) (calls config f.front r) (pending_of f.middle r)) alone rank.0 (omega (arith, below, one)) in
    let few = few_calls F config f.front f.middle flow forms f.run under_way in
    let all = ap (λ n. over_ranks n (begun_by config f.front f.middle)) one in
    omega (arith, few, all, one, ap length f.calls_are)
