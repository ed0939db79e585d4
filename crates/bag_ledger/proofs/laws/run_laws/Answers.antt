use Rattle.std.proofs.Common.{◌≡◌, ◌<◌, ◌∷◌, arith}
use Rattle.bag_ledger.specs.declared.entries.Entry.TheVariants.{Rejected, NoCurrent, Over}
use Rattle.bag_ledger.specs.Bag.{start}
use Rattle.bag_ledger.proofs.Charge.{run_within, start_within, start_tracked}
use Rattle.bag_ledger.proofs.Fixed.{run_limit, run_servers}
use Rattle.bag_ledger.proofs.Heard.{rejected_by_all, looked_by_all, over_by_cause}
use Rattle.bag_ledger.proofs.Legal.{run_split}
use Rattle.bag_ledger.proofs.laws.run_laws.Goals as goal

pub returns-clause-within_limit : goal.returns-clause-within_limit
returns-clause-within_limit c = λ found config ledger last run server.
    let tracked = start_tracked config.ranks config.servers config.limit in
    let within = start_within config.ranks config.servers config.limit in
    let is = run_within found (start config) last ledger run tracked within server in
    omega (arith, is, run_limit found (start config) last ledger run)

pub returns-clause-rejected_by_all : goal.returns-clause-rejected_by_all
returns-clause-rejected_by_all c = λ found config ledger rest last rank call run server below.
    let s = run_split found (start config) last ledger (Rejected rank call ∷ rest) run in
    let same : s.0.servers ≡ config.servers = run_servers found (start config) s.0 ledger s.1 in
    let there : server.0 < s.0.servers = omega arith in
    rejected_by_all found config.ranks config.servers config.limit s.0 ledger rank call s.1 s.2.1.1 server there

pub returns-clause-looked_by_all : goal.returns-clause-looked_by_all
returns-clause-looked_by_all c = λ found config ledger rest last rank call run server below.
    let s = run_split found (start config) last ledger (NoCurrent rank call ∷ rest) run in
    let same : s.0.servers ≡ config.servers = run_servers found (start config) s.0 ledger s.1 in
    let there : server.0 < s.0.servers = omega arith in
    looked_by_all found config.ranks config.servers config.limit s.0 ledger rank call s.1 s.2.1.1 server there

pub returns-clause-over_by_cause : goal.returns-clause-over_by_cause
returns-clause-over_by_cause c = λ found config ledger rest last rank call end run.
    let s = run_split found (start config) last ledger (Over rank call end ∷ rest) run in
    over_by_cause found config.ranks config.servers config.limit s.0 ledger rank call end s.1 s.2.1.1
