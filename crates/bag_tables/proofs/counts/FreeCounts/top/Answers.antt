use mir.Syntax.{w32}
use mir.Val.{SFits}
use Rattle.std.proofs.Common.{arith, rules}
use Rattle.std.proofs.lemmas.Int.{to_z-of_z}
use Rattle.bag_tables.proofs.Topping.{none_after, none_here, top_here}
use Rattle.bag_tables.proofs.counts.FreeCounts.top.Goals.{then-at-server-via-then-at-server, then-at-server-via-else-at-server+then-of-kind}
use Rattle.bag_tables.proofs.counts.FreeCounts.top.Goals as goal

pub returns-in_default : goal.returns-in_default
returns-in_default c = none_after c.args.self.now c.args.server c.args.kind (rw c.in_default.is at c.first_after.ensures)

pub returns-then-at-server : goal.returns-then-at-server
returns-then-at-server c =
    none_here c.args.self.now c.args.server c.args.kind c.in-Some.at c.in-Some.of c.in-Some.prio c.in-Some.n c.in-Some.ensures
    (λ at of. elim c.then-at-server.branch [
      | then-at-server-via-then-at-server w ↦ omega arith
      | then-at-server-via-else-at-server+then-of-kind w ↦ omega arith
    ])

-- the priority is passed as it is
pub returns-in-Some-prio : goal.returns-in-Some-prio
returns-in-Some-prio c =
    let fits : SFits w32 c.in-Some-prio.field-0.0 = search rules in
    simp to_z-of_z
    (top_here c.args.self.now c.args.server c.args.kind c.in-Some.at c.in-Some.of c.in-Some-prio.field-0.0 c.in-Some.n
    (rw c.in-Some-prio.is at c.in-Some.ensures) (omega arith) (omega arith))
