use mir.Syntax.{w32}
use mir.Val.{SFits}
use Rattle.std.proofs.Common.{rules}
use Rattle.std.proofs.lemmas.Int.{to_z-of_z}
use Rattle.ledger_checker.proofs.machines.Machine.follow_call.Goals as goal

-- the priority is passed as it is
pub returns-in-Putting : goal.returns-in-Putting
returns-in-Putting c =
    let fits : SFits w32 c.in-Putting.prio = search rules in
    rw c.in-Putting.is (simp to_z-of_z at c.put_copy.ensures)
