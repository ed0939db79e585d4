use Rattle.std.proofs.Common.{length}
use Rattle.flow_app.proofs.Linking.{HasUsersTo}
use Rattle.flow_app.proofs.flows.all_users.Given as goal

abbrev pub invariant-loop-rule : goal.invariant-loop-rule
invariant-loop-rule l = HasUsersTo (length l.inputs) l.rule l.inputs l.users.items
