-- The laws of a run of flow programs.
use Rattle.flow_run_law.proofs.Laws.{are_orderly, complete, known, once, right, values}
use Rattle.flow_run_law.proofs.flow_run_laws.Goals as goal

pub returns : goal.returns
returns c = record { orderly = are_orderly; right = right; once = once; known = known; values = values; complete = complete }
