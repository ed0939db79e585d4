-- The laws of the entries of a run of flow programs.
use Rattle.flow_entry_law.proofs.Entering.{all_entered, are_entered}
use Rattle.flow_entry_law.proofs.entry_laws.Goals as goal

pub returns : goal.returns
returns c = record { entered = are_entered; complete = all_entered }
