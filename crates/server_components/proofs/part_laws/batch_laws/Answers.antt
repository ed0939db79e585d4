use Rattle.server_components.proofs.Lookups.{in_changed, in_inserted}
use Rattle.server_components.proofs.NoneDue.{changed_due, fresh_due}
use Rattle.server_components.specs.Store.{fresh}
use Rattle.server_components.proofs.part_laws.batch_laws.Goals as goal

pub returns-clause-kept : goal.returns-clause-kept
returns-clause-kept c = λ store batch b bytes. in_inserted store batch b (fresh bytes)

pub returns-clause-changed : goal.returns-clause-changed
returns-clause-changed c = λ f store batch b. in_changed f store batch b

pub returns-clause-none_due_fresh : goal.returns-clause-none_due_fresh
returns-clause-none_due_fresh c = λ store batch bytes none. fresh_due store batch bytes none

pub returns-clause-none_due : goal.returns-clause-none_due
returns-clause-none_due c = λ f store batch none. changed_due f store batch none
