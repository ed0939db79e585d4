use Rattle.server_law.proofs.Components.{start_agrees}
use Rattle.server_law.proofs.Expected.{expected_have_steps}
use Rattle.server_law.proofs.Handled.{acts_handle}
use Rattle.server_law.proofs.Tests.{quiet_is_tested}
use Rattle.server_law.proofs.laws.server_laws.Goals as goal

pub returns-clause-start_agrees : goal.returns-clause-start_agrees
returns-clause-start_agrees c = start_agrees

pub returns-clause-expected_have_steps : goal.returns-clause-expected_have_steps
returns-clause-expected_have_steps c = expected_have_steps

pub returns-clause-acts_handle : goal.returns-clause-acts_handle
returns-clause-acts_handle c = acts_handle

pub returns-clause-quiet_is_tested : goal.returns-clause-quiet_is_tested
returns-clause-quiet_is_tested c = quiet_is_tested
