use Rattle.server_law.proofs.Calm.{events_keep_calm, start_is_calm}
use Rattle.server_law.proofs.Debts.{events_pay}
use Rattle.server_law.proofs.LeftAlone.{asked_are_left, asked_wait_on}
use Rattle.server_law.proofs.Once.{events_keep_once}
use Rattle.server_law.proofs.laws.calm_laws.Goals as goal

pub returns-clause-start_is_calm : goal.returns-clause-start_is_calm
returns-clause-start_is_calm c = start_is_calm

pub returns-clause-events_keep_once : goal.returns-clause-events_keep_once
returns-clause-events_keep_once c = events_keep_once

pub returns-clause-events_keep_calm : goal.returns-clause-events_keep_calm
returns-clause-events_keep_calm c = events_keep_calm

pub returns-clause-asked_wait_on : goal.returns-clause-asked_wait_on
returns-clause-asked_wait_on c = asked_wait_on

pub returns-clause-asked_are_left : goal.returns-clause-asked_are_left
returns-clause-asked_are_left c = asked_are_left

pub returns-clause-events_pay : goal.returns-clause-events_pay
returns-clause-events_pay c = events_pay
