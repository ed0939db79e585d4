use Rattle.server_components.proofs.Resting.{arrival_rests, gone_rests, grant_rests, hint_rests, left_rests, none_rests, offer_rests}
use Rattle.server_components.proofs.Resting.{reserve_rests}
use Rattle.server_components.proofs.laws.parked_laws.Goals as goal

pub returns-clause-reserve : goal.returns-clause-reserve
returns-clause-reserve c = reserve_rests

pub returns-clause-none : goal.returns-clause-none
returns-clause-none c = none_rests

pub returns-clause-gone : goal.returns-clause-gone
returns-clause-gone c = gone_rests

pub returns-clause-hint : goal.returns-clause-hint
returns-clause-hint c = hint_rests

pub returns-clause-grant : goal.returns-clause-grant
returns-clause-grant c = grant_rests

pub returns-clause-left : goal.returns-clause-left
returns-clause-left c = left_rests

pub returns-clause-offer : goal.returns-clause-offer
returns-clause-offer c = offer_rests

pub returns-clause-arrival : goal.returns-clause-arrival
returns-clause-arrival c = arrival_rests
