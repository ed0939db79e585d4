use Rattle.bag_law.proofs.Once.{accepted_once, fetched_once, granted_once, put_once}
use Rattle.bag_law.proofs.laws.no_unit_is_taken_twice.Goals as goal

pub returns : goal.returns
returns c = record { put_once = put_once; accepted_once = accepted_once; granted_once = granted_once; fetched_once = fetched_once }
