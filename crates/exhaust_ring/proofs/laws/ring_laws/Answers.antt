use Rattle.exhaust_ring.proofs.Rows.{expects_is, expects_tested}
use Rattle.exhaust_ring.proofs.laws.ring_laws.Goals as goal

pub returns-clause-row : goal.returns-clause-row
returns-clause-row c m from t = (expects_is m from t, expects_tested m from t)
