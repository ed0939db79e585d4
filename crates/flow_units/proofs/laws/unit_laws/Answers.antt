-- The laws of the forms of units.
use Rattle.flow_units.proofs.Backs.{are_forms, have_types}
use Rattle.flow_units.proofs.laws.unit_laws.Goals as goal

pub returns : goal.returns
returns c = record { forms = are_forms; types = have_types }
