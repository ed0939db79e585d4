-- The laws of what names are worth.
use Rattle.flow_law.proofs.Turns.{enough, one_value, value_law}
use Rattle.flow_law.proofs.flow_laws.Goals as goal

pub returns : goal.returns
returns c = record { values = value_law; one = one_value; enough = λ flow turns name v e. enough flow turns name v e }
