use Rattle.begun_law.proofs.Finishing.{finish_is_last}
use Rattle.begun_law.proofs.Moments.{moment}
use Rattle.begun_law.proofs.Numbers.{number_told}
use Rattle.begun_law.proofs.laws.begun_laws.Goals as goal

pub returns : goal.returns
returns c = record { moment = moment; numbers = number_told; finishes = finish_is_last }
