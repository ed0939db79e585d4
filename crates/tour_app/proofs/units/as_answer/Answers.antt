use Rattle.std.proofs.Common.{arith}
use Rattle.tour_app.proofs.Read.{fits_of}
use Rattle.tour_app.proofs.units.as_answer.Goals as goal

pub returns-in_err-body-clause-form : goal.returns-in_err-body-clause-form
returns-in_err-body-clause-form c = fits_of c.args.cost c.args.tour.now (omega arith) c.bytes.ensures.few

pub returns-clause-form : goal.returns-clause-form
returns-clause-form c = fits_of c.args.cost c.args.tour.now (omega arith) c.bytes.ensures.few
