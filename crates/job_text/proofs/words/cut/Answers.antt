use Rattle.std.proofs.Common.{sym}
use Rattle.job_text.proofs.Cuts.{no_place}
use Rattle.job_text.proofs.words.cut.Goals as goal

pub returns-in-None : goal.returns-in-None
returns-in-None c = no_place _ c.args.bytes.now (sym c.in-None.ensures)
