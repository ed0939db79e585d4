use Rattle.std.proofs.Common.{sym, ap, take}
use Rattle.job_text.specs.Words.{is_blank}
use Rattle.job_text.proofs.Cuts.{place_is, all_before}
use Rattle.job_text.proofs.words.before_blank.Goals as goal

pub returns-in-Some : goal.returns-in-Some
returns-in-Some c = ap (λ n. take n c.args.text.now) (sym (place_is is_blank c.args.text.now c.in-Some.place (sym c.in-Some.ensures)))

pub returns-in-None : goal.returns-in-None
returns-in-None c = all_before is_blank c.args.text.now (sym c.in-None.ensures)
