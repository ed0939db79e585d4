use Rattle.std.proofs.Common.{◌≡◌, false, sym, ◌∙◌}
use Rattle.std.proofs.lemmas.Bool.{not-true}
use Rattle.unit_tests.proofs.Fake.{no_misfit}
use Rattle.unit_tests.proofs.jobs.puzzles.fake.all_fit.Goals as goal

pub returns : goal.returns
returns c = λ none note was same.
    let none_is : c.is_misfit.result ≡ false = not-true c.is_misfit.result none in
    no_misfit c.args.id c.args.total c.args.said.now (sym c.is_misfit.ensures ∙ none_is) note was same
