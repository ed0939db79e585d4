use Rattle.std.proofs.Common.{◌≡◌, [], ◌∷◌, length, ap, ◌∙◌, arith, sum_by}
use Rattle.std.proofs.lemmas.List.Sums.{sum_by_push}
use Rattle.example_motifs.specs.Texts.{worth}
use Rattle.example_motifs.specs.declared.texts.TheConstants.{TEXT}
use Rattle.example_motifs.proofs.Looked.{all, next, so_far}
use Rattle.example_motifs.proofs.MotifsBatch.first.Goals as goal

pub loop-number-preserved : goal.loop-number-preserved
loop-number-preserved c = λ test.
    let f = worth c.args.self.now.all.now test TEXT.now in
    let pushed = ap (λ l. sum_by f l) c.in_ok-push.ensures.pushed in
    let one = sum_by_push f c.loop-number.out (c.loop-number.number ∷ []) in
    let more = next c.args.self.now.all.now test TEXT.now c.loop-number.number (omega arith) in
    omega (arith, pushed, one, c.loop-number.invariant test, more)

pub returns-clause-first : goal.returns-clause-first
returns-clause-first c = λ test.
    let text = ap (λ t. sum_by (worth c.args.self.now.all.now test t) c.loop-number.out) c.in_ok-text.ensures in
    let at : c.loop-number.number ≡ length c.args.self.now.all.now = omega arith in
    text
    ∙ c.loop-number.invariant test
    ∙ ap (λ n. so_far c.args.self.now.all.now test TEXT.now n) at
    ∙ all c.args.self.now.all.now test TEXT.now
