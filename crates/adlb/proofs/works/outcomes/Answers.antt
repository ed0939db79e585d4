use Rattle.std.proofs.Common.{◌≡◌, Some, slice_get, ap, ◌∙◌, subst, sum_by}
use Rattle.adlb.proofs.Running.{few_of, whole_of}
use Rattle.adlb.proofs.works.outcomes.Goals as goal

pub returns-in-Ok-clause-whole : goal.returns-in-Ok-clause-whole
returns-in-Ok-clause-whole g c = λ eye.
    let out : c.report.inside.outcomes.items ≡ c.in-Ok.report.outcomes = ap (λ r. r.outcomes) c.report.view_is in
    ap (λ xs. sum_by (λ got. g.D.Duty.sees got eye) xs) out
    ∙ whole_of _ _ _ c.in-Ok.report c.in-Ok.ensures.run (g.D.Duty.worth c.args.duty eye) (g.D.Duty.whole c.args.duty eye)
    (λ got. g.D.Duty.sees got eye) (λ rank said got worked. worked eye) c.worth_laws.ensures.whole

pub returns-in-Ok-clause-few : goal.returns-in-Ok-clause-few
returns-in-Ok-clause-few g c = λ eye k got at.
    let out : c.report.inside.outcomes.items ≡ c.in-Ok.report.outcomes = ap (λ r. r.outcomes) c.report.view_is in
    few_of _ _ _ c.in-Ok.report c.in-Ok.ensures.run (g.D.Duty.worth c.args.duty eye) (g.D.Duty.whole c.args.duty eye)
    (λ got. g.D.Duty.sees got eye) (λ rank said got worked. worked eye) k got (subst (λ xs. slice_get xs k ≡ Some got) out at)
