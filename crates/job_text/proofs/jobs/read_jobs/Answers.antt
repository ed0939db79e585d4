use Rattle.std.proofs.Common.{◌≡◌, ◌∙◌, sym, ap, length, subst, Err, Result, arith}
use Rattle.std.specs.List.{All}
use Rattle.std.proofs.lemmas.Result.{err_from_is_err_and}
use Rattle.job_text.specs.declared.faults.JobsFault.{JobsFault}
use Rattle.job_text.specs.declared.faults.JobsFault.TheVariants as fault
use Rattle.job_text.specs.declared.reading.Reading.{Reading}
use Rattle.job_text.specs.Lines.{lines}
use Rattle.job_text.specs.Jobs.{HasFewBytes, HasGrid}
use Rattle.job_text.proofs.FewBytes.{few_bytes}
use Rattle.job_text.proofs.Grids.{have_grids}
use Rattle.job_text.proofs.Steps.{more_read, refused_next, all_read}
use Rattle.job_text.proofs.jobs.read_jobs.Goals as goal

pub returns-in_err-reading-clause-refused : goal.returns-in_err-reading-clause-refused
returns-in_err-reading-clause-refused c = λ n why same.
    let p = err_from_is_err_and c.from_residual.result c.from_residual.ensures.1 in
    let is : c.in_err-reading.field-0.0 ≡ fault.Refused n why = cc in
    let to_err : JobsFault → Result Reading JobsFault = λ f. Err f in
    let told = c.in_err-reading.ensures.refused n why (ap to_err is) in
    refused_next c.args.bytes.now c.each.reading c.each.lines c.each.number n c.in-Some.line.now _ why c.each.invariant
    c.in-Some.ensures.line told.0 told.1

pub each-preserved : goal.each-preserved
each-preserved c =
    more_read c.args.bytes.now c.each.reading _ c.each.lines _ c.each.number c.in-Some.line.now c.each.invariant
    c.in_ok-reading.ensures.extends c.in-Some.ensures.line c.in-Some.ensures.bytes c.in-Some.ensures.ends

pub returns-clause-jobs : goal.returns-clause-jobs
returns-clause-jobs c =
    let read = all_read c.args.bytes.now c.each.reading c.each.lines c.each.number c.in_ok-list.list.items c.each.invariant
    c.in_default.ensures.line c.in_ok-list.ensures.jobs in
    (read.0, c.in_ok-of.ensures ∙ read.1)

pub of-requires-clause-bytes : goal.of-requires-clause-bytes
of-requires-clause-bytes c =
    let read = all_read c.args.bytes.now c.each.reading c.each.lines c.each.number c.in_ok-list.list.items c.each.invariant
    c.in_default.ensures.line c.in_ok-list.ensures.jobs in
    subst (All HasFewBytes) (sym read.1) (few_bytes (lines c.args.bytes.now))

pub returns-clause-grids : goal.returns-clause-grids
returns-clause-grids c =
    let read = all_read c.args.bytes.now c.each.reading c.each.lines c.each.number c.in_ok-list.list.items c.each.invariant
    c.in_default.ensures.line c.in_ok-list.ensures.jobs in
    subst (All HasGrid) (sym (c.in_ok-of.ensures ∙ read.1)) (have_grids (lines c.args.bytes.now))

pub returns-clause-few : goal.returns-clause-few
returns-clause-few c =
    let before = c.each.invariant.few in
    let few = c.in_ok-list.ensures.few in
    let same = ap length c.in_ok-of.ensures in
    omega arith
