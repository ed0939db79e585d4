use Rattle.std.proofs.Common.{refl, sym, ap, ◌∙◌, Err}
use Rattle.job_text.specs.Kinds.{bad}
use Rattle.job_text.specs.declared.faults.LineWhy.TheVariants.{Length}
use Rattle.job_text.proofs.Puzzles.{grid_read, no_length, no_character}
use Rattle.job_text.proofs.kinds.puzzle.Goals as goal

pub returns-in-Ok : goal.returns-in-Ok
returns-in-Ok c = sym (grid_read c.args.text.now c.in-Ok.grid ((c.in-Ok.ensures.read c.in-Ok.grid).0 refl))

pub returns-in-Err-Length : goal.returns-in-Err-Length
returns-in-Err-Length c =
    let told = c.in-Err-Length.ensures.length c.in-Err-Length.got in
    let is = told.0 (ap (λ f. Err f) c.in-Err-Length.field-0-is) in
    sym (no_length c.args.text.now is.0 ∙ ap (λ n. bad (Length n)) (sym is.1))

pub returns-in-Err-Character : goal.returns-in-Err-Character
returns-in-Err-Character c =
    let told = c.in-Err-Character.ensures.character c.in-Err-Character.field-0-0 in
    sym (no_character c.args.text.now c.in-Err-Character.field-0-0 (told.0 (ap (λ f. Err f) c.in-Err-Character.field-0-is)))
