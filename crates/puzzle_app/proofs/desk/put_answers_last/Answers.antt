use Rattle.std.proofs.Common.{rules, ◌≡◌, true, ap, ◌∙◌, arith, ◌++◌, ◌∷◌, []}
use Rattle.std.specs.Bool.{if◌then◌else◌}
use Rattle.std.specs.Result.{is_ok}
use Rattle.job_units.specs.declared.units.Made.TheVariants as made
use Rattle.puzzle_app.proofs.Inputs.{answers_end, answers_next}
use Rattle.puzzle_app.proofs.desk.put_answers_last.Goals as goal

pub loop-item-preserved : goal.loop-item-preserved
loop-item-preserved c =
    let ok : is_ok c.push_back.result ≡ true = search rules in
    record {
      numbered = omega (arith, c.loop-item.invariant.numbered);
      waits = answers_next c.args.common.now c.args.batch c.loop-item.number c.args.items.now c.loop-item.item-index _
          c.loop-item.waiting.items c.push_back.new.self.items _ c.answer.result
          c.loop-item-test.true c.answer.ensures
          (c.push_back.ensures.items ∙ ap (λ b. if b then c.loop-item.waiting.items ++
          made.Answer c.answer.result ∷ [] else c.loop-item.waiting.items) ok)
          c.loop-item.invariant.waits;
    }

pub returns : goal.returns
returns c = answers_end c.args.common.now c.args.batch c.loop-item.number c.args.items.now c.loop-item.item-index c.loop-item.waiting.items
    _ c.loop-item-test.false c.loop-item.invariant.waits
