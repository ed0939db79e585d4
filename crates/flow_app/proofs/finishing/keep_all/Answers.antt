use Rattle.std.proofs.lemmas.List.Elements.{All-get_or}
use Rattle.flow_app.specs.Finishing.{IsItsValue}
use Rattle.flow_app.proofs.finishing.keep_all.Goals as goal

pub keep-requires-clause-right : goal.keep-requires-clause-right
keep-requires-clause-right c =
    All-get_or (IsItsValue c.args.flow.now) c.args.values.now c.loop-answer.answer-index (0, 0) c.loop-answer-test.true c.requires.right
