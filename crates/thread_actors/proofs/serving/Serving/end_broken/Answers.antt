use Rattle.std.proofs.Common.{◌∙◌}
use Rattle.thread_actors.proofs.Ends.{ends_broken}
use Rattle.thread_actors.proofs.serving.Serving.end_broken.Goals as goal

pub returns : goal.returns
returns g c =
    let self = c.args.self in let down = c.break_down in
    ends_broken self.config self.me down.new.desk _ c.args.broken.fault c.args.broken.own (down.ensures.config ∙ self.desk_is.0)
    (down.ensures.number ∙ self.desk_is.1) c.requires.cut.late down.ensures.broken
