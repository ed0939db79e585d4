use Rattle.thread_actors.proofs.Prelude.{DeskModel, ap, ◌∙◌}
use Rattle.thread_actors.proofs.RankBegun.{one_told}
use Rattle.thread_actors.proofs.wires.tell_gone.Goals as goal

pub loop-number-preserved : goal.loop-number-preserved
loop-number-preserved g c =
    let was = c.loop-number.invariant in
    let now = c.tell.ensures in
    record {
      same = now.same ∙ ap (λ (d : DeskModel). record d { sent = c.tell.new.self.sent }) was.same;
      told = one_told c.args.config c.in-Err.trouble c.loop-number.number c.args.desk.now c.loop-number.desk c.tell.new.self
          (ap (λ (d : DeskModel). d.config) was.same ∙ c.requires.config) now.told was.told;
    }
