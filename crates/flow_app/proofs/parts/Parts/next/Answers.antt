use Rattle.std.proofs.Common.{ap, sym, ◌∙◌}
use Rattle.flow_app.specs.Kinds.{is_mark}
use Rattle.flow_app.specs.inside.Left.{parts_in}
use Rattle.flow_app.proofs.Cuts.{cut_first, last_part}
use Rattle.flow_app.proofs.parts.Parts.next.Goals as goal

pub returns-in-Some-clause-part : goal.returns-in-Some-clause-part
returns-in-Some-clause-part c =
    ap (parts_in c.args.self.now.mark) c.in_ok-text.was
    ∙ cut_first (is_mark c.args.self.now.mark) c.in_ok-text.text.now c.in-Some.place c.in-Some.ensures

pub returns-in-None-clause-part : goal.returns-in-None-clause-part
returns-in-None-clause-part c =
    ap (parts_in c.args.self.now.mark) c.in_ok-text.was
    ∙ last_part (is_mark c.args.self.now.mark) c.in_ok-text.text.now (sym c.in-None.ensures)
