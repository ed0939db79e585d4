use Rattle.core_inline.proofs.Kept.{accepts, starts}
use Rattle.core_inline.proofs.runs.InlineRun.new.Goals as goal

pub unreachable-requires : goal.unreachable-requires
unreachable-requires c =
    accepts c.args.limit c.in_default.field-0 c.requires.least c.requires.most
    ((c.new.ensures.refused c.in_default.field-0).0 c.in_default.is)

pub invariant_of-result : goal.invariant_of-result
invariant_of-result c =
    (starts c.in-Ok.config c.args.limit c.in-Ok.ensures.ranks c.in-Ok.ensures.servers c.in-Ok.ensures.limit _ c.in_ok-new.ensures).0

pub returns : goal.returns
returns c =
    let s = starts c.in-Ok.config c.args.limit c.in-Ok.ensures.ranks c.in-Ok.ensures.servers c.in-Ok.ensures.limit _ c.in_ok-new.ensures in
    record { start = s.1; holds = s.0.inline }
