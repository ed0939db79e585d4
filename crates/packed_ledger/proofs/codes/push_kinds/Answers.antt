use Rattle.std.proofs.Common.{◌<◌, ◌^◌, get_or, ◌∙◌, rules, arith}
use Rattle.std.proofs.lemmas.List.Elements.{All-more}
use Rattle.packed_ledger.specs.inside.Codes.{kind_fits}
use Rattle.packed_ledger.proofs.KindBytes.{kind_written, no_kind}
use Rattle.packed_ledger.proofs.codes.push_kinds.Goals as goal

pub loop-kind-preserved : goal.loop-kind-preserved
loop-kind-preserved c =
    let was = c.loop-kind.invariant in
    let kinds = c.args.kinds.now in
    let i = c.loop-kind.kind-index in
    let fits : (get_or kinds i no_kind).0 < 2 ^ 32 = search rules in (
      kind_written c.args.bytes.now.items c.loop-kind.bytes.items _ kinds i c.loop-kind-test.true was.0 c.push_groups.ensures.items,
      omega (arith, was.1, c.push_groups.ensures.len),
      c.push_groups.ensures.capacity ∙ was.2,
      All-more kind_fits kinds i no_kind c.loop-kind-test.true was.3 fits,
    )
