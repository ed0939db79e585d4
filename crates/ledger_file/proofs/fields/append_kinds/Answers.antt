use Rattle.std.proofs.Common.{refl}
use Rattle.std.specs.Prelude.{decimal}
use Rattle.ledger_file.proofs.Written.{list_written}
use Rattle.ledger_file.proofs.fields.append_kinds.Goals as goal

pub returns-clause-written : goal.returns-clause-written
returns-clause-written c =
    list_written (λ k. decimal k.0) 44 c.args.bytes.now.items c.append_number.new.bytes.items c.loop-kind.bytes.items c.args.kinds.now _ _
    c.loop-kind.kind-index c.in-len1-up.len_at_least refl
    c.in_ok-append_number.ensures c.loop-kind.invariant.0 c.loop-kind-test.false
