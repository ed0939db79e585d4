use Rattle.std.proofs.Common.{List, ◌++◌, ap, ◌∙◌, subst}
use Rattle.std.specs.List.{All, flat_map}
use Rattle.adlb_unit.specs.declared.names.WorkType.{WorkType}
use Rattle.packed_ledger.specs.inside.Codes.{kind_code, kind_fits}
use Rattle.packed_ledger.proofs.KindBytes.{are_listed}
use Rattle.packed_ledger.proofs.codes.push_types.Goals as goal

pub returns-in-Some-clause-items : goal.returns-in-Some-clause-items
returns-in-Some-clause-items c =
    let are =
    are_listed c.args.types.now c.in-Some.kinds.now _ c.min.result c.in-Some.ensures.listed c.min.ensures c.split_at.ensures.front in
    c.push_kinds.ensures.items ∙ ap (λ (k : List WorkType). c.args.bytes.now.items ++ flat_map kind_code k) are

pub returns-in-Some-clause-fit : goal.returns-in-Some-clause-fit
returns-in-Some-clause-fit c =
    let are =
    are_listed c.args.types.now c.in-Some.kinds.now _ c.min.result c.in-Some.ensures.listed c.min.ensures c.split_at.ensures.front in
    subst (λ (k : List WorkType). All kind_fits k) are c.push_kinds.ensures.fit
