use Rattle.std.proofs.Common.{◌∙◌, ap, ℤ, w32}
use Rattle.std.proofs.lemmas.Int.{to_z-of_z}
use mir.Val.{of_z, to_z}
use Rattle.packed_ledger.specs.inside.Numbers.{unsigned}
use Rattle.packed_ledger.proofs.Signed.{up_is, down_is}
use Rattle.packed_ledger.proofs.signs.unsigned.Goals as goal

pub returns-then-prio-lt0 : goal.returns-then-prio-lt0
returns-then-prio-lt0 c =
    let prio = c.args.prio in
    down_is (to_z w32 (of_z w32 prio)) c.unsigned_abs-size.result c.unsigned_abs-size.ensures.value c.if-prio-lt0.true
    ∙ ap (λ (z : ℤ). unsigned z) (to_z-of_z w32 prio c.ranges.prio)

pub returns : goal.returns
returns c =
    let prio = c.args.prio in
    up_is (to_z w32 (of_z w32 prio)) c.unsigned_abs-size.result c.unsigned_abs-size.ensures.value c.if-prio-lt0.false
    ∙ ap (λ (z : ℤ). unsigned z) (to_z-of_z w32 prio c.ranges.prio)
