use Rattle.std.proofs.Common.{◌≡◌, rules, take, Option, List, subst, sym}
use Rattle.std.specs.Prelude.{codes}
use Rattle.std.proofs.lemmas.Result.{err_from_is_err_and}
use Rattle.adlb_unit.specs.declared.names.WorkType.{WorkType}
use Rattle.ledger_file.specs.Fields.{wanted, word as spelt, IsWithin}
use Rattle.ledger_file.specs.inside.Reading.{parts_left}
use Rattle.ledger_file.proofs.TypeLists.{part_misses, too_many, types_found, sizes_read, never_refused}
use Rattle.ledger_file.proofs.lists.types.Goals as goal

pub returns-then-count-eq-TYPE_LIMIT : goal.returns-then-count-eq-TYPE_LIMIT
returns-then-count-eq-TYPE_LIMIT c =
    let other : c.args.word.now ≡ codes "any" → ⊥ = search rules in
    too_many c.args.word.now c.loop-part.kinds c.loop-part.count
    (parts_left c.loop-part.parts) _ c.in-Some.part.now other c.loop-part.invariant c.in-Some.ensures c.if-count-eq-TYPE_LIMIT.true

pub returns-in_err-short : goal.returns-in_err-short
returns-in_err-short c =
    let p = err_from_is_err_and c.from_residual.result c.from_residual.ensures.1 in
    let other : c.args.word.now ≡ codes "any" → ⊥ = search rules in
    rw (p.1, p.2) (part_misses c.args.word.now c.loop-part.kinds c.loop-part.count
    (parts_left c.loop-part.parts) _ c.in-Some.part.now other c.loop-part.invariant c.in-Some.ensures c.in_err-short.field-0.0
    c.in_err-short.ensures)

pub returns-in-Ok : goal.returns-in-Ok
returns-in-Ok c =
    let word = c.args.word.now in
    let is : Option (List WorkType) → Type 0 = λ t. IsWithin (wanted t) × (word ≡ spelt (wanted t)) in
    subst is (sym c.in-Ok.ensures.listed) (types_found word c.loop-part.kinds c.loop-part.count
    (parts_left c.loop-part.parts) c.loop-part.invariant c.in_default.ensures)

pub returns-in-Err : goal.returns-in-Err
returns-in-Err c =
    let sizes = sizes_read c.args.word.now c.loop-part.kinds c.loop-part.count
    (parts_left c.loop-part.parts) c.loop-part.invariant c.in_default.ensures in
    absurd (never_refused c.in-Err.field-0 (take c.loop-part.count c.loop-part.kinds) c.in-Err.ensures.empty.0 (λ n.
    (c.in-Err.ensures.too_many n).0) sizes.0 sizes.1)
