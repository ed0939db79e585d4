use Rattle.std.proofs.Common.{ℕ, ◌≡◌, ◌++◌, ◌⊎◌, inl, inr, List, ap, ◌∙◌, subst, Some, IfOk, arith}
use Rattle.std.specs.List.{All, flat_map}
use Rattle.adlb_unit.specs.declared.names.WorkType.{WorkType}
use Rattle.bag_ledger.specs.declared.entries.Entry.{Entry}
use Rattle.packed_ledger.specs.declared.rows.Row.{Row}
use Rattle.packed_ledger.specs.inside.Told.{row_of}
use Rattle.packed_ledger.specs.inside.Made.{light_at, with_bytes, with_types}
use Rattle.packed_ledger.specs.inside.Codes.{body_of, entry_before, kind_code, kind_fits, kinds_of}
use Rattle.packed_ledger.proofs.ReadBack.{has_bytes, is_light, lists_types}
use Rattle.packed_ledger.proofs.codes.read_entry.Goals as goal
use Rattle.packed_ledger.proofs.codes.read_entry.Goals.{then-row-eq8-via-then-row-eq8, then-row-eq8-via-else-row-eq8+then-row-eq10}

pub returns-then-row-lt7 : goal.returns-then-row-lt7
unfolding entry_before
returns-then-row-lt7 c = λ e rest kept code.
    let row = c.read_row.ensures (row_of e) (body_of e ++ (flat_map kind_code (kinds_of e) ++ rest)) kept.row code in
    let head : c.read_row.result.0.head ≡ (row_of e).head = ap (λ (r : Row). r.head) row.0 in
    let has = has_bytes e (omega (arith, head, c.if-row-lt7.true)) in
    let size = ap (λ (r : Row). r.number) row.0 ∙ has.size in
    let behind = row.1 ∙ ap (λ (k : List WorkType). body_of e ++ (flat_map kind_code k ++ rest)) has.kinds in
    let entry = ap (λ (r : Row). with_bytes r (body_of e)) row.0 ∙ has.entry in
    subst (λ (y : Entry). IfOk c.read_with_bytes.result (λ r. (r.0 ≡ y) × (r.1.now ≡ rest))) entry
    (c.read_with_bytes.ensures (body_of e) rest size behind)

pub returns-then-row-eq8 : goal.returns-then-row-eq8
unfolding entry_before
returns-then-row-eq8 c = λ e rest kept code.
    let row = c.read_row.ensures (row_of e) (body_of e ++ (flat_map kind_code (kinds_of e) ++ rest)) kept.row code in
    let read : (c.read_row.result.0.head ≡ 8) ⊎ (c.read_row.result.0.head ≡ 10) = elim c.then-row-eq8.branch [
      | then-row-eq8-via-then-row-eq8 w ↦ inl w.if-row-eq8.true
      | then-row-eq8-via-else-row-eq8+then-row-eq10 w ↦ inr w.if-row-eq10.true
    ] in
    let lists = lists_types e (subst (λ (r : Row). (r.head ≡ 8) ⊎ (r.head ≡ 10)) row.0 read) in
    let kinds = lists.0 in
    let is = lists.1 in
    let size = ap (λ (r : Row). r.number) row.0 ∙ is.size in
    let behind = row.1 ∙ ap (λ (b : List ℕ). b ++ (flat_map kind_code (kinds_of e) ++ rest)) is.body
    ∙ ap (λ (k : List WorkType). flat_map kind_code k ++ rest) is.listed in
    let fits = subst (λ (k : List WorkType). All kind_fits k) is.listed kept.kinds in
    let entry = ap (λ (r : Row). with_types r (Some kinds)) row.0 ∙ is.entry in
    subst (λ (y : Entry). IfOk c.read_with_types.result (λ r. (r.0 ≡ y) × (r.1.now ≡ rest))) entry
    (c.read_with_types.ensures kinds rest size fits behind)

pub returns : goal.returns
unfolding entry_before
returns c = λ e rest kept code.
    let row = c.read_row.ensures (row_of e) (body_of e ++ (flat_map kind_code (kinds_of e) ++ rest)) kept.row code in
    let head : c.read_row.result.0.head ≡ (row_of e).head = ap (λ (r : Row). r.head) row.0 in
    let light = is_light e (omega (arith, head, c.if-row-lt7.false)) (λ is. c.if-row-eq8.false (head ∙ is))
    (λ is. c.if-row-eq10.false (head ∙ is)) in (
      c.light_of.ensures ∙ ap (λ (r : Row). light_at r) row.0 ∙ light.entry,
      row.1 ∙ ap (λ (b : List ℕ). b ++ (flat_map kind_code (kinds_of e) ++ rest)) light.body
          ∙ ap (λ (k : List WorkType). flat_map kind_code k ++ rest) light.kinds,
    )
