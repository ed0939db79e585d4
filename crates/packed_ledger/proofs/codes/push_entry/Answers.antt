use Rattle.std.proofs.Common.{ℕ, List, [], ◌++◌, sym, ap, ◌∙◌, subst, arith}
use Rattle.std.specs.List.{All, flat_map}
use Rattle.std.proofs.lemmas.List.Elements.{All-nil}
use Rattle.adlb_unit.specs.declared.names.WorkType.{WorkType}
use Rattle.packed_ledger.specs.declared.rows.Row.{Row}
use Rattle.packed_ledger.specs.inside.Rows.{RowFits, row_before}
use Rattle.packed_ledger.specs.inside.Codes.{body_of, kind_code, kind_fits, kinds_of}
use Rattle.packed_ledger.proofs.EntryBytes.{body_pushed, kinds_pushed, plain, row_pushed}
use Rattle.packed_ledger.proofs.codes.push_entry.Goals as goal

pub returns-in-Putting-clause-items : goal.returns-in-Putting-clause-items
returns-in-Putting-clause-items c =
    let row = c.push_row.ensures.items ∙ ap (λ (r : Row). c.args.bytes.now.items ++ row_before r []) c.row_of.ensures in
    let body = c.bytes.ensures ∙ sym (ap body_of c.in-Putting.is) in
    body_pushed c.args.entry.now c.args.bytes.now.items _ _ row (ap kinds_of c.in-Putting.is)
    (c.push_bytes.ensures.items ∙ ap (λ (b : List ℕ). c.push_row.new.bytes.items ++ b) body)

pub returns-in-Keeping-clause-items : goal.returns-in-Keeping-clause-items
returns-in-Keeping-clause-items c =
    let row = c.push_row.ensures.items ∙ ap (λ (r : Row). c.args.bytes.now.items ++ row_before r []) c.row_of.ensures in
    let body = c.bytes-in-Keeping.ensures ∙ sym (ap body_of c.in-Keeping.is) in
    body_pushed c.args.entry.now c.args.bytes.now.items _ _ row (ap kinds_of c.in-Keeping.is)
    (c.push_bytes-in-Keeping.ensures.items ∙ ap (λ (b : List ℕ). c.push_row.new.bytes.items ++ b) body)

pub returns-in-Asked-clause-items : goal.returns-in-Asked-clause-items
returns-in-Asked-clause-items c =
    let row = c.push_row.ensures.items ∙ ap (λ (r : Row). c.args.bytes.now.items ++ row_before r []) c.row_of.ensures in
    let kinds = sym (ap kinds_of c.in-Asked.is) in
    kinds_pushed c.args.entry.now c.args.bytes.now.items _ _ row (ap body_of c.in-Asked.is)
    (c.push_types.ensures.items ∙ ap (λ (k : List WorkType). c.push_row.new.bytes.items ++ flat_map kind_code k) kinds)

pub returns-in-Tried-clause-items : goal.returns-in-Tried-clause-items
returns-in-Tried-clause-items c =
    let row = c.push_row.ensures.items ∙ ap (λ (r : Row). c.args.bytes.now.items ++ row_before r []) c.row_of.ensures in
    let kinds = sym (ap kinds_of c.in-Tried.is) in
    kinds_pushed c.args.entry.now c.args.bytes.now.items _ _ row (ap body_of c.in-Tried.is)
    (c.push_types-in-Tried.ensures.items ∙ ap (λ (k : List WorkType). c.push_row.new.bytes.items ++ flat_map kind_code k) kinds)

pub returns-in_default : goal.returns-in_default
returns-in_default c =
    let row = c.push_row.ensures.items ∙ ap (λ (r : Row). c.args.bytes.now.items ++ row_before r []) c.row_of.ensures in
    let is = plain c.args.entry.now c.in_default.not-Putting c.in_default.not-Keeping c.in_default.not-Asked c.in_default.not-Tried in
    record {
      items = row_pushed c.args.entry.now c.args.bytes.now.items _ row is.body is.kinds;
      len = omega (arith, c.push_row.ensures.len, is.size);
      capacity = omega (arith, c.push_row.ensures.capacity);
      kept = record {
        row = subst (λ (r : Row). RowFits r) c.row_of.ensures c.push_row.ensures.fits;
        kinds = subst (λ (k : List WorkType). All kind_fits k) (sym is.kinds) (All-nil kind_fits);
      };
    }
