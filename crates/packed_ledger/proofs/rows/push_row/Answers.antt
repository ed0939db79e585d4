use Rattle.packed_ledger.proofs.RowBytes.{row_by_parts}
use Rattle.packed_ledger.proofs.rows.push_row.Goals as goal

pub returns-clause-items : goal.returns-clause-items
returns-clause-items c = let parts = row_by_parts c.args.row c.args.bytes.now.items in cc
