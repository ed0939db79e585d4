use Rattle.std.proofs.Common.{ℕ, List, ◌∷◌, ◌++◌}
use Rattle.packed_ledger.specs.inside.Numbers.{part}
use Rattle.packed_ledger.specs.inside.Rows.{marks, row_before}
use Rattle.packed_ledger.proofs.RowBytes.{are_marks}
use Rattle.packed_ledger.proofs.rows.read_row.Goals as goal

pub returns : goal.returns
unfolding row_before
returns c = λ row rest fits e.
    let at_amount : List ℕ = part 10 row.amount ++ rest in
    let at_number : List ℕ = part 10 row.number ++ at_amount in
    let at_call : List ℕ = part 10 row.call ++ at_number in
    let at_fifth : List ℕ = part 5 row.fifth ++ at_call in
    let at_fourth : List ℕ = part 5 row.fourth ++ at_fifth in
    let at_third : List ℕ = part 5 row.third ++ at_fourth in
    let at_second : List ℕ = part 5 row.second ++ at_third in
    let at_first : List ℕ = part 5 row.first ++ at_second in
    let head = c.read_byte-head.ensures row.head (marks row ∷ at_first) e in
    let bits = c.read_byte-marks.ensures (marks row) at_first head.1 in
    let are = are_marks row c.read_byte-marks.result.0 bits.0 in
    let first = c.read_short_part-first.ensures row.first at_second fits.first are.first bits.1 in
    let second = c.read_short_part-second.ensures row.second at_third fits.second are.second first.1 in
    let third = c.read_short_part-third.ensures row.third at_fourth fits.third are.third second.1 in
    let fourth = c.read_short_part-fourth.ensures row.fourth at_fifth fits.fourth are.fourth third.1 in
    let fifth = c.read_short_part-fifth.ensures row.fifth at_call fits.fifth are.fifth fourth.1 in
    let call = c.read_long_part-call.ensures row.call at_number fits.call are.call fifth.1 in
    let number = c.read_long_part-number.ensures row.number at_amount fits.number are.number call.1 in
    let amount = c.read_long_part-amount.ensures row.amount rest fits.amount are.amount number.1 in (
      λ i. record {
        head = head.0 i;
        first = first.0 i;
        second = second.0 i;
        third = third.0 i;
        fourth = fourth.0 i;
        fifth = fifth.0 i;
        call = call.0 i;
        number = number.0 i;
        amount = amount.0 i;
      },
      amount.1,
    )
