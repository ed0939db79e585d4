use Rattle.std.proofs.Common.{◌≡◌, ◌≤◌, ◌+◌, ℕ, List, ap, sym, subst, arith, length}
use Rattle.std.proofs.lemmas.Result.{IfOk-weaker}
use Rattle.adlb_io.proofs.Inputs.{read_end, read_too_long}
use Rattle.adlb_io.specs.Whole.{Reads}
use Rattle.ledger_command.specs.Input.{input_limit}
use Rattle.ledger_command.proofs.Forms.{fault_weaker, read_refuses, read_told}
use Rattle.ledger_command.proofs.reading.read_text.Goals as goal

pub returns-then-len-gt-INPUT_LIMIT-clause-refused : goal.returns-then-len-gt-INPUT_LIMIT-clause-refused
returns-then-len-gt-INPUT_LIMIT-clause-refused g c =
    let count : c.len-taken.result ≡ input_limit + 1 =
    omega (arith, c.len-taken.ensures, c.len.ensures, c.if-len-gt-INPUT_LIMIT.true, c.in_ok-bytes.ensures.bound) in
    let before = g.S.Source.left c.args.input.now in
    let after = g.S.Source.left c.read_up_to.new.source in
    let bytes : List ℕ = c.in_ok-bytes.bytes.items in (
      count,
      read_too_long input_limit before after bytes c.in_ok-bytes.ensures.read (omega (arith, c.len.ensures, c.if-len-gt-INPUT_LIMIT.true)),
      (bytes, subst (λ n. Reads before after n bytes) (sym count) c.in_ok-bytes.ensures.read),
      c.in_ok-bytes.ensures.counted,
    )

pub returns-clause-told : goal.returns-clause-told
returns-clause-told g c =
    let reads = subst (λ l. Reads (g.S.Source.left c.args.input.now) (g.S.Source.left c.read_up_to.new.source) (input_limit + 1) l)
    (sym c.deref.ensures.value) c.in_ok-bytes.ensures.read in
    let short : length c.deref.result.now ≤ input_limit =
    omega (arith, ap length c.deref.ensures.value, c.len.ensures, c.if-len-gt-INPUT_LIMIT.false) in
    IfOk-weaker c.text_of.result _ _ (λ x is. read_told _ _ c.deref.result.now reads short x.0 x.1 is) c.text_of.ensures.told

pub returns-clause-end : goal.returns-clause-end
returns-clause-end g c =
    IfOk-weaker c.text_of.result _ _
    (λ x is. read_end input_limit _ _ c.in_ok-bytes.bytes.items c.in_ok-bytes.ensures.read
    (omega (arith, c.len.ensures, c.if-len-gt-INPUT_LIMIT.false)))
    c.text_of.ensures.told

pub returns-clause-refused : goal.returns-clause-refused
returns-clause-refused g c =
    let reads = subst (λ l. Reads (g.S.Source.left c.args.input.now) (g.S.Source.left c.read_up_to.new.source) (input_limit + 1) l)
    (sym c.deref.ensures.value) c.in_ok-bytes.ensures.read in
    let short : length c.deref.result.now ≤ input_limit =
    omega (arith, ap length c.deref.ensures.value, c.len.ensures, c.if-len-gt-INPUT_LIMIT.false) in
    fault_weaker _ _ _ (read_refuses _ _ c.deref.result.now reads short _ _ c.in_ok-bytes.ensures.counted) c.text_of.ensures.refused
