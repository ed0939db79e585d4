use Rattle.std.proofs.Common.{◌≡◌, ◌≤◌, ◌+◌, ℕ, List, ap, sym, subst, arith, length}
use Rattle.std.proofs.lemmas.Result.{IfErr-weaker, IfOk-weaker}
use Rattle.adlb_io.proofs.Inputs.{read_end, read_too_long}
use Rattle.adlb_io.specs.Whole.{Reads}
use Rattle.run_command.specs.Ends.{input_limit}
use Rattle.run_command.proofs.Asking.{read_asks, read_stops}
use Rattle.run_command.proofs.reading.read_input.Goals as goal

pub returns-then-len-gt-INPUT_LIMIT-clause-stopped : goal.returns-then-len-gt-INPUT_LIMIT-clause-stopped
returns-then-len-gt-INPUT_LIMIT-clause-stopped g c = λ refused refused'.
    let count : c.len-taken.result ≡ input_limit + 1 =
    omega (arith, c.len-taken.ensures, c.len.ensures, c.if-len-gt-INPUT_LIMIT.true, c.in-Ok.ensures.bound) in
    let before = g.S.Source.left c.args.input.now in
    let after = g.S.Source.left c.read_up_to.new.source in
    let bytes : List ℕ = c.in-Ok.bytes.items in (
      count,
      read_too_long input_limit before after bytes c.in-Ok.ensures.read (omega (arith, c.len.ensures, c.if-len-gt-INPUT_LIMIT.true)),
      (bytes, subst (λ n. Reads before after n bytes) (sym count) c.in-Ok.ensures.read),
      c.in-Ok.ensures.counted,
    )

pub returns-clause-asked : goal.returns-clause-asked
returns-clause-asked g c =
    let reads = subst (λ l. Reads (g.S.Source.left c.args.input.now) (g.S.Source.left c.read_up_to.new.source) (input_limit + 1) l)
    (sym c.deref.ensures.value) c.in-Ok.ensures.read in
    let short : length c.deref.result.now ≤ input_limit =
    omega (arith, ap length c.deref.ensures.value, c.len.ensures, c.if-len-gt-INPUT_LIMIT.false) in
    IfOk-weaker c.read_bytes-asked.result _ _
    (λ asked are. read_asks _ _ c.deref.result.now reads short (g.C.Command.asks c.args.command.now) asked are)
    c.read_bytes-asked.ensures.asked

pub returns-clause-end : goal.returns-clause-end
returns-clause-end g c =
    IfOk-weaker c.read_bytes-asked.result _ _
    (λ asked are. read_end input_limit _ _ c.in-Ok.bytes.items c.in-Ok.ensures.read (omega (
      arith,
      c.len.ensures,
      c.if-len-gt-INPUT_LIMIT.false,
    )))
    c.read_bytes-asked.ensures.asked

pub returns-clause-stopped : goal.returns-clause-stopped
returns-clause-stopped g c = λ refused refused'.
    let reads = subst (λ l. Reads (g.S.Source.left c.args.input.now) (g.S.Source.left c.read_up_to.new.source) (input_limit + 1) l)
    (sym c.deref.ensures.value) c.in-Ok.ensures.read in
    let short : length c.deref.result.now ≤ input_limit =
    omega (arith, ap length c.deref.ensures.value, c.len.ensures, c.if-len-gt-INPUT_LIMIT.false) in
    IfErr-weaker c.read_bytes-asked.result _ _
    (read_stops _ _ c.deref.result.now reads short (g.C.Command.asks c.args.command.now) (g.C.Command.refuses c.args.command.now)
    (λ asked. ⊥) _ _ refused refused' c.in-Ok.ensures.counted)
    c.read_bytes-asked.ensures.refused
