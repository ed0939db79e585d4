use Rattle.std.proofs.Common.{ℕ, ◌≡◌, ◌+◌, ◌-◌, ◌^◌, ◌∷◌, min, ap, ◌∙◌, arith}
use Rattle.packed_ledger.proofs.Groups.{read_none, read_last, read_more, not_empty}
use Rattle.packed_ledger.proofs.numbers.+read_groups.Goals as goal

pub returns-then-most-eq0 : goal.returns-then-most-eq0
returns-then-most-eq0 t c = λ n rest fits small e. read_none c.args.most n c.args.bytes.now rest c.if-most-eq0.true small e

pub returns-then-group-lt128 : goal.returns-then-group-lt128
returns-then-group-lt128 t c = λ n rest fits small e.
    let front : c.args.bytes.now ≡ c.in-Some.group.now ∷ c.in-Some.behind.now = c.in-Some.ensures.cases.0 in
    read_last c.args.most n c.in-Some.group.now c.args.bytes.now c.in-Some.behind.now rest (omega arith) c.if-group-lt128.true front e

pub returns-in-None : goal.returns-in-None
returns-in-None t c = λ n rest fits small e. absurd (not_empty c.args.most n c.args.bytes.now rest (omega arith) e c.in-None.ensures.cases)

pub returns-else-group-lt128 : goal.returns-else-group-lt128
returns-else-group-lt128 t c = λ n rest fits small e.
    let front : c.args.bytes.now ≡ c.in-Some.group.now ∷ c.in-Some.behind.now = c.in-Some.ensures.cases.0 in
    let high = c.read_groups-high.result.0 in
    let back = read_more c.args.most n c.in-Some.group.now high c.args.bytes.now c.in-Some.behind.now c.read_groups-high.result.1.now
    rest (omega arith) c.if-group-lt128.false fits small front e c.read_groups-high.ensures in (
      c.saturating_add.ensures ∙ ap (λ (v : ℕ). min (v + (c.in-Some.group.now - 128)) (2 ^ 64 - 1)) c.saturating_mul.ensures
          ∙ back.0,
      back.1,
    )
