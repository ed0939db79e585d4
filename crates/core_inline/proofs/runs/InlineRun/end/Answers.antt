use Rattle.core_inline.proofs.Prelude.{IsEnd, None, Run, Some, TooLong, ap, arith, length, rank_in, run_of, subst, sym, take_all, ◌^◌}
use Rattle.core_inline.proofs.Prelude.{◌∙◌, ◌≡◌, ◌≤◌}
use Rattle.core_inline.proofs.Kept.{end_of}
use Rattle.rank_client.proofs.Awaited.{none_left}
use Rattle.core_inline.proofs.runs.InlineRun.end.Goals as goal

pub returns-clause-ended : goal.returns-clause-ended
returns-clause-ended c =
    let i = c.self.inside in
    let whole : i.world.trouble ≡ None = none_left i.world.trouble (λ x e. c.in_default.not-Some x (c.trouble.ensures ∙ e)) in
    let all = take_all i.answered (rank_in i.world).transcript (omega (arith, c.self.invariant.all whole)) in
    let parts = c.into_parts-ledger.ensures in
    subst (λ (r : Run). IsEnd r c.into_parts-ledger.result.0 c.into_parts-ledger.result.1.items c.in-Ok.left.items) c.self.view_is
    (end_of (run_of i) _ _ _ c.self.invariant.inline whole parts.ledger (parts.transcript ∙ sym all) c.in-Ok.ensures)

-- a stamp that was too long is past the last one, and each call took five events at most
pub returns-in-Some-clause-many : goal.returns-in-Some-clause-many
returns-in-Some-clause-many c = λ n is.
    let i = c.self.inside in
    let same : c.in-Some.trouble ≡ TooLong n = cc in
    let late = c.self.invariant.inline.late n (sym c.trouble.ensures ∙ c.in-Some.is ∙ ap Some same) in
    subst (λ (r : Run). 2 ^ 35 ≤ length r.transcript) c.self.view_is (omega (arith, late.0, late.1))
