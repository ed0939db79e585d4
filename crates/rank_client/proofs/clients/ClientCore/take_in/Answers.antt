use Rattle.std.proofs.Common.{refl, sym, subst}
use Rattle.std.specs.Prelude.{IsSome}
use Rattle.rank_client.specs.declared.outcomes.Outcome.{Outcome}
use Rattle.rank_client.specs.declared.pendings.Pending.{Pending}
use Rattle.rank_client.specs.inside.{Fits, HasRoom, IsFresh, state_of}
use Rattle.rank_client.specs.Rules.{answer_call}
use Rattle.rank_client.specs.State.{ClientModel}
use Rattle.rank_client.proofs.Awaited.{busy, ended_inside, waiting_inside}
use Rattle.rank_client.proofs.clients.ClientCore.take_in.Goals as goal

pub invariant_of-self : goal.invariant_of-self
invariant_of-self c =
    let i = c.self.inside in
    let fresh : IsFresh (state_of i) = subst IsFresh (sym c.self.view_is) c.requires.fresh in
    let expected = subst (λ (s : ClientModel). IsSome (answer_call s s.pending c.args.from c.args.message)) (sym c.self.view_is)
    c.requires.expected in
    let pending = sym c.replace-pending.ensures.value in
    let here = subst (λ (p : Pending). IsSome (answer_call (state_of i) p c.args.from c.args.message)) pending expected in
    let heard = c.heard.ensures (state_of i) c.args.from refl refl here in
    let fit = subst (λ (o : Outcome). Fits i.config c.heard.new.room o) c.in-Ends.is heard.1 in
    ended_inside i c.in-Ends.change _ _ _ _ _ _ _ c.in-Ends.said c.self.invariant fresh fit (busy (state_of i) i.pending _ _ expected)
    (sym c.replace-pending.ensures.after) c.make_change.ensures.batch c.make_change.ensures.accepted c.make_change.ensures.handles
    c.make_change.ensures.space c.add.ensures.items c.add.ensures.ids

pub invariant_of-self-in-Waits : goal.invariant_of-self-in-Waits
invariant_of-self-in-Waits c =
    let i = c.self.inside in
    let fresh : IsFresh (state_of i) = subst IsFresh (sym c.self.view_is) c.requires.fresh in
    let expected = subst (λ (s : ClientModel). IsSome (answer_call s s.pending c.args.from c.args.message)) (sym c.self.view_is)
    c.requires.expected in
    let pending = sym c.replace-pending.ensures.value in
    let here = subst (λ (p : Pending). IsSome (answer_call (state_of i) p c.args.from c.args.message)) pending expected in
    let heard = c.heard.ensures (state_of i) c.args.from refl refl here in
    let fit = subst (λ (o : Outcome). Fits i.config c.heard.new.room o) c.in-Waits.is heard.1 in
    let has = subst (λ (p : Pending). HasRoom i.config c.heard.new.room p) (sym c.replace-in-Waits.ensures.after) fit.0 in
    waiting_inside i _ _ _ c.in-Waits.to.0 c.self.invariant fresh fit.1 (busy (state_of i) i.pending _ _ expected) has
    c.write.ensures.counted
