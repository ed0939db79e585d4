use Rattle.server_core.proofs.Prelude.{◌&&◌, ◌+◌, ◌∙◌, ◌≡◌, ServerModel, ap, arith, rest_all, rest_from, rest_next, rest_none, sym}
use Rattle.server_core.proofs.states.ServerState.all_rest.Goals as goal

pub loop-number-init : goal.loop-number-init
loop-number-init c =
    let same = ap (λ (s : ServerModel). s.config.ranks) c.self.view_is in
    record { left = ap (λ n. rest_from c.args.self.now n 0) same ∙ rest_all c.args.self.now; end = same }

pub returns-then-not-rests : goal.returns-then-not-rests
returns-then-not-rests c =
    let end = c.self.inside.config.ranks in
    sym (ap (λ b. b && rest_from c.args.self.now end (c.loop-number.number + 1)) (sym c.rests.ensures ∙ c.if-not-rests.true))
    ∙ sym (rest_next c.args.self.now end c.loop-number.number c.loop-number-test.true) ∙ c.loop-number.invariant.left

pub loop-number-preserved : goal.loop-number-preserved
loop-number-preserved c =
    let end = c.self.inside.config.ranks in
    record {
      left = sym (ap (λ b. b && rest_from c.args.self.now end (c.loop-number.number + 1)) (sym c.rests.ensures ∙ c.if-not-rests.false))
          ∙ sym (rest_next c.args.self.now end c.loop-number.number c.loop-number-test.true) ∙ c.loop-number.invariant.left;
      end = c.loop-number.invariant.end;
    }

pub returns : goal.returns
returns c =
    let end = c.self.inside.config.ranks in
    let last : c.loop-number.number ≡ end = omega arith in
    sym (rest_none c.args.self.now end) ∙ ap (λ n. rest_from c.args.self.now end n) (sym last) ∙ c.loop-number.invariant.left
