use Rattle.std.proofs.Common.{Ok, Err, refl, sym, ap, subst, ◌∙◌}
use Rattle.core_world.specs.declared.faults.ApplyFault.{ApplyFault}
use Rattle.core_world.specs.declared.faults.ApplyFault.TheVariants as faults
use Rattle.core_world.specs.Seen.{Seen}
use Rattle.core_world.specs.Stage.{IsReached}
use Rattle.core_world.proofs.Ended.{not_both}
use Rattle.core_world.proofs.Many.{err_same, late_many}
use Rattle.core_world.proofs.Refused.{done_is_none, enabled_says, refusal_says, trouble_is_none}
use Rattle.core_world.proofs.worlds.World.apply.Goals as goal

pub returns-then-not-enables-clause-none_now : goal.returns-then-not-enables-clause-none_now
returns-then-not-enables-clause-none_now c = λ given.
    refusal_says c.self.inside c.args.self.now c.args.event given c.self.view_is c.self.invariant c.in_default.is
    (λ enabled. not_both c.enables.result (c.enables.ensures.1 enabled) c.if-not-enables.true)

pub returns-in-Ok-clause-none_now : goal.returns-in-Ok-clause-none_now
returns-in-Ok-clause-none_now c = λ given.
    enabled_says c.self.inside c.args.self.now c.args.event given (Ok c.in-Ok.told) c.self.view_is
    (c.enables.ensures.0 c.if-not-enables.false) (done_is_none (Ok c.in-Ok.told) c.in-Ok.told given refl)

pub returns-in-Err-clause-none_now : goal.returns-in-Err-clause-none_now
returns-in-Err-clause-none_now c = λ given.
    enabled_says c.self.inside c.args.self.now c.args.event given (Err c.of-in-Err.result) c.self.view_is
    (c.enables.ensures.0 c.if-not-enables.false)
    (trouble_is_none (Err c.of-in-Err.result) c.in-Err.trouble given (ap (λ (f : ApplyFault). Err f) c.of-in-Err.ensures))

pub returns-in-Err-clause-many : goal.returns-in-Err-clause-many
returns-in-Err-clause-many c = λ whole stamp is.
    let reached = subst (λ (s : Seen). IsReached s.world) c.self.view_is
    (c.self.invariant (ap (λ (s : Seen). s.trouble) c.self.view_is ∙ whole)).1 in
    late_many c.args.self.now.world c.carry_out.new.self.world c.args.event c.in-Err.trouble stamp reached c.in-Err.ensures.stops
    (sym c.of-in-Err.ensures ∙ err_same (Err c.of-in-Err.result) c.of-in-Err.result (faults.TooLong stamp) refl is)
