use Rattle.core_inline.proofs.Prelude.{Option, Repeats, Trouble, subst, sym, ◌∙◌}
use Rattle.core_inline.proofs.Kept.{finish_says, now_called}
use Rattle.core_inline.proofs.inline.InlineWorld.finish_inline.Goals as goal

pub invariant_of-self : goal.invariant_of-self
invariant_of-self c = record {
  one_rank = c.call.ensures.holds.one_rank;
  late = λ stamp too_long. (c.call.ensures.holds.late stamp too_long).0;
  short = c.call.ensures.holds.short;
}

pub returns-clause-finished : goal.returns-clause-finished
returns-clause-finished c = now_called _ _ c.call.ensures.finished

pub returns-clause-says : goal.returns-clause-says
returns-clause-says c = let e = c.call.ensures in finish_says _ _ _ _ e.made.said e.made.failed e.kind

pub returns-clause-repeats : goal.returns-clause-repeats
returns-clause-repeats c =
    let made = c.call.ensures.made in
    subst (λ (t : Option Trouble). Repeats c.args.self.now.run.failed t) (sym made.failed) made.repeats

pub returns-clause-heard : goal.returns-clause-heard
returns-clause-heard c = λ none. let e = c.call.ensures in (e.holds.whole none).ended ∙ now_called _ _ e.finished
