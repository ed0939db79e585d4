use Rattle.std.proofs.Common.{None, List, ℕ, refl, sym, subst, ◌≡◌, ◌∙◌, [], arith, rules}
use Rattle.std.proofs.lemmas.Grind.{common_steps}
use Rattle.flow_units.specs.Bodies.{forms}
use Rattle.flow_work.specs.Working.{Fresh, HasTried, IsGoing}
use Rattle.flow_work.proofs.Steps.{going_so, none_kept}
use Rattle.flow_work.proofs.Ways.{whole_way}
use Rattle.flow_work.proofs.calls.Worker.put_again.Goals as goal

pub put_oldest-requires-clause-going : goal.put_oldest-requires-clause-going
put_oldest-requires-clause-going g c =
    subst (λ (l : List (ℕ × ℕ)). IsGoing (forms c.args.self.now.ranks) None (g.R.Rank.link c.args.link.now).said (Fresh l))
    c.in-Some.ensures.items c.requires.going

pub returns-in-None-clause-told : goal.returns-in-None-clause-told
returns-in-None-clause-told g c =
    let none : c.args.kept.now.items ≡ [] = first_of (search rules, cc, grind (arith, common_steps)) in
    let now : c.pop_front.new.self.items ≡ [] = first_of (search rules, cc, grind (arith, common_steps)) in
    subst (λ (l : List (ℕ × ℕ)). IsGoing (forms c.args.self.now.ranks) None (g.R.Rank.link c.args.link.now).said (HasTried l)) (none ∙ sym
    now)
    (none_kept (forms c.args.self.now.ranks) _ c.args.kept.now.items none c.requires.going)

pub returns-in-None-clause-so_far : goal.returns-in-None-clause-so_far
returns-in-None-clause-so_far g c =
    whole_way (forms c.args.self.now.ranks) None _ _ _ c.requires.ready.whole (going_so (forms c.args.self.now.ranks) None _ _ (Fresh
    c.args.kept.now.items) c.requires.going refl)
