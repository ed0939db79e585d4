use Rattle.std.proofs.Common.{◌≡◌, ◌∙◌, ◌++◌, ◌∷◌, [], ap, false, subst, sym, true, rules, arith}
use Rattle.std.specs.Prelude.{is_none, is_some}
use Rattle.std.proofs.lemmas.Grind.{common_steps}
use Rattle.flow_law.specs.declared.Definition.TheVariants.{Rule}
use Rattle.flow_app.specs.Stored.{IsLaid, is_noted}
use Rattle.flow_app.proofs.Storing.{need_not, not_both, some_if, was_noted}
use Rattle.std.specs.Prelude.{slice_set}
use Rattle.flow_app.proofs.stores.Store.note.Goals as goal

pub returns-then-is_none-clause-laid : goal.returns-then-is_none-clause-laid
returns-then-is_none-clause-laid c = λ rest s.
    need_not c.args.flow.now c.args.self.now.values.items c.args.self.now.noted.items c.args.self.now.ready.items c.args.self.now.next
    c.args.rule rest s
    (λ name op left right at some. absurd (
    let has : is_some c.worth.result ≡ true = ap is_some (c.worth.ensures (Rule name op left right) at) ∙ some in
    let none : is_none c.worth.result ≡ true = first_of (cc, search rules, grind (arith, common_steps)) in
    not_both c.worth.result has none))

pub returns-clause-laid : goal.returns-clause-laid
returns-clause-laid c = λ rest s.
    let grown : c.push.new.self.items ≡ c.args.self.now.ready.items ++ c.args.rule ∷ [] =
    first_of (cc, search rules, grind (arith, common_steps)) in
    let fresh : is_noted c.args.self.now.noted.items c.args.rule ≡ false = first_of (cc, search rules, grind (arith, common_steps)) in
    let none : is_none c.worth.result ≡ false = first_of (cc, search rules, grind (arith, common_steps)) in
    subst (λ l. IsLaid c.args.flow.now c.args.self.now.values.items (slice_set c.args.self.now.noted.items c.args.rule true) l
    c.args.self.now.next rest) (sym grown)
    (was_noted c.args.flow.now c.args.self.now.values.items c.args.self.now.noted.items c.args.self.now.ready.items c.args.self.now.next
    c.args.rule rest s c.requires.inside fresh
    (λ d at. ap is_some (sym (c.worth.ensures d at)) ∙ some_if c.worth.result none))
