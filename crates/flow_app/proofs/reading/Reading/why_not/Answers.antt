use Rattle.std.proofs.Common.{◌≡◌, ◌∙◌, sym, length, true, false, arith, rules}
use Rattle.std.specs.Prelude.{is_some}
use Rattle.std.proofs.lemmas.Grind.{common_steps}
use Rattle.flow_app.specs.Reading.{definition_limit}
use Rattle.flow_app.proofs.Defining.{fine_is, le_test, lt_test, many_is, twice_is}
use Rattle.flow_app.proofs.reading.Reading.why_not.Goals as goal

pub returns-then-is_some : goal.returns-then-is_some
returns-then-is_some c = λ d same.
    let some : is_some c.get.result ≡ true = first_of (cc, search rules, grind (arith, common_steps)) in
    sym (twice_is c.args.self.now.definitions.items d c.args.name.now same c.get.result
    (c.get.ensures ∙ c.requires.numbers c.args.name.now) some)

pub returns-then-len-ge-DEFINITION_LIMIT : goal.returns-then-len-ge-DEFINITION_LIMIT
returns-then-len-ge-DEFINITION_LIMIT c = λ d same.
    let none : is_some c.get.result ≡ false = first_of (cc, search rules, grind (arith, common_steps)) in
    sym (many_is c.args.self.now.definitions.items d c.args.name.now same c.get.result
    (c.get.ensures ∙ c.requires.numbers c.args.name.now) none
    (le_test definition_limit (length c.args.self.now.definitions.items) (omega arith)))

pub returns-else-len-ge-DEFINITION_LIMIT : goal.returns-else-len-ge-DEFINITION_LIMIT
returns-else-len-ge-DEFINITION_LIMIT c = λ d same.
    let none : is_some c.get.result ≡ false = first_of (cc, search rules, grind (arith, common_steps)) in
    sym (fine_is c.args.self.now.definitions.items d c.args.name.now same c.get.result
    (c.get.ensures ∙ c.requires.numbers c.args.name.now) none
    (lt_test definition_limit (length c.args.self.now.definitions.items) (omega arith)))
