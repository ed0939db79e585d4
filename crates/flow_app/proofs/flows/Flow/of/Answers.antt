use Rattle.std.proofs.Common.{◌≡◌, ◌∙◌, ap, sym, subst, map, List, length}
use Rattle.flow_law.specs.declared.Definition.{Definition}
use Rattle.flow_app.specs.Linked.{IsLinked, inputs_by, inputs_of, noted_number, number_of}
use Rattle.flow_app.specs.inside.Users.{HasUsers}
use Rattle.flow_app.specs.declared.links.Inputs.{Inputs}
use Rattle.flow_app.proofs.Linking.{all_inputs_same, are_inside, linked}
use Rattle.flow_app.proofs.flows.Flow.of.Goals as goal

pub all_users-requires-clause-inside : goal.all_users-requires-clause-inside
all_users-requires-clause-inside c =
    let shrunk : c.as_slice.result.now ≡ c.args.definitions.items = c.as_slice.ensures.value ∙ c.shrink_to_fit.ensures.items in
    let is : c.in_ok-inputs.inputs.items ≡ map (inputs_of c.args.definitions.items) c.args.definitions.items =
    c.in_ok-inputs.ensures ∙ ap (map (inputs_by (noted_number c.args.numbers.now))) shrunk
    ∙ all_inputs_same (noted_number c.args.numbers.now) (number_of c.args.definitions.items) c.requires.numbers c.args.definitions.items in
    are_inside c.args.definitions.items c.as_slice-2.result.now (c.as_slice-2.ensures.value ∙ is)

pub invariant_of-result : goal.invariant_of-result
invariant_of-result c =
    let shrunk : c.as_slice.result.now ≡ c.args.definitions.items = c.as_slice.ensures.value ∙ c.shrink_to_fit.ensures.items in
    let is : c.in_ok-inputs.inputs.items ≡ map (inputs_of c.args.definitions.items) c.args.definitions.items =
    c.in_ok-inputs.ensures ∙ ap (map (inputs_by (noted_number c.args.numbers.now))) shrunk
    ∙ all_inputs_same (noted_number c.args.numbers.now) (number_of c.args.definitions.items) c.requires.numbers c.args.definitions.items in
    let users : HasUsers (length c.in_ok-inputs.inputs.items) c.in_ok-inputs.inputs.items c.in_ok-users.users.items =
    subst (λ (l : List Inputs). HasUsers (length l) l c.in_ok-users.users.items) c.as_slice-2.ensures.value c.in_ok-users.ensures in
    subst (λ (l : List Definition). IsLinked l c.in_ok-inputs.inputs.items c.in_ok-users.users.items) (sym c.shrink_to_fit.ensures.items)
    (linked c.args.definitions.items c.in_ok-inputs.inputs.items c.in_ok-users.users.items c.requires.distinct c.requires.few is users)
