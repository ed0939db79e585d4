use Rattle.std.proofs.Common.{◌∙◌, ap, sym, ◌++◌, ◌∷◌, [], ◌<◌, length, List, ℕ}
use Rattle.flow_app.specs.Linked.{is_number}
use Rattle.flow_app.proofs.Users.{all_below, others_noted, rule_noted, users_read}
use Rattle.flow_app.proofs.links.note_user.Goals as goal

pub returns-in_ok-or_no_memory-clause-noted : goal.returns-in_ok-or_no_memory-clause-noted
returns-in_ok-or_no_memory-clause-noted c = λ i is.
    let items = rw c.in_ok-or_no_memory.ensures at c.push.ensures.items in
    let inside : c.in-Some.number < length c.args.users.now.items = c.requires.inside c.in-Some.number c.in-Some.is in
    rule_noted c.args.users.now.items c.in-Some.number c.args.rule c.push.new.self inside
    (items ∙ ap (λ (l : List ℕ). l ++ c.args.rule ∷ [])
    (users_read c.args.users.now.items c.in-Some.number _ inside c.index_mut.ensures.value)) i
    (ap (λ o. is_number o i) (sym c.in-Some.is) ∙ is)

pub returns-in_ok-or_no_memory-clause-kept : goal.returns-in_ok-or_no_memory-clause-kept
returns-in_ok-or_no_memory-clause-kept c =
    let items = rw c.in_ok-or_no_memory.ensures at c.push.ensures.items in
    let inside : c.in-Some.number < length c.args.users.now.items = c.requires.inside c.in-Some.number c.in-Some.is in
    others_noted c.args.users.now.items c.in-Some.number c.args.rule c.push.new.self inside
    (items ∙ ap (λ (l : List ℕ). l ++ c.args.rule ∷ [])
    (users_read c.args.users.now.items c.in-Some.number _ inside c.index_mut.ensures.value))

pub returns-in_ok-or_no_memory-clause-within : goal.returns-in_ok-or_no_memory-clause-within
returns-in_ok-or_no_memory-clause-within c =
    let items = rw c.in_ok-or_no_memory.ensures at c.push.ensures.items in
    let inside : c.in-Some.number < length c.args.users.now.items = c.requires.inside c.in-Some.number c.in-Some.is in
    all_below c.args.users.now.items c.in-Some.number c.args.rule c.push.new.self inside
    (items ∙ ap (λ (l : List ℕ). l ++ c.args.rule ∷ [])
    (users_read c.args.users.now.items c.in-Some.number _ inside c.index_mut.ensures.value))
