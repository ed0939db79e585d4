use Rattle.std.proofs.Common.{◌≡◌, ◌<◌, length, vec_len, ap, sym, ◌∙◌, rules, arith}
use Rattle.std.proofs.lemmas.List.{length-map}
use Rattle.rank_mail.proofs.Lists.{get_there}
use Rattle.thread_tests.proofs.cast.cast.Goals as goal

pub returns : goal.returns
returns g c =
    let items = c.in_ok-desks.desks.items in let inboxes = c.args.mail.inboxes in
    let all : vec_len inboxes ≡ length inboxes.items = search rules in
    let seven : length items ≡ 7 = c.in_ok-desks.ensures.len ∙ ap length c.requires.mail ∙ length-map inboxes.items (λ b. b.place)
    ∙ sym all ∙ c.args.mail.seven.1 in
    let within : c.args.tried < length items = omega (arith, seven, c.requires.tried) in
    c.in_ok-desks.ensures.new c.args.tried c.swap_remove-desk.result
    (get_there items c.args.tried c.swap_remove-desk.result c.swap_remove-desk.ensures.value within)
