use Rattle.std.proofs.Common.{◌<◌, set, length, map, ap, ◌∙◌, arith}
use Rattle.std.proofs.lemmas.List.{length-map}
use Rattle.rank_mail.specs.inside.{LineModel}
use Rattle.rank_mail.proofs.Ends.{places_sent, lists_sent}
use Rattle.rank_mail.proofs.posts.Post.send.Goals as goal

pub returns : goal.returns
returns g c =
    let items = c.self.inside.lines.items in let to = c.args.to in let letter = c.args.letter in let line = c.index_mut-line.result.now in
    let below : to < length items = let b : to < length (map (λ (l : LineModel). l.place) items) = rw (← c.self.view_is) at c.requires in
    omega (arith, b, length-map items (λ (l : LineModel). l.place)) in
    let places = ap (λ n. map (λ (l : LineModel). l.place) (set items to n)) c.send.ensures
    ∙ places_sent items to line letter c.index_mut-line.ensures.value in
    let sent = ap (λ n. map (λ (l : LineModel). l.sent) (set items to n)) c.send.ensures
    ∙ lists_sent items to line letter below c.index_mut-line.ensures.value in
    rw (← c.self.view_is) (λ i. record { number = c.self.inside.number; places = places i; sent = sent i })
