use Rattle.std.proofs.Common.{ap, ◌∙◌, ◌==◌}
use Rattle.tour_search.specs.inside.Left.{pieces_in}
use Rattle.tour_search.proofs.Cuts.{first_piece, last_piece}
use Rattle.tour_search.proofs.pieces.Pieces.next.Goals as goal

pub returns-in-Some : goal.returns-in-Some
returns-in-Some c =
    ap (λ r. pieces_in r c.args.self.now.at) c.in_ok-text.was
    ∙ first_piece (λ byte. byte == c.args.self.now.at) c.in_ok-text.text.now c.in-Some.piece.now c.in-Some.rest.now c.in-Some.ensures.0
    c.in-Some.ensures.1 c.in-Some.ensures.2

pub returns-in-None : goal.returns-in-None
returns-in-None c =
    ap (λ r. pieces_in r c.args.self.now.at) c.in_ok-text.was
    ∙ last_piece (λ byte. byte == c.args.self.now.at) c.in_ok-text.text.now c.in-None.ensures
