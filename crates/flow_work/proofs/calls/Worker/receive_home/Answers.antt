use Rattle.std.proofs.Common.{Option, Some, refl, subst, ◌≡◌, rules}
use Rattle.flow_units.specs.Bodies.{forms}
use Rattle.flow_work.specs.Pieces.{piece_read}
use Rattle.flow_work.specs.Working.{AtHome, HasCome}
use Rattle.flow_work.specs.declared.pieces.Piece.{Piece}
use Rattle.flow_work.specs.declared.pieces.Piece.TheVariants.{Answer}
use Rattle.flow_work.proofs.Steps.{answer_stored, come_so, going_so}
use Rattle.flow_work.proofs.Ways.{whole_way}
use Rattle.flow_work.proofs.calls.Worker.receive_home.Goals as goal

pub returns-in_default-clause-so_far : goal.returns-in_default-clause-so_far
returns-in_default-clause-so_far g c =
    whole_way (forms c.args.self.now.ranks) (Some c.args.flow.now) _ _ _ c.requires.ready.whole (come_so (forms c.args.self.now.ranks)
    (Some c.args.flow.now) _ (AtHome c.args.flow.now c.args.home.now) (piece_read c.args.unit) c.requires.came)

pub returns-in-Ok-clause-told : goal.returns-in-Ok-clause-told
returns-in-Ok-clause-told g c =
    let is : c.args.unit ≡ Some (Answer c.in-Some-Answer.answer) = first_of (cc, search rules) in
    let came = subst (λ (u : Option Piece). HasCome (forms c.args.self.now.ranks) (Some c.args.flow.now) (g.R.Rank.link
    c.args.link.now).said
    (AtHome c.args.flow.now c.args.home.now) (piece_read u)) is c.requires.came in
    answer_stored (forms c.args.self.now.ranks) c.args.flow.now c.args.home.now c.keep.new.self c.in-Some-Answer.answer.number
    c.in-Some-Answer.answer.value
    c.in-Ok.ensures.out c.in-Ok.ensures.values c.in-Ok.ensures.next c.in-Ok.ensures.grows _ came

pub returns-in-Ok-clause-so_far : goal.returns-in-Ok-clause-so_far
returns-in-Ok-clause-so_far g c =
    let is : c.args.unit ≡ Some (Answer c.in-Some-Answer.answer) = first_of (cc, search rules) in
    let came = subst (λ (u : Option Piece). HasCome (forms c.args.self.now.ranks) (Some c.args.flow.now) (g.R.Rank.link
    c.args.link.now).said
    (AtHome c.args.flow.now c.args.home.now) (piece_read u)) is c.requires.came in
    whole_way (forms c.args.self.now.ranks) (Some c.args.flow.now) _ _ _ c.requires.ready.whole
    (going_so (forms c.args.self.now.ranks) (Some c.args.flow.now) _ _ (AtHome c.args.flow.now (record c.args.home.now {
      store =
          c.keep.new.self;
    }))
    (answer_stored (forms c.args.self.now.ranks) c.args.flow.now c.args.home.now c.keep.new.self c.in-Some-Answer.answer.number
    c.in-Some-Answer.answer.value
    c.in-Ok.ensures.out c.in-Ok.ensures.values c.in-Ok.ensures.next c.in-Ok.ensures.grows _ came) refl)
