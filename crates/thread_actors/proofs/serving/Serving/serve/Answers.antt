use Rattle.std.proofs.Common.{◌≡◌, ◌<◌, [], ◌∷◌, true, refl, ap, sym, subst, ◌∙◌, Err, Result}
use Rattle.std.proofs.lemmas.Result.{err_from_is_err_and}
use Rattle.adlb_unit.specs.Limits.{stamp_limit}
use Rattle.adlb_unit.specs.Links.{is_within, place_of}
use Rattle.adlb_unit.specs.declared.configs.Config.{Config}
use Rattle.adlb_unit.specs.declared.letters.Letter.{Letter}
use Rattle.adlb_unit.specs.declared.notes.Trouble.{Trouble}
use Rattle.server_core.specs.declared.steps.Step.{Step}
use Rattle.actor_desk.specs.Desks.{DeskModel}
use Rattle.server_law.specs.Step.{next_stamp, serve}
use Rattle.thread_actors.specs.inside.Serving.{Follows}
use Rattle.thread_actors.proofs.ServerSteps.{follows_more, in_time, step_keeps}
use Rattle.thread_actors.proofs.serving.Serving.serve.Goals as goal

pub invariant_of-self-in-Err : goal.invariant_of-self-in-Err
invariant_of-self-in-Err g c =
    let self = c.args.self.now in
    let room = c.make_room_for.ensures.same in
    record {
      run_is = step_keeps c.step.result self.state c.step.new.self c.args.from c.got-cause.result.1 _ _
          c.step.ensures.served c.step.ensures.config c.step.ensures.me self.run_is;
      desk_is = (ap (λ (d : DeskModel). d.config) room ∙ self.desk_is.0, ap (λ (d : DeskModel). d.number) room ∙ self.desk_is.1);
    }

pub invariant_of-self-2 : goal.invariant_of-self-2
invariant_of-self-2 g c =
    let self = c.args.self.now in
    let room = c.make_room_for.ensures.same in
    let entered = c.enter.ensures.entered in
    record {
      run_is = step_keeps c.step.result self.state c.step.new.self c.args.from c.got-cause.result.1 _ _
          c.step.ensures.served c.step.ensures.config c.step.ensures.me self.run_is;
      desk_is = (
        entered.config ∙ ap (λ (d : DeskModel). d.config) room ∙ self.desk_is.0,
        entered.number ∙ ap (λ (d : DeskModel). d.number) room ∙ self.desk_is.1,
      );
    }

pub returns : goal.returns
returns g c =
    let self = c.args.self.now in let from = c.args.from in let letter = c.args.letter in
    let at : self.desk.config ≡ self.config = self.desk_is.0 in
    let made = c.got-cause.ensures in
    let within = subst (λ (k : Config). is_within k from ≡ true) (sym at) c.requires.within in
    let was = subst (λ (k : Config). Follows self.desk (record { from = place_of k from; letter = letter } ∷ []) self.state) (sym at)
    c.requires.follows in
    let soon = subst (λ (l : Letter). next_stamp self.state l < stamp_limit) made.letter (in_time _ _ c.in_ok-stamp.ensures.too_long) in
    record {
      follows =
          follows_more self.desk c.make_room_for.new.self c.enter.new.self self.state from letter _ _
          c.make_room_for.ensures.same made.cause
          (ap (λ (l : Letter). serve self.state from l) (sym made.letter) ∙ c.in_ok-stamp.ensures.served) soon
          (c.in_ok-stamp.ensures.stamp ∙ ap (λ (l : Letter). next_stamp self.state l) made.letter) refl refl within c.requires.going
          c.enter.ensures.entered c.enter.ensures.tallies was;
      unsent = tt;
      stamp = tt;
      config = refl;
      me = refl;
    }

pub returns-in_err-stamp-clause-stamp : goal.returns-in_err-stamp-clause-stamp
returns-in_err-stamp-clause-stamp g c =
    let p = err_from_is_err_and c.from_residual.result c.from_residual.ensures.1 in
    let to_err : Trouble → Result Step Trouble = λ trouble. Err trouble in
    rw (p.1, p.2) (λ n is. ((c.in_err-stamp.ensures.too_long n).0 (ap to_err is)).1
    ∙ ap (λ (l : Letter). next_stamp c.args.self.now.state l) c.got-cause.ensures.letter)
