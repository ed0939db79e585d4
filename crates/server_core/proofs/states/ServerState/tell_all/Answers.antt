use Rattle.server_core.proofs.Prelude.{◌∙◌, Act, List, ap, goes_nowhere, going_on, refl, sym}
use Rattle.server_core.proofs.states.ServerState.tell_all.Goals as goal

pub returns-clause-made : goal.returns-clause-made
returns-clause-made c =
    let last = c.loop-end-test.ensures in
    goes_nowhere c.tell_next.new.out c.tell_next.new.self
    ∙ ap (λ (l : List Act). going_on c.tell_next.new.out l c.tell_next.new.self) (sym (last.last refl))
    ∙ last.told ∙ c.loop-end.invariant.left

pub returns-clause-room : goal.returns-clause-room
returns-clause-room c more room = c.loop-end-test.ensures.room more (c.loop-end.invariant.rooms more room)

pub loop-end-preserved : goal.loop-end-preserved
loop-end-preserved c = record {
  left = c.loop-end-test.ensures.told ∙ c.loop-end.invariant.left;
  room = c.loop-end-test.ensures.room 0 c.loop-end.invariant.room;
  rooms = λ more room. c.loop-end-test.ensures.room more (c.loop-end.invariant.rooms more room);
}
