use Rattle.std.proofs.Common.{◌+◌, ◌∙◌, drop, length, refl}
use Rattle.flow_app.proofs.Storing.{below_at, rest_next, value_came}
use Rattle.flow_app.proofs.Working.{grows_more, grows_not}
use Rattle.flow_app.proofs.stores.Store.settle.Goals as goal

pub loop-rule-init : goal.loop-rule-init
loop-rule-init c = record {
  laid =
      value_came c.args.flow.now c.args.self.now.values.items c.args.self.now.noted.items c.args.self.now.ready.items c.args.self.now.next
      c.users-rule-items.result.now c.args.place c.args.value c.requires.laid c.requires.inside c.requires.none
      c.users-rule-items.ensures.all;
  values = refl;
  left = refl;
  next = refl;
  grows = grows_not c.args.self.now.ready.items;
}

pub note-requires-clause-laid : goal.note-requires-clause-laid
note-requires-clause-laid c = (
  drop (c.loop-rule.rule-index + 1) c.users-rule-items.result.now,
  rest_next c.args.flow.now c.loop-rule.self.values.items c.loop-rule.self.noted.items c.loop-rule.self.ready.items c.loop-rule.self.next
      c.users-rule-items.result.now c.loop-rule.rule-index c.loop-rule-test.true c.loop-rule.invariant.laid,
)

pub note-requires-clause-inside : goal.note-requires-clause-inside
note-requires-clause-inside c =
    below_at (length c.args.flow.now) c.users-rule-items.result.now c.loop-rule.rule-index 0 c.users-rule-items.ensures.within
    c.loop-rule-test.true

pub loop-rule-preserved : goal.loop-rule-preserved
loop-rule-preserved c = record {
  laid = c.in_ok-note.ensures.laid (drop (c.loop-rule.rule-index + 1) c.users-rule-items.result.now)
      (rest_next c.args.flow.now c.loop-rule.self.values.items c.loop-rule.self.noted.items c.loop-rule.self.ready.items
      c.loop-rule.self.next
      c.users-rule-items.result.now c.loop-rule.rule-index c.loop-rule-test.true c.loop-rule.invariant.laid);
  values = c.in_ok-note.ensures.values ∙ c.loop-rule.invariant.values;
  left = c.in_ok-note.ensures.left ∙ c.loop-rule.invariant.left;
  next = c.in_ok-note.ensures.next ∙ c.loop-rule.invariant.next;
  grows = grows_more c.args.self.now.ready.items c.loop-rule.self.ready.items c.note.new.self.ready.items c.loop-rule.invariant.grows
      c.in_ok-note.ensures.grows;
}
