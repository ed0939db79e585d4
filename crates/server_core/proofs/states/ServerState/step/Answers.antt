use Rattle.server_core.proofs.Prelude.{◌*◌, ◌+◌, ◌∙◌, ◌≡◌, ◌≤◌, All-weaker, Err, Ok, OnOk, Out, Result, ServerModel, Some, acts, ap, arith}
use Rattle.server_core.proofs.Prelude.{at_event, event_letters, false, going_on, is_err, length, made, max, next_stamp, option_map}
use Rattle.server_core.proofs.Prelude.{serve_rule, serves, subst, sym, ticked}
use Rattle.server_core.proofs.states.ServerState.step.Goals as goal
use Rattle.server_core.proofs.states.ServerState.step.Goals.{After-tick}

-- the server as the event finds it
ticks : (c : After-tick) → c.tick.new.self ≡ at_event c.args.self.now c.args.letter
ticks c =
    let s = c.args.self.now in
    let stamp : c.max-stamp.result + 1 ≡ next_stamp s c.args.letter =
    ap (λ n. n + 1) c.max-stamp.ensures ∙ ap (λ (t : ServerModel). max t.clock c.args.letter.stamp + 1) c.self.view_is in
    c.tick.ensures.ticked ∙ ap (λ n. ticked s n c.raises.result) stamp ∙ ap (ticked s (next_stamp s c.args.letter)) c.raises.ensures

pub handle-requires-clause-expected : goal.handle-requires-clause-expected
handle-requires-clause-expected c =
    rw (ticks (goal.at.handle-requires-clause-expected c).After-tick)
    (serve_rule c.args.self.now c.args.from c.args.letter c.requires.expected)

pub handle-requires-clause-room : goal.handle-requires-clause-room
handle-requires-clause-room c =
    let told = c.waiting_and_wishes-waiting.ensures in
    let waiting = ap (λ (t : ServerModel). length t.kept.parked.waiting) c.tick.ensures.ticked in
    let wishes = ap (λ (t : ServerModel). length t.kept.parked.wishes) c.tick.ensures.ticked in
    let room : c.in-Ok.out.room ≡ c.waiting_and_wishes-waiting.result.0 + c.waiting_and_wishes-waiting.result.1 + 9 =
    ap (λ (o : Out). o.room) c.in-Ok.ensures in
    let all = event_letters * c.tick.new.self.clock in
    record {
      tells = omega (arith, waiting, wishes, room, told.waiting, told.wishes);
      places = All-weaker (λ n. n + event_letters ≤ all) (λ n. n + c.in-Ok.out.room ≤ all)
          (λ n fits. omega (arith, told.few, room, fits)) c.tick.new.self.sent c.tick.ensures.places;
    }

pub returns-clause-served : goal.returns-clause-served
returns-clause-served c =
    let parts = c.parts-sends.ensures in
    let now = ticks (goal.at.returns-clause-served c).After-tick in
    let room = c.waiting_and_wishes-waiting.result.0 + c.waiting_and_wishes-waiting.result.1 + 9 in
    let handled = on_ok c.handle.result (sym c.if-is_err.ensures.value) c.handle.ensures.ok in
    let F : Out → Type 0 = λ o. option_map (λ l. going_on o l c.tick.new.self) (acts c.tick.new.self c.args.from c.args.letter.message)
    ≡ Some (made c.handle.new.self c.handle.new.out) in
    rw (parts.sends, parts.entries)
    (serves c.args.self.now c.tick.new.self c.handle.new.self c.handle.new.out room c.args.from c.args.letter c.requires.expected now
    (subst F c.in-Ok.ensures handled))
  where
    on_ok : {T E P : Type 0} (r : Result T E) → is_err r ≡ false → OnOk r P → P
    on_ok (Ok x) none holds = holds
    on_ok (Err e) none holds = absurd (cc)
