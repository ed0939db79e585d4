use Rattle.std.proofs.Common.{◌≡◌, List, [], ◌∷◌, ◌++◌, map, ap, sym, ◌∙◌}
use Rattle.bag_ledger.specs.declared.entries.Entry.{Entry}
use Rattle.merge_history.specs.Events.{Event}
use Rattle.merge_history.specs.Kept.{kept_of}
use Rattle.packed_ledger.specs.Sizes.{stamped}
use Rattle.actor_desk.proofs.Keeping.{kept_of_more}
use Rattle.actor_desk.proofs.desk.Desk.note.Goals as goal

-- the event that was added is the one that is entered
events_are : (g : _) (c : goal.After-drop-moment-inside-3 g)
    → c.and-self-inside.result.items ≡ c.self.inside.events.items
    ++ record {
      stamp = c.args.stamp;
      cause = c.args.cause.value;
      sends = c.args.sends.value.items;
      entries = c.args.entries.now.items;
    } ∷ []
events_are g c =
    let event : List Entry → Event =
    λ entries. record { stamp = c.args.stamp; cause = c.args.cause.value; sends = c.args.sends.value.items; entries = entries } in
    c.and-self-inside.ensures ∙ (λ i. c.self.inside.events.items ++ event (c.of.ensures i).items ∷ [])

pub invariant_of-self : goal.invariant_of-self
invariant_of-self g c =
    let at_desk = c.self.invariant in
    let e : Event =
    record { stamp = c.args.stamp; cause = c.args.cause.value; sends = c.args.sends.value.items; entries = c.args.entries.now.items } in
    record {
      reach = at_desk.reach;
      post = at_desk.post;
      places_are = at_desk.places_are;
      wide = at_desk.wide;
      inbox = at_desk.inbox;
      unclosed = at_desk.unclosed;
      senders = at_desk.senders;
      named = at_desk.named;
      kept =
          c.keep.ensures.kept
          ∙ ap (λ l. l ++ map (stamped c.args.stamp) c.args.entries.now.items) at_desk.kept
          ∙ sym (kept_of_more c.self.inside.events.items e)
          ∙ ap kept_of (sym (events_are g c));
    }
