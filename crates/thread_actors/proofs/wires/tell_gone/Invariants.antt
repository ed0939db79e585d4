use Rattle.thread_actors.proofs.Prelude.{ℕ, ◌++◌, ◌<◌, ◌≡◌}
use Rattle.actor_desk.specs.Desks.{sent_at}
use Rattle.actor_desk.specs.World.{actors, server_named}
use Rattle.adlb_unit.specs.Links.{sending}
use Rattle.merge_history.specs.Own.{letters_to}
use Rattle.std.proofs.Common.{map}
use Rattle.std.specs.List.{range_with_len}
use Rattle.adlb_unit.specs.declared.actors.Actor.TheVariants as by
use Rattle.adlb_unit.specs.declared.messages.Message.TheVariants as tells
use Rattle.thread_actors.proofs.wires.tell_gone.Given as goal

abbrev pub invariant-loop-number : goal.invariant-loop-number
invariant-loop-number g l = record {
  same : l.desk ≡ record l.fn.desk { sent = l.desk.sent };
  told : (n : ℕ) → n < actors l.fn.config → sent_at l.desk n ≡ sent_at l.fn.desk n
      ++ letters_to l.fn.config n (map (λ k. sending 0 0 (by.Server (server_named k)) (tells.Gone l.trouble)) (range_with_len 0 l.number));
}
