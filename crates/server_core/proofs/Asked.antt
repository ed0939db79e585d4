-- The home of a rank asks for it: a unit is pinned to the rank, or its wish is kept.
use Rattle.std.proofs.Common.{◌≡◌, Bool, true, false, [], Option, None, Some, refl, ap, ◌∙◌}
use Rattle.std.specs.Option.{option_map}
use Rattle.adlb_unit.specs.declared.messages.Message.TheVariants as tells
use Rattle.adlb_unit.specs.declared.names.Server.{Server}
use Rattle.adlb_unit.specs.declared.notes.UnitNote.{UnitNote}
use Rattle.work_queue.specs.declared.placing.Placed.{Placed}
use Rattle.server_components.specs.Calls.{after_ask}
use Rattle.server_components.specs.Grants.{best_for, note_of}
use Rattle.server_components.specs.declared.wishes.Wish.{Wish}
use Rattle.server_law.specs.Acts.{Declines, to_server}
use Rattle.server_law.specs.Asks.{answer, answer_now, ask_rule, expects_ask}
use Rattle.server_law.specs.Plan.{Plan}
use Rattle.server_law.specs.State.{ServerModel}
use Rattle.server_core.specs.inside.{parked_of}
use Rattle.server_core.specs.Out.{Out, planned}
use Rattle.server_core.specs.Waits.{asked, offered, offered_by, pinning, told_home}
use Rattle.server_core.proofs.Going.{plan_if, says_only}

-- what its home is told
pub asked_goes : (s : ServerModel) (out : Out) (from : Server) (wish : Wish) (note : Option UnitNote)
    → note ≡ option_map (λ (p : Placed). note_of s.me p.unit) (offered s.kept wish)
    → (q : Plan) → ask_rule s from wish ≡ Some q → told_home note from wish out (asked s wish) ≡ planned out q s
asked_goes s out from wish note is =
    plan_if (expects_ask s from wish.rank) (answer_now s.kept from wish) [] s out (told_home note from wish out (asked s wish))
    (ap (λ n. told_home n from wish out (asked s wish)) is ∙ by_best s.kept.done (best_for s.kept.queue wish.rank wish.types))
  where
    by_best : (done : Bool) (o : Option Placed)
        → told_home (option_map (λ (p : Placed). note_of s.me p.unit) (offered_by done o)) from wish out
        (pinning s wish.rank (offered_by done o) (after_ask (parked_of s) wish (offered_by done o)))
        ≡ planned out (record { first = answer done o from wish; follow = [] }) s
    by_best true o = says_only (Declines from wish) s out (to_server from (tells.AskNone wish.rank wish.request)) refl refl
    by_best false None = says_only (Declines from wish) s out (to_server from (tells.AskNone wish.rank wish.request)) refl refl
    by_best false (Some p) = refl
