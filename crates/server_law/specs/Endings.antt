-- What follows each event: a quiet server that has changed gives notice, and a check is started where one is wanted. And how an end is
-- told to the ranks that wait.
use Rattle.std.specs.Prelude.{ℕ, ◌==◌, Bool, true, false, ◌&&◌, ◌||◌, not, List, [], ◌∷◌, ◌++◌, Option, None, Some, is_none, is_some}
use Rattle.std.specs.Prelude.{if◌then◌else◌}
use Rattle.std.specs.List.{list_all, list_any, range_with_len}
use Rattle.adlb_unit.specs.declared.names.Rank.{Rank}
use Rattle.adlb_unit.specs.declared.names.Server.{Server}
use Rattle.adlb_unit.specs.declared.notes.End.{End}
use Rattle.adlb_unit.specs.declared.notes.End.TheVariants as ends_by
use Rattle.exhaust_ring.specs.Ring.{may_start}
use Rattle.exhaust_ring.specs.declared.steps.RingStep.{RingStep}
use Rattle.exhaust_ring.specs.declared.steps.RingStep.TheVariants.{Exhausted, Shutdown}
use Rattle.server_components.specs.Parked.{is_idle, is_of}
use Rattle.server_components.specs.declared.waits.Waiting.{Waiting}
use Rattle.server_law.specs.Acts.{Act, Around, Checks_alone, Finds_alone, Notes_own, Notices, Shuts_alone, Starts, Tells, check_alone}
use Rattle.server_law.specs.Finding.{best_for}
use Rattle.server_law.specs.Plan.{Decider}
use Rattle.server_law.specs.State.{Kept, ServerModel, is_finished, is_home, ring_at}

-- the rank's home is elsewhere, or it has finished, or it waits and is idle
abbrev pub rests : ServerModel → Rank → Bool
rests s rank =
    not (is_home s.config s.me rank) || is_finished s.kept rank || list_any (λ e. is_of rank e && is_idle e) s.kept.parked.waiting

-- no push of this server stands, and each rank of the run does
abbrev pub is_quiet : ServerModel → Bool
is_quiet s = is_none s.kept.pushing.push && list_all (λ n. rests s (record { 0 = n })) (range_with_len 0 s.config.ranks)

-- a free unit is permitted to the rank that waits
abbrev pub fits : Kept → Waiting → Bool
fits k e = is_some (best_for k e.wish)

-- An end is told.

-- the end is told to each idle rank, in the order in which they came; those that are not idle stay before the others
abbrev pub tells_one : End → Around → Waiting → Option Server → List Act → List Act → List Act
tells_one end at e None told passed = Tells at e.wish e.to_ask end ∷ told
tells_one end at e (Some t) told passed = passed

-- each idle rank of those that wait is told the end
abbrev pub tells_all : End → List Waiting → List Waiting → List Act
tells_all end before [] = []
tells_all end before (e ∷ behind) =
    tells_one end (record { before = before; behind = behind }) e e.asked (tells_all end before behind)
    (tells_all end (before ++ e ∷ []) behind)

-- each idle rank is told the end
abbrev pub tells_idle : End → Decider
tells_idle end s = tells_all end [] s.kept.parked.waiting

-- Notices.

-- the last notice was of this activity
abbrev pub is_noted : Option ℕ → ℕ → Bool
is_noted None activity = false
is_noted (Some noted) activity = noted == activity

-- a notice, which server 0 notes by itself
abbrev pub notice : Bool → List Act
notice true = Notes_own ∷ []
notice false = Notices ∷ []

-- a quiet server that has changed gives notice
abbrev pub notices : Decider
notices s = if is_quiet s && not (is_noted s.kept.noted s.activity) then notice (s.me.0 == 0) else []

-- Checks.

-- what a server that is alone finds
abbrev pub finds_alone : RingStep → List Waiting → List Act
finds_alone Exhausted waiting = Finds_alone ∷ tells_all ends_by.Exhausted [] waiting
finds_alone Shutdown waiting = Shuts_alone ∷ []
finds_alone _ waiting = Checks_alone ∷ []

-- a check is started; a server that is alone judges it at once
abbrev pub starts : ServerModel → List Act
starts s = if s.config.servers == 1 then finds_alone (check_alone s).step s.kept.parked.waiting else Starts ∷ []

-- a check is started if it may be
abbrev pub checks : Decider
checks s = if may_start (ring_at s) (is_quiet s) then starts s else []

-- what follows each event
abbrev pub ends_event : List Decider
ends_event = notices ∷ checks ∷ []
