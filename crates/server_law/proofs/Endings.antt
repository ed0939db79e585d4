-- What follows an event, and how the end is told.
use Rattle.std.proofs.Common.{◌≡◌, ◌≢◌, ◌<◌, ◌==◌, Bool, true, false, not, cond, List, [], ◌∷◌, ◌++◌, map, None, refl, ap, ◌∙◌, All, inl}
use Rattle.std.proofs.Common.{inr}
use Rattle.std.proofs.lemmas.Bool.{and_from, and_left, and_right, both_ways, eq-eqb, false_from_ne_true, ne_eqb, not_from_false}
use Rattle.std.proofs.lemmas.List.Elements.{All-head, All-tail}
use Rattle.adlb_unit.specs.declared.messages.Message.TheVariants as tells
use Rattle.adlb_unit.specs.declared.names.Rank.{Rank}
use Rattle.adlb_unit.specs.declared.notes.End.{End}
use Rattle.bag_ledger.specs.declared.entries.Entry.{Entry}
use Rattle.bag_ledger.specs.declared.entries.Entry.TheVariants as enters
use Rattle.exhaust_ring.specs.Ring.{MayStart, may_start}
use Rattle.server_law.specs.Acts.{Act, ServerSaying, Starts, Tells, check_alone, to_rank}
use Rattle.server_law.specs.Carried.{Served, all_counted, all_done, carried, done, joined, sends, stamped}
use Rattle.server_law.specs.Endings.{checks, ends_event, finds_alone, is_noted, is_quiet, notice, notices, starts, tells_all, tells_one}
use Rattle.server_law.specs.Expected.{IsHome, Runs}
use Rattle.server_components.specs.declared.waits.Waiting.{Waiting}
use Rattle.server_law.specs.Plan.{decided}
use Rattle.server_law.specs.State.{ServerModel, is_finished, ring_at}
use Rattle.server_law.proofs.Carrying.{followed, followed_more, with_act}
use Rattle.server_law.proofs.Starting.{may_tested, unquiet_may_not}
use Rattle.server_law.proofs.Tests.{quiet_is_tested}

-- What follows.

-- by the test
notices_if : ServerModel → Bool → List Act
notices_if s b = cond b (notice (s.me.0 == 0)) []

checks_if : ServerModel → Bool → List Act
checks_if s b = cond b (starts s) []

-- a quiet server that has changed since its last notice gives notice
pub notices_quiet : (s : ServerModel) → is_quiet s ≡ true → is_noted s.kept.noted s.activity ≡ false → notices s ≡ notice (s.me.0 == 0)
unfolding notices_if
notices_quiet s quiet new = ap (notices_if s) (and_from (is_quiet s) (not (is_noted s.kept.noted s.activity)) quiet (not_from_false _ new))

-- and no other does
pub notices_unquiet : (s : ServerModel) → is_quiet s ≡ false → notices s ≡ []
unfolding notices_if
notices_unquiet s unquiet = ap (notices_if s) (and_left (is_quiet s) (not (is_noted s.kept.noted s.activity)) unquiet)

-- where notice was given of the activity, no notice follows
pub notices_noted : (s : ServerModel) → is_noted s.kept.noted s.activity ≡ true → notices s ≡ []
unfolding notices_if
notices_noted s noted = ap (notices_if s) (and_right (is_quiet s) (not (is_noted s.kept.noted s.activity)) (ap not noted))

-- a check is started where one may be
pub checks_start : (s : ServerModel) → MayStart (ring_at s) (is_quiet s) → checks s ≡ starts s
unfolding checks_if
checks_start s may = ap (checks_if s) (may_tested (ring_at s) (is_quiet s) may)

-- and nowhere else
pub checks_none : (s : ServerModel) → may_start (ring_at s) (is_quiet s) ≡ false → checks s ≡ []
unfolding checks_if
checks_none s none = ap (checks_if s) none

-- where the server is not quiet, nothing follows an event
pub checks_unquiet : (s : ServerModel) → is_quiet s ≡ false → checks s ≡ []
checks_unquiet s unquiet = checks_none s (unquiet_may_not (ring_at s) (is_quiet s) unquiet)

-- after an event that leaves a server not quiet nothing follows
pub ends_unquiet : (s : ServerModel) → is_quiet s ≡ false → decided ends_event s ≡ []
ends_unquiet s unquiet =
    let later : List Act → List Act = λ list. list ++ decided (checks ∷ []) (all_done list s) in
    ap later (notices_unquiet s unquiet) ∙ ap (λ list. list ++ []) (checks_unquiet s unquiet)

-- a server is not quiet where a rank runs whose home it is
pub runner_unquiet : (s : ServerModel) (rank : Rank) → rank.0 < s.config.ranks → IsHome s rank → Runs s rank → is_quiet s ≡ false
runner_unquiet s rank within home runs = false_from_ne_true (is_quiet s) (λ quiet.
    elim (((quiet_is_tested s).0 quiet).rest rank within home) [
      | inl waits ↦ runs.waits_not waits.0 waits.1 waits.2 (ap (λ (e : Waiting). e.wish.rank) waits.3 ∙ waits.4.0)
      | inr ended ↦ both_ways (is_finished s.kept rank) runs.finished_not ended
    ])

-- so nothing follows
pub ends_beside_runner : (s : ServerModel) (rank : Rank) → rank.0 < s.config.ranks → IsHome s rank → Runs s rank → decided ends_event s ≡ []
ends_beside_runner s rank within home runs = ends_unquiet s (runner_unquiet s rank within home runs)

-- the check of a server that is alone
pub starts_alone : (s : ServerModel) → s.config.servers ≡ 1 → starts s ≡ finds_alone (check_alone s).step s.kept.parked.waiting
starts_alone s alone =
    ap (λ b. cond b (finds_alone (check_alone s).step s.kept.parked.waiting) (Starts ∷ [])) (eq-eqb s.config.servers 1 alone)

-- otherwise the token goes round
pub starts_round : (s : ServerModel) → s.config.servers ≢ 1 → starts s ≡ Starts ∷ []
starts_round s others =
    ap (λ b. cond b (finds_alone (check_alone s).step s.kept.parked.waiting) (Starts ∷ [])) (ne_eqb s.config.servers 1 others)

-- How the end is told, where each rank that waits is idle.

-- no server that was asked for the rank is unanswered
abbrev pub IsIdle : Waiting → Type 0
IsIdle e = e.asked ≡ None

-- the first is told, and then the others
pub tells_first : (end : End) (e : Waiting) (behind : List Waiting) → IsIdle e
    → tells_all end [] (e ∷ behind) ≡ Tells (record { before = []; behind = behind }) e.wish e.to_ask end ∷ tells_all end [] behind
tells_first end e behind is =
    ap (λ o. tells_one end (record { before = []; behind = behind }) e o (tells_all end [] behind) (tells_all end (e ∷ []) behind)) is

-- likewise after what was done before
pub tells_next : (x : Served) (end : End) (e : Waiting) (behind : List Waiting) → IsIdle e
    → followed x (tells_all end [] (e ∷ behind))
    ≡ followed (with_act x (Tells (record { before = []; behind = behind }) e.wish e.to_ask end)) (tells_all end [] behind)
tells_next x end e behind is =
    let told : Act = Tells (record { before = []; behind = behind }) e.wish e.to_ask end in
    ap (followed x) (tells_first end e behind is) ∙ followed_more x told (tells_all end [] behind)

-- the server at which these ranks wait
abbrev pub at_waiting : ServerModel → List Waiting → ServerModel
at_waiting s waiting = record s { kept = record s.kept { parked = record s.kept.parked { waiting = waiting } } }

-- what a rank is told, and what is entered
abbrev pub tells_over : End → Waiting → ServerSaying
tells_over end e = to_rank e.wish.rank (tells.Ended e.wish.request end)

-- the entry that the rank was told the end
abbrev pub enters_over : End → Waiting → Entry
enters_over end e = enters.Over e.wish.rank e.wish.request end

-- nobody waits any more, and each rank was told in its turn
abbrev pub all_told : End → List Waiting → ServerModel → Served
all_told end waiting s = record {
  state = all_counted (at_waiting s []) (map (tells_over end) waiting);
  sends = stamped (at_waiting s []) (map (tells_over end) waiting);
  entries = map (enters_over end) waiting;
}

-- telling an end to those that are idle tells each of them
pub tells_each : (end : End) (waiting : List Waiting) (s : ServerModel) → All IsIdle waiting → s.kept.parked.waiting ≡ waiting
    → carried (tells_all end [] waiting) s ≡ all_told end waiting s
tells_each end [] s idle is = ap (λ l. let x : Served = record { state = at_waiting s l; sends = []; entries = [] } in x) is
tells_each end (e ∷ behind) s idle is =
    let told : Act = Tells (record { before = []; behind = behind }) e.wish e.to_ask end in
    ap (λ list. carried list s) (tells_first end e behind (All-head IsIdle e behind idle))
    ∙ ap (joined (sends told s) (enters_over end e ∷ [])) (tells_each end behind (done told s) (All-tail IsIdle e behind idle) refl)
