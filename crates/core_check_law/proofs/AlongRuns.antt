-- What the stamps of events, the acts of servers and the steps of ranks keep, holds along every run.
use Rattle.std.proofs.Common.{◌≡◌, ◌<◌, ℕ, Bool, true, List, [], ◌∷◌, sym, subst, arith}
use Rattle.std.proofs.lemmas.Bool.{lt-ltb}
use Rattle.adlb_unit.specs.Links.{is_within}
use Rattle.adlb_unit.specs.declared.actors.Actor.TheVariants as by
use Rattle.adlb_unit.specs.declared.configs.Config.{Config}
use Rattle.adlb_unit.specs.declared.letters.Letter.{Letter}
use Rattle.adlb_unit.specs.declared.names.Rank.{Rank}
use Rattle.adlb_unit.specs.declared.names.Server.{Server}
use Rattle.bag_ledger.specs.declared.entries.Call.{Call}
use Rattle.rank_client.specs.Step.{Made}
use Rattle.server_law.specs.Acts.{Act}
use Rattle.core_run.specs.declared.events.Event.{Event}
use Rattle.core_run.specs.Runs.{Runs}
use Rattle.core_run.specs.World.{World, after_rank, client_of, start, taken}
use Rattle.core_law.specs.Acting.{IsAct, acted, ticks}
use Rattle.core_law.specs.Measures.{IsBalanced, Weights}
use Rattle.core_law.specs.Well.{IsWell}
use Rattle.core_law.proofs.Events.{event_keeps}
use Rattle.core_law.proofs.EveryRun.{answer_heard, answer_within, begins_well, call_began, call_within, well_kept}
use Rattle.core_law.proofs.Kept.{IsLaw, rank_balance}
use Rattle.core_law.proofs.Steps.{A_call, A_request, An_answer, Begins, Does, Hears, happens_does, taken_shaped}
use Rattle.core_law.proofs.Sums.{front_goes}

-- Balances.

-- a call that a rank begins keeps a balance that is a law
pub call_even : (m : Weights) (w next : World) (me : Rank) (call : Call) (x : Made) → IsLaw w.config m → IsWell w
    → Begins w me call x next → IsBalanced m w → IsBalanced m (after_rank w me w.links x)
call_even m w next me call x law well does even =
    let b = call_began w next me call x well.own does in
    rank_balance m w me w.links x 0 well.shape does.here (call_within w next me call x well.own does) (omega arith)
    (law.begun me (client_of w me) x b b.after) even

-- an answer that a rank hears keeps a balance that is a law
pub answer_even : (m : Weights) (w next : World) (from : Server) (me : Rank) (letter : Letter) (rest : List Letter) (x : Made)
    → IsLaw w.config m → IsWell w → Hears w from me letter rest x next → IsBalanced m w
    → IsBalanced m (after_rank w me (taken w (by.Server from) (by.Rank me) rest) x)
answer_even m w next from me letter rest x law well does even =
    let f : is_within w.config (by.Server from) ≡ true = lt-ltb from.0 w.config.servers does.there in
    let t : is_within w.config (by.Rank me) ≡ true = lt-ltb me.0 w.config.ranks does.here in
    let h = answer_heard w next from me letter rest x well.own does in
    let shape = taken_shaped w (by.Server from) (by.Rank me) rest well.shape f t in
    let off = front_goes w.config m w.links (by.Server from) (by.Rank me) letter rest (well.shape).square f t does.front in
    rank_balance m w me (taken w (by.Server from) (by.Rank me) rest) x (m.letter (by.Server from) (by.Rank me) letter.message) shape
    does.here (answer_within w next from me letter rest x well.own does) off (law.heard me (client_of w me) from letter.message x h h.after)
    even

-- Any fact of a world.

-- what stamps, acts and steps of ranks keep
pub record AreKept (J : World → Type 0) : Type 0 where
  pub tick : (w : World) (me : Server) (stamp : ℕ) (up : Bool) → me.0 < w.config.servers → IsWell w → J w → J (ticks w me stamp up)
  pub act : (w : World) (me : Server) (a : Act) → IsWell w → IsAct w me a → J w → J (acted w me a)
  pub call : (w next : World) (me : Rank) (call : Call) (x : Made) → IsWell w → Begins w me call x next → J w
      → J (after_rank w me w.links x)
  pub answer : (w next : World) (from : Server) (me : Rank) (letter : Letter) (rest : List Letter) (x : Made) → IsWell w
      → Hears w from me letter rest x next → J w → J (after_rank w me (taken w (by.Server from) (by.Rank me) rest) x)

does_keep : (J : World → Type 0) → AreKept J → (w next : World) → IsWell w → Does w next → J w → J next
does_keep J kept w next well (A_call {me = me} {call = call} {x = x} does) holds =
    subst J (sym does.is) (kept.call w next me call x well does holds)
does_keep J kept w next well (An_answer {from = from} {me = me} {letter = letter} {rest = rest} {x = x} does) holds =
    subst J (sym does.is) (kept.answer w next from me letter rest x well does holds)
does_keep J kept w next well (A_request {from = from} {me = me} {letter = letter} {rest = rest} {x = x} does) holds =
    event_keeps J kept.tick kept.act w next from me letter rest x well does holds

-- it holds along a run
pub along : (J : World → Type 0) → AreKept J → (w last : World) (events : List Event) → IsWell w → Runs w events last → J w → J last
along J kept w last [] well run holds = subst J run holds
along J kept w last (e ∷ events) well run holds =
    let does = happens_does w run.0 e run.1 in
    along J kept run.0 last events (well_kept w run.0 well does) run.2 (does_keep J kept w run.0 well does holds)

-- it holds at every moment of every run, if it holds at the start
pub every_run_keeps : (J : World → Type 0) → AreKept J → (config : Config) (events : List Event) (w : World)
    → Runs (start config) events w → J (start config) → J w
every_run_keeps J kept config events w run first = along J kept (start config) w events (begins_well config) run first
