-- Each token under way is on turn at every moment of every run.
use Rattle.std.proofs.Common.{◌≡◌, ◌<◌, ℕ, Bool, true, List, [], ◌∷◌, refl, sym, ap, subst}
use Rattle.std.proofs.lemmas.Bool.{lt-ltb}
use Rattle.adlb_unit.specs.Links.{is_within, place_of}
use Rattle.adlb_unit.specs.declared.actors.Actor.{Actor}
use Rattle.adlb_unit.specs.declared.actors.Actor.TheVariants as by
use Rattle.adlb_unit.specs.declared.configs.Config.{Config}
use Rattle.adlb_unit.specs.declared.letters.Letter.{Letter}
use Rattle.adlb_unit.specs.declared.letters.Sending.{Sending}
use Rattle.adlb_unit.specs.declared.names.Rank.{Rank}
use Rattle.adlb_unit.specs.declared.names.Server.{Server}
use Rattle.adlb_unit.specs.declared.tokens.Token.{Token}
use Rattle.bag_ledger.specs.declared.entries.Call.{Call}
use Rattle.rank_client.specs.Step.{Made}
use Rattle.server_law.specs.Acts.{zeroth}
use Rattle.server_law.specs.State.{Kept}
use Rattle.core_run.specs.declared.events.Event.{Event}
use Rattle.core_run.specs.Runs.{Runs}
use Rattle.core_run.specs.World.{Links, World, actors, after_rank, pool_of, start, taken}
use Rattle.core_law.specs.Acting.{ticks}
use Rattle.core_law.specs.OnLinks.{Each, OnLinks}
use Rattle.core_law.specs.Well.{IsShaped, IsWell}
use Rattle.core_law.proofs.EveryRun.{answer_within, begins_well, call_within, well_kept}
use Rattle.core_law.proofs.InLine.{empty_link}
use Rattle.core_law.proofs.Steps.{A_call, A_request, An_answer, Begins, Does, Hears, happens_does, taken_shaped}
use Rattle.core_law.proofs.Sums.{AreWithin, place_below}
use Rattle.core_law.proofs.UnderWay.{posted_on, taken_on, weaker}
use Rattle.core_check_law.specs.OnWay.{IsRinged, OnFailed, OnToken, last_check}
use Rattle.core_check_law.specs.Turn.{AreOnTurn, IsOnTurn}
use Rattle.core_check_law.proofs.OnTurn.{AreTestsAsWere, act_turns, failed_stays, turn_stays, turns_stay}
use Rattle.core_check_law.proofs.Rings.{answer_ringed, begins_ringed, call_ringed}
use Rattle.core_check_law.proofs.Steps.{event_steps}
use Rattle.core_check_law.proofs.Ticks.{after, tick_ringed}
use Rattle.core_check_law.proofs.Tokens.{failed_weaker, token_weaker}
use Rattle.core_check_law.proofs.Turns.{act_ringed}

-- A stamp.

tick_turns : (w : World) (me : Server) (stamp : ℕ) (up : Bool) → IsWell w → me.0 < w.config.servers → AreOnTurn w
    → AreOnTurn (ticks w me stamp up)
tick_turns w me stamp up well here turn =
    turns_stay w v.ranks v.servers v.links v.ledger (same zeroth) (λ t there. same t) turn (λ P on. on)
  where
    v : World
    v = ticks w me stamp up

    same : (t : Server) → AreTestsAsWere (pool_of w t).kept.ring (pool_of v t).kept.ring
    same t =
        let kept = (after w me stamp up well here t).kept in
        record { tested = ap (λ (x : Kept). x.ring.tested) kept; check = ap (λ (x : Kept). x.ring.check) kept }

-- A step of a rank.

tokens_none : (P : Server → Token → Type 0) (me : Rank) (sends : List Sending)
    → Each (λ (x : Sending). OnToken P (by.Rank me) x.to x.letter.message) sends
tokens_none P me [] = tt
tokens_none P me (x ∷ sends) = (tt, tokens_none P me sends)

failed_none : (P : Token → Type 0) (me : Rank) (sends : List Sending)
    → Each (λ (x : Sending). OnFailed P (by.Rank me) x.to x.letter.message) sends
failed_none P me [] = tt
failed_none P me (x ∷ sends) = (tt, failed_none P me sends)

rank_turns : (w : World) (me : Rank) (links : Links) (x : Made) → IsShaped (record w { links = links }) → me.0 < w.config.ranks
    → AreWithin w.config x.sends → ((P : Actor → Actor → Letter → Type 0) → OnLinks P w.config w.links → OnLinks P w.config links)
    → AreOnTurn w → AreOnTurn (after_rank w me links x)
rank_turns w me links x shape here within goes turn = record {
  tokens = posted_on (λ from to l. OnToken (IsOnTurn v) from to l.message) w.config links (by.Rank me) x.sends shape.square
      (weaker (λ from to l. OnToken (IsOnTurn w) from to l.message) (λ from to l. OnToken (IsOnTurn v) from to l.message) w.config links
      (λ from to l p. token_weaker (IsOnTurn w) (IsOnTurn v) (turn_stays w v.ranks w.servers v.links v.ledger unmoved (λ t there. same t))
      from to l.message p)
      (goes (λ from to l. OnToken (IsOnTurn w) from to l.message) turn.tokens))
      (lt-ltb me.0 w.config.ranks here) within (tokens_none (IsOnTurn v) me x.sends);
  failed = posted_on (λ from to l. OnFailed (λ t. t.check ≡ last_check v) from to l.message) w.config links (by.Rank me) x.sends
      shape.square
      (weaker (λ from to l. OnFailed (λ t. t.check ≡ last_check w) from to l.message)
      (λ from to l. OnFailed (λ t. t.check ≡ last_check v) from to l.message) w.config links
      (λ from to l p. failed_weaker (λ t. t.check ≡ last_check w) (λ t. t.check ≡ last_check v)
      (failed_stays w v.ranks w.servers v.links v.ledger unmoved (λ t there. same t)) from to l.message p)
      (goes (λ from to l. OnFailed (λ t. t.check ≡ last_check w) from to l.message) turn.failed))
      (lt-ltb me.0 w.config.ranks here) within (failed_none (λ t. t.check ≡ last_check v) me x.sends);
}
  where
    v : World
    v = after_rank w me links x

    same : (t : Server) → AreTestsAsWere (pool_of w t).kept.ring (pool_of v t).kept.ring
    same t = record { tested = refl; check = refl }

    unmoved : AreTestsAsWere (pool_of w zeroth).kept.ring (pool_of v zeroth).kept.ring
    unmoved = same zeroth

call_turns : (w next : World) (me : Rank) (call : Call) (x : Made) → IsWell w → Begins w me call x next → AreOnTurn w
    → AreOnTurn (after_rank w me w.links x)
call_turns w next me call x well does turn =
    rank_turns w me w.links x well.shape does.here (call_within w next me call x well.own does) (λ P on. on) turn

answer_turns : (w next : World) (from : Server) (me : Rank) (letter : Letter) (rest : List Letter) (x : Made) → IsWell w
    → Hears w from me letter rest x next → AreOnTurn w → AreOnTurn (after_rank w me (taken w (by.Server from) (by.Rank me) rest) x)
answer_turns w next from me letter rest x well does turn =
    let f : is_within w.config (by.Server from) ≡ true = lt-ltb from.0 w.config.servers does.there in
    let t : is_within w.config (by.Rank me) ≡ true = lt-ltb me.0 w.config.ranks does.here in
    rank_turns w me (taken w (by.Server from) (by.Rank me) rest) x (taken_shaped w (by.Server from) (by.Rank me) rest well.shape f t)
    does.here (answer_within w next from me letter rest x well.own does)
    (λ P on. taken_on P w.config w.links (by.Server from) (by.Rank me) letter rest (well.shape).square on f t does.front) turn

-- Along every run.

abbrev Turned : World → Type 0
Turned w = IsRinged w × AreOnTurn w

does_turn : (w next : World) → IsWell w → Does w next → Turned w → Turned next
does_turn w next well (A_call {me = me} {call = call} {x = x} does) was =
    subst Turned (sym does.is) (call_ringed w next me call x well does was.0, call_turns w next me call x well does was.1)
does_turn w next well (An_answer {from = from} {me = me} {letter = letter} {rest = rest} {x = x} does) was =
    subst Turned (sym does.is)
    (answer_ringed w next from me letter rest x well does was.0, answer_turns w next from me letter rest x well does was.1)
does_turn w next well (A_request {from = from} {me = me} {letter = letter} {rest = rest} {x = x} does) was =
    event_steps Turned
    (λ v k stamp up here own both. (tick_ringed v k stamp up own here both.0, tick_turns v k stamp up own here both.1))
    (λ v k a own is both. (act_ringed v k own both.0 a is, act_turns v k own both.0 both.1 a is.act)) w next from me letter rest x well
    does was

run_turns : (w last : World) (events : List Event) → IsWell w → Runs w events last → Turned w → Turned last
run_turns w last [] well run was = subst Turned run was
run_turns w last (e ∷ events) well run was =
    let does = happens_does w run.0 e run.1 in
    run_turns run.0 last events (well_kept w run.0 well does) run.2 (does_turn w run.0 well does was)

-- what is so of each letter, where none is under way
pub none_yet : (P : Actor → Actor → Letter → Type 0) (config : Config) → OnLinks P config (start config).links
none_yet P config = record {
  each = λ from to f t.
      subst (Each (P from to))
      (sym (empty_link (actors config) (place_of config from) (place_of config to) (place_below config from f))) tt;
}

begins_turned : (config : Config) → AreOnTurn (start config)
begins_turned config = record {
  tokens = none_yet (λ from to l. OnToken (IsOnTurn (start config)) from to l.message) config;
  failed = none_yet (λ from to l. OnFailed (λ t. t.check ≡ last_check (start config)) from to l.message) config;
}

-- at every moment of every run each token is on its way and on turn
pub every_run_turned : (config : Config) (events : List Event) (w : World) → Runs (start config) events w → IsRinged w × AreOnTurn w
every_run_turned config events w run =
    run_turns (start config) w events (begins_well config) run (begins_ringed config, begins_turned config)
