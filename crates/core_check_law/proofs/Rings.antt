-- What tokens say holds at every moment of every run.
use Rattle.std.proofs.Common.{◌≡◌, ◌<◌, inr, ℕ, Bool, true, false, cond, List, [], ◌∷◌, refl, sym, ap, subst, arith, eqb}
use Rattle.std.proofs.lemmas.Bool.{lt-ltb}
use Rattle.adlb_unit.specs.Links.{is_within, place_of}
use Rattle.adlb_unit.specs.declared.actors.Actor.{Actor}
use Rattle.adlb_unit.specs.declared.actors.Actor.TheVariants as by
use Rattle.adlb_unit.specs.declared.configs.Config.{Config}
use Rattle.adlb_unit.specs.declared.letters.Letter.{Letter}
use Rattle.adlb_unit.specs.declared.letters.Sending.{Sending}
use Rattle.adlb_unit.specs.declared.names.Rank.{Rank}
use Rattle.adlb_unit.specs.declared.names.Server.{Server}
use Rattle.adlb_unit.specs.declared.tokens.Token.{Token}
use Rattle.bag_ledger.specs.declared.entries.Call.{Call}
use Rattle.rank_client.specs.Step.{Made}
use Rattle.server_law.specs.Acts.{zeroth}
use Rattle.server_law.specs.State.{ServerModel}
use Rattle.core_run.specs.declared.events.Event.{Event}
use Rattle.core_run.specs.Runs.{Runs}
use Rattle.core_run.specs.World.{Links, World, actors, after_rank, client_of, pool_of, start, taken}
use Rattle.core_law.specs.Measures.{links_weight, sends_weight}
use Rattle.core_law.specs.OnLinks.{Each, OnLinks}
use Rattle.core_law.specs.Well.{IsShaped, IsWell}
use Rattle.core_law.proofs.EveryRun.{AreZero, answer_within, begins_even, begins_well, call_within, pool_at, well_kept}
use Rattle.core_law.proofs.InLine.{empty_link}
use Rattle.core_law.proofs.Kept.{RankKeeps, rank_balance}
use Rattle.core_law.proofs.Steps.{A_call, A_request, An_answer, Begins, Does, Hears, happens_does, taken_shaped}
use Rattle.core_law.proofs.Sums.{AreWithin, front_goes, place_below}
use Rattle.core_law.proofs.UnderWay.{posted_on, taken_on, weaker}
use Rattle.core_check_law.specs.OnWay.{IsOnWay, IsRinged, OnToken}
use Rattle.core_check_law.specs.Tokens.{tokens}
use Rattle.core_check_law.proofs.Stays.{IsMarked, numbers_stay, way_stays}
use Rattle.core_check_law.proofs.Steps.{event_steps}
use Rattle.core_check_law.proofs.Ticks.{tick_ringed}
use Rattle.core_check_law.proofs.Tokens.{token_weaker}
use Rattle.core_check_law.proofs.Turns.{act_ringed}

-- A step of a rank: it takes no token and sends none.

sends_none : (me : Rank) (sends : List Sending) → sends_weight tokens (by.Rank me) sends ≡ 0
sends_none me [] = refl
sends_none me (x ∷ sends) = let later = sends_none me sends in omega arith

-- a rank says no token
pub said_none : (P : Server → Token → Type 0) (me : Rank) (sends : List Sending)
    → Each (λ (x : Sending). OnToken P (by.Rank me) x.to x.letter.message) sends
said_none P me [] = tt
said_none P me (x ∷ sends) = (tt, said_none P me sends)

rank_ringed : (w : World) (me : Rank) (links : Links) (x : Made) → IsShaped (record w { links = links }) → me.0 < w.config.ranks
    → AreWithin w.config x.sends → links_weight w.config tokens links ≡ links_weight w.config tokens w.links
    → ((P : Actor → Actor → Letter → Type 0) → OnLinks P w.config w.links → OnLinks P w.config links)
    → IsRinged w → IsRinged (after_rank w me links x)
rank_ringed w me links x shape here within weight goes ring = record {
  numbered = numbers_stay w v.ranks w.servers v.links v.ledger unmoved same ring.numbered;
  tokens = rank_balance tokens w me links x 0 shape here within (omega (arith, weight)) keeps ring.tokens;
  on = posted_on (λ from to l. OnToken (IsOnWay v) from to l.message) w.config links (by.Rank me) x.sends shape.square
      (weaker (λ from to l. OnToken (IsOnWay w) from to l.message) (λ from to l. OnToken (IsOnWay v) from to l.message) w.config links
      (λ from to l p. token_weaker (IsOnWay w) (IsOnWay v) stays from to l.message p)
      (goes (λ from to l. OnToken (IsOnWay w) from to l.message) ring.on))
      (lt-ltb me.0 w.config.ranks here) within (said_none (IsOnWay v) me x.sends);
}
  where
    v : World
    v = after_rank w me links x

    unmoved : IsMarked (pool_of w zeroth) (pool_of v zeroth)
    unmoved = record { config = refl; me = refl; number = refl; mark = refl; check = refl; activity = refl }

    same : (t : Server) → t.0 < w.config.servers → IsMarked (pool_of w t) (pool_of v t)
    same t there = record { config = refl; me = refl; number = refl; mark = refl; check = refl; activity = refl }

    stays : (to : Server) (t : Token) → IsOnWay w to t → IsOnWay v to t
    stays = way_stays w v.ranks w.servers v.links v.ledger unmoved same
        (λ t there. inr (record { waiting = refl; finished = refl; push = refl }))

    keeps : RankKeeps tokens me (client_of w me) 0 x
    keeps = let none = sends_none me x.sends in omega arith

-- a rank that begins a call leaves what tokens say of the servers
pub call_ringed : (w next : World) (me : Rank) (call : Call) (x : Made) → IsWell w → Begins w me call x next → IsRinged w
    → IsRinged (after_rank w me w.links x)
call_ringed w next me call x well does ring =
    rank_ringed w me w.links x well.shape does.here (call_within w next me call x well.own does) refl (λ P on. on) ring

-- a rank that hears an answer leaves what tokens say of the servers
pub answer_ringed : (w next : World) (from : Server) (me : Rank) (letter : Letter) (rest : List Letter) (x : Made) → IsWell w
    → Hears w from me letter rest x next → IsRinged w → IsRinged (after_rank w me (taken w (by.Server from) (by.Rank me) rest) x)
answer_ringed w next from me letter rest x well does ring =
    let f : is_within w.config (by.Server from) ≡ true = lt-ltb from.0 w.config.servers does.there in
    let t : is_within w.config (by.Rank me) ≡ true = lt-ltb me.0 w.config.ranks does.here in
    let square = (well.shape).square in
    let off = front_goes w.config tokens w.links (by.Server from) (by.Rank me) letter rest square f t does.front in
    rank_ringed w me (taken w (by.Server from) (by.Rank me) rest) x (taken_shaped w (by.Server from) (by.Rank me) rest well.shape f t)
    does.here (answer_within w next from me letter rest x well.own does) (omega (arith, off))
    (λ P on. taken_on P w.config w.links (by.Server from) (by.Rank me) letter rest square on f t does.front) ring

-- Along every run.

-- each event keeps what tokens say of the servers
pub does_ringed : (w next : World) → IsWell w → Does w next → IsRinged w → IsRinged next
does_ringed w next well (A_call {me = me} {call = call} {x = x} does) ring =
    subst IsRinged (sym does.is) (call_ringed w next me call x well does ring)
does_ringed w next well (An_answer {from = from} {me = me} {letter = letter} {rest = rest} {x = x} does) ring =
    subst IsRinged (sym does.is) (answer_ringed w next from me letter rest x well does ring)
does_ringed w next well (A_request {from = from} {me = me} {letter = letter} {rest = rest} {x = x} does) ring =
    event_steps IsRinged (λ v k stamp up here own was. tick_ringed v k stamp up own here was)
    (λ v k a own is was. act_ringed v k own was a is) w next from me letter rest x well does ring

run_ringed : (w last : World) (events : List Event) → IsWell w → Runs w events last → IsRinged w → IsRinged last
run_ringed w last [] well run ring = subst IsRinged run ring
run_ringed w last (e ∷ events) well run ring =
    let does = happens_does w run.0 e run.1 in
    run_ringed run.0 last events (well_kept w run.0 well does) run.2 (does_ringed w run.0 well does ring)

runs_none : (config : Config) → AreZero config tokens
runs_none config = record {
  server = λ i k. refl;
  rank = λ i k. refl;
  server_due = λ i k. by_place (eqb i 0);
  rank_due = λ i k. refl;
}
  where
    by_place : (b : Bool) → cond {A = ℕ} b 0 0 ≡ 0
    by_place true = refl
    by_place false = refl

-- at the start no token is under way
pub begins_ringed : (config : Config) → IsRinged (start config)
begins_ringed config = record {
  numbered = record {
    numbers = λ s there.
        let e = ap (λ (x : ServerModel). x.kept.ring.number) (pool_at config s there) in omega arith;
  };
  tokens = begins_even config tokens (runs_none config);
  on = record {
    each = λ from to f t.
        subst (Each (λ (l : Letter). OnToken (IsOnWay (start config)) from to l.message))
        (sym (empty_link (actors config) (place_of config from) (place_of config to) (place_below config from f))) tt;
  };
}

-- at every moment of every run tokens say what is so of the servers
pub every_run_ringed : (config : Config) (events : List Event) (w : World) → Runs (start config) events w → IsRinged w
every_run_ringed config events w run = run_ringed (start config) w events (begins_well config) run (begins_ringed config)
