-- Along every run something goes on: with several servers, or a check goes round that finds all as it was; with one, or it is shut.
use Rattle.adlb_unit.specs.Links.{is_within}
use Rattle.adlb_unit.specs.declared.configs.Config.{Config}
use Rattle.adlb_unit.specs.declared.letters.Letter.{Letter}
use Rattle.adlb_unit.specs.declared.letters.Sending.{Sending}
use Rattle.adlb_unit.specs.declared.messages.Message.{Message}
use Rattle.adlb_unit.specs.declared.names.Rank.{Rank}
use Rattle.adlb_unit.specs.declared.names.Server.{Server}
use Rattle.bag_ledger.specs.declared.entries.Call.{Call}
use Rattle.core_check_law.proofs.EndsAlong.{exhaust_told}
use Rattle.core_check_law.proofs.EveryTurn.{every_run_turned}
use Rattle.core_check_law.proofs.OnTurn.{AreTestsAsWere, turns_stay}
use Rattle.core_check_law.proofs.Ticks.{after, tick_ringed}
use Rattle.core_check_law.specs.Settling.{Has}
use Rattle.core_check_law.specs.Turn.{AreOnTurn}
use Rattle.core_law.proofs.Actors.{every_pool}
use Rattle.core_law.proofs.CalmServers.{every_run_calm}
use Rattle.core_law.proofs.Debts.{every_run_paid}
use Rattle.core_law.proofs.EveryRun.{answer_heard, answer_within, begins_well, call_began, call_within, client_at, every_run_well, pool_at}
use Rattle.core_law.proofs.EveryRun.{run_config, well_kept}
use Rattle.core_law.proofs.Fifo.{part_le}
use Rattle.core_law.proofs.OwedByRanks.{no_sum}
use Rattle.core_law.proofs.RankShapes.{It_asks, It_leaves, It_rests, Then}
use Rattle.core_law.proofs.Steps.{A_call, A_request, An_answer, Begins, Does, Hears, happens_does, rank_weight, taken_shaped}
use Rattle.core_law.proofs.Sums.{AreWithin}
use Rattle.core_law.proofs.LettersAndActors.{inside_servers, tick_well}
use Rattle.core_law.specs.Acting.{ticks}
use Rattle.core_law.specs.Letters.{is_request, one}
use Rattle.core_law.specs.Measures.{measure, weigh}
use Rattle.core_law.specs.Own.{IsPool}
use Rattle.core_law.specs.Well.{IsShaped, IsWell}
use Rattle.core_progress_law.proofs.AloneGoes.{GoesAlone, event_alone}
use Rattle.core_progress_law.proofs.Failing.{IsKnown, fails_live}
use Rattle.core_progress_law.proofs.Full.{IsFull, full_is, serve_full}
use Rattle.core_progress_law.proofs.FullAlone.{serve_alone}
use Rattle.core_progress_law.proofs.Going.{event_goes}
use Rattle.core_wish_law.proofs.Pools.{snoc}
use Rattle.core_wish_law.specs.News.{AreForeseen, is_news, news}
use Rattle.core_progress_law.specs.Going.{Goes}
use Rattle.core_run.specs.Runs.{Runs}
use Rattle.core_run.specs.World.{World, after_rank, client_of, happens, pool_of, rank_named, start, taken}
use Rattle.core_run.specs.declared.events.Event.{Event}
use Rattle.rank_client.specs.Rules.{ClientSaying, farewell, is_free}
use Rattle.rank_client.specs.State.{ClientModel, start as new_client}
use Rattle.rank_client.specs.Step.{Made}
use Rattle.server_components.specs.Rest.{HasNoneFor}
use Rattle.server_components.specs.declared.waits.Waiting.{Waiting}
use Rattle.server_law.specs.Acts.{does, zeroth}
use Rattle.server_law.specs.State.{Kept}
use Rattle.server_law.specs.Step.{next_stamp, raises}
use Rattle.std.proofs.Common.{Bool, List, None, Some, [], ap, arith, false, inl, inr, map, refl, subst, suc, sym, true, zero, ℕ, ◌++◌, ◌+◌}
use Rattle.std.proofs.Common.{◌<◌, ◌∙◌, ◌∷◌, ◌≡◌, ◌≢◌, ◌⊎◌}
use Rattle.std.proofs.lemmas.Bool.{cases_eq, lt-ltb}
use Rattle.std.specs.List.{range_with_len}
use Rattle.std.specs.Prelude.{All}
use Rattle.adlb_unit.specs.declared.actors.Actor.TheVariants as by
use Rattle.adlb_unit.specs.declared.messages.Message.TheVariants as tells

-- What a stamp leaves.

tick_turns : (w : World) (me : Server) (stamp : ℕ) (up : Bool) → IsWell w → me.0 < w.config.servers → AreOnTurn w
    → AreOnTurn (ticks w me stamp up)
tick_turns w me stamp up well here turn =
    turns_stay w v.ranks v.servers v.links v.ledger (same zeroth) (λ t there. same t) turn (λ P on. on)
  where
    v : World
    v = ticks w me stamp up

    same : (t : Server) → AreTestsAsWere (pool_of w t).kept.ring (pool_of v t).kept.ring
    same t =
        let kept = (after w me stamp up well here t).kept in
        record { tested = ap (λ (x : Kept). x.ring.tested) kept; check = ap (λ (x : Kept). x.ring.check) kept }

told_ticked : (w : World) (me : Server) (stamp : ℕ) (up : Bool) → IsWell w → me.0 < w.config.servers → IsKnown w
    → AreOnTurn (ticks w me stamp up)
    → IsKnown (ticks w me stamp up)
unfolding measure
told_ticked w me stamp up well here known turn = record {
  paid = λ t there. ap (λ (k : Kept). k.owed) (its t) ∙ known.paid t there;
  turn = turn;
  calm = λ t there. subst (λ (k : Kept). All (λ (e : Waiting). e.asked ≡ None → HasNoneFor k.queue e.wish) k.parked.waiting) (sym (its t))
      (known.calm t there);
  told = λ t there off e has. known.told t there (ap (λ (k : Kept). k.exhausted) (sym (its t)) ∙ off) e
      (subst (λ (k : Kept). Has k.parked.waiting e) (its t) has);
  hears = λ t other there.
      let was = known.hears t other there in
      let a = ap (λ (k : Kept). one k.exhausted) (its t) in
      let b = ap (λ (k : Kept). one k.exhausted) (its zeroth) in
      omega arith;
  fits = λ h t e p low there differs waits idle at offers.
      let some = known.fits h t e p low there differs (subst (λ (k : Kept). Has k.parked.waiting e) (its h) waits) idle
      (subst (λ (k : Kept). Has k.queue.units p) (its t) at) offers in
      let a = no_sum w.servers in
      let b = no_sum (ticks w me stamp up).servers in
      omega (arith, some);
}
  where
    its : (t : Server) → (pool_of (ticks w me stamp up) t).kept ≡ (pool_of w t).kept
    its t = (after w me stamp up well here t).kept

-- A rank's step: it can begin a call, or a letter is on its way.

request_news : (m : Message) → is_request m ≡ true → is_news m ≡ 1
request_news (tells.Token t) is = absurd (cc)
request_news (tells.Failed t why) is = absurd (cc)
request_news tells.Shutdown is = absurd (cc)
request_news _ is = refl

farewells : (from n : ℕ) → 0 < n → 0 < weigh (λ (y : ClientSaying). is_news y.message) (map farewell (range_with_len from n))
farewells from zero some = absurd (omega arith)
farewells from (suc n) some = omega arith

made_live : (s : ClientModel) (x : Made) → Then s x → 0 < weigh (λ (y : Sending). is_news y.letter.message) x.sends + one (is_free x.state)
made_live s x (It_rests h) =
    let free : is_free x.state ≡ true = rw (h.pending, h.finished) refl in
    let one_is : one (is_free x.state) ≡ 1 = ap one free in
    omega arith
made_live s x (It_asks h) =
    let sum : weigh (λ (y : Sending). is_news y.letter.message) x.sends ≡ is_news (h.letter).message + 0 =
    ap (weigh (λ (y : Sending). is_news y.letter.message)) h.sends in
    let is = request_news (h.letter).message h.request in
    omega arith
made_live s x (It_leaves h) =
    let sum = h.weight (λ to m. is_news m) in
    let some = farewells 0 s.config.servers (let few = s.config.servers_within.0 in omega arith) in
    omega arith

rank_live : (w : World) (me : Rank) (x : Made) → IsShaped w → me.0 < w.config.ranks → AreWithin w.config x.sends → Then (client_of w me) x
    → 0 < measure news (after_rank w me w.links x)
unfolding measure
rank_live w me x shape here within then =
    let all = rank_weight news w me x shape here within in
    let ranks = shape.ranks in
    let part = part_le news.rank w.ranks me.0 (new_client w.config me) (omega arith) in
    let live = made_live (client_of w me) x then in
    omega arith

call_live : (w next : World) (me : Rank) (call : Call) (x : Made) → IsWell w → Begins w me call x next
    → 0 < measure news (after_rank w me w.links x)
call_live w next me call x well does =
    rank_live w me x well.shape does.here (call_within w next me call x well.own does) (call_began w next me call x well.own does).after

answer_live : (w next : World) (from : Server) (me : Rank) (letter : Letter) (rest : List Letter) (x : Made) → IsWell w
    → Hears w from me letter rest x next → 0 < measure news (after_rank w me (taken w (by.Server from) (by.Rank me) rest) x)
answer_live w next from me letter rest x well does =
    let f : is_within w.config (by.Server from) ≡ true = lt-ltb from.0 w.config.servers does.there in
    let t : is_within w.config (by.Rank me) ≡ true = lt-ltb me.0 w.config.ranks does.here in
    let shape = taken_shaped w (by.Server from) (by.Rank me) rest well.shape f t in
    rank_live (record w { links = taken w (by.Server from) (by.Rank me) rest }) me x shape does.here
    (answer_within w next from me letter rest x well.own does) (answer_heard w next from me letter rest x well.own does).after

-- Runs.

-- no rank is idle where all work was found used up

-- no rank is idle at a server that knows that all work was found used up
abbrev pub AllFull : World → Type 0
AllFull w = (t : Server) → t.0 < w.config.servers → IsFull (pool_of w t)

full_next : (w next : World) → IsWell w → AllFull w → Does w next → AllFull next
full_next w next well full (A_call does) = subst AllFull (sym does.is) full
full_next w next well full (An_answer does) = subst AllFull (sym does.is) full
full_next w next well full (A_request {from = from} {me = me} {letter = letter} {rest = rest} {x = x} does) =
    subst AllFull (sym does.is)
    (every_pool (λ t s. IsFull s) w me x.state (inside_servers w me well does.here) (by_number (cases_eq w.config.servers 1))
    (λ t there differs. full t there))
  where
    own : IsPool w.config me (pool_of w me)
    own = well.own.servers me does.here

    servers : (pool_of w me).config.servers ≡ w.config.servers
    servers = ap (λ (c : Config). c.servers) own.config

    by_number : (w.config.servers ≡ 1) ⊎ (w.config.servers ≢ 1) → IsFull x.state
    by_number (inl alone) =
        let low = does.here in
        let named : (pool_of w me).me.0 ≡ me.0 = ap (λ (k : Server). k.0) own.me in
        serve_alone (pool_of w me) from letter x (servers ∙ alone) (omega arith) does.does (full me does.here)
    by_number (inr several) = serve_full (pool_of w me) from letter x (λ e. several (sym servers ∙ e)) does.does (full me does.here)

run_full : (w last : World) (events : List Event) → IsWell w → AllFull w → Runs w events last → AllFull last
run_full w last [] well full run = subst AllFull run full
run_full w last (e ∷ events) well full run =
    let does = happens_does w run.0 e run.1 in
    run_full run.0 last events (well_kept w run.0 well does) (full_next w run.0 well full does) run.2

every_run_full : (config : Config) (events : List Event) (w : World) → Runs (start config) events w → AllFull w
every_run_full config events w run =
    run_full (start config) w events (begins_well config) (λ t here. subst IsFull (sym (pool_at config t here)) (λ is. refl)) run

-- at the start a rank can begin a call
begins_live : (config : Config) → 0 < measure news (start config)
unfolding measure
begins_live config =
    let r = rank_named 0 in
    let ranks = (begins_well config).shape.ranks in
    let few = config.ranks_within.0 in
    let part = part_le news.rank (start config).ranks 0 (new_client config r) (omega arith) in
    let is = client_at config r (omega arith) in
    let free : one (is_free (client_of (start config) r)) ≡ 1 = ap (λ (c : ClientModel). one (is_free c)) is in
    omega arith

module _ (config : Config) (several : 1 < config.servers)
    (assumed : (events : List Event) (w : World) → Runs (start config) events w → AreForeseen w) where
  several_there : (w : World) (events : List Event) → Runs (start config) events w → 1 < w.config.servers
  several_there w events run = let e = ap (λ (c : Config). c.servers) (run_config (start config) w events run) in omega arith

  known_of : (w : World) (events : List Event) → Runs (start config) events w → IsKnown w
  known_of w events run =
      let same = ap (λ (c : Config). c.servers) (run_config (start config) w events run) in
      record {
        paid = every_run_paid config events w run;
        turn = (every_run_turned config events w run).1;
        calm = λ t there. (every_run_calm config events w t (omega arith) run).1;
        told = λ t there off e has idle.
            let no_such = full_is (pool_of w t) e (every_run_full config events w run t there) has idle in
            let no : false ≡ true = sym no_such ∙ off in absurd (cc);
        hears = λ t other there. exhaust_told config events w t other (omega arith) run;
        fits = assumed events w run;
      }

  event_going : (w next : World) (events : List Event) (e : Event) → Runs (start config) events w → happens w e ≡ Some next → Goes w
      → Goes next
  event_going w next events e run is was = by_does (happens_does w next e is)
    where
      well : IsWell w
      well = every_run_well config events w run

      after_run : Runs (start config) (events ++ e ∷ []) next
      after_run = snoc (start config) w next events e run is

      by_does : Does w next → Goes next
      by_does (A_call {me = me} {call = call} {x = x} does) = subst Goes (sym does.is) (inl (inl (call_live w next me call x well does)))
      by_does (An_answer {from = from} {me = me} {letter = letter} {rest = rest} {x = x} does) =
          subst Goes (sym does.is) (inl (inl (answer_live w next from me letter rest x well does)))
      by_does (A_request {from = from} {me = me} {letter = letter} {rest = rest} {x = x} does) =
          let both = every_run_turned config events w run in
          let stamp = next_stamp (pool_of w me) letter in
          let up = raises letter.message in
          let known = told_ticked w me stamp up well does.here (known_of w events run) (tick_turns w me stamp up well does.here both.1) in
          let live = fails_live (ticks w me stamp up) me (tick_well w me stamp up does.here well)
          (tick_ringed w me stamp up well does.here both.0) known in
          event_goes w next from me letter rest x well both.0 (several_there w events run)
          (every_run_well config (events ++ e ∷ []) next after_run)
          (every_run_paid config (events ++ e ∷ []) next after_run) live does was

  going_on : (w last : World) (before events : List Event) → Runs (start config) before w → Runs w events last → Goes w → Goes last
  going_on w last before [] run more was = subst Goes more was
  going_on w last before (e ∷ events) run more was =
      let next = more.0 in
      going_on next last (before ++ e ∷ []) events (snoc (start config) w next before e run more.1) more.2
      (event_going w next before e run more.1 was)

  -- every run of several servers goes on
  pub every_run_goes : (events : List Event) (w : World) → Runs (start config) events w → Goes w
  every_run_goes events w run = going_on (start config) w [] events refl run (inl (inl (begins_live config)))

-- With one server.

module _ (config : Config) (alone : config.servers ≡ 1) where
  event_going_alone : (w next : World) (events : List Event) (e : Event) → Runs (start config) events w → happens w e ≡ Some next
      → GoesAlone next
  event_going_alone w next events e run is = by_does (happens_does w next e is)
    where
      well : IsWell w
      well = every_run_well config events w run

      same : w.config ≡ config
      same = run_config (start config) w events run

      after_run : Runs (start config) (events ++ e ∷ []) next
      after_run = snoc (start config) w next events e run is

      by_does : Does w next → GoesAlone next
      by_does (A_call {me = me} {call = call} {x = x} does) = subst GoesAlone (sym does.is) (inl (call_live w next me call x well does))
      by_does (An_answer {from = from} {me = me} {letter = letter} {rest = rest} {x = x} does) =
          subst GoesAlone (sym does.is) (inl (answer_live w next from me letter rest x well does))
      by_does (A_request {from = from} {me = me} {letter = letter} {rest = rest} {x = x} does) =
          let here = does.here in
          let servers = ap (λ (c : Config). c.servers) same in
          let servers_next = ap (λ (c : Config). c.servers) (run_config (start config) next (events ++ e ∷ []) after_run) in
          event_alone w next from me letter rest x well (servers ∙ alone) (every_run_well config (events ++ e ∷ []) next after_run)
          (every_run_paid config (events ++ e ∷ []) next after_run)
          (every_run_calm config (events ++ e ∷ []) next me (omega arith) after_run).1
          (every_run_full config (events ++ e ∷ []) next after_run me (omega arith)) does

  going_alone : (w last : World) (before events : List Event) → Runs (start config) before w → Runs w events last → GoesAlone w
      → GoesAlone last
  going_alone w last before [] run more was = subst GoesAlone more was
  going_alone w last before (e ∷ events) run more was =
      going_alone more.0 last (before ++ e ∷ []) events (snoc (start config) w more.0 before e run more.1) more.2
      (event_going_alone w more.0 before e run more.1)

  -- every run of one server goes on
  pub every_run_goes_alone : (events : List Event) (w : World) → Runs (start config) events w → GoesAlone w
  every_run_goes_alone events w run = going_alone (start config) w [] events refl run (inl (begins_live config))
