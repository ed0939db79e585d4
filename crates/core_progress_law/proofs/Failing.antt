-- Where nothing else goes on no test of a check fails, and its verdict was not given before.
use Rattle.adlb_unit.specs.Targets.{home, home_of}
use Rattle.adlb_unit.specs.declared.actors.Actor.{Actor}
use Rattle.adlb_unit.specs.declared.messages.Message.{Message}
use Rattle.adlb_unit.specs.declared.names.Rank.{Rank}
use Rattle.adlb_unit.specs.declared.names.Server.{Server}
use Rattle.adlb_unit.specs.declared.names.UnitId.{UnitId}
use Rattle.adlb_unit.specs.declared.tokens.Token.{Token}
use Rattle.core_check_law.proofs.Homes.{reach_zeroth}
use Rattle.core_check_law.proofs.Lists.{home_below}
use Rattle.core_check_law.proofs.Turns.{token_front}
use Rattle.core_check_law.specs.Ends.{IsToldOnce, end_letter, is_exhaust, is_exhausted}
use Rattle.core_check_law.specs.OnWay.{IsOnWay, IsRinged, of_home, reach}
use Rattle.core_check_law.specs.Settling.{Has}
use Rattle.core_check_law.specs.Turn.{AreOnTurn, IsOnTurn}
use Rattle.core_law.proofs.Fifo.{part_le}
use Rattle.core_law.proofs.OwedByRanks.{no_sum, none_wait}
use Rattle.core_law.proofs.Sums.{links_le}
use Rattle.core_law.proofs.LettersAndActors.{own_of}
use Rattle.core_law.specs.Letters.{any_remote, any_remote_letter, any_remote_waits, one, remote_letter}
use Rattle.core_law.specs.Measures.{due, links_weight, measure, server_weight, weights}
use Rattle.core_law.specs.Own.{NoneOwes}
use Rattle.core_law.specs.Pushed.{letters_of}
use Rattle.core_law.specs.Well.{IsWell}
use Rattle.core_wish_law.proofs.Busy.{one_true, still_quiet}
use Rattle.core_wish_law.proofs.Having.{filter_has, map_has, weigh_has}
use Rattle.core_progress_law.proofs.Causes.{Cause, IsFailed, IsLate, cause}
use Rattle.core_progress_law.proofs.First.{may_fail}
use Rattle.core_progress_law.proofs.Fitting.{calm_refuses, fit_is}
use Rattle.core_progress_law.proofs.Going.{FailsLive}
use Rattle.core_wish_law.specs.News.{AreForeseen, is_news, news}
use Rattle.core_progress_law.specs.Going.{IsLive, IsTurning}
use Rattle.core_run.specs.World.{World, pool_of, server_named}
use Rattle.exhaust_ring.specs.Ring.{Asker}
use Rattle.exhaust_ring.specs.Tests.{first_failing, fitting}
use Rattle.server_components.specs.Calls.{wants}
use Rattle.server_components.specs.declared.waits.Waiting.{Waiting}
use Rattle.server_law.specs.Acts.{Act, Fails, Gives_up, Heard, fit_among, of_server, takes, zeroth}
use Rattle.server_law.specs.Calm.{IsCalm}
use Rattle.server_law.specs.Endings.{is_quiet}
use Rattle.server_law.specs.State.{ServerModel, start as new_pool}
use Rattle.server_law.specs.Step.{acts}
use Rattle.std.proofs.Common.{Bool, List, None, Option, Some, [], ap, arith, false, inl, inr, refl, subst, sym, true, ◌<◌, ◌==◌, ◌∙◌, ◌∷◌}
use Rattle.std.proofs.Common.{◌≡◌, ◌≢◌, ◌≤◌, ◌⊎◌}
use Rattle.std.proofs.lemmas.Bool.{cases_eq, eq-eqb}
use Rattle.work_queue.specs.Best.{offered}
use Rattle.work_queue.specs.declared.placing.Placed.{Placed}
use Rattle.adlb_unit.specs.declared.actors.Actor.TheVariants as by
use Rattle.adlb_unit.specs.declared.messages.Message.TheVariants as tells

-- What is known of the world.

-- what is known of a world between events
pub record IsKnown (w : World) : Type 0 where
  pub paid : NoneOwes w
  pub turn : AreOnTurn w
  pub calm : (t : Server) → t.0 < w.config.servers → IsCalm (pool_of w t)
  -- no rank is idle where all work was found used up
  pub told : (t : Server) → t.0 < w.config.servers → (pool_of w t).kept.exhausted ≡ true → (e : Waiting)
      → Has (pool_of w t).kept.parked.waiting e → e.asked ≢ None
  pub hears : (t : Server) → t.0 ≢ 0 → t.0 < w.config.servers → IsToldOnce is_exhaust is_exhausted w t
  pub fits : AreForeseen w

remote_is_news : (r : Rank) (from to : Actor) (m : Message) → any_remote_letter r from to m ≤ is_news m
remote_is_news r (by.Rank from) to m = omega arith
remote_is_news r (by.Server from) (by.Rank to) m = omega arith
remote_is_news r (by.Server from) (by.Server to) m = by_message m
  where
    most : (t : Bool) → one t ≤ 1
    most true = omega arith
    most false = omega arith

    by_message : (x : Message) → remote_letter r x ≤ is_news x
    by_message (tells.Ask of request types) = most _
    by_message (tells.AskGrant of request note) = most _
    by_message (tells.AskNone of request) = most _
    by_message _ = omega arith

exhaust_is_news : (t : Server) (from to : Actor) (m : Message) → end_letter is_exhaust t from to m ≤ is_news m
exhaust_is_news t (by.Rank from) to m = omega arith
exhaust_is_news t (by.Server from) (by.Rank to) m = omega arith
exhaust_is_news t (by.Server from) (by.Server to) m = by_message m
  where
    most : (b : Bool) → one b ≤ 1
    most true = omega arith
    most false = omega arith

    by_message : (x : Message) → end_letter is_exhaust t (by.Server from) (by.Server to) x ≤ is_news x
    by_message tells.Exhaust = most _
    by_message _ = omega arith

module _ (w : World) (me : Server) (well : IsWell w) (ring : IsRinged w) (known : IsKnown w) (here : me.0 < w.config.servers)
    (none : measure news w ≡ 0) (turning : IsTurning w) where
  abbrev s : ServerModel
  s = pool_of w me

  no_news : links_weight w.config news w.links ≡ 0
  unfolding measure
  no_news = omega (arith, none)

  -- each rank that waits is idle
  idle_there : (h : Server) → h.0 < w.config.servers → (e : Waiting) → Has (pool_of w h).kept.parked.waiting e → e.asked ≡ None
  unfolding measure due
  idle_there h there e has =
      let r = e.wish.rank in
      let m = weights (any_remote r) in
      let few = links_le w.config m news w.links (remote_is_news r) in
      let zero_news = no_news in
      let even = (well.any r).same in
      let nobody = none_wait w.servers in
      let owes = no_sum w.ranks in
      let servers = (well.shape).servers in
      let part = part_le (server_weight m.server_due) w.servers h.0 (new_pool w.config h) (omega arith) in
      let its = weigh_has (any_remote_waits r h.0) (pool_of w h).kept.parked.waiting e has in
      by_asked e.asked refl (omega arith)
    where
      by_asked : (o : Option Server) → e.asked ≡ o → any_remote_waits e.wish.rank h.0 e ≡ 0 → e.asked ≡ None
      by_asked None is zero_weight = is
      by_asked (Some t) is zero_weight =
          let own : any_remote_waits e.wish.rank h.0 e ≡ 1 = rw (is, eq-eqb e.wish.rank.0 e.wish.rank.0 refl) refl in absurd (omega arith)

  -- a rank of the list waits at its home
  module _ (t : Token) (way : IsOnWay w me t) (a : Asker) (has : Has t.asked a)
      (passed : (t.wave ≡ 2) ⊎ ((home w.config a.0).0 < reach w.config me)) where
    abbrev h : Server
    h = home w.config a.0

    there : h.0 < w.config.servers
    there = home_below w.config a.0

    waits_there : (e : Waiting) × Has (pool_of w h).kept.parked.waiting e × (wants e ≡ a)
    waits_there =
        let number = way.marked h there passed in
        let same = turning.same h there (number ∙ way.number) in
        let b = way.bridge h there number same in
        let yes : of_home w.config h a ≡ true = eq-eqb (home_of w.config.servers a.0) h.0 refl in
        let kept = filter_has (of_home w.config h) t.asked a has yes in
        map_has wants (pool_of w h).kept.parked.waiting a (subst (λ (l : List Asker). Has l a) b.1 kept)

  -- the verdict was not given before
  not_late : (t : Token) → IsOnWay w me t → IsLate s t → s.me ≡ me → ⊥
  not_late t way late named =
      let a = late.first in
      let has : Has t.asked a = subst (λ l. Has l a) (sym late.asked) (inl refl) in
      let x = waits_there t way a has (inl late.wave) in
      let at = h t way a has (inl late.wave) in
      let low = there t way a has (inl late.wave) in
      let idle = idle_there at low x.0 x.1 in
      known.told at low (exhausted_at at low (cases_eq at.0 0)) x.0 x.1 idle
    where
      zero_me : me ≡ zeroth
      zero_me = ap server_named (ap (λ (k : Server). k.0) (sym named) ∙ late.zero_here)

      exhausted_zero : (pool_of w zeroth).kept.exhausted ≡ true
      exhausted_zero = ap (λ (k : Server). (pool_of w k).kept.exhausted) (sym zero_me) ∙ late.exhausted

      exhausted_at : (k : Server) → k.0 < w.config.servers → (k.0 ≡ 0) ⊎ (k.0 ≢ 0) → (pool_of w k).kept.exhausted ≡ true
      exhausted_at k low (inl zero_k) =
          let same : k ≡ zeroth = ap server_named zero_k in ap (λ (x : Server). (pool_of w x).kept.exhausted) same ∙ exhausted_zero
      exhausted_at k low (inr other) =
          let all = known.hears k other low in
          let few = links_le w.config (letters_of (end_letter is_exhaust k)) news w.links (exhaust_is_news k) in
          let zero_news = no_news in
          let is : one (pool_of w zeroth).kept.exhausted ≡ 1 = ap one exhausted_zero in
          one_true (pool_of w k).kept.exhausted (omega arith)

  -- no unit fits
  not_fits : (t : Token) → IsOnWay w me t → ((t.wave ≡ 2) ⊎ (s.me.0 ≡ 0)) → s.me ≡ me → (id : UnitId) → fit_among s.kept t.asked ≡ Some id
      → ⊥
  not_fits t way at named id is = let f = fit_is s.kept t.asked id is in by_unit f.0 f.1 f.2 f.3 f.4
    where
      passed : (a : Asker) → (t.wave ≡ 2) ⊎ ((home w.config a.0).0 < reach w.config me)
      passed a = by_at at
        where
          by_at : (t.wave ≡ 2) ⊎ (s.me.0 ≡ 0) → (t.wave ≡ 2) ⊎ ((home w.config a.0).0 < reach w.config me)
          by_at (inl two) = inl two
          by_at (inr z) =
              let far = reach_zeroth w.config me (ap (λ (k : Server). k.0) (sym named) ∙ z) in
              let low = home_below w.config a.0 in
              inr (omega arith)

      by_home : (k : Server) → k.0 < w.config.servers → (e : Waiting) → Has (pool_of w k).kept.parked.waiting e → e.asked ≡ None
          → (p : Placed) → Has s.kept.queue.units p → offered e.wish.rank e.wish.types p ≡ true → (k.0 ≡ me.0) ⊎ (k.0 ≢ me.0) → ⊥
      by_home k low e waits idle p at_queue offers (inl same) =
          let is_me : k ≡ me = ap server_named same in
          let mine : Has s.kept.parked.waiting e = subst (λ (x : Server). Has (pool_of w x).kept.parked.waiting e) is_me waits in
          calm_refuses s e p (known.calm me here) mine idle at_queue offers
      by_home k low e waits idle p at_queue offers (inr differs) =
          let some = known.fits k me e p low here (λ e. differs (sym e)) waits idle at_queue offers in absurd (omega arith)

      by_unit : (p : Placed) → Has s.kept.queue.units p → (a : Asker) → Has t.asked a → offered a.0 a.1 p ≡ true → ⊥
      by_unit p at_queue a has offers =
          let x = waits_there t way a has (passed a) in
          let home_is = h t way a has (passed a) in
          let low = there t way a has (passed a) in
          let idle = idle_there home_is low x.0 x.1 in
          let offers_e : offered x.0.wish.rank x.0.wish.types p ≡ true =
          ap (λ (y : Asker). offered y.0 y.1 p) x.2 ∙ offers in
          by_home home_is low x.0 x.1 idle p at_queue offers_e (cases_eq home_is.0 me.0)

  not_failed : (t : Token) → IsOnWay w me t → IsFailed s t → s.me ≡ me → ⊥
  not_failed t way failed named = by_fit (fit_among s.kept t.asked) refl
    where
      quiet : is_quiet s ≡ true
      quiet = still_quiet w me well known.paid here none

      at_mark : (t.wave ≡ 2) ⊎ (me.0 < reach w.config me)
      at_mark = by_at failed.at
        where
          by_at : (t.wave ≡ 2) ⊎ (s.me.0 ≡ 0) → (t.wave ≡ 2) ⊎ (me.0 < reach w.config me)
          by_at (inl two) = inl two
          by_at (inr z) = let far = reach_zeroth w.config me (ap (λ (k : Server). k.0) (sym named) ∙ z) in inr (omega arith)

      same : (s.activity == s.kept.ring.mark) ≡ true
      same = eq-eqb s.activity s.kept.ring.mark (turning.same me here (way.marked me here at_mark ∙ way.number))

      fitting_is : fitting (fit_among s.kept t.asked) ≡ Some failed.why
      fitting_is =
          let both : first_failing (is_quiet s) s.kept.ring.mark s.activity (fit_among s.kept t.asked) ≡ fitting
          (fit_among s.kept t.asked) =
          rw (quiet, same) refl in
          sym both ∙ failed.fails

      by_fit : (o : Option UnitId) → fit_among s.kept t.asked ≡ o → ⊥
      by_fit None e = let no : None ≡ Some failed.why = ap fitting (sym e) ∙ fitting_is in absurd (cc)
      by_fit (Some id) e = not_fits t way failed.at named id e

  -- where there is no news and a check goes round, no cause is there
  pub no_cause : (t : Token) → IsOnWay w me t → s.me ≡ me → Cause s t → ⊥
  no_cause t way named (inl busy) =
      let quiet = still_quiet w me well known.paid here none in let no : false ≡ true = sym busy ∙ quiet in absurd (cc)
  no_cause t way named (inr (inl failed)) = not_failed t way failed named
  no_cause t way named (inr (inr late)) = not_late t way late named

-- an act that may fail takes a token

token_of : (a : Act) (from : Actor) (message : Message) → may_fail a ≡ true → takes a ≡ record { from = from; message = message } ∷ []
    → (k : Server) × (t : Token) × (from ≡ by.Server k) × (message ≡ tells.Token t)
token_of (Fails k t why) from message fails is = (k, t, ap from_of (sym is), ap message_of (sym is))
  where
    from_of : List Heard → Actor
    from_of [] = from
    from_of (h ∷ more) = h.from

    message_of : List Heard → Message
    message_of [] = message
    message_of (h ∷ more) = h.message
token_of (Gives_up k t) from message fails is = (k, t, ap from_of (sym is), ap message_of (sym is))
  where
    from_of : List Heard → Actor
    from_of [] = from
    from_of (h ∷ more) = h.from

    message_of : List Heard → Message
    message_of [] = message
    message_of (h ∷ more) = h.message
token_of _ from message fails is = absurd (cc)

-- so a test that fails shows that the run goes on
pub fails_live : (w : World) (me : Server) → IsWell w → IsRinged w → IsKnown w → FailsLive w me
fails_live w me well ring known a more from message is takes_it acts_are fails turning = by_news (cases_eq (measure news w) 0)
  where
    by_news : (measure news w ≡ 0) ⊎ (measure news w ≢ 0) → IsLive w
    by_news (inr some) = inl (omega (arith, some))
    by_news (inl none) =
        let x = token_of a from message fails takes_it in
        let k = x.0 in
        let t = x.1 in
        let its : takes a ≡ of_server k (tells.Token t) ∷ [] =
        takes_it ∙ ap (λ (f : Actor). record { from = f; message = message } ∷ []) x.2
        ∙ ap (λ (m : Message). record { from = by.Server k; message = m } ∷ []) x.3 in
        let way = token_front (IsOnWay w) w me k t a is its ring.on in
        let wave = (token_front (IsOnTurn w) w me k t a is its known.turn.tokens).wave in
        let are : acts (pool_of w me) (by.Server k) (tells.Token t) ≡ Some (a ∷ more) =
        ap (λ (f : Actor). acts (pool_of w me) f (tells.Token t)) (sym x.2) ∙ ap (acts (pool_of w me) from) (sym x.3) ∙ acts_are in
        let why = cause (pool_of w me) k t wave a more are fails in
        absurd (no_cause w me well ring known is.here none turning t way (own_of w me a well is).named why)
