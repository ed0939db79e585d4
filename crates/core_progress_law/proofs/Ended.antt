-- A run that is still has ended.
use Rattle.adlb_unit.specs.Links.{is_within, place_of}
use Rattle.adlb_unit.specs.declared.actors.Actor.{Actor}
use Rattle.adlb_unit.specs.declared.configs.Config.{Config}
use Rattle.adlb_unit.specs.declared.letters.Letter.{Letter}
use Rattle.adlb_unit.specs.declared.messages.Message.{Message}
use Rattle.adlb_unit.specs.declared.names.Rank.{Rank}
use Rattle.adlb_unit.specs.declared.names.Server.{Server}
use Rattle.core_check_law.proofs.EndsAlong.{shutdown_told}
use Rattle.core_check_law.proofs.Rings.{every_run_ringed}
use Rattle.core_check_law.proofs.ShutServers.{shut_is_right}
use Rattle.core_check_law.proofs.Tokens.{token_count}
use Rattle.core_check_law.specs.Ends.{end_letter, is_shutdown}
use Rattle.core_check_law.specs.Tokens.{tokens}
use Rattle.core_law.proofs.Actors.{pool_beside, pool_there, with_pool}
use Rattle.core_law.proofs.Debts.{every_run_paid}
use Rattle.core_law.proofs.EveryRun.{begins_well, every_run_well, pool_at, run_config, well_kept}
use Rattle.core_law.proofs.OnLinks.{zero_from}
use Rattle.core_law.proofs.OwedByRanks.{finishes_are, no_sum}
use Rattle.core_law.proofs.Steps.{A_call, A_request, An_answer, Does, happens_does, same_config}
use Rattle.core_law.proofs.Sums.{one_adds}
use Rattle.core_law.proofs.LettersAndActors.{inside_servers}
use Rattle.core_law.specs.Letters.{finish_letter, finishes, is_finish, one}
use Rattle.core_law.specs.Measures.{Weights, links_weight, measure, server_weight, weigh_at}
use Rattle.core_law.specs.OnLinks.{Each}
use Rattle.core_law.specs.Pushed.{letters_of}
use Rattle.core_law.specs.Well.{IsWell}
use Rattle.core_wish_law.proofs.Busy.{one_true, still_quiet}
use Rattle.core_progress_law.proofs.AloneGoes.{GoesAlone}
use Rattle.core_progress_law.proofs.Ends.{IsAtEnd, serve_ends}
use Rattle.core_wish_law.specs.News.{news}
use Rattle.core_progress_law.specs.Ended.{IsEnded, IsStill}
use Rattle.core_progress_law.specs.Going.{Goes}
use Rattle.core_run.specs.Runs.{Runs, is_over}
use Rattle.core_run.specs.World.{World, after_server, client_of, has_ended, link, pool_of, rank_named, server_named, start, taken}
use Rattle.core_run.specs.declared.events.Event.{Event}
use Rattle.rank_client.specs.Rules.{is_free}
use Rattle.rank_client.specs.State.{start as new_client}
use Rattle.server_law.specs.Acts.{does, zeroth}
use Rattle.server_law.specs.Endings.{is_quiet}
use Rattle.server_law.specs.State.{ServerModel, is_finished, start as new_pool}
use Rattle.std.proofs.Common.{Bool, List, [], ap, arith, cond, false, get_or, inl, inr, length, refl, subst, suc, sym, true, zero, ℕ, ◌&&◌}
use Rattle.std.proofs.Common.{◌<◌, ◌==◌, ◌∙◌, ◌∷◌, ◌≡◌, ◌≢◌, ◌⊎◌}
use Rattle.std.proofs.lemmas.Bool.{cases_eq, eq-eqb, eqb-true, false_from_ne_true, ltb-true}
use Rattle.std.specs.List.{list_all}
use Rattle.adlb_unit.specs.declared.actors.Actor.TheVariants as by

-- At server 0 a check that is wanted has begun, where it is quiet.

-- if server 0 is quiet and a check is wanted, one runs, or the server is shut
abbrev pub IsStarted : ServerModel → Type 0
IsStarted s = s.me.0 ≡ 0 → is_quiet s ≡ true → s.kept.ring.wanted ≡ true → (s.kept.ring.runs ≡ true) ⊎ (s.kept.shut ≡ true)

started_next : (w next : World) → IsWell w → 1 < w.config.servers → Does w next → IsStarted (pool_of w zeroth)
    → IsStarted (pool_of next zeroth)
started_next w next well several (A_call does) was = subst (λ (n : World). IsStarted (pool_of n zeroth)) (sym does.is) was
started_next w next well several (An_answer does) was = subst (λ (n : World). IsStarted (pool_of n zeroth)) (sym does.is) was
started_next w next well several (A_request {from = from} {me = me} {letter = letter} {rest = rest} {x = x} does) was =
    subst (λ (n : World). IsStarted (pool_of n zeroth)) (sym does.is) (by_place (cases_eq me.0 0))
  where
    config : (pool_of w me).config ≡ w.config
    config = (well.own.servers me does.here).config

    ends : IsAtEnd x.state
    ends =
        serve_ends (pool_of w me) from letter x
        (λ e. let one_is = ap (λ (c : Config). c.servers) (sym config) ∙ e in absurd (omega arith)) does.does

    by_place : (me.0 ≡ 0) ⊎ (me.0 ≢ 0) → IsStarted (pool_of (after_server w me (taken w from (by.Server me) rest) x) zeroth)
    by_place (inl e) =
        let same : me ≡ zeroth = ap server_named e in
        let found = pool_there w me x.state (inside_servers w me well does.here) in
        subst (λ (k : Server). IsStarted (pool_of (with_pool w me x.state) k)) same (subst IsStarted (sym found) ends.started)
    by_place (inr differs) = subst IsStarted (sym (pool_beside w me zeroth x.state (λ e. differs (sym e)))) was

run_started : (w last : World) (events : List Event) → IsWell w → 1 < w.config.servers → Runs w events last → IsStarted (pool_of w zeroth)
    → IsStarted (pool_of last zeroth)
run_started w last [] well several run was = subst (λ (n : World). IsStarted (pool_of n zeroth)) run was
run_started w last (e ∷ events) well several run was =
    let does = happens_does w run.0 e run.1 in
    let same = ap (λ (c : Config). c.servers) (same_config w run.0 does) in
    run_started run.0 last events (well_kept w run.0 well does) (omega arith) run.2 (started_next w run.0 well several does was)

-- in every run of several servers a check that is wanted has begun, where server 0 is quiet
pub every_run_started : (config : Config) (events : List Event) (w : World) → 1 < config.servers → Runs (start config) events w
    → IsStarted (pool_of w zeroth)
every_run_started config events w several run =
    run_started (start config) w events (begins_well config) several run
    (λ z quiet wanted. let is = ap (λ (s : ServerModel). s.kept.ring.wanted) (pool_at config zeroth config.servers_within.0) in
    let no : true ≡ false = sym wanted ∙ is in absurd (cc))

-- Sums.

none_weighs : {X : Type 0} (f : ℕ → X → ℕ) (xs : List X) (d : ℕ → X) → ((i : ℕ) → i < length xs → f i (get_or xs i (d i)) ≡ 0)
    → weigh_at f xs ≡ 0
none_weighs f [] d none = refl
none_weighs f (x ∷ xs) d none =
    let here = none zero (omega arith) in
    let later = none_weighs (λ i. f (suc i)) xs (λ i. d (suc i)) (λ i inside. none (suc i) (omega arith)) in
    omega arith

all_true : (xs : List Bool) → ((i : ℕ) → i < length xs → get_or xs i false ≡ true) → list_all (λ finished. finished) xs ≡ true
all_true [] each = refl
all_true (x ∷ xs) each =
    let here : x ≡ true = each zero (omega arith) in
    let later = all_true xs (λ i inside. each (suc i) (omega arith)) in
    rw here later

module _ (config : Config) (events : List Event) (w : World) (run : Runs (start config) events w) (still : IsStill w) where
  well : IsWell w
  well = every_run_well config events w run

  same : w.config ≡ config
  same = run_config (start config) w events run

  below : (t : Server) → t.0 < w.config.servers → t.0 < config.servers
  below t there = let e = ap (λ (c : Config). c.servers) same in omega arith

  zero_low : zeroth.0 < w.config.servers
  zero_low = let few = w.config.servers_within.0 in omega arith

  -- letters to a server that has not ended weigh nothing
  none_to : (m : Weights) (t : Server) → has_ended (pool_of w t) ≡ false
      → ((from : Actor) (to : Actor) (x : Message) → to ≢ by.Server t → m.letter from to x ≡ 0) → links_weight w.config m w.links ≡ 0
  none_to m t going elsewhere =
      zero_from m w.config w.links (well.shape).square (record { each = λ from to f g. by_links from to (still.letters from to f g) })
    where
      all_zero : (from to : Actor) → to ≢ by.Server t → (ls : List Letter) → Each (λ (l : Letter). m.letter from to l.message ≡ 0) ls
      all_zero from to differs [] = tt
      all_zero from to differs (l ∷ ls) = (elsewhere from to l.message differs, all_zero from to differs ls)

      by_links : (from to : Actor)
          → (link w.links (place_of w.config from) (place_of w.config to) ≡ []) ⊎ (is_over w to ≡ true)
          → Each (λ (l : Letter). m.letter from to l.message ≡ 0) (link w.links (place_of w.config from) (place_of w.config to))
      by_links from to (inl none) = subst (Each (λ (l : Letter). m.letter from to l.message ≡ 0)) (sym none) tt
      by_links from to (inr over) =
          all_zero from to (λ e. let no : true ≡ false = sym over ∙ ap (is_over w) e ∙ going in absurd (cc))
          (link w.links (place_of w.config from) (place_of w.config to))

  -- Where the end was found.

  module _ (shut : (pool_of w zeroth).kept.shut ≡ true) where
    all_finished : (r : Rank) → r.0 < w.config.ranks → (client_of w r).finished ≡ true
    all_finished r low =
        shut_is_right config events w zeroth r (below zeroth zero_low)
        (let e = ap (λ (c : Config). c.ranks) same in omega arith) run shut

    shut_at : (t : Server) → t.0 < w.config.servers → has_ended (pool_of w t) ≡ false → (t.0 ≡ 0) ⊎ (t.0 ≢ 0)
        → (pool_of w t).kept.shut ≡ true
    shut_at t there going (inl e) = ap (λ (k : Server). (pool_of w k).kept.shut) (ap server_named e) ∙ shut
    shut_at t there going (inr other) =
        let told = shutdown_told config events w t other (below t there) run in
        let none = none_to (letters_of (end_letter is_shutdown t)) t going elsewhere in
        let is : one (pool_of w zeroth).kept.shut ≡ 1 = ap one shut in
        one_true (pool_of w t).kept.shut (omega arith)
      where
        elsewhere : (from to : Actor) (x : Message) → to ≢ by.Server t → end_letter is_shutdown t from to x ≡ 0
        elsewhere (by.Rank from) to x differs = refl
        elsewhere (by.Server from) (by.Rank to) x differs = refl
        elsewhere (by.Server from) (by.Server to) x differs =
            let no_place : (to.0 == t.0) ≡ false = false_from_ne_true (to.0 == t.0)
            (λ e. differs (ap (λ n. by.Server (server_named n)) (eqb-true to.0 t.0 e))) in
            by_kind (is_shutdown x) (to.0 == t.0) no_place
          where
            by_kind : (a b : Bool) → b ≡ false → one (a && b) ≡ 0
            by_kind true b e = ap one e
            by_kind false b e = refl

    finished_at : (t : Server) → t.0 < w.config.servers → has_ended (pool_of w t) ≡ false → (r : Rank) → r.0 < w.config.ranks
        → is_finished (pool_of w t).kept r ≡ true
    unfolding measure
    finished_at t there going r low =
        let long = (well.shape).ranks in
        let m = finishes r t in
        let all = finishes_are w r t (omega arith) (well.finish r t there) in
        let none = none_to m t going elsewhere in
        let ranks = no_sum w.ranks in
        let inside : t.0 < length w.servers = let e = (well.shape).servers in omega arith in
        let only = one_adds (server_weight m.server) w.servers t.0 (new_pool w.config t) inside
        (λ i x differs. ap (λ b. cond b (one (is_finished x.kept r)) 0)
        (false_from_ne_true (i == t.0) (λ e. differs (eqb-true i t.0 e)))) in
        let mine : server_weight m.server t.0 (pool_of w t) ≡ one (is_finished (pool_of w t).kept r) = rw (eq-eqb t.0 t.0 refl) refl in
        let is : one (client_of w r).finished ≡ 1 = ap one (all_finished r low) in
        one_true (is_finished (pool_of w t).kept r) (omega arith)
      where
        elsewhere : (from to : Actor) (x : Message) → to ≢ by.Server t → finish_letter r t from to x ≡ 0
        elsewhere (by.Server from) to x differs = refl
        elsewhere (by.Rank from) (by.Rank to) x differs = refl
        elsewhere (by.Rank from) (by.Server to) x differs =
            let no_place : (to.0 == t.0) ≡ false = false_from_ne_true (to.0 == t.0)
            (λ e. differs (ap (λ n. by.Server (server_named n)) (eqb-true to.0 t.0 e))) in
            by_kind (is_finish x) (from.0 == r.0) (to.0 == t.0) no_place
          where
            by_kind : (a b c : Bool) → c ≡ false → one (a && (b && c)) ≡ 0
            by_kind true true c e = ap one e
            by_kind true false c e = refl
            by_kind false b c e = refl

    ended_at : (t : Server) → t.0 < w.config.servers → has_ended (pool_of w t) ≡ true
    ended_at t there = by_ended (has_ended (pool_of w t)) refl
      where
        by_ended : (b : Bool) → has_ended (pool_of w t) ≡ b → has_ended (pool_of w t) ≡ true
        by_ended true e = e
        by_ended false e =
            let down = shut_at t there e (cases_eq t.0 0) in
            let pool = well.own.servers t there in
            let long = pool.finished in
            let all = all_true (pool_of w t).kept.finished (λ i inside. finished_at t there e (rank_named i) (omega arith)) in
            rw down all

    shut_ended : IsEnded w
    shut_ended = record { ranks = all_finished; servers = ended_at }

  -- Where it was not.

  module _ (open_yet : (pool_of w zeroth).kept.shut ≡ false) where
    not_shut : (t : Server) → t.0 < w.config.servers → (t.0 ≡ 0) ⊎ (t.0 ≢ 0) → (pool_of w t).kept.shut ≡ false
    not_shut t there (inl e) = ap (λ (k : Server). (pool_of w k).kept.shut) (ap server_named e) ∙ open_yet
    not_shut t there (inr other) =
        let told = shutdown_told config events w t other (below t there) run in
        let is : one (pool_of w zeroth).kept.shut ≡ 0 = ap one open_yet in
        by_flag (pool_of w t).kept.shut refl (omega arith)
      where
        by_flag : (b : Bool) → (pool_of w t).kept.shut ≡ b → one (pool_of w t).kept.shut ≡ 0 → (pool_of w t).kept.shut ≡ false
        by_flag false e none = e
        by_flag true e none = let is : one (pool_of w t).kept.shut ≡ 1 = ap one e in absurd (omega arith)

    not_over : (a : Actor) → is_within w.config a ≡ true → is_over w a ≡ false
    not_over (by.Rank rank) within = refl
    not_over (by.Server t) within =
        let down = not_shut t (ltb-true t.0 w.config.servers within) (cases_eq t.0 0) in rw down refl

    no_letters : (m : Weights) → links_weight w.config m w.links ≡ 0
    no_letters m =
        zero_from m w.config w.links (well.shape).square
        (record { each = λ from to f t. by_links from to t (still.letters from to f t) })
      where
        by_links : (from to : Actor) → is_within w.config to ≡ true
            → (link w.links (place_of w.config from) (place_of w.config to) ≡ []) ⊎ (is_over w to ≡ true)
            → Each (λ (l : Letter). m.letter from to l.message ≡ 0) (link w.links (place_of w.config from) (place_of w.config to))
        by_links from to t (inl none) = subst (Each (λ (l : Letter). m.letter from to l.message ≡ 0)) (sym none) tt
        by_links from to t (inr over) = let no : false ≡ true = sym (not_over to t) ∙ over in absurd (cc)

    no_ranks : weigh_at news.rank w.ranks ≡ 0
    no_ranks =
        none_weighs news.rank w.ranks (λ i. new_client w.config (rank_named i))
        (λ i inside. ap one
        (false_from_ne_true (is_free (client_of w (rank_named i)))
        (still.ranks (rank_named i) (let e = (well.shape).ranks in omega arith))))

    no_news : measure news w ≡ 0
    unfolding measure
    no_news = let a = no_letters news in let b = no_sum w.servers in let c = no_ranks in omega arith

    not_running : (pool_of w zeroth).kept.ring.runs ≡ true → ⊥
    not_running runs =
        let count = token_count w well.shape zero_low (every_run_ringed config events w run).tokens in
        let none = no_letters tokens in
        let is : one (pool_of w zeroth).kept.ring.runs ≡ 1 = ap one runs in
        absurd (omega arith)

    -- with several servers
    not_wanted : 1 < config.servers → (pool_of w zeroth).kept.ring.wanted ≡ true → ⊥
    not_wanted several wanted =
        let quiet = still_quiet w zeroth well (every_run_paid config events w run) zero_low no_news in
        let named = ap (λ (k : Server). k.0) (well.own.servers zeroth zero_low).me in
        by_started (every_run_started config events w several run named quiet wanted)
      where
        by_started : ((pool_of w zeroth).kept.ring.runs ≡ true) ⊎ ((pool_of w zeroth).kept.shut ≡ true) → ⊥
        by_started (inl runs) = not_running runs
        by_started (inr down) = let no : false ≡ true = sym open_yet ∙ down in absurd (cc)

    not_going : 1 < config.servers → Goes w → ⊥
    not_going several (inl (inl some)) = let none = no_news in absurd (omega arith)
    not_going several (inl (inr (inl down))) = let no : false ≡ true = sym open_yet ∙ down in absurd (cc)
    not_going several (inl (inr (inr wanted))) = not_wanted several wanted
    not_going several (inr turning) = not_running turning.runs

    -- with one
    not_going_alone : GoesAlone w → ⊥
    not_going_alone (inl some) = let none = no_news in absurd (omega arith)
    not_going_alone (inr down) = let no : false ≡ true = sym open_yet ∙ down in absurd (cc)

  by_shut : ((pool_of w zeroth).kept.shut ≡ false → ⊥) → IsEnded w
  by_shut not_open = by_flag (pool_of w zeroth).kept.shut refl
    where
      by_flag : (b : Bool) → (pool_of w zeroth).kept.shut ≡ b → IsEnded w
      by_flag true e = shut_ended e
      by_flag false e = absurd (not_open e)

  -- with several servers a run that is still has ended
  pub still_ends : 1 < config.servers → Goes w → IsEnded w
  still_ends several goes = by_shut (λ e. not_going e several goes)

  -- and so it has with one
  pub still_ends_alone : GoesAlone w → IsEnded w
  still_ends_alone goes = by_shut (λ e. not_going_alone e goes)
