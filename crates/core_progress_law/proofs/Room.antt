-- How many letters are under way to one actor. To a rank it is one at most; to a server one of each rank, one of each push, one of a check
-- and two of the ends. Hints come besides, and notices, which go to server 0 alone.
use Rattle.adlb_unit.specs.Links.{is_within, place_of}
use Rattle.adlb_unit.specs.declared.actors.Actor.{Actor}
use Rattle.adlb_unit.specs.declared.configs.Config.{Config}
use Rattle.adlb_unit.specs.declared.letters.Letter.{Letter}
use Rattle.adlb_unit.specs.declared.messages.Message.{Message}
use Rattle.adlb_unit.specs.declared.names.Rank.{Rank}
use Rattle.adlb_unit.specs.declared.names.Server.{Server}
use Rattle.core_check_law.proofs.EndsAlong.{exhaust_told, shutdown_told}
use Rattle.core_check_law.proofs.Rings.{every_run_ringed}
use Rattle.core_check_law.proofs.Tokens.{token_count}
use Rattle.core_check_law.specs.Ends.{IsToldOnce, end_letter, is_exhaust, is_exhausted, is_shut, is_shutdown}
use Rattle.core_check_law.specs.Tokens.{token_letter}
use Rattle.core_law.proofs.Debts.{every_run_paid, letters_of_push}
use Rattle.core_law.proofs.EveryRun.{every_run_well, run_config}
use Rattle.core_law.proofs.OnLinks.{zero_from}
use Rattle.core_law.proofs.OwedByRanks.{all_fit, finishes_are, letters_are}
use Rattle.core_law.proofs.OwnStates.{fits_is}
use Rattle.core_law.proofs.Sums.{links_le}
use Rattle.core_law.proofs.UnderWay.{each_weaker, weaker}
use Rattle.core_law.specs.Letters.{call_letter, finish_letter, fits_between, is_finish, is_request, misfit, one, one_letter, remote_letter}
use Rattle.core_law.specs.Measures.{links_weight, measure, weights}
use Rattle.core_law.specs.OnLinks.{OnLinks}
use Rattle.core_law.specs.Pushed.{letters_of}
use Rattle.core_law.specs.Pushes.{push_letter}
use Rattle.core_law.specs.Well.{IsWell}
use Rattle.core_progress_law.proofs.Totals.{Weighing, both_weigh, links_below, links_both, links_total, ones, part_of_total, total}
use Rattle.core_progress_law.specs.Room.{hints_to, is_hint, is_notice, kind_letter, notices_to, rank_letter, server_letter, to_rank}
use Rattle.core_progress_law.specs.Room.{to_server}
use Rattle.core_run.specs.Runs.{Runs}
use Rattle.core_run.specs.World.{World, client_of, link, pool_of, rank_named, server_named, start}
use Rattle.core_run.specs.declared.events.Event.{Event}
use Rattle.rank_client.specs.Rules.{is_idle}
use Rattle.server_law.specs.Acts.{zeroth}
use Rattle.std.proofs.Common.{Bool, List, ap, arith, false, inl, inr, not, refl, sym, true, ℕ, ◌&&◌, ◌+◌, ◌<◌, ◌==◌, ◌||◌, ◌∙◌, ◌≡◌, ◌≢◌}
use Rattle.std.proofs.Common.{◌≤◌, ◌⊎◌}
use Rattle.std.proofs.lemmas.Bool.{and_parts, cases_eq, eq-eqb, eqb-true, false_from_ne_true, ltb-true}
use Rattle.std.specs.Prelude.{is_some, nat_lt}
use Rattle.adlb_unit.specs.declared.actors.Actor.TheVariants as by
use Rattle.adlb_unit.specs.declared.messages.Message.TheVariants as tells

-- a truth value weighs 1 at most
pub at_most_one : (t : Bool) → one t ≤ 1
at_most_one true = omega arith
at_most_one false = omega arith

-- To a rank.

rank_less : (r : Rank) (from to : Actor) (m : Message) → rank_letter r from to m ≤ call_letter r from to m
rank_less r (by.Server from) (by.Rank to) m = omega arith
rank_less r (by.Server from) (by.Server to) m = omega arith
rank_less r (by.Rank from) (by.Rank to) m = omega arith
rank_less r (by.Rank from) (by.Server to) m = omega arith

-- to a rank one letter at most
pub few_to_rank : (config : Config) (events : List Event) (w : World) (r : Rank) → r.0 < config.ranks → Runs (start config) events w
    → to_rank w r ≤ 1
unfolding measure
few_to_rank config events w r low run =
    let well = every_run_well config events w run in
    let long = (well.shape).ranks in
    let same = ap (λ (c : Config). c.ranks) (run_config (start config) w events run) in
    let all = letters_are w r (omega arith) (well.one r) in
    let few = links_le w.config (letters_of (rank_letter r)) (weights (one_letter r)) w.links (rank_less r) in
    let most = at_most_one (not (is_idle (client_of w r).pending)) in
    omega arith

-- To a server.

module _ (config : Config) (t : Server) where
  -- of each rank a letter of its call, or its Finish letter
  abbrev of_ranks : ℕ → Weighing
  of_ranks i = both_weigh (call_letter (rank_named i)) (finish_letter (rank_named i) t)

  abbrev of_pushes : ℕ → Weighing
  of_pushes i = push_letter (server_named i)

  abbrev of_ends : Weighing
  of_ends = both_weigh (end_letter is_exhaust t) (end_letter is_shutdown t)

  abbrev of_all : Weighing
  of_all =
      both_weigh (total config.ranks of_ranks)
      (both_weigh (total config.servers of_pushes)
      (both_weigh token_letter (both_weigh of_ends (both_weigh (kind_letter is_hint t) (kind_letter is_notice t)))))

  its_rank : (r : Rank) (from to : Actor) (m : Message) → r.0 < config.ranks → 1 ≤ call_letter r from to m → 1 ≤ of_all from to m
  its_rank r from to m low some = let part = part_of_total config.ranks r.0 of_ranks from to m low in omega arith

  its_push : (a : Server) (from to : Actor) (m : Message) → a.0 < config.servers → 1 ≤ push_letter a from to m → 1 ≤ of_all from to m
  its_push a from to m low some = let part = part_of_total config.servers a.0 of_pushes from to m low in omega arith

  own : (n : ℕ) → 1 ≤ one (n == n)
  own n = let is : one (n == n) ≡ 1 = rw (eq-eqb n n refl) refl in omega arith

  at_most : (s : Server) (k : Actor) (m : Message) → 1 ≤ of_all k (by.Server s) m → one (s.0 == t.0) ≤ of_all k (by.Server s) m
  at_most s k m some = let most = at_most_one (s.0 == t.0) in omega arith

  of_remote : (k s : Server) (m : Message) (rank : Rank) (more : Bool) → (nat_lt rank.0 config.ranks && more) ≡ true
      → 1 ≤ remote_letter rank m → one (s.0 == t.0) ≤ of_all (by.Server k) (by.Server s) m
  of_remote k s m rank more fits some =
      at_most s (by.Server k) m
      (its_rank rank (by.Server k) (by.Server s) m (ltb-true rank.0 config.ranks (and_parts (nat_lt rank.0 config.ranks) more fits).0) some)

  of_push : (k s a : Server) (m : Message) → a.0 < config.servers → 1 ≤ push_letter a (by.Server k) (by.Server s) m
      → one (s.0 == t.0) ≤ of_all (by.Server k) (by.Server s) m
  of_push k s a m low some = at_most s (by.Server k) m (its_push a (by.Server k) (by.Server s) m low some)

  between : (k s : Server) (m : Message) → k.0 < config.servers → s.0 < config.servers → fits_between config k s m ≡ true
      → one (s.0 == t.0) ≤ of_all (by.Server k) (by.Server s) m
  between k s (tells.Ask rank request types) low there fits = of_remote k s (tells.Ask rank request types) rank _ fits (own rank.0)
  between k s (tells.AskGrant rank request note) low there fits = of_remote k s (tells.AskGrant rank request note) rank _ fits (own rank.0)
  between k s (tells.AskNone rank request) low there fits = of_remote k s (tells.AskNone rank request) rank _ fits (own rank.0)
  between k s (tells.Hint rank request) low there fits = omega arith
  between k s (tells.PushQuery id length) low there fits = of_push k s k (tells.PushQuery id length) low (own k.0)
  between k s (tells.PushUnit unit) low there fits = of_push k s k (tells.PushUnit unit) low (own k.0)
  between k s (tells.PushCancel id) low there fits = of_push k s k (tells.PushCancel id) low (own k.0)
  between k s (tells.PushYes id) low there fits = of_push k s s (tells.PushYes id) there (own s.0)
  between k s (tells.PushNo id) low there fits = of_push k s s (tells.PushNo id) there (own s.0)
  between k s (tells.PushAck id) low there fits = of_push k s s (tells.PushAck id) there (own s.0)
  between k s tells.Notice low there fits = omega arith
  between k s (tells.Token token) low there fits = let most = at_most_one (s.0 == t.0) in omega arith
  between k s (tells.Failed token why) low there fits = let most = at_most_one (s.0 == t.0) in omega arith
  between k s tells.Exhaust low there fits = omega arith
  between k s tells.Shutdown low there fits = omega arith
  between k s _ low there fits = absurd (cc)

  of_rank : (r : Rank) (s : Server) (m : Message) → r.0 < config.ranks → (request finish : Bool) → is_request m ≡ request
      → is_finish m ≡ finish
      → (request || finish) ≡ true → one (s.0 == t.0) ≤ of_all (by.Rank r) (by.Server s) m
  of_rank r s m low true finish asks leaves fits =
      let is : call_letter r (by.Rank r) (by.Server s) m ≡ 1 = rw (asks, eq-eqb r.0 r.0 refl) refl in
      let some = its_rank r (by.Rank r) (by.Server s) m low (omega (arith, is)) in
      let most = at_most_one (s.0 == t.0) in
      omega arith
  of_rank r s m low false true asks leaves fits =
      let is : finish_letter r t (by.Rank r) (by.Server s) m ≡ one (s.0 == t.0) = rw (leaves, eq-eqb r.0 r.0 refl) refl in
      let part = part_of_total config.ranks r.0 of_ranks (by.Rank r) (by.Server s) m low in
      omega arith
  of_rank r s m low false false asks leaves fits = absurd (cc)

  -- each letter to the server that fits is counted
  pub each_counts : (from to : Actor) (m : Message) → is_within config from ≡ true → is_within config to ≡ true
      → misfit config from to m ≡ 0
      → server_letter t from to m ≤ of_all from to m
  each_counts from (by.Rank to) m f g fits = omega arith
  each_counts (by.Rank from) (by.Server to) m f g fits =
      of_rank from to m (ltb-true from.0 config.ranks f) (is_request m) (is_finish m) refl refl (fits_is (is_request m || is_finish m) fits)
  each_counts (by.Server from) (by.Server to) m f g fits =
      let is = fits_is (not (from.0 == to.0) && fits_between config from to m) fits in
      between from to m (ltb-true from.0 config.servers f) (ltb-true to.0 config.servers g)
      (and_parts (not (from.0 == to.0)) (fits_between config from to m) is).1

-- no letter of an end goes to server 0, and no notice elsewhere
away : (config : Config) (t : Server) (from to : Actor) (m : Message) → t.0 ≡ 0 → misfit config from to m ≡ 0
    → (end_letter is_exhaust t from to m ≡ 0) × (end_letter is_shutdown t from to m ≡ 0)
away config t (by.Rank from) to m zeroth fits = (refl, refl)
away config t (by.Server from) (by.Rank to) m zeroth fits = (refl, refl)
away config t (by.Server from) (by.Server to) m zeroth fits = by_message m
    (fits_is (not (from.0 == to.0) && fits_between config from to m) fits)
  where
    not_here : (m : Message) → (not (from.0 == to.0) && (from.0 == 0)) ≡ true → (to.0 == t.0) ≡ false
    not_here m is =
        let parts = and_parts (not (from.0 == to.0)) (from.0 == 0) is in
        let first = eqb-true from.0 0 parts.1 in
        false_from_ne_true (to.0 == t.0) (λ e.
        let last = eqb-true to.0 t.0 e in
        let same : (from.0 == to.0) ≡ true = eq-eqb from.0 to.0 (omega arith) in
        let bad : true ≡ false = sym parts.0 ∙ ap not same in
        absurd (cc))

    by_message : (m : Message) → (not (from.0 == to.0) && fits_between config from to m) ≡ true
        → (end_letter is_exhaust t (by.Server from) (by.Server to) m ≡ 0) × (end_letter is_shutdown t (by.Server from) (by.Server to) m ≡ 0)
    by_message tells.Exhaust is = (ap one (not_here tells.Exhaust is), refl)
    by_message tells.Shutdown is = (refl, ap one (not_here tells.Shutdown is))
    by_message _ is = (refl, refl)

notice_away : (config : Config) (t : Server) (from to : Actor) (m : Message) → t.0 ≢ 0 → misfit config from to m ≡ 0
    → kind_letter is_notice t from to m ≡ 0
notice_away config t from (by.Rank to) m other fits = refl
notice_away config t (by.Rank from) (by.Server to) m other fits = by_message m fits
  where
    by_message : (m : Message) → misfit config (by.Rank from) (by.Server to) m ≡ 0
        → kind_letter is_notice t (by.Rank from) (by.Server to) m ≡ 0
    by_message tells.Notice fits =
        let bad : false ≡ true = fits_is (is_request tells.Notice || is_finish tells.Notice) fits in absurd (cc)
    by_message _ fits = refl
notice_away config t (by.Server from) (by.Server to) m other fits =
    by_message m (fits_is (not (from.0 == to.0) && fits_between config from to m) fits)
  where
    by_message : (m : Message) → (not (from.0 == to.0) && fits_between config from to m) ≡ true
        → kind_letter is_notice t (by.Server from) (by.Server to) m ≡ 0
    by_message tells.Notice is =
        let zeroth = eqb-true to.0 0 (and_parts (not (from.0 == to.0)) (to.0 == 0) is).1 in
        ap one (false_from_ne_true (to.0 == t.0) (λ e. other (sym (eqb-true to.0 t.0 e) ∙ zeroth)))
    by_message _ is = refl

module _ (config : Config) (events : List Event) (w : World) (run : Runs (start config) events w) (t : Server)
    (low_config : t.0 < config.servers) where
  well : IsWell w
  well = every_run_well config events w run

  fit : OnLinks (λ from to (l : Letter). misfit w.config from to l.message ≡ 0) w.config w.links
  fit = all_fit w well.shape well.kind

  same : w.config ≡ config
  same = run_config (start config) w events run

  there : t.0 < w.config.servers
  there = let e = ap (λ (c : Config). c.servers) same in omega arith

  of_rank_few : (i : ℕ) → i < w.config.ranks → links_weight w.config (letters_of (of_ranks w.config t i)) w.links ≤ 1
  unfolding measure
  of_rank_few i low =
      let r = rank_named i in
      let long = (well.shape).ranks in
      let sum = links_both w.config (call_letter r) (finish_letter r t) w.links in
      let calls = letters_are w r (omega arith) (well.one r) in
      let ends = finishes_are w r t (omega arith) (well.finish r t there) in
      by_finished (client_of w r).finished refl (omega arith) (omega arith)
    where
      by_finished : (b : Bool) → (client_of w (rank_named i)).finished ≡ b
          → links_weight w.config (letters_of (call_letter (rank_named i))) w.links ≤ one
          (not (is_idle (client_of w (rank_named i)).pending))
          → links_weight w.config (letters_of (finish_letter (rank_named i) t)) w.links ≤ one (client_of w (rank_named i)).finished
          → links_weight w.config (letters_of (of_ranks w.config t i)) w.links ≤ 1
      by_finished true is calls ends =
          let rests = (well.own.ranks (rank_named i) low).rests is in
          let none : one (not (is_idle (client_of w (rank_named i)).pending)) ≡ 0 = ap (λ p. one (not (is_idle p))) rests in
          let sum = links_both w.config (call_letter (rank_named i)) (finish_letter (rank_named i) t) w.links in
          let most = at_most_one (client_of w (rank_named i)).finished in
          omega arith
      by_finished false is calls ends =
          let none : one (client_of w (rank_named i)).finished ≡ 0 = ap one is in
          let sum = links_both w.config (call_letter (rank_named i)) (finish_letter (rank_named i) t) w.links in
          let most = at_most_one (not (is_idle (client_of w (rank_named i)).pending)) in
          omega arith

  of_push_few : (i : ℕ) → i < w.config.servers → links_weight w.config (letters_of (of_pushes w.config t i)) w.links ≤ 1
  of_push_few i low =
      let is = letters_of_push w (server_named i) well (every_run_paid config events w run) low in
      let most = at_most_one (is_some (pool_of w (server_named i)).kept.pushing.push) in
      omega arith

  token_few : links_weight w.config (letters_of token_letter) w.links ≤ 1
  token_few =
      let count = token_count w well.shape (let few = w.config.servers_within.0 in omega arith)
      (every_run_ringed config events w run).tokens in
      let most = at_most_one (pool_of w zeroth).kept.ring.runs in
      omega arith

  ends_few : links_weight w.config (letters_of (of_ends w.config t)) w.links ≤ 2
  ends_few = by_place (cases_eq t.0 0)
    where
      by_place : (t.0 ≡ 0) ⊎ (t.0 ≢ 0) → links_weight w.config (letters_of (of_ends w.config t)) w.links ≤ 2
      by_place (inl zeroth_is) =
          let sum = links_both w.config (end_letter is_exhaust t) (end_letter is_shutdown t) w.links in
          let a = zero_from (letters_of (end_letter is_exhaust t)) w.config w.links (well.shape).square
          (weaker (λ from to (l : Letter). misfit w.config from to l.message ≡ 0)
          (λ from to (l : Letter). end_letter is_exhaust t from to l.message ≡ 0)
          w.config w.links (λ from to l fits. (away w.config t from to l.message zeroth_is fits).0) fit) in
          let b = zero_from (letters_of (end_letter is_shutdown t)) w.config w.links (well.shape).square
          (weaker (λ from to (l : Letter). misfit w.config from to l.message ≡ 0)
          (λ from to (l : Letter). end_letter is_shutdown t from to l.message ≡ 0)
          w.config w.links (λ from to l fits. (away w.config t from to l.message zeroth_is fits).1) fit) in
          omega arith
      by_place (inr other) =
          let sum = links_both w.config (end_letter is_exhaust t) (end_letter is_shutdown t) w.links in
          let a : IsToldOnce is_exhaust is_exhausted w t = exhaust_told config events w t other low_config run in
          let b : IsToldOnce is_shutdown is_shut w t = shutdown_told config events w t other low_config run in
          let p = at_most_one (pool_of w zeroth).kept.exhausted in
          let q = at_most_one (pool_of w zeroth).kept.shut in
          omega arith

  -- to any server
  pub few_to_server : to_server w t ≤ config.ranks + config.servers + 3 + hints_to w t + notices_to w t
  few_to_server =
      let less = links_below w.config (server_letter t) (of_all w.config t) w.links (well.shape).square
      (record {
        each = λ from to f g. each_weaker (λ (l : Letter). misfit w.config from to l.message ≡ 0)
            (λ (l : Letter). server_letter t from to l.message ≤ of_all w.config t from to l.message)
            (λ l fits. each_counts w.config t from to l.message f g fits)
            (link w.links (place_of w.config from) (place_of w.config to)) (fit.each from to f g);
      }) in
      let r = total w.config.ranks (of_ranks w.config t) in
      let p = total w.config.servers (of_pushes w.config t) in
      let kinds = both_weigh (kind_letter is_hint t) (kind_letter is_notice t) in
      let a = links_both w.config r (both_weigh p (both_weigh token_letter (both_weigh (of_ends w.config t) kinds))) w.links in
      let b = links_both w.config p (both_weigh token_letter (both_weigh (of_ends w.config t) kinds)) w.links in
      let c = links_both w.config token_letter (both_weigh (of_ends w.config t) kinds) w.links in
      let d = links_both w.config (of_ends w.config t) kinds w.links in
      let e = links_both w.config (kind_letter is_hint t) (kind_letter is_notice t) w.links in
      let ranks = links_total w.config w.config.ranks (of_ranks w.config t) (λ i. 1) w.links of_rank_few in
      let each_rank = ones w.config.ranks in
      let pushes = links_total w.config w.config.servers (of_pushes w.config t) (λ i. 1) w.links of_push_few in
      let each_push = ones w.config.servers in
      let token = token_few in
      let ends = ends_few in
      let config_ranks = ap (λ (c : Config). c.ranks) same in
      let config_servers = ap (λ (c : Config). c.servers) same in
      omega arith

  -- notices go to server 0
  pub no_notice : t.0 ≢ 0 → notices_to w t ≡ 0
  no_notice other =
      zero_from (letters_of (kind_letter is_notice t)) w.config w.links (well.shape).square
      (weaker (λ from to (l : Letter). misfit w.config from to l.message ≡ 0)
      (λ from to (l : Letter). kind_letter is_notice t from to l.message ≡ 0)
      w.config w.links (λ from to l fits. notice_away w.config t from to l.message other fits) fit)
