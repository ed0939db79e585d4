-- Journals that compose, merged, are one run of all actors.
use Rattle.std.proofs.Common.{◌≡◌, ◌<◌, ◌≤◌, ◌+◌, ◌-◌, inl, inr, ℕ, zero, suc, true, ltb, ◌&&◌, not, List, [], ◌∷◌, ◌++◌, length, map}
use Rattle.std.proofs.Common.{get_or, replicate, slice_get, Some, option_to_list}
use Rattle.std.proofs.Common.{refl, sym, ap, ap₂, ◌∙◌, subst, arith, lt-ltb, le-ltb, length-append}
use Rattle.std.specs.List.{AllByRecursion as Each, range_with_len}
use Rattle.std.proofs.lemmas.Bool.{cases_lt}
use Rattle.std.proofs.lemmas.List.{length-map, length-replicate, get_or-replicate}
use Rattle.std.proofs.lemmas.List.Elements.{recursion_from_All}
use Rattle.std.proofs.lemmas.Option.{get_or_from_slice_get, slice_get-map, slice_get_within}
use Rattle.std.specs.Option.{option_map}
use Rattle.adlb_unit.specs.declared.actors.Actor.{Actor}
use Rattle.adlb_unit.specs.declared.actors.Actor.TheVariants as by
use Rattle.adlb_unit.specs.declared.configs.Config.{Config}
use Rattle.adlb_unit.specs.declared.letters.Letter.{Letter}
use Rattle.rank_client.specs.State.{ClientModel, start as new_client}
use Rattle.rank_client.specs.Step.{Made, hear}
use Rattle.adlb_unit.specs.Links.{is_within, place_of}
use Rattle.server_law.specs.State.{ServerModel, start as new_pool}
use Rattle.server_law.specs.Carried.{Served}
use Rattle.server_law.specs.Step.{serve}
use Rattle.core_run.specs.World.{World, actors, client_of, has_ended, link, pool_of, rank_named, server_named, start}
use Rattle.journal_law.specs.Orders.{Rises}
use Rattle.journal_law.specs.Journals.{IsOwnRun as IsOwnRunOf, Compose as ComposeOf, Walks as Walks_of}
use Rattle.journal_law.specs.Lists.{GotOfActors, lists}
use Rattle.journal_law.specs.Runs.{HasRun, IsStart}
use Rattle.journal_law.proofs.Compose as Law
use Rattle.journal_law.proofs.Lists.{lists_go_on}
use Rattle.merge_history.specs.declared.causes.Cause.{Cause}
use Rattle.merge_history.specs.declared.causes.Cause.TheVariants as causes
use Rattle.merge_history.specs.Events.{Event, OfActor}
use Rattle.merge_history.specs.Merging.{CanMerge, IsMergeOf, actors_of, journal_at, numbered, stamp_of}
use Rattle.merge_history.specs.Own.{Compose, Finals, IsCoreRun, IsOwnRun, IsTimed, Walks, client_step, pool_step}
use Rattle.merge_history.proofs.Bridge.{HasPassed, IsSized, as_lists, cond_some, both_true, first_of, place_below, rank_state, run_is}
use Rattle.merge_history.proofs.Bridge.{server_state, states}
use Rattle.merge_history.proofs.Machine.{Being, all_stamped, at_place, begins, cause_of, client_walks, got_same, machine, pool_walks}
use Rattle.merge_history.proofs.Machine.{sent_same}
use Rattle.merge_history.proofs.Places.{actors_long, place_is}

-- What is got is of one of the actors.

client_got : (config : Config) (s : ClientModel) (cause : Cause) (x : Made) → client_step config s cause ≡ Some x
    → Each (λ y. y.0 < actors config) (option_to_list (cause_of config cause))
client_got config s (causes.Called call) x step = tt
client_got config s (causes.Got (by.Rank from) letter) x step = absurd cc
client_got config s (causes.Got (by.Server from) letter) x step =
    (place_below config (by.Server from) (cond_some (ltb from.0 config.servers) (hear s from letter) x step).0, tt)

pool_got : (config : Config) (s : ServerModel) (cause : Cause) (x : Served) → pool_step config s cause ≡ Some x
    → Each (λ y. y.0 < actors config) (option_to_list (cause_of config cause))
pool_got config s (causes.Called call) x step = absurd cc
pool_got config s (causes.Got of letter) x step =
    let may = cond_some (is_within config of && not (has_ended s)) (serve s of letter) x step in
    (place_below config of (both_true (is_within config of) (not (has_ended s)) may.0).0, tt)

got_among : (config : Config) → GotOfActors (machine config) (first_of config)
got_among config a (inl s) e t st = client_got config s e.cause st.x st.step
got_among config a (inr s) e t st = pool_got config s e.cause st.x st.step

-- The start.

range_at : {T : Type 0} (f : ℕ → T) (from n k : ℕ) (d : T) → k < n → get_or (map f (range_with_len from n)) k d ≡ f (from + k)
range_at f from zero k d h = absurd (omega (arith, h))
range_at f from (suc n) zero d h = ap f (omega arith)
range_at f from (suc n) (suc k) d h = range_at f (from + 1) n k d (omega (arith, h)) ∙ ap f (omega arith)

long_range : {T : Type 0} (f : ℕ → T) (from n : ℕ) → length (map f (range_with_len from n)) ≡ n
long_range f from zero = refl
long_range f from (suc n) = ap suc (long_range f (from + 1) n)

at_start : (config : Config) → IsSized (start config)
at_start config = record {
  ranks = long_range (λ n. new_client config (rank_named n)) 0 config.ranks;
  servers = long_range (λ n. new_pool config (server_named n)) 0 config.servers;
}

starts : (config : Config) → IsStart (machine config) (lists (machine config) (first_of config)) (as_lists (start config))
starts config =
    let w : World = start config in let n : ℕ = actors config in
    let none : List Letter = [] in let row : List (List Letter) = replicate n none in
    let clients : length (map {A = ClientModel} {B = Being} inl w.ranks) ≡ config.ranks =
    length-map w.ranks inl ∙ (at_start config).ranks in
    let pools : length (map {A = ServerModel} {B = Being} inr w.servers) ≡ config.servers = length-map w.servers inr
    ∙ (at_start config).servers in
    record {
      good = record {
        states = length-append (map {A = ClientModel} {B = Being} inl w.ranks) (map inr w.servers) ∙ ap₂ (λ x y. x + y) clients pools;
        links = length-replicate n row;
        rows = λ a below. ap length (get_or-replicate n a row [] below) ∙ length-replicate n none;
      };
      state = λ a below. elim (cases_lt a config.ranks) [
        | inl low ↦
            rw (lt-ltb a config.ranks low) (rank_state w (at_start config) (rank_named a) low
            ∙ ap inl (range_at (λ k. new_client config (rank_named k)) 0 config.ranks a (new_client config (rank_named a)) low
            ∙ ap (λ k. new_client config (rank_named k)) (zero_more a)))
        | inr high ↦
            let j : ℕ = a - config.ranks in
            let in_servers : j < config.servers = omega (arith, below, high) in
            let there : config.ranks + j ≡ a = omega (arith, high) in
            rw (le-ltb a config.ranks high)
            (ap (λ k. get_or (states w) k (first_of config)) (sym there) ∙ server_state w (at_start config) (server_named j) in_servers
            ∙ ap inr (range_at (λ k. new_pool config (server_named k)) 0 config.servers j (new_pool config (server_named j)) in_servers
            ∙ ap (λ k. new_pool config (server_named k)) (zero_more j)))
      ];
      link = λ from to f t. ap (λ r. get_or r to []) (get_or-replicate n from row [] f) ∙ get_or-replicate n to none [] t;
    }
  where
    zero_more : (k : ℕ) → 0 + k ≡ k
    zero_more k = omega arith

inl_same : (s t : ClientModel) → let x : Being = inl s in let y : Being = inl t in x ≡ y → s ≡ t
inl_same s t e = cc

inr_same : (s t : ServerModel) → let x : Being = inr s in let y : Being = inr t in x ≡ y → s ≡ t
inr_same s t e = cc

-- The journals.

module _ (config : Config) (finals : Finals) (journals : List OfActor) (can : CanMerge config journals)
    (compose : Compose config finals journals) where
  abbrev final : ℕ → Being
  final a = at_place config (λ n. inl (finals.client (rank_named n))) (λ n. inr (finals.pool (server_named n))) a

  long : length journals ≡ actors config
  long = sym (length-map journals (λ j. j.actor)) ∙ ap length can.actors ∙ actors_long config

  walks_at : (actor : Actor) (events : List Event) → is_within config actor ≡ true → Walks config finals actor events
      → Walks_of (machine config) (place_of config actor) (begins config (place_of config actor)) events (final (place_of config actor))
  walks_at (by.Rank rank) events within walks =
      rw within (client_walks config rank.0 (new_client config rank) events (finals.client rank) walks)
  walks_at (by.Server server) events within walks =
      let a : ℕ = config.ranks + server.0 in
      let above : config.ranks ≤ a = omega arith in
      let back : a - config.ranks ≡ server.0 = omega arith in
      rw (le-ltb a config.ranks above, back) (pool_walks config a (new_pool config server) events (finals.pool server) walks)

  own_at : (a : ℕ) → a < actors config → IsOwnRunOf (machine config) a (journal_at journals a) (final a)
  own_at a below =
      let j = there journals a (omega (arith, long, below)) in
      let own : IsOwnRun config finals j.0 = compose.own a j.0 j.1 in
      let actor : slice_get (actors_of config) a ≡ Some j.0.actor =
      ap (λ l. slice_get l a) (sym can.actors) ∙ slice_get-map (λ x. x.actor) journals a ∙ ap (option_map (λ (x : OfActor). x.actor)) j.1 in
      let place = place_is config a j.0.actor actor in
      let here : slice_get (map (λ x. x.events) journals) a ≡ Some j.0.events =
      slice_get-map (λ x. x.events) journals a ∙ ap (option_map (λ (x : OfActor). x.events)) j.1 in
      let events : journal_at journals a ≡ j.0.events = get_or_from_slice_get (map (λ x. x.events) journals) a j.0.events [] here in
      let at : get_or journals a j.0 ≡ j.0 = get_or_from_slice_get journals a j.0 j.0 j.1 in
      let rises : Rises stamp_of j.0.events =
      subst (λ (x : OfActor). Rises stamp_of x.events) at (can.rises a j.0 (slice_get_within journals a j.0 j.1)) in
      let walks : Walks_of (machine config) a (begins config a) j.0.events (final a) =
      subst (λ k. Walks_of (machine config) k (begins config k) j.0.events (final k)) place.0
      (walks_at j.0.actor j.0.events place.1 own.walks) in
      rw events (record {
        walks = walks;
        rises = rises;
        stamped = all_stamped config j.0.events (recursion_from_All IsTimed j.0.events own.timed);
      })
    where
      there : (ts : List OfActor) (k : ℕ) → k < length ts → (t : OfActor) × (slice_get ts k ≡ Some t)
      there [] k h = absurd (omega (arith, h))
      there (x ∷ xs) zero h = (x, refl)
      there (x ∷ xs) (suc k) h = there xs k (omega (arith, h))

  composes : ComposeOf (machine config) (journal_at journals) final
  composes = record {
    own = own_at;
    links = λ from to f t.
        let p = compose.links from to f t in (
          p.0,
          ap (λ l. l ++ p.0) (got_same config from (journal_at journals to)) ∙ p.1 ∙ sym (sent_same config to (journal_at journals from)),
        );
  }

  pub one_run : (events : List (Actor × Event)) → IsMergeOf config journals events → IsCoreRun config finals journals events
  one_run events merge =
      let first : Being = first_of config in
      let run : HasRun (machine config) (lists (machine config) first) (as_lists (start config)) (numbered config events)
      (journal_at journals) final =
      Law.events_are_a_run (machine config) (lists (machine config) first) (lists_go_on (machine config) first (got_among config))
      (journal_at journals)
      final (numbered config events) (as_lists (start config)) composes merge.merged (starts config) in
      let passed : HasPassed (start config) events run.last =
      run_is (start config) events run.last (at_start config)
      (recursion_from_All (λ x. is_within config x.0 ≡ true) events merge.within) run.runs in
      let last : World = passed.last in
      let same : (k : ℕ) → get_or (states last) k (first_of last.config) ≡ get_or (run.last).states k first =
      λ k i. get_or ((passed.is i).states) k (first_of (passed.config i)) in
      record {
        last = last;
        runs = passed.runs;
        ledger = passed.ledger;
        ranks = λ rank below.
            let here : inl (client_of last rank) ≡ final rank.0 =
            sym (rank_state last passed.sized rank (rw passed.config below)) ∙ same rank.0 ∙ run.state rank.0 (omega (arith, below)) in
            let is : final rank.0 ≡ inl (finals.client rank) = rw (lt-ltb rank.0 config.ranks below) refl in
            inl_same (client_of last rank) (finals.client rank) (here ∙ is);
        servers = λ server below.
            let a : ℕ = config.ranks + server.0 in
            let above : config.ranks ≤ a = omega arith in
            let back : a - config.ranks ≡ server.0 = omega arith in
            let at : get_or (states last) a (first_of last.config) ≡ inr (pool_of last server) =
            ap (λ (c : Config). get_or (states last) (c.ranks + server.0) (first_of last.config)) (sym passed.config)
            ∙ server_state last passed.sized server (rw passed.config below) in
            let here : inr (pool_of last server) ≡ final a = sym at ∙ same a ∙ run.state a (omega (arith, below)) in
            let is : final a ≡ inr (finals.pool server) = rw (le-ltb a config.ranks above, back) refl in
            inr_same (pool_of last server) (finals.pool server) (here ∙ is);
        links = λ from to f t.
            sym (sent_same config to (journal_at journals from)) ∙ run.link from to f t
            ∙ (λ i. got_same config from (journal_at journals to) i ++ link ((sym passed.is i).links) from to);
      }
