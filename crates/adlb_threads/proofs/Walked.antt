-- The desks of all actors of a run, of which each has its own run so far: one journal of each, and the states to which they lead.
use Rattle.std.proofs.Common.{◌≡◌, ◌<◌, ◌+◌, ◌⊎◌, inl, inr, ℕ, zero, suc, List, [], ◌∷◌, ◌++◌, length, slice_get}
use Rattle.std.proofs.Common.{Option, None, Some, refl, ap, sym, ◌∙◌, subst, arith, length-append}
use Rattle.std.proofs.lemmas.List.Elements.{All-from_recursion}
use Rattle.std.proofs.lemmas.Option.{slice_get_within}
use Rattle.adlb_unit.specs.Limits.{stamp_limit}
use Rattle.adlb_unit.specs.declared.actors.Actor.{Actor}
use Rattle.adlb_unit.specs.declared.actors.Actor.TheVariants as by
use Rattle.adlb_unit.specs.declared.configs.Config.{Config}
use Rattle.adlb_unit.specs.declared.names.Rank.{Rank}
use Rattle.adlb_unit.specs.declared.names.Server.{Server}
use Rattle.actor_desk.specs.Desks.{Begins, DeskModel}
use Rattle.thread_actors.specs.World.{actors, rank_named, server_named}
use Rattle.merge_history.specs.Events.{Event}
use Rattle.merge_history.specs.Own.{ClientWalks, Finals, IsOwnRun, IsTimed, PoolWalks}
use Rattle.rank_client.specs.State.{ClientModel, start as new_client}
use Rattle.rank_mail.proofs.Lists.{get_snoc}
use Rattle.server_law.specs.State.{ServerModel, start as new_pool}
use Rattle.adlb_threads.proofs.Journals.{actor_at, journal_is, of_both}
use Rattle.adlb_threads.proofs.OwnRuns.{client_timed, pool_timed}
use Rattle.adlb_threads.specs.inside.{AreClear, AreOwnRuns, IsClear, journals_at}

pub same_some : {X : Type 0} (x y : X) → Some x ≡ Some y → x ≡ y
same_some x y is = cc

pub in_first : {T : Type 0} (xs ys : List T) (k : ℕ) (t : T) → slice_get xs k ≡ Some t → slice_get (xs ++ ys) k ≡ Some t
in_first [] ys zero t at = absurd cc
in_first [] ys (suc k) t at = absurd cc
in_first (x ∷ xs) ys zero t at = at
in_first (x ∷ xs) ys (suc k) t at = in_first xs ys k t at

in_second : {T : Type 0} (xs ys : List T) (k place : ℕ) (t : T) → place ≡ length xs + k → slice_get ys k ≡ Some t
    → slice_get (xs ++ ys) place ≡ Some t
in_second [] ys k place t is at = ap (slice_get ys) (omega (arith, is)) ∙ at
in_second (x ∷ xs) ys k zero t is at = absurd (omega (arith, is))
in_second (x ∷ xs) ys k (suc place) t is at = in_second xs ys k place t (omega (arith, is)) at

-- the journal of a rank's desk is its own run so far, and what went through its mailboxes begins with it
pub record RankDesk (config : Config) (rank : Rank) (d : DeskModel) : Type 0 where
  pub config_is : d.config ≡ config
  pub number : d.number ≡ rank.0
  pub last : ClientModel
  pub walks : ClientWalks config (new_client config rank) d.events last
  pub within : last.clock < stamp_limit
  pub begins : Begins d

-- and that of a server's
pub record ServerDesk (config : Config) (server : Server) (d : DeskModel) : Type 0 where
  pub config_is : d.config ≡ config
  pub number : d.number ≡ config.ranks + server.0
  pub last : ServerModel
  pub walks : PoolWalks config (new_pool config server) d.events last
  pub within : last.clock < stamp_limit
  pub begins : Begins d

pub record AreRankDesks (config : Config) (mine : List DeskModel) : Type 0 where
  pub all : length mine ≡ config.ranks
  pub each : (k : ℕ) (d : DeskModel) → slice_get mine k ≡ Some d → RankDesk config (rank_named k) d

pub record AreServerDesks (config : Config) (theirs : List DeskModel) : Type 0 where
  pub all : length theirs ≡ config.servers
  pub each : (k : ℕ) (d : DeskModel) → slice_get theirs k ≡ Some d → ServerDesk config (server_named k) d

module _ (config : Config) (mine theirs : List DeskModel) (desk : DeskModel) (ranks : AreRankDesks config mine)
    (servers : AreServerDesks config theirs) (number : desk.number ≡ config.ranks + config.servers) where
  abbrev pub desks : List DeskModel
  desks = (mine ++ theirs) ++ desk ∷ []

  -- Where each desk is.

  pub rank_at : (k : ℕ) (d : DeskModel) → slice_get mine k ≡ Some d → slice_get desks k ≡ Some d
  rank_at k d at = in_first (mine ++ theirs) (desk ∷ []) k d (in_first mine theirs k d at)

  pub server_at : (k : ℕ) (d : DeskModel) → slice_get theirs k ≡ Some d → slice_get desks (config.ranks + k) ≡ Some d
  server_at k d at =
      in_first (mine ++ theirs) (desk ∷ []) (config.ranks + k) d
      (in_second mine theirs k (config.ranks + k) d (omega (arith, ranks.all)) at)

  both_long : length (mine ++ theirs) ≡ actors config
  both_long = length-append mine theirs ∙ (λ i. ranks.all i + servers.all i)

  pub caller_at : slice_get desks (actors config) ≡ Some desk
  caller_at = in_second (mine ++ theirs) (desk ∷ []) 0 (actors config) desk (omega (arith, both_long)) refl

  -- Whose desk is at a place.
  data Whose (k : ℕ) (d : DeskModel) : Type 0 where
    Of_rank : (at : slice_get mine k ≡ Some d) → Whose k d
    Of_server : (j : ℕ) (place : k ≡ config.ranks + j) (at : slice_get theirs j ≡ Some d) → Whose k d
    Of_caller : (place : k ≡ actors config) (is : d ≡ desk) → Whose k d

  whose : (k : ℕ) (d : DeskModel) → slice_get desks k ≡ Some d → Whose k d
  whose k d at = elim (get_snoc (mine ++ theirs) desk k d at) [
    | inl before ↦ of_actor (of_both mine theirs k d before)
    | inr last ↦ Of_caller (last.0 ∙ both_long) (sym last.1)
  ]
    where
      of_actor : (slice_get mine k ≡ Some d) ⊎ ((j : ℕ) × (k ≡ length mine + j) × (slice_get theirs j ≡ Some d)) → Whose k d
      of_actor (inl left) = Of_rank left
      of_actor (inr right) = Of_server right.0 (right.1 ∙ ap (λ n. n + right.0) ranks.all) right.2

  numbers : (k : ℕ) (d : DeskModel) → Whose k d → d.number ≡ k
  numbers k d (Of_rank at) = (ranks.each k d at).number
  numbers k d (Of_server j place at) = (servers.each j d at).number ∙ sym place
  numbers k d (Of_caller place is) = ap (λ (x : DeskModel). x.number) is ∙ number ∙ sym place

  clear_at : (k : ℕ) (d : DeskModel) → Whose k d → k < actors config → IsClear config d
  clear_at k d (Of_rank at) below =
      let own = ranks.each k d at in record {
        config_is = own.config_is;
        begins = own.begins;
        rises = (client_timed config (new_client config (rank_named k)) d.events own.last own.walks).rises;
      }
  clear_at k d (Of_server j place at) below =
      let own = servers.each j d at in record {
        config_is = own.config_is;
        begins = own.begins;
        rises = (pool_timed config (new_pool config (server_named j)) d.events own.last own.walks).rises;
      }
  clear_at k d (Of_caller place is) below = absurd (omega (arith, place, below))

  pub are_clear : AreClear config desks
  are_clear = record {
    all = length-append (mine ++ theirs) (desk ∷ []) ∙ ap (λ n. n + 1) both_long;
    numbers = λ k d at. numbers k d (whose k d at);
    each = λ k d at. clear_at k d (whose k d at);
  }

  -- The last states, whatever the actors met.

  pub last_client : (k : ℕ) (o : Option DeskModel) → slice_get mine k ≡ o
      → (last : ClientModel) × ((d : DeskModel) → o ≡ Some d → ClientWalks config (new_client config (rank_named k)) d.events last)
  last_client k None is = (new_client config (rank_named k), λ d other. absurd cc)
  last_client k (Some e) is =
      let own = ranks.each k e is in (
        own.last,
        λ d same. subst (λ (x : DeskModel). ClientWalks config (new_client config (rank_named k)) x.events own.last)
            (same_some e d same) own.walks,
      )

  pub last_pool : (k : ℕ) (o : Option DeskModel) → slice_get theirs k ≡ o
      → (last : ServerModel) × ((d : DeskModel) → o ≡ Some d → PoolWalks config (new_pool config (server_named k)) d.events last)
  last_pool k None is = (new_pool config (server_named k), λ d other. absurd cc)
  last_pool k (Some e) is =
      let own = servers.each k e is in (
        own.last,
        λ d same. subst (λ (x : DeskModel). PoolWalks config (new_pool config (server_named k)) x.events own.last)
            (same_some e d same) own.walks,
      )

  abbrev pub finals : Finals
  finals = record {
    client = λ rank. (last_client rank.0 (slice_get mine rank.0) refl).0;
    pool = λ server. (last_pool server.0 (slice_get theirs server.0) refl).0;
  }

  pub rank_walks : (k : ℕ) (d : DeskModel) → slice_get mine k ≡ Some d
      → ClientWalks config (new_client config (rank_named k)) d.events (finals.client (rank_named k))
  rank_walks k d at = (last_client k (slice_get mine k) refl).1 d at

  pub server_walks : (k : ℕ) (d : DeskModel) → slice_get theirs k ≡ Some d
      → PoolWalks config (new_pool config (server_named k)) d.events (finals.pool (server_named k))
  server_walks k d at = (last_pool k (slice_get theirs k) refl).1 d at

  rank_own : (k : ℕ) (d : DeskModel) → slice_get mine k ≡ Some d
      → IsOwnRun config finals (record { actor = by.Rank (rank_named k); events = d.events })
  rank_own k d at = record {
    walks = rank_walks k d at;
    timed = All-from_recursion IsTimed d.events
        (client_timed config (new_client config (rank_named k)) d.events (finals.client (rank_named k)) (rank_walks k d at)).timed;
  }

  server_own : (k : ℕ) (d : DeskModel) → slice_get theirs k ≡ Some d
      → IsOwnRun config finals (record { actor = by.Server (server_named k); events = d.events })
  server_own k d at = record {
    walks = server_walks k d at;
    timed = All-from_recursion IsTimed d.events
        (pool_timed config (new_pool config (server_named k)) d.events (finals.pool (server_named k)) (server_walks k d at)).timed;
  }

  pub own_runs : AreOwnRuns config finals (journals_at config desks)
  own_runs k journal at =
      let j = journal_is config desks k journal at in
      by_actor (actor_at config k journal.actor j.1) (whose k j.0 j.2) j.3
    where
      same : (a : Actor) (events : List Event) → journal.actor ≡ a → journal.events ≡ events
          → IsOwnRun config finals (record { actor = a; events = events }) → IsOwnRun config finals journal
      same a events actor is own = subst (IsOwnRun config finals) (λ i. record { actor = sym actor i; events = sym is i }) own

      by_actor : ((k < config.ranks) × (journal.actor ≡ by.Rank (rank_named k)))
          ⊎ ((j : ℕ) × (k ≡ config.ranks + j) × (j < config.servers) × (journal.actor ≡ by.Server (server_named j)))
          → {d : DeskModel} → Whose k d → journal.events ≡ d.events → IsOwnRun config finals journal
      by_actor (inl rank) {d} (Of_rank here) events = same (by.Rank (rank_named k)) d.events rank.1 events (rank_own k d here)
      by_actor (inl rank) (Of_server j place here) events = absurd (omega (arith, rank.0, place))
      by_actor (inl rank) (Of_caller place is) events = absurd (omega (arith, rank.0, place))
      by_actor (inr server) {d} (Of_rank here) events =
          absurd (let low = slice_get_within mine k d here in omega (arith, low, ranks.all, server.1))
      by_actor (inr server) {d} (Of_server j place here) events =
          let one : j ≡ server.0 = omega (arith, place, server.1) in
          let own = subst (λ n. IsOwnRun config finals (record { actor = by.Server (server_named n); events = d.events })) one
          (server_own j d here) in
          same (by.Server (server_named server.0)) d.events server.3 events own
      by_actor (inr server) (Of_caller place is) events = absurd (omega (arith, place, server.1, server.2))
