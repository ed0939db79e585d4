-- At the start each actor is there, and none has failed.
use Rattle.std.proofs.Common.{◌≡◌, ◌+◌, ℕ, List, [], ◌∷◌, ◌++◌, map, None, refl, zero-add}
use Rattle.std.specs.List.{range_with_len}
use Rattle.std.proofs.lemmas.List.Elements.{All-map}
use Rattle.std.proofs.lemmas.List.FromFn.{length-map-range_with_len, map-range_with_len_more}
use Rattle.adlb_unit.specs.declared.configs.Config.{Config}
use Rattle.rank_client.specs.State.{ClientModel, start as new_client}
use Rattle.server_law.specs.State.{ServerModel, start as new_pool}
use Rattle.core_run.specs.World.{rank_named, server_named, start}
use Rattle.core_world.specs.Stage.{IsFull, IsWhole}

-- at the start each rank and server is there
pub start_full : (config : Config) → IsFull (start config)
start_full config = record {
  ranks = length-map-range_with_len (λ n. new_client config (rank_named n)) 0 config.ranks;
  servers = length-map-range_with_len (λ n. new_pool config (server_named n)) 0 config.servers;
}

-- at the start no actor has failed
pub start_whole : (config : Config) → IsWhole (start config)
start_whole config = record {
  ranks = All-map (λ (c : ClientModel). c.trouble ≡ None) (λ n. new_client config (rank_named n)) (range_with_len 0 config.ranks)
      (λ k d within. refl);
  servers = All-map (λ (s : ServerModel). s.trouble ≡ None) (λ n. new_pool config (server_named n)) (range_with_len 0 config.servers)
      (λ k d within. refl);
}

-- one actor more
pub one_more_client : (config : Config) (before now : List ClientModel) (client : ClientModel) (n : ℕ)
    → before ≡ map (λ k. new_client config (rank_named k)) (range_with_len 0 n)
    → client ≡ new_client config (rank_named n) → now ≡ before ++ client ∷ []
    → now ≡ map (λ k. new_client config (rank_named k)) (range_with_len 0 (n + 1))
one_more_client config before now client n was is pushed =
    rw (map-range_with_len_more (λ k. new_client config (rank_named k)) 0 n n (zero-add n), pushed, was, is) refl

-- servers are made one after the other, in order
pub one_more_server : (config : Config) (before now : List ServerModel) (server : ServerModel) (n : ℕ)
    → before ≡ map (λ k. new_pool config (server_named k)) (range_with_len 0 n)
    → server ≡ new_pool config (server_named n) → now ≡ before ++ server ∷ []
    → now ≡ map (λ k. new_pool config (server_named k)) (range_with_len 0 (n + 1))
one_more_server config before now server n was is pushed =
    rw (map-range_with_len_more (λ k. new_pool config (server_named k)) 0 n n (zero-add n), pushed, was, is) refl
