-- As long as no step fails, no actor has failed.
use Rattle.std.proofs.Common.{◌≡◌, ℕ, zero, suc, List, [], ◌∷◌, get_or, None, refl, sym, ap, ◌∙◌, subst, All}
use Rattle.std.proofs.lemmas.List.Elements.{All-head, All-same, All-set, All-tail}
use Rattle.adlb_unit.specs.declared.names.Rank.{Rank}
use Rattle.adlb_unit.specs.declared.names.Server.{Server}
use Rattle.rank_client.specs.State.{ClientModel, start as new_client}
use Rattle.server_law.specs.State.{ServerModel, start as new_pool}
use Rattle.core_run.specs.World.{Links, World, client_of, pool_of}
use Rattle.core_world.specs.Stage.{IsWhole, with_client, with_server}

all_at : {X : Type 0} (P : X → Type 0) (xs : List X) (i : ℕ) (d : X) → All P xs → P d → P (get_or xs i d)
all_at P [] i d all default = default
all_at P (x ∷ xs) zero d all default = All-head P x xs all
all_at P (x ∷ xs) (suc i) d all default = all_at P xs i d (All-tail P x xs all) default

-- in a whole world no client has failed
pub whole_rank : (w : World) (rank : Rank) → IsWhole w → (client_of w rank).trouble ≡ None
whole_rank w rank whole = let P : ClientModel → Type 0 = λ c. c.trouble ≡ None in
    all_at P w.ranks rank.0 (new_client w.config rank) whole.ranks refl

-- in a whole world no server has failed
pub whole_pool : (w : World) (server : Server) → IsWhole w → (pool_of w server).trouble ≡ None
whole_pool w server whole = let P : ServerModel → Type 0 = λ s. s.trouble ≡ None in
    all_at P w.servers server.0 (new_pool w.config server) whole.servers refl

-- a whole world is whole with other links
pub whole_taken : (w now : World) (links : Links) → IsWhole w → now ≡ record w { links = links } → IsWhole now
whole_taken w now links whole is =
    let there : IsWhole (record w { links = links }) = record { ranks = whole.ranks; servers = whole.servers } in
    subst IsWhole (sym is) there

-- a client or a server took a step, and its letters were sent and its entries entered
pub whole_client : (w mid now : World) (rank : Rank) (s : ClientModel) → IsWhole w → s.trouble ≡ None → mid ≡ with_client w rank s
    → now.ranks ≡ mid.ranks → now.servers ≡ mid.servers → IsWhole now
whole_client w mid now rank s whole fine is ranks servers =
    let P : ClientModel → Type 0 = λ c. c.trouble ≡ None in
    let Q : ServerModel → Type 0 = λ p. p.trouble ≡ None in
    record {
      ranks = All-same P _ _ (ranks ∙ ap (λ (v : World). v.ranks) is) (All-set P w.ranks rank.0 s fine whole.ranks);
      servers = All-same Q _ _ (servers ∙ ap (λ (v : World). v.servers) is) whole.servers;
    }

-- a whole world is whole with a server that has not failed
pub whole_server : (w mid now : World) (server : Server) (s : ServerModel) → IsWhole w → s.trouble ≡ None → mid ≡ with_server w server s
    → now.ranks ≡ mid.ranks → now.servers ≡ mid.servers → IsWhole now
whole_server w mid now server s whole fine is ranks servers =
    let P : ClientModel → Type 0 = λ c. c.trouble ≡ None in
    let Q : ServerModel → Type 0 = λ p. p.trouble ≡ None in
    record {
      ranks = All-same P _ _ (ranks ∙ ap (λ (v : World). v.ranks) is) whole.ranks;
      servers = All-same Q _ _ (servers ∙ ap (λ (v : World). v.servers) is) (All-set Q w.servers server.0 s fine whole.servers);
    }
