-- What no step changes: the limit and the number of servers.
use Rattle.std.proofs.Common.{◌≡◌, Bool, ℕ, List, ◌∷◌, [], ◌++◌, Option, Some, None, refl, sym, ap, ◌∙◌}
use Rattle.std.specs.Prelude.{option_and_then}
use Rattle.adlb_unit.specs.declared.names.Server.{Server}
use Rattle.adlb_unit.specs.declared.names.BatchId.{BatchId}
use Rattle.adlb_unit.specs.declared.names.CommonRef.{CommonRef}
use Rattle.adlb_unit.specs.declared.units.Unit.{Unit}
use Rattle.bag_ledger.specs.declared.entries.Entry.{Entry}
use Rattle.bag_ledger.specs.declared.entries.Entry.TheVariants.{Accepted, Kept}
use Rattle.bag_ledger.specs.declared.states.UnitPlace.TheVariants.{Free}
use Rattle.bag_ledger.specs.Bag.{Bag, rank_at, putting, keeping}
use Rattle.bag_ledger.specs.Steps.{after, shared, taken, kept}
use Rattle.bag_ledger.specs.Runs.{IsRunWhere}

shared_limit : (common : Option CommonRef) (b : Bag) → (shared common b).limit ≡ b.limit
shared_limit None b = refl
shared_limit (Some common) b = refl

taken_limit : (server : Server) (o : Option Unit) (b : Bag) → (taken server o b).limit ≡ b.limit
taken_limit server None b = refl
taken_limit server (Some u) b = shared_limit u.common (record b { units = b.units ++ record { unit = u; place = Free server } ∷ [] })

kept_limit : (server : Server) (batch : BatchId) (o : Option (ℕ × List ℕ)) (b : Bag) → (kept server batch o b).limit ≡ b.limit
kept_limit server batch None b = refl
kept_limit server batch (Some (call, common)) b = refl

step_limit : (b : Bag) (e : Entry) → (after b e).limit ≡ b.limit
step_limit b (Accepted server id) = taken_limit server (option_and_then (λ r. putting r.status) (rank_at b id.rank)) b
step_limit b (Kept server batch) = kept_limit server batch (option_and_then (λ r. keeping r.status) (rank_at b batch.rank)) b
step_limit b _ = refl

-- a run leaves the limit as it was
pub run_limit : (found : Bag → Bool) (b last : Bag) (es : List Entry) → IsRunWhere found b es last → last.limit ≡ b.limit
run_limit found b last [] run = ap (λ (x : Bag). x.limit) (sym run)
run_limit found b last (e ∷ es) run = run_limit found run.0 last es run.2 ∙ ap (λ (x : Bag). x.limit) run.1.2 ∙ step_limit b e

-- The number of servers stays.

shared_servers : (common : Option CommonRef) (b : Bag) → (shared common b).servers ≡ b.servers
shared_servers None b = refl
shared_servers (Some common) b = refl

taken_servers : (server : Server) (o : Option Unit) (b : Bag) → (taken server o b).servers ≡ b.servers
taken_servers server None b = refl
taken_servers server (Some u) b = shared_servers u.common (record b { units = b.units ++ record { unit = u; place = Free server } ∷ [] })

kept_servers : (server : Server) (batch : BatchId) (o : Option (ℕ × List ℕ)) (b : Bag) → (kept server batch o b).servers ≡ b.servers
kept_servers server batch None b = refl
kept_servers server batch (Some (call, common)) b = refl

step_servers : (b : Bag) (e : Entry) → (after b e).servers ≡ b.servers
step_servers b (Accepted server id) = taken_servers server (option_and_then (λ r. putting r.status) (rank_at b id.rank)) b
step_servers b (Kept server batch) = kept_servers server batch (option_and_then (λ r. keeping r.status) (rank_at b batch.rank)) b
step_servers b _ = refl

-- a run leaves the number of servers as it was
pub run_servers : (found : Bag → Bool) (b last : Bag) (es : List Entry) → IsRunWhere found b es last → last.servers ≡ b.servers
run_servers found b last [] run = ap (λ (x : Bag). x.servers) (sym run)
run_servers found b last (e ∷ es) run = run_servers found run.0 last es run.2 ∙ ap (λ (x : Bag). x.servers) run.1.2 ∙ step_servers b e
