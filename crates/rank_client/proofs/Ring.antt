-- As many servers in ring order as there are servers are all servers.
use Rattle.std.proofs.Common.{◌≡◌, ◌<◌, ◌≤◌, ◌+◌, ◌-◌, ◌*◌, ◌/◌, ◌%◌, ℕ, ◌⊎◌, true, length, get_or, ap, ◌∙◌, arith, ◌==◌, inl, inr}
use Rattle.std.specs.List.{range_with_len, list_any}
use Rattle.std.proofs.lemmas.Bool.{cases_lt, eq-eqb}
use Rattle.std.proofs.lemmas.List.Elements.{All-from_get_or}
use Rattle.std.proofs.lemmas.List.Folds.{list_any_at}
use Rattle.std.proofs.lemmas.List.FromFn.{length-range_with_len, get_or-range_with_len, length-map-range_with_len}
use Rattle.std.proofs.lemmas.List.FromFn.{get_or-map-range_with_len}
use Rattle.std.proofs.lemmas.List.Sums.{list_all-from_AllPass}
use Rattle.std.proofs.lemmas.Nat.{mod-mul-add}
use Rattle.std.proofs.Math.Nat.{div-add-mod, mul_comm}
use Rattle.adlb_unit.specs.declared.configs.Config.{Config}
use Rattle.adlb_unit.specs.declared.names.Server.{Server}
use Rattle.bag_ledger.specs.declared.states.RankState.{RankState}
use Rattle.bag_ledger.specs.Bag.{Bag, all_declined}
use Rattle.adlb_unit.specs.Ring.{behind}
use Rattle.rank_client.specs.Agreement.{ring_from}

-- the place at which the ring from f comes to k
pub way : (n f k : ℕ) → k < n → (j : ℕ) × (j < n) × ((f + j) % n ≡ k)
way n f k below = by_order (cases_lt k (f % n))
  where
    by_order : ((k < f % n) ⊎ (f % n ≤ k)) → (j : ℕ) × (j < n) × ((f + j) % n ≡ k)
    by_order (inl less) =
        let whole : n * (f / n) + f % n ≡ f = div-add-mod f n in
        let turn : (f / n) * n ≡ n * (f / n) = mul_comm (f / n) n in
        let there : f + (k + n - f % n) ≡ (f / n + 1) * n + k = omega arith in
        (k + n - f % n, omega arith, ap (λ m. m % n) there ∙ mod-mul-add (f / n + 1) n k below)
    by_order (inr more) =
        let whole : n * (f / n) + f % n ≡ f = div-add-mod f n in
        let turn : (f / n) * n ≡ n * (f / n) = mul_comm (f / n) n in
        let there : f + (k - f % n) ≡ (f / n) * n + k = omega arith in
        (k - f % n, omega arith, ap (λ m. m % n) there ∙ mod-mul-add (f / n) n k below)

-- a put that as many servers declined as there are was declined by all
pub all_asked : (config : Config) (first : Server) (n : ℕ) (b : Bag) (r : RankState) → b.servers ≡ config.servers → config.servers ≤ n
    → r.declined ≡ ring_from config first n → all_declined b r ≡ true
all_asked config first n b r servers enough is =
    list_all-from_AllPass (λ k. list_any (λ (s : Server). s.0 == k) r.declined) (range_with_len 0 b.servers)
    (All-from_get_or (λ k. list_any (λ (s : Server). s.0 == k) r.declined ≡ true) (range_with_len 0 b.servers) 0 at)
  where
    asks : (k : ℕ) → k < config.servers → list_any (λ (s : Server). s.0 == k) (ring_from config first n) ≡ true
    asks k below =
        let j = way config.servers first.0 k below in
        let short : j.0 < n = omega (arith, j.1) in
        let long : j.0 < length (ring_from config first n) = rw (length-map-range_with_len (behind config first) 0 n) short in
        let there : get_or (ring_from config first n) j.0 first ≡ behind config first j.0 =
        get_or-map-range_with_len (behind config first) 0 n j.0 j.0 first short (omega arith) in
        list_any_at (λ (s : Server). s.0 == k) (ring_from config first n) j.0 first long
        (rw there (eq-eqb ((first.0 + j.0) % config.servers) k j.2))

    at : (i : ℕ) → i < length (range_with_len 0 b.servers)
        → list_any (λ (s : Server). s.0 == get_or (range_with_len 0 b.servers) i 0) r.declined ≡ true
    at i within =
        let short : i < b.servers = rw (length-range_with_len 0 b.servers) at within in
        let here : get_or (range_with_len 0 b.servers) i 0 ≡ 0 + i = get_or-range_with_len 0 b.servers i 0 short in
        let place : get_or (range_with_len 0 b.servers) i 0 ≡ i = omega (arith, here) in
        let inside : i < config.servers = omega (arith, short, servers) in
        rw (is, place) (asks i inside)
