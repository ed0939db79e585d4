-- Each server is once among those after this one.
use Rattle.std.proofs.Common.{◌≡◌, ◌≢◌, ◌<◌, ◌≤◌, ◌+◌, ◌-◌, ◌*◌, ◌%◌, ◌==◌, ◌⊎◌, inl, inr, ℕ, zero, suc, Bool, true, false, ◌||◌, [], ◌∷◌}
use Rattle.std.proofs.Common.{filter, map, refl, sym, ap, ◌∙◌, arith}
use Rattle.std.specs.List.{range_with_len}
use Rattle.std.proofs.lemmas.Bool.{cases_lt, eq-eqb, ne_eqb}
use Rattle.std.proofs.lemmas.Nat.{mod-mul-add}
use Rattle.adlb_unit.specs.Ring.{behind}
use Rattle.adlb_unit.specs.declared.configs.Config.{Config}
use Rattle.adlb_unit.specs.declared.names.Server.{Server}
use Rattle.server_components.specs.Calls.{with_server}
use Rattle.server_components.specs.Parked.{IsOther}

-- the number of the server `k` places after this one
behind_is : (config : Config) (me : Server) (k : ℕ) → me.0 < config.servers → k < config.servers
    → (((me.0 + k) < config.servers) × ((behind config me k).0 ≡ me.0 + k))
    ⊎ ((config.servers ≤ (me.0 + k)) × ((behind config me k).0 ≡ me.0 + k - config.servers))
behind_is config me k there less = by_order (cases_lt (me.0 + k) config.servers)
  where
    by_order : ((me.0 + k) < config.servers) ⊎ (config.servers ≤ (me.0 + k))
        → (((me.0 + k) < config.servers) × ((behind config me k).0 ≡ me.0 + k))
        ⊎ ((config.servers ≤ (me.0 + k)) × ((behind config me k).0 ≡ me.0 + k - config.servers))
    by_order (inl within) =
        let whole : 0 * config.servers + (me.0 + k) ≡ me.0 + k = omega arith in
        inl (within, ap (λ n. n % config.servers) (sym whole) ∙ mod-mul-add 0 config.servers (me.0 + k) within)
    by_order (inr beyond) =
        let whole : 1 * config.servers + (me.0 + k - config.servers) ≡ me.0 + k = omega arith in
        let short : me.0 + k - config.servers < config.servers = omega arith in
        inr (beyond, ap (λ n. n % config.servers) (sym whole) ∙ mod-mul-add 1 config.servers (me.0 + k - config.servers) short)

-- two places have one server only if they are one
behind_once : (config : Config) (me : Server) (j k : ℕ) → me.0 < config.servers → j < config.servers → k < config.servers
    → (behind config me j).0 ≡ (behind config me k).0 → j ≡ k
behind_once config me j k there first second same = by_both (behind_is config me j there first) (behind_is config me k there second)
  where
    Is : ℕ → Type 0
    Is n =
        (((me.0 + n) < config.servers) × ((behind config me n).0 ≡ me.0 + n))
        ⊎ ((config.servers ≤ (me.0 + n)) × ((behind config me n).0 ≡ me.0 + n - config.servers))

    by_both : (((me.0 + j) < config.servers) × ((behind config me j).0 ≡ me.0 + j))
        ⊎ ((config.servers ≤ (me.0 + j)) × ((behind config me j).0 ≡ me.0 + j - config.servers))
        → (((me.0 + k) < config.servers) × ((behind config me k).0 ≡ me.0 + k))
        ⊎ ((config.servers ≤ (me.0 + k)) × ((behind config me k).0 ≡ me.0 + k - config.servers)) → j ≡ k
    by_both (inl a) (inl b) = omega (arith, a.1, b.1, same)
    by_both (inl a) (inr b) = omega (arith, a.0, a.1, b.0, b.1, same, first, second, there)
    by_both (inr a) (inl b) = omega (arith, a.0, a.1, b.0, b.1, same, first, second, there)
    by_both (inr a) (inr b) = omega (arith, a.0, b.0, a.1, b.1, same)

-- another server is at some place
place_behind : (config : Config) (me from : Server) → me.0 < config.servers → IsOther config me from
    → (k : ℕ) × (1 ≤ k) × (k < config.servers) × ((behind config me k).0 ≡ from.0)
place_behind config me from there other = by_order (cases_lt me.0 from.0)
  where
    by_order : (me.0 < from.0) ⊎ (from.0 ≤ me.0) → (k : ℕ) × (1 ≤ k) × (k < config.servers) × ((behind config me k).0 ≡ from.0)
    by_order (inl more) =
        let whole : 0 * config.servers + from.0 ≡ me.0 + (from.0 - me.0) = omega arith in (
          from.0 - me.0,
          omega arith,
          omega (arith, other.0),
          ap (λ n. n % config.servers) (sym whole) ∙ mod-mul-add 0 config.servers from.0 other.0,
        )
    by_order (inr fewer) =
        let differs : from.0 < me.0 = grind (arith, other.1, fewer) in
        let whole : 1 * config.servers + from.0 ≡ me.0 + (from.0 + config.servers - me.0) = omega arith in (
          from.0 + config.servers - me.0,
          omega arith,
          omega arith,
          ap (λ n. n % config.servers) (sym whole) ∙ mod-mul-add 1 config.servers from.0 other.0,
        )

-- a test that one place passes finds that one alone
module _ (test : Server → Bool) (f : ℕ → Server) (k : ℕ) (here : test (f k) ≡ true) where
  none_passes : (a n : ℕ) → ((j : ℕ) → a ≤ j → j < a + n → j ≢ k) → ((j : ℕ) → j < a + n → j ≢ k → test (f j) ≡ false)
      → filter test (map f (range_with_len a n)) ≡ []
  none_passes a zero apart fails = refl
  none_passes a (suc n) apart fails =
      rw (fails a (omega arith) (apart a (omega arith) (omega arith)))
      (none_passes (a + 1) n (λ j more less. apart j (omega arith) (omega arith)) (λ j less. fails j (omega arith)))

  one_passes : (a n : ℕ) → a ≤ k → k < a + n → ((j : ℕ) → j < a + n → j ≢ k → test (f j) ≡ false)
      → filter test (map f (range_with_len a n)) ≡ f k ∷ []
  one_passes a zero more less fails = absurd (omega arith)
  one_passes a (suc n) more less fails =
      by_order (cases_lt a k)
      (λ before. one_passes (a + 1) n (omega (arith, before)) (omega (arith, less)) (λ j within. fails j (omega arith)))
    where
      by_order : (a < k) ⊎ (k ≤ a) → (a < k → filter test (map f (range_with_len (a + 1) n)) ≡ f k ∷ [])
          → filter test (map f (range_with_len a (suc n))) ≡ f k ∷ []
      by_order (inl before) later = rw (fails a (omega arith) (λ same. omega (arith, same, before))) (later before)
      by_order (inr last) later =
          let same : k ≡ a = omega arith in
          let passes : test (f a) ≡ true = ap (λ m. test (f m)) (sym same) ∙ here in
          let rest = none_passes (a + 1) n (λ j over within is. omega (arith, over, is, same)) (λ j within. fails j (omega arith)) in
          rw (passes, rest) (ap (λ m. f m ∷ []) (sym same))

-- with nobody to ask, that server alone is to be asked
pub with_one : (config : Config) (me from : Server) → me.0 < config.servers → IsOther config me from
    → with_server config me [] from ≡ from ∷ []
with_one config me from there other =
    let at = place_behind config me from there other in
    let f = behind config me in
    let test : Server → Bool = λ s. (s.0 == from.0) || false in
    let passes : test (f at.0) ≡ true = rw (eq-eqb (f at.0).0 from.0 at.3) refl in
    let fails : (j : ℕ) → j < 1 + (config.servers - 1) → j ≢ at.0 → test (f j) ≡ false = λ j less differs.
    rw (ne_eqb (f j).0 from.0 (λ same. differs (behind_once config me j at.0 there (omega arith) at.2 (same ∙ sym at.3)))) refl in
    one_passes test f at.0 passes 1 (config.servers - 1) at.1 (omega (arith, at.2)) fails
    ∙ ap (λ n. let s : Server = record { 0 = n } in s ∷ []) at.3
