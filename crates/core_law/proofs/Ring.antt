-- The servers that a put has tried are not the one that it tries now.
use Rattle.std.proofs.Common.{◌≡◌, ◌≤◌, ◌<◌, ℕ, zero, suc, ◌+◌, ◌*◌, ◌/◌, ◌%◌, ◌==◌, ◌⊎◌, inl, inr, false, map, refl, arith}
use Rattle.std.specs.List.{list_any, range_with_len}
use Rattle.std.proofs.lemmas.Bool.{cases_lt, eqb-true, false_from_ne_true}
use Rattle.std.proofs.Math.Nat.{div-add-mod, mul-le-mul_left}
use Rattle.adlb_unit.specs.declared.configs.Config.{Config}
use Rattle.adlb_unit.specs.declared.names.Server.{Server}
use Rattle.rank_client.specs.Agreement.{ring_from}
use Rattle.adlb_unit.specs.Ring.{behind}

-- less than a whole turn apart
turns_differ : (f a t n : ℕ) → a < t → t < a + n → (f + a) % n ≡ (f + t) % n → ⊥
turns_differ f a t n less near same =
    let first : n * ((f + a) / n) + (f + a) % n ≡ f + a = div-add-mod (f + a) n in
    let second : n * ((f + t) / n) + (f + t) % n ≡ f + t = div-add-mod (f + t) n in
    by_order first second (cases_lt ((f + a) / n) ((f + t) / n))
  where
    by_order : n * ((f + a) / n) + (f + a) % n ≡ f + a → n * ((f + t) / n) + (f + t) % n ≡ f + t
        → (((f + a) / n) < ((f + t) / n)) ⊎ (((f + t) / n) ≤ ((f + a) / n)) → ⊥
    by_order first second (inl more) =
        let whole : n * ((f + a) / n + 1) ≤ n * ((f + t) / n) = mul-le-mul_left n (omega arith) in
        let turn : n * ((f + a) / n + 1) ≡ n * ((f + a) / n) + n = omega arith in
        omega arith
    by_order first second (inr fewer) =
        let whole : n * ((f + t) / n) ≤ n * ((f + a) / n) = mul-le-mul_left n fewer in
        omega arith

not_among : (config : Config) (first : Server) (tried from n : ℕ) → from + n ≤ tried → tried < config.servers
    → list_any (λ (s : Server). s.0 == (behind config first tried).0) (map (behind config first) (range_with_len from n)) ≡ false
not_among config first tried from zero few below = refl
not_among config first tried from (suc n) few below =
    let later = not_among config first tried (from + 1) n (omega arith) below in
    let here : ((first.0 + from) % config.servers == (first.0 + tried) % config.servers) ≡ false =
    false_from_ne_true ((first.0 + from) % config.servers == (first.0 + tried) % config.servers)
    (λ e. turns_differ first.0 from tried config.servers (omega arith) (omega arith)
    (eqb-true ((first.0 + from) % config.servers) ((first.0 + tried) % config.servers) e)) in
    rw (here, later) refl

-- the server that is asked now is not among those that were tried
pub not_tried : (config : Config) (first : Server) (tried : ℕ) → tried < config.servers
    → list_any (λ (s : Server). s.0 == (behind config first tried).0) (ring_from config first tried) ≡ false
not_tried config first tried below = not_among config first tried 0 tried (omega arith) below
