-- The servers that are asked are others.
use Rattle.std.proofs.Common.{◌≡◌, ◌≤◌, ◌<◌, ◌+◌, ◌-◌, ◌*◌, ◌%◌, ◌⊎◌, inl, inr, ℕ, zero, suc, List, [], length, map, All, ap, sym, ◌∙◌}
use Rattle.std.proofs.Common.{arith}
use Rattle.std.specs.List.{range_with_len}
use Rattle.std.proofs.lemmas.Bool.{cases_lt}
use Rattle.std.proofs.lemmas.List.Elements.{All-cons, All-nil}
use Rattle.std.proofs.lemmas.List.FromFn.{length-map-range_with_len}
use Rattle.std.proofs.lemmas.Nat.{mod-mul-add}
use Rattle.adlb_unit.specs.Ring.{behind, others}
use Rattle.adlb_unit.specs.declared.configs.Config.{Config}
use Rattle.adlb_unit.specs.declared.names.Server.{Server}
use Rattle.server_components.specs.Parked.{IsOther}

-- a server that is less than a whole turn after this one is another
other_behind : (config : Config) (me : Server) (places : ℕ) → me.0 < config.servers → 1 ≤ places → places < config.servers
    → IsOther config me (behind config me places)
other_behind config me places there some less = by_order (cases_lt (me.0 + places) config.servers)
  where
    by_order : ((me.0 + places) < config.servers) ⊎ (config.servers ≤ (me.0 + places)) → IsOther config me (behind config me places)
    by_order (inl within) =
        let whole : 0 * config.servers + (me.0 + places) ≡ me.0 + places = omega arith in
        let is : (me.0 + places) % config.servers ≡ me.0 + places =
        ap (λ n. n % config.servers) (sym whole) ∙ mod-mul-add 0 config.servers (me.0 + places) within in
        (omega (arith, is, within), λ same. omega (arith, is, same, some))
    by_order (inr beyond) =
        let whole : 1 * config.servers + (me.0 + places - config.servers) ≡ me.0 + places = omega arith in
        let short : me.0 + places - config.servers < config.servers = omega arith in
        let is : (me.0 + places) % config.servers ≡ me.0 + places - config.servers =
        ap (λ n. n % config.servers) (sym whole) ∙ mod-mul-add 1 config.servers (me.0 + places - config.servers) short in
        (omega (arith, is, short), λ same. omega (arith, is, same, less, beyond))

others_from : (config : Config) (me : Server) (from n : ℕ) → me.0 < config.servers → 1 ≤ from → from + n ≤ config.servers
    → All (IsOther config me) (map (behind config me) (range_with_len from n))
others_from config me from zero there some less = All-nil (IsOther config me)
others_from config me from (suc n) there some less =
    All-cons (IsOther config me) (behind config me from) (map (behind config me) (range_with_len (from + 1) n))
    (other_behind config me from there some (omega arith)) (others_from config me (from + 1) n there (omega arith) (omega arith))

-- the servers that are asked are within the run, and each is another one
pub all_others : (config : Config) (me : Server) → me.0 < config.servers → All (IsOther config me) (others config me)
all_others config me there = others_from config me 1 (config.servers - 1) there (omega arith) (omega arith)

-- there are no others exactly if there is one server
pub none_others : (config : Config) (me : Server) → others config me ≡ [] → config.servers ≡ 1
none_others config me none =
    let long : length (others config me) ≡ 0 = ap (λ (l : List Server). length l) none in
    let count = length-map-range_with_len (behind config me) 1 (config.servers - 1) in
    omega (arith, long, count, config.servers_within.0)

-- a server that is alone has no others
pub alone : (config : Config) (me : Server) → config.servers ≡ 1 → others config me ≡ []
alone config me one = ap (λ n. map (behind config me) (range_with_len 1 (n - 1))) one
