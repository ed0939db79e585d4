-- Ranks of a list by their homes, and where a token goes.
use Rattle.std.proofs.Common.{◌≡◌, ◌≢◌, ◌<◌, ◌≤◌, ◌⊎◌, inl, inr, suc, ◌+◌, ◌*◌, ◌%◌, Bool, true, false, cond, List, [], ◌∷◌, map, filter}
use Rattle.std.proofs.Common.{refl, ap, ◌∙◌, arith, eqb}
use Rattle.std.specs.Prelude.{All}
use Rattle.std.proofs.lemmas.Bool.{cases_lt, eqb-true, false_from_ne_true}
use Rattle.std.proofs.Math.Nat.{mod-eq_of_lt}
use Rattle.std.proofs.lemmas.Nat.{mod-mul-add}
use Rattle.adlb_unit.specs.Ring.{behind}
use Rattle.adlb_unit.specs.Targets.{home, home_of}
use Rattle.adlb_unit.specs.declared.configs.Config.{Config}
use Rattle.adlb_unit.specs.declared.names.Server.{Server}
use Rattle.exhaust_ring.specs.Ring.{Asker}
use Rattle.server_components.specs.Calls.{wants}
use Rattle.server_components.specs.declared.waits.Waiting.{Waiting}
use Rattle.server_law.specs.State.{is_home}
use Rattle.core_law.specs.OnLinks.{Each}
use Rattle.core_law.specs.Own.{IsEntry}
use Rattle.core_check_law.specs.OnWay.{reach}

-- what holds of all elements holds of each
pub each_of_all : {X : Type 0} (P : X → Type 0) (xs : List X) → All P xs → Each P xs
each_of_all P [] all = tt
each_of_all P (x ∷ xs) all = (all 0 x (omega arith), each_of_all P xs (λ i d inside. all (suc i) d (omega arith)))

-- the ranks that wait at a server have their home there
pub homes_of : (config : Config) (me : Server) (es : List Waiting) → Each (IsEntry config me) es
    → Each (λ (a : Asker). is_home config me a.0 ≡ true) (map wants es)
homes_of config me [] all = tt
homes_of config me (e ∷ es) all = ((all.0).here, homes_of config me es all.1)

-- filtering keeps a list each of whose elements passes
pub kept_all : {X : Type 0} (p : X → Bool) (xs : List X) → Each (λ x. p x ≡ true) xs → filter p xs ≡ xs
kept_all p [] all = refl
kept_all p (x ∷ xs) all = let later = kept_all p xs all.1 in rw all.0 (ap (λ l. x ∷ l) later)

-- filtering leaves nothing of a list no element of which passes
pub kept_none : {X : Type 0} (p : X → Bool) (xs : List X) → Each (λ x. p x ≡ false) xs → filter p xs ≡ []
kept_none p [] all = refl
kept_none p (x ∷ xs) all = let later = kept_none p xs all.1 in rw all.0 later

-- the home that a test names
pub home_is : (config : Config) (me : Server) (a : Asker) → is_home config me a.0 ≡ true → (home config a.0).0 ≡ me.0
home_is config me a e = eqb-true (home_of config.servers a.0) me.0 e

-- the test of another home fails
pub home_other : (config : Config) (t : Server) (a : Asker) → (home config a.0).0 ≢ t.0 → is_home config t a.0 ≡ false
home_other config t a differs =
    false_from_ne_true (eqb (home_of config.servers a.0) t.0) (λ e. differs (eqb-true (home_of config.servers a.0) t.0 e))

-- How far a token has come.

-- a token that goes on from a server has reached one more
pub reach_onward : (config : Config) (k : Server) → k.0 < config.servers → reach config (behind config k 1) ≡ k.0 + 1
reach_onward config k here = by_end (cases_lt (k.0 + 1) config.servers)
  where
    by_end : ((k.0 + 1) < config.servers) ⊎ (config.servers ≤ (k.0 + 1))
        → cond (eqb ((k.0 + 1) % config.servers) 0) config.servers ((k.0 + 1) % config.servers) ≡ k.0 + 1
    by_end (inl low) =
        let e = mod-eq_of_lt low in
        let no : eqb (k.0 + 1) 0 ≡ false =
        false_from_ne_true (eqb (k.0 + 1) 0) (λ i. let z = eqb-true (k.0 + 1) 0 i in absurd (omega arith)) in
        rw (e, no) refl
    by_end (inr high) =
        let sum : k.0 + 1 ≡ 1 * config.servers + 0 = omega arith in
        let e : (k.0 + 1) % config.servers ≡ 0 =
        ap (λ n. n % config.servers) sum ∙ mod-mul-add 1 config.servers 0 (omega arith) in
        rw e (omega arith)

-- a token at another server than server 0 has reached as many as its number
pub reach_at : (config : Config) (k : Server) → k.0 ≢ 0 → reach config k ≡ k.0
reach_at config k some =
    let no : eqb k.0 0 ≡ false = false_from_ne_true (eqb k.0 0) (λ i. some (eqb-true k.0 0 i)) in rw no refl

-- server 0 is the last of a wave
pub reach_zeroth : (config : Config) (k : Server) → k.0 ≡ 0 → reach config k ≡ config.servers
reach_zeroth config k zeroth = rw zeroth refl
