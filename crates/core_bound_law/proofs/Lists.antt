-- Sums over short lists.
use Rattle.std.proofs.Common.{◌≡◌, ◌≤◌, ◌<◌, ℕ, zero, suc, ◌+◌, ◌*◌, ◌-◌, ◌==◌, Bool, true, false, ◌||◌, List, [], ◌∷◌, ◌∙◌, length, map}
use Rattle.std.proofs.Common.{filter, refl, sym, arith, ap, ◌%◌, ◌⊎◌, inl, inr, ◌≢◌}
use Rattle.std.proofs.lemmas.List.FromFn.{length-map-range_with_len}
use Rattle.std.specs.List.{range_with_len}
use Rattle.std.proofs.lemmas.Nat.{mod-mul-add}
use Rattle.std.proofs.lemmas.Bool.{cases_eq, cases_lt, eq-eqb, eqb-true, false_from_ne_true}
use Rattle.adlb_unit.specs.Ring.{behind, others}
use Rattle.server_components.specs.Calls.{has_server, with_server}
use Rattle.core_law.specs.Letters.{one}
use Rattle.adlb_unit.specs.declared.actors.Actor.TheVariants as by
use Rattle.adlb_unit.specs.declared.configs.Config.{Config}
use Rattle.adlb_unit.specs.declared.messages.Message.{Message}
use Rattle.adlb_unit.specs.declared.names.Server.{Server}
use Rattle.server_law.specs.Acts.{to_others, to_server}
use Rattle.server_law.specs.State.{ServerModel}
use Rattle.core_law.specs.Measures.{said_weight, weigh}
use Rattle.core_bound_law.specs.Credits.{letter_credit, letters_credit}

-- each weighs so much
pub same_each : {X : Type 0} (n : ℕ) (xs : List X) → weigh (λ (x : X). n) xs ≡ length xs * n
same_each n [] = omega arith
same_each n (x ∷ xs) = let later = same_each n xs in omega arith

-- how many other servers there are
pub others_length : (config : Config) (me : Server) → length (others config me) ≡ config.servers - 1
others_length config me = length-map-range_with_len (behind config me) 1 (config.servers - 1)

-- what is told to all others
told_each : (me : Server) (m : Message) (ts : List Server)
    → said_weight letters_credit.letter me (map (λ t. to_server t m) ts) ≡ length ts * letter_credit (by.Server me) m
told_each me m [] = omega arith
told_each me m (t ∷ ts) = let later = told_each me m ts in omega arith

-- what a message to each other server weighs
pub others_told : (s : ServerModel) (m : Message) → said_weight letters_credit.letter s.me (to_others s m) ≡
    (s.config.servers - 1) * letter_credit (by.Server s.me) m
others_told s m = told_each s.me m (others s.config s.me) ∙ ap (λ n. n * letter_credit (by.Server s.me) m) (others_length s.config s.me)

-- A server more in a list of servers to ask.

-- 50 for each other server are 350 at most
pub few_others : (s : ServerModel) → weigh (λ (t : Server). 50) (others s.config s.me) ≤ 350
few_others s =
    let n = same_each 50 (others s.config s.me) in
    let l = others_length s.config s.me in
    let top = s.config.servers_within.1 in
    omega arith

-- as many of these pass as have the test true
kept_weigh : (n : ℕ) (test : Server → Bool) (ts : List Server)
    → weigh (λ (t : Server). n) (filter test ts) ≡ weigh (λ t. one (test t)) ts * n
kept_weigh n test [] = omega arith
kept_weigh n test (t ∷ ts) = by_test (kept_weigh n test ts) (test t) refl
  where
    by_test : weigh (λ (t : Server). n) (filter test ts) ≡ weigh (λ t. one (test t)) ts * n
        → (b : Bool) → test t ≡ b → weigh (λ (t : Server). n) (filter test (t ∷ ts)) ≡ weigh (λ t. one (test t)) (t ∷ ts) * n
    by_test later true is = rw is (omega arith)
    by_test later false is = rw is (omega arith)

-- one test or the other
either : (a b : Bool) → one (a || b) ≤ one a + one b
either true b = omega arith
either false b = omega arith

either_sum : {X : Type 0} (p q : X → Bool) (xs : List X)
    → weigh (λ x. one (p x || q x)) xs ≤ weigh (λ x. one (p x)) xs + weigh (λ x. one (q x)) xs
either_sum p q [] = omega arith
either_sum p q (x ∷ xs) = let here = either (p x) (q x) in let later = either_sum p q xs in omega arith

none_sum : {X : Type 0} (xs : List X) → weigh (λ (x : X). 0) xs ≡ 0
none_sum [] = refl
none_sum (x ∷ xs) = let later = none_sum xs in omega arith

-- the server among these, each of which is there once
times : Server → List Server → ℕ
times s ts = weigh (λ (t : Server). one (t.0 == s.0)) ts

same_test : (a b : ℕ) → (a == b) ≡ (b == a)
same_test a b = by_test (a == b) (b == a) refl refl
  where
    by_test : (x y : Bool) → (a == b) ≡ x → (b == a) ≡ y → x ≡ y
    by_test true true p q = refl
    by_test false false p q = refl
    by_test true false p q = let e = eq-eqb b a (sym (eqb-true a b p)) in absurd (cc)
    by_test false true p q = let e = eq-eqb a b (sym (eqb-true b a q)) in absurd (cc)

turned : (ts : List Server) (u : Server) → weigh (λ (t : Server). one (u.0 == t.0)) ts ≡ times u ts
unfolding times
turned [] u = refl
turned (t ∷ ts) u = let later = turned ts u in let same : one (u.0 == t.0) ≡ one (t.0 == u.0) = ap one (same_test u.0 t.0) in omega arith

-- those of a list that are among others, each of which is there once
among : (ts us : List Server) → ((u : Server) → times u ts ≤ 1) → weigh (λ t. one (has_server us t)) ts ≤ length us
unfolding times
among ts [] once = let none = none_sum ts in omega arith
among ts (u ∷ us) once =
    let first = once u in
    let more = among ts us once in
    let sum = either_sum (λ (t : Server). u.0 == t.0) (has_server us) ts in
    let same : weigh (λ (t : Server). one (u.0 == t.0)) ts ≡ times u ts = turned ts u in
    omega arith

-- The servers after one are each there once.

-- a number of places on, less than a whole turn
turn : (config : Config) (me : Server) (places : ℕ) → me.0 < config.servers → places < config.servers
    → ((behind config me places).0 ≡ me.0 + places) × ((me.0 + places) < config.servers)
    ⊎ ((behind config me places).0 + config.servers ≡ me.0 + places)
turn config me places there less = by_order (cases_lt (me.0 + places) config.servers)
  where
    by_order : ((me.0 + places) < config.servers) ⊎ (config.servers ≤ (me.0 + places))
        → (((me.0 + places) % config.servers ≡ me.0 + places) × ((me.0 + places) < config.servers))
        ⊎ ((me.0 + places) % config.servers + config.servers ≡ me.0 + places)
    by_order (inl within) =
        let whole : 0 * config.servers + (me.0 + places) ≡ me.0 + places = omega arith in
        inl (ap (λ n. n % config.servers) (sym whole) ∙ mod-mul-add 0 config.servers (me.0 + places) within, within)
    by_order (inr beyond) =
        let whole : 1 * config.servers + (me.0 + places - config.servers) ≡ me.0 + places = omega arith in
        let short : me.0 + places - config.servers < config.servers = omega arith in
        let is : (me.0 + places) % config.servers ≡ me.0 + places - config.servers =
        ap (λ n. n % config.servers) (sym whole) ∙ mod-mul-add 1 config.servers (me.0 + places - config.servers) short in
        inr (omega (arith, is, beyond))

apart : (config : Config) (me : Server) (i k : ℕ) → me.0 < config.servers → i < k → k < config.servers
    → (behind config me i).0 ≢ (behind config me k).0
apart config me i k there less few same = by_turns (turn config me i there (omega arith)) (turn config me k there few)
  where
    by_turns : ((behind config me i).0 ≡ me.0 + i) × ((me.0 + i) < config.servers) ⊎ ((behind config me i).0 + config.servers ≡ me.0 + i)
        → ((behind config me k).0 ≡ me.0 + k) × ((me.0 + k) < config.servers) ⊎ ((behind config me k).0 + config.servers ≡ me.0 + k) → ⊥
    by_turns (inl a) (inl b) = omega (arith, a.0, b.0, same, less)
    by_turns (inl a) (inr b) = omega (arith, a.0, b, same, less, few, there)
    by_turns (inr a) (inl b) = omega (arith, a, b.0, same, less, few, there)
    by_turns (inr a) (inr b) = omega (arith, a, b, same, less)

none_later : (config : Config) (me u : Server) (i from n : ℕ) → me.0 < config.servers → i < from → from + n ≤ config.servers
    → (behind config me i).0 ≡ u.0 → times u (map (behind config me) (range_with_len from n)) ≡ 0
unfolding times
none_later config me u i from zero there less few is = refl
none_later config me u i from (suc n) there less few is =
    let off : (behind config me from).0 == u.0 ≡ false = false_from_ne_true ((behind config me from).0 == u.0)
    (λ e. apart config me i from there less (omega arith) (is ∙ sym (eqb-true (behind config me from).0 u.0 e))) in
    let later = none_later config me u i (from + 1) n there (omega arith) (omega arith) is in
    rw off (omega arith)

once_from : (config : Config) (me u : Server) (from n : ℕ) → me.0 < config.servers → from + n ≤ config.servers
    → times u (map (behind config me) (range_with_len from n)) ≤ 1
unfolding times
once_from config me u from zero there few = omega arith
once_from config me u from (suc n) there few =
    by_place (once_from config me u (from + 1) n there (omega arith)) (cases_eq (behind config me from).0 u.0)
  where
    by_place : times u (map (behind config me) (range_with_len (from + 1) n)) ≤ 1
        → ((behind config me from).0 ≡ u.0) ⊎ ((behind config me from).0 ≢ u.0)
        → one ((behind config me from).0 == u.0) + times u (map (behind config me) (range_with_len (from + 1) n)) ≤ 1
    by_place later (inl same) =
        let it : (behind config me from).0 == u.0 ≡ true = eq-eqb (behind config me from).0 u.0 same in
        let none = none_later config me u from (from + 1) n there (omega arith) (omega arith) same in
        rw it (omega arith)
    by_place later (inr differs) =
        let off : (behind config me from).0 == u.0 ≡ false = false_from_ne_true ((behind config me from).0 == u.0)
        (λ e. differs (eqb-true (behind config me from).0 u.0 e)) in
        rw off (omega arith)

-- a hint brings one server more to ask
pub one_more : (config : Config) (me : Server) (to_ask : List Server) (from : Server) → me.0 < config.servers
    → weigh (λ (t : Server). 50) (with_server config me to_ask from) ≤ 50 + weigh (λ (t : Server). 50) to_ask
unfolding times
one_more config me to_ask from there =
    let all = others config me in
    let once : (u : Server) → times u all ≤ 1 = λ u. once_from config me u 1 (config.servers - 1) there (omega arith) in
    let kept = kept_weigh 50 (λ (t : Server). (t.0 == from.0) || has_server to_ask t) all in
    let sum = either_sum (λ (t : Server). t.0 == from.0) (has_server to_ask) all in
    let first = once from in
    let more = among all to_ask once in
    let length = same_each 50 to_ask in
    omega arith
