-- The letters that say that an end was found, through each act: server 0 tells each other server once.
use Rattle.std.proofs.Common.{◌≡◌, ◌≢◌, ◌<◌, ◌≤◌, ◌⊎◌, inl, inr, ℕ, zero, suc, ◌+◌, ◌-◌, ◌%◌, ◌==◌, Bool, true, false, cond, List, [], ◌∷◌}
use Rattle.std.proofs.Common.{map, refl, ap, ◌∙◌, ◌&&◌, arith}
use Rattle.std.specs.List.{range_with_len}
use Rattle.std.proofs.lemmas.Bool.{cases_eq, eq-eqb, eqb-true, false_from_ne_true}
use Rattle.std.proofs.Math.Nat.{mod-eq_of_lt}
use Rattle.adlb_unit.specs.Ring.{behind, others}
use Rattle.adlb_unit.specs.declared.actors.Actor.TheVariants as by
use Rattle.adlb_unit.specs.declared.configs.Config.{Config}
use Rattle.adlb_unit.specs.declared.messages.Message.{Message}
use Rattle.adlb_unit.specs.declared.messages.Message.TheVariants as tells
use Rattle.adlb_unit.specs.declared.names.Server.{Server}
use Rattle.server_law.specs.Acts.{Act, Finds, Finds_alone, Hears_exhaust, Hears_shutdown, Shuts, Shuts_alone, does, to_others, to_server}
use Rattle.server_law.specs.State.{Kept, ServerModel}
use Rattle.server_law.specs.Sure.{Sure}
use Rattle.core_law.specs.Letters.{one}
use Rattle.core_law.specs.Measures.{ActKeeps, said_weight, weigh}
use Rattle.core_law.proofs.Sums.{others_none}
use Rattle.core_check_law.specs.Ends.{end_letter, exhausts, flag_at, is_exhaust, is_exhausted, is_shut, is_shutdown, shuts}

-- A message to each other server.

here_is : (config : Config) (me : Server) (k : ℕ) → me.0 ≡ 0 → k < config.servers → (behind config me k).0 ≡ k
here_is config me k first low = let sum : me.0 + k ≡ k = omega arith in ap (λ n. n % config.servers) sum ∙ mod-eq_of_lt low

count : Server → List Server → ℕ
count t us = weigh (λ (u : Server). one (u.0 == t.0)) us

-- the others of server 0 from this one on: none before, and one where it is among them
none_in : (config : Config) (me t : Server) (from n : ℕ) → me.0 ≡ 0 → from + n ≤ config.servers → t.0 < from
    → count t (map (behind config me) (range_with_len from n)) ≡ 0
unfolding count
none_in config me t from zero first few low = refl
none_in config me t from (suc n) first few low =
    let h = here_is config me from first (omega arith) in
    let off : (behind config me from).0 == t.0 ≡ false = false_from_ne_true ((behind config me from).0 == t.0)
    (λ e. let q = eqb-true (behind config me from).0 t.0 e in absurd (omega arith)) in
    let later = none_in config me t (from + 1) n first (omega arith) (omega arith) in
    rw off (omega arith)

one_in : (config : Config) (me t : Server) (from n : ℕ) → me.0 ≡ 0 → from + n ≤ config.servers → from ≤ t.0 → t.0 < from + n
    → count t (map (behind config me) (range_with_len from n)) ≡ 1
unfolding count
one_in config me t from zero first few low high = absurd (omega arith)
one_in config me t from (suc n) first few low high =
    by_place (λ differs. one_in config me t (from + 1) n first (omega arith) (omega arith) (omega arith)) (cases_eq from t.0)
  where
    h : (behind config me from).0 ≡ from
    h = here_is config me from first (omega arith)

    by_place : (from ≢ t.0 → count t (map (behind config me) (range_with_len (from + 1) n)) ≡ 1) → (from ≡ t.0) ⊎ (from ≢ t.0)
        → one ((behind config me from).0 == t.0) + count t (map (behind config me) (range_with_len (from + 1) n)) ≡ 1
    by_place later_is (inl same) =
        let it : (behind config me from).0 == t.0 ≡ true = eq-eqb (behind config me from).0 t.0 (h ∙ same) in
        let later = none_in config me t (from + 1) n first (omega arith) (omega arith) in
        rw it (omega arith)
    by_place later_is (inr differs) =
        let off : (behind config me from).0 == t.0 ≡ false = false_from_ne_true ((behind config me from).0 == t.0)
        (λ e. let q = eqb-true (behind config me from).0 t.0 e in let z = h in differs (omega arith)) in
        let later = later_is differs in
        rw off (omega arith)

said_once : (is : Message → Bool) (m : Message) (t me : Server) (us : List Server) → is m ≡ true
    → said_weight (end_letter is t) me (map (λ u. to_server u m) us) ≡ count t us
unfolding count
said_once is m t me [] it = refl
said_once is m t me (u ∷ us) it =
    let later = said_once is m t me us it in
    let here : end_letter is t (by.Server me) (by.Server u) m ≡ one (u.0 == t.0) = rw it refl in
    omega arith

all_told : (is : Message → Bool) (m : Message) (t : Server) (s : ServerModel) → is m ≡ true → s.me.0 ≡ 0 → t.0 ≢ 0 → t.0 < s.config.servers
    → said_weight (end_letter is t) s.me (to_others s m) ≡ 1
all_told is m t s it first other low =
    said_once is m t s.me (others s.config s.me) it
    ∙ one_in s.config s.me t 1 (s.config.servers - 1) first (omega arith) (omega arith) (omega arith)

not_told : (is : Message → Bool) (m : Message) (t : Server) (s : ServerModel) → is m ≡ false
    → said_weight (end_letter is t) s.me (to_others s m) ≡ 0
not_told is m t s other = others_none (end_letter is t) s.me s m (λ to. rw other refl)

-- What the servers know.

at_zeroth : (t : Server) (b : Bool) (place : ℕ) → place ≡ 0 → t.0 ≢ 0 → cond (place == t.0) (one b) 0 ≡ 0
at_zeroth t b place first other =
    let off : place == t.0 ≡ false = false_from_ne_true (place == t.0) (λ e. let q = eqb-true place t.0 e in other (omega arith)) in
    rw off refl

not_zeroth : (b : Bool) (place : ℕ) → place ≢ 0 → cond (place == 0) (one b) 0 ≡ 0
not_zeroth b place other =
    let off : place == 0 ≡ false = false_from_ne_true (place == 0) (λ e. other (eqb-true place 0 e)) in rw off refl

heard_here : (here before : Bool) → (here ≡ true → before ≡ false)
    → one (true && here) + 0 + cond here (one before) 0 ≡ cond here (one true) 0
heard_here true before was = rw (was refl) refl
heard_here false before was = refl

-- Of an act that hears of an end, or finds it: another server than server 0 hears, it does not know it yet, and so with server 0.

-- this is not server 0, and if it is the server named, it did not know the end
abbrev pub IsNew : (Kept → Bool) → Server → ServerModel → Type 0
IsNew flag t s = (s.me.0 ≢ 0) × ((s.me.0 == t.0) ≡ true → flag s.kept ≡ false)

-- who hears that all work is used up did not know it
abbrev pub IsNewExhaust : Server → Act → ServerModel → Type 0
IsNewExhaust t (Hears_exhaust from) s = IsNew is_exhausted t s
IsNewExhaust t _ s = Unit {0}

-- who hears that it may end did not know it
abbrev pub IsNewShutdown : Server → Act → ServerModel → Type 0
IsNewShutdown t (Hears_shutdown from) s = IsNew is_shut t s
IsNewShutdown t (Shuts from u) s = s.kept.shut ≡ false
IsNewShutdown t _ s = Unit {0}

-- each act keeps that server 0 tells each other server once that all work is used up
pub exhaust_kept : (t : Server) (a : Act) (s : ServerModel) → t.0 ≢ 0 → t.0 < s.config.servers → Sure a s → IsNewExhaust t a s
    → ActKeeps (exhausts t) a s
exhaust_kept t (Finds from u) s other low sure new =
    let first = sure.0.running.zeroth in
    let all = all_told is_exhaust tells.Exhaust t s refl first other low in
    let was : flag_at is_exhausted 0 s.me.0 s.kept ≡ 0 = rw (first, sure.2) refl in
    let now : flag_at is_exhausted 0 s.me.0 (does (Finds from u) s).kept ≡ 1 = rw first refl in
    let mine = at_zeroth t s.kept.exhausted s.me.0 first other in
    let mine_now = at_zeroth t true s.me.0 first other in
    omega arith
exhaust_kept t (Shuts from u) s other low sure new = let none = not_told is_exhaust tells.Shutdown t s refl in omega arith
exhaust_kept t (Hears_exhaust from) s other low sure new =
    let h = heard_here (s.me.0 == t.0) s.kept.exhausted new.1 in
    let was = not_zeroth s.kept.exhausted s.me.0 new.0 in
    let now = not_zeroth true s.me.0 new.0 in
    omega arith
exhaust_kept t Finds_alone s other low sure new = let alone = sure.alone in absurd (omega arith)
exhaust_kept t _ s other low sure new = omega arith

-- each act keeps that server 0 tells each other server once that it may end
pub shut_kept : (t : Server) (a : Act) (s : ServerModel) → t.0 ≢ 0 → t.0 < s.config.servers → Sure a s → IsNewShutdown t a s
    → ActKeeps (shuts t) a s
shut_kept t (Shuts from u) s other low sure new =
    let first = sure.0.running.zeroth in
    let all = all_told is_shutdown tells.Shutdown t s refl first other low in
    let was : flag_at is_shut 0 s.me.0 s.kept ≡ 0 = rw (first, new) refl in
    let now : flag_at is_shut 0 s.me.0 (does (Shuts from u) s).kept ≡ 1 = rw first refl in
    let mine = at_zeroth t s.kept.shut s.me.0 first other in
    let mine_now = at_zeroth t true s.me.0 first other in
    omega arith
shut_kept t (Finds from u) s other low sure new = let none = not_told is_shutdown tells.Exhaust t s refl in omega arith
shut_kept t (Hears_shutdown from) s other low sure new =
    let h = heard_here (s.me.0 == t.0) s.kept.shut new.1 in
    let was = not_zeroth s.kept.shut s.me.0 new.0 in
    let now = not_zeroth true s.me.0 new.0 in
    omega arith
shut_kept t Shuts_alone s other low sure new = let alone = sure.0 in absurd (omega arith)
shut_kept t _ s other low sure new = omega arith
