-- A rank's Finish letter to a server, or that the server handled it, is as often there as the rank has finished.
use Rattle.std.proofs.Common.{◌≡◌, ◌≤◌, ◌<◌, ℕ, zero, suc, ◌+◌, Bool, true, false, cond, ◌&&◌, List, map, set, get_or, length, refl, sym}
use Rattle.std.proofs.Common.{ap, arith, eqb, inl, inr, ◌⊎◌, ◌≢◌}
use Rattle.std.specs.List.{range_with_len}
use Rattle.std.proofs.lemmas.Bool.{cases_eq, eq-eqb, eqb-true, false_from_ne_true}
use Rattle.std.proofs.lemmas.Bool.Decides.{nat_tests}
use Rattle.std.proofs.lemmas.List.{get_or-set_other, get_or-set_same}
use Rattle.adlb_unit.specs.declared.actors.Actor.TheVariants as by
use Rattle.adlb_unit.specs.declared.configs.Config.{Config}
use Rattle.adlb_unit.specs.declared.messages.Message.{Message}
use Rattle.adlb_unit.specs.declared.messages.Message.TheVariants as tells
use Rattle.adlb_unit.specs.declared.names.Rank.{Rank}
use Rattle.adlb_unit.specs.declared.names.Server.{Server}
use Rattle.rank_client.specs.Rules.{farewell}
use Rattle.rank_client.specs.State.{ClientModel}
use Rattle.rank_client.specs.Step.{Made}
use Rattle.server_law.specs.Acts.{Act, Finds, Notes_finish, Shuts}
use Rattle.server_law.specs.State.{ServerModel}
use Rattle.core_law.specs.Letters.{finish_letter, finishes, is_finish, is_request, one}
use Rattle.core_law.specs.Measures.{ActKeeps, weigh}
use Rattle.core_law.proofs.Kept.{IsLaw, RankKeeps}
use Rattle.core_law.proofs.OwnStates.{IsFirst}
use Rattle.core_law.proofs.RankShapes.{Began, Heard, It_asks, It_leaves, It_rests, Then}
use Rattle.core_law.proofs.Sums.{others_none}

-- a request is no Finish
request_no_finish : (m : Message) → is_request m ≡ true → is_finish m ≡ false
request_no_finish tells.Finish e = absurd (cc)
request_no_finish _ e = refl

-- A server.

-- one more is handled, where it was not before
noted : (finished : List Bool) (from rank : ℕ) → from < length finished → get_or finished from false ≡ false
    → one (eqb from rank) + one (get_or finished rank false) ≡ one (get_or (set finished from true) rank false)
noted finished from rank inside fresh = by_rank (cases_eq rank from)
  where
    by_rank : (rank ≡ from) ⊎ (rank ≢ from)
        → one (eqb from rank) + one (get_or finished rank false) ≡ one (get_or (set finished from true) rank false)
    by_rank (inl same) = rw (same, eq-eqb from from refl, fresh, get_or-set_same finished from true false inside) (omega arith)
    by_rank (inr other) =
        let differs : eqb from rank ≡ false = false_from_ne_true (eqb from rank) (λ e. other (sym (eqb-true from rank e))) in
        rw (differs, get_or-set_other finished from rank true false other) (omega arith)

-- the letter is handled at this server, or at another
handled : (here a : Bool) (now was : ℕ) → one a + was ≡ now → one (a && here) + 0 + cond here was 0 + 0 ≡ 0 + cond here now 0 + 0
handled true true now was e = omega arith
handled true false now was e = omega arith
handled false true now was e = refl
handled false false now was e = refl

-- each act keeps the count of a rank's Finish letters
pub finish_act : (config : Config) (rank : Rank) (server : Server) (a : Act) (s : ServerModel) → IsFirst config a s
    → ActKeeps (finishes rank server) a s
finish_act config rank server (Notes_finish from) s first =
    handled (eqb s.me.0 server.0) (eqb from.0 rank.0) (one (get_or (set s.kept.finished from.0 true) rank.0 false))
    (one (get_or s.kept.finished rank.0 false))
    (noted s.kept.finished from.0 rank.0 first.1 first.0)
finish_act config rank server (Finds from t) s first =
    let none = others_none (finish_letter rank server) s.me s tells.Exhaust (λ to. refl) in omega arith
finish_act config rank server (Shuts from t) s first =
    let none = others_none (finish_letter rank server) s.me s tells.Shutdown (λ to. refl) in omega arith
finish_act config rank server _ s first = refl

-- A rank.

heard : (config : Config) (rank : Rank) (server : Server) (me : Rank) (s : ClientModel) (from : Server) (m : Message) (x : Made)
    → Heard config me s m x → Then s x → RankKeeps (finishes rank server) me s 0 x
heard config rank server me s from m x h (It_rests r) = rw (r.sends, h.going, h.stays) (omega arith)
heard config rank server me s from m x h (It_asks a) =
    rw (a.sends, h.going, h.stays, request_no_finish a.letter.message a.request) (omega arith)
heard config rank server me s from m x h (It_leaves l) = absurd (cc (l.finished, h.stays))

-- one Finish goes to each server
with_true : (a b : Bool) → b ≡ true → one (a && b) ≡ one a
with_true true b e = rw e refl
with_true false b e = refl

with_false : (a b : Bool) → b ≡ false → one (a && b) ≡ 0
with_false true b e = rw e refl
with_false false b e = refl

abbrev farewells_weigh : Rank → Server → Rank → ℕ → ℕ → ℕ
farewells_weigh rank server me from n =
    weigh (λ y. finish_letter rank server (by.Rank me) (by.Server y.to) y.message) (map farewell (range_with_len from n))

none_before : (rank me : Rank) (server : Server) (from n : ℕ) → server.0 < from → farewells_weigh rank server me from n ≡ 0
none_before rank me server from zero l = refl
none_before rank me server from (suc n) l =
    let later = none_before rank me server (from + 1) n (omega arith) in
    let no : eqb from server.0 ≡ false = grind (arith, nat_tests) in
    let z = with_false (eqb me.0 rank.0) (eqb from server.0) no in
    omega arith

one_each : (rank me : Rank) (server : Server) (from n : ℕ) → from ≤ server.0 → server.0 < from + n
    → farewells_weigh rank server me from n ≡ one (eqb me.0 rank.0)
one_each rank me server from zero a b = absurd (omega arith)
one_each rank me server from (suc n) a b = elim (cases_eq from server.0) [
  | inl same ↦
      let later = none_before rank me server (from + 1) n (omega arith) in
      let z = with_true (eqb me.0 rank.0) (eqb from server.0) (eq-eqb from server.0 same) in
      omega arith
  | inr differs ↦
      let later = one_each rank me server (from + 1) n (omega arith) (omega arith) in
      let no : eqb from server.0 ≡ false = false_from_ne_true (eqb from server.0) (λ e. differs (eqb-true from server.0 e)) in
      let z = with_false (eqb me.0 rank.0) (eqb from server.0) no in
      omega arith
]

done : (b : Bool) → cond {A = ℕ} b 1 0 ≡ one b + cond {A = ℕ} b 0 0
done true = refl
done false = refl

begun : (config : Config) (rank : Rank) (server : Server) → server.0 < config.servers → (me : Rank) (s : ClientModel) (x : Made)
    → Began config me s x → Then s x → RankKeeps (finishes rank server) me s 0 x
begun config rank server there me s x b (It_rests r) = rw (b.going, r.sends, r.finished) refl
begun config rank server there me s x b (It_asks a) =
    rw (b.going, a.sends, a.finished, request_no_finish a.letter.message a.request) (omega arith)
begun config rank server there me s x b (It_leaves l) =
    let run = ap (λ (c : Config). c.servers) b.config in
    let each = one_each rank me server 0 s.config.servers (omega arith) (omega arith) in
    let sends = l.weight (finish_letter rank server (by.Rank me)) in
    let even = done (eqb me.0 rank.0) in
    rw (b.going, l.finished) (omega arith)

-- the count of a rank's Finish letters is a law of runs
pub finishes_law : (config : Config) (rank : Rank) (server : Server) → server.0 < config.servers → IsLaw config (finishes rank server)
finishes_law config rank server there = record { heard = heard config rank server; begun = begun config rank server there }
