-- Letters of a rank's calls through each act of a server and each step of a rank, and the kinds of all letters through each step of a
-- rank.
use Rattle.std.proofs.Common.{◌≡◌, ℕ, ◌+◌, Bool, true, false, cond, ◌&&◌, List, [], ◌∷◌, map, refl, arith, eqb}
use Rattle.std.specs.List.{range_with_len}
use Rattle.adlb_unit.specs.declared.actors.Actor.{Actor}
use Rattle.adlb_unit.specs.declared.actors.Actor.TheVariants as by
use Rattle.adlb_unit.specs.declared.configs.Config.{Config}
use Rattle.adlb_unit.specs.declared.messages.Message.{Message}
use Rattle.adlb_unit.specs.declared.messages.Message.TheVariants as tells
use Rattle.adlb_unit.specs.declared.names.Rank.{Rank}
use Rattle.adlb_unit.specs.declared.names.Server.{Server}
use Rattle.rank_client.specs.Rules.{farewell}
use Rattle.rank_client.specs.State.{ClientModel}
use Rattle.rank_client.specs.Step.{Made}
use Rattle.server_law.specs.Acts.{Act, Finds, Shuts}
use Rattle.server_law.specs.State.{ServerModel}
use Rattle.core_run.specs.World.{server_named}
use Rattle.core_law.specs.Letters.{any_remote, any_remote_letter, call_letter, kinds, misfit, numbered, numbered_letter, one, one_letter}
use Rattle.core_law.specs.Letters.{remotes, remotes_letter}
use Rattle.core_law.specs.Measures.{IsEven, weigh, weights}
use Rattle.core_law.proofs.Kept.{IsLaw, RankKeeps}
use Rattle.core_law.proofs.RankShapes.{Began, Heard, It_asks, It_leaves, It_rests, Then}
use Rattle.core_law.proofs.Sums.{others_none, weigh-map_none}

-- A server.

-- each act takes and says as many letters of a rank's call as it changes who waits
pub calls_even : (rank : Rank) (a : Act) (s : ServerModel) → IsEven (one_letter rank) a s
calls_even rank (Finds from t) s = let none = others_none (call_letter rank) s.me s tells.Exhaust (λ to. refl) in omega arith
calls_even rank (Shuts from t) s = let none = others_none (call_letter rank) s.me s tells.Shutdown (λ to. refl) in omega arith
calls_even rank _ s = omega arith

-- so it is of letters with the number of the call
pub numbers_even : (rank : Rank) (next : ℕ) (a : Act) (s : ServerModel) → IsEven (numbered rank next) a s
numbers_even rank next (Finds from t) s =
    let none = others_none (numbered_letter rank next) s.me s tells.Exhaust (λ to. refl) in omega arith
numbers_even rank next (Shuts from t) s =
    let none = others_none (numbered_letter rank next) s.me s tells.Shutdown (λ to. refl) in omega arith
numbers_even rank next _ s = omega arith

-- so it is of letters between a home and another server about a rank
pub remotes_even : (home asked : Server) (rank : Rank) (request : ℕ) (a : Act) (s : ServerModel)
    → IsEven (remotes home asked rank request) a s
remotes_even home asked rank request (Finds from t) s =
    let none = others_none (remotes_letter home asked rank request) s.me s tells.Exhaust (λ to. refl) in omega arith
remotes_even home asked rank request (Shuts from t) s =
    let none = others_none (remotes_letter home asked rank request) s.me s tells.Shutdown (λ to. refl) in omega arith
remotes_even home asked rank request _ s = omega arith

-- so it is of all letters between servers about a rank
pub any_even : (rank : Rank) (a : Act) (s : ServerModel) → IsEven (any_remote rank) a s
any_even rank (Finds from t) s = let none = others_none (any_remote_letter rank) s.me s tells.Exhaust (λ to. refl) in omega arith
any_even rank (Shuts from t) s = let none = others_none (any_remote_letter rank) s.me s tells.Shutdown (λ to. refl) in omega arith
any_even rank _ s = omega arith

-- A rank. Finish is no letter of a call.

none_each : (f : Actor → Message → ℕ) (from n : ℕ) → ((to : Server) → f (by.Server to) tells.Finish ≡ 0)
    → weigh (λ y. f (by.Server y.to) y.message) (map farewell (range_with_len from n)) ≡ 0
none_each f from n none = weigh-map_none (λ y. f (by.Server y.to) y.message) farewell (range_with_len from n) (λ to. none (server_named to))

-- Kinds.

kinds_heard : (config : Config) (me : Rank) (s : ClientModel) (from : Server) (m : Message) (x : Made) → Heard config me s m x → Then s x
    → RankKeeps (kinds config) me s (misfit config (by.Server from) (by.Rank me) m) x
kinds_heard config me s from m x h (It_rests r) = rw (r.sends, h.kind) refl
kinds_heard config me s from m x h (It_asks a) = rw (a.sends, h.kind, a.request) refl
kinds_heard config me s from m x h (It_leaves l) = absurd (cc (l.finished, h.stays))

kinds_begun : (config : Config) (me : Rank) (s : ClientModel) (x : Made) → Began config me s x → Then s x
    → RankKeeps (kinds config) me s 0 x
kinds_begun config me s x b (It_rests r) = rw r.sends refl
kinds_begun config me s x b (It_asks a) = rw (a.sends, a.request) refl
kinds_begun config me s x b (It_leaves l) =
    let none = none_each (misfit config (by.Rank me)) 0 s.config.servers (λ to. refl) in
    let sends = l.weight (misfit config (by.Rank me)) in
    omega arith

-- each step of a rank keeps that letters are of kinds that go there
pub kinds_law : (config : Config) → IsLaw config (kinds config)
kinds_law config = record { heard = kinds_heard config; begun = kinds_begun config }

-- Of one call: the last letter, one before the last, and the first.

at_end : (t n : Bool) → one (t && n) + 0 + cond {A = ℕ} t 0 0 ≡ 0 + 0 + cond t (one n) 0
at_end true true = refl
at_end true false = refl
at_end false n = refl

at_next : (t n : Bool) → one (t && n) + 0 + cond t (one n) 0 ≡ one (t && n) + 0 + 0 + cond t (one n) 0
at_next true true = refl
at_next true false = refl
at_next false n = refl

at_first : (t n : Bool) → 0 + cond t (one n) 0 ≡ one (t && n) + 0 + 0 + cond {A = ℕ} t 0 0
at_first true true = refl
at_first true false = refl
at_first false n = refl

alone : (t : Bool) → (t && true) ≡ t
alone true = refl
alone false = refl

call_heard : (config : Config) (rank me : Rank) (s : ClientModel) (from : Server) (m : Message) (x : Made) → Heard config me s m x
    → Then s x → RankKeeps (weights (one_letter rank)) me s (call_letter rank (by.Server from) (by.Rank me) m) x
call_heard config rank me s from m x h (It_rests r) =
    let even = at_end (eqb me.0 rank.0) true in rw (h.busy, r.sends, r.pending) (rw (alone (eqb me.0 rank.0)) at even)
call_heard config rank me s from m x h (It_asks a) =
    let even = at_next (eqb me.0 rank.0) true in rw (h.busy, a.sends, a.request, a.busy) (rw (alone (eqb me.0 rank.0)) at even)
call_heard config rank me s from m x h (It_leaves l) = absurd (cc (l.finished, h.stays))

call_begun : (config : Config) (rank me : Rank) (s : ClientModel) (x : Made) → Began config me s x → Then s x
    → RankKeeps (weights (one_letter rank)) me s 0 x
call_begun config rank me s x b (It_rests r) = rw (b.free, r.sends, r.pending) refl
call_begun config rank me s x b (It_asks a) =
    let even = at_first (eqb me.0 rank.0) true in rw (b.free, a.sends, a.request, a.busy) (rw (alone (eqb me.0 rank.0)) at even)
call_begun config rank me s x b (It_leaves l) =
    let none = none_each (call_letter rank (by.Rank me)) 0 s.config.servers (λ to. refl) in
    let sends = l.weight (call_letter rank (by.Rank me)) in
    rw (b.free, l.pending) (omega arith)

-- each step of a rank keeps that its pending call has one letter
pub one_letter_law : (config : Config) (rank : Rank) → IsLaw config (weights (one_letter rank))
one_letter_law config rank = record { heard = call_heard config rank; begun = call_begun config rank }

-- By its number.

number_heard : (config : Config) (rank : Rank) (next : ℕ) (me : Rank) (s : ClientModel) (from : Server) (m : Message) (x : Made)
    → Heard config me s m x → Then s x
    → RankKeeps (weights (numbered rank next)) me s (numbered_letter rank next (by.Server from) (by.Rank me) m) x
number_heard config rank next me s from m x h (It_rests r) =
    rw (h.busy, r.sends, r.pending, h.number) (at_end (eqb me.0 rank.0) (eqb s.next next))
number_heard config rank next me s from m x h (It_asks a) =
    rw (h.busy, a.sends, a.request, a.busy, h.number, a.number, h.next) (at_next (eqb me.0 rank.0) (eqb s.next next))
number_heard config rank next me s from m x h (It_leaves l) = absurd (cc (l.finished, h.stays))

number_begun : (config : Config) (rank : Rank) (next : ℕ) (me : Rank) (s : ClientModel) (x : Made) → Began config me s x → Then s x
    → RankKeeps (weights (numbered rank next)) me s 0 x
number_begun config rank next me s x b (It_rests r) = rw (b.free, r.sends, r.pending) refl
number_begun config rank next me s x b (It_asks a) =
    rw (b.free, a.sends, a.request, a.busy, a.number) (at_first (eqb me.0 rank.0) (eqb x.state.next next))
number_begun config rank next me s x b (It_leaves l) =
    let none = none_each (numbered_letter rank next (by.Rank me)) 0 s.config.servers (λ to. refl) in
    let sends = l.weight (numbered_letter rank next (by.Rank me)) in
    rw (b.free, l.pending) (omega arith)

-- and with the number of the call
pub numbered_law : (config : Config) (rank : Rank) (next : ℕ) → IsLaw config (weights (numbered rank next))
numbered_law config rank next = record { heard = number_heard config rank next; begun = number_begun config rank next }

-- Remote letters: a rank neither hears nor sends one.

-- where each element weighs 0, a list does
pub weighs_none : {X : Type 0} (xs : List X) → weigh (λ (x : X). 0) xs ≡ 0
weighs_none [] = refl
weighs_none (x ∷ xs) = let later = weighs_none xs in omega arith

-- each step of a rank leaves letters between servers
pub remotes_law : (config : Config) (home asked : Server) (rank : Rank) (request : ℕ)
    → IsLaw config (weights (remotes home asked rank request))
remotes_law config home asked rank request = record {
  heard = λ me s from m x h after. let none = weighs_none x.sends in omega arith;
  begun = λ me s x b after. let none = weighs_none x.sends in omega arith;
}

-- and all of them about a rank
pub any_law : (config : Config) (rank : Rank) → IsLaw config (weights (any_remote rank))
any_law config rank = record {
  heard = λ me s from m x h after. let none = weighs_none x.sends in omega arith;
  begun = λ me s x b after. let none = weighs_none x.sends in omega arith;
}
