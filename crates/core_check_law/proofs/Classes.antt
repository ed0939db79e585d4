-- What acts of one class leave as it is, and each server after an act.
use Rattle.std.proofs.Common.{◌≡◌, ◌≢◌, ◌<◌, ◌⊎◌, inl, inr, ℕ, Bool, true, false, length, refl, ap, ◌∙◌, arith, eqb}
use Rattle.std.proofs.lemmas.Bool.{cases_eq}
use Rattle.adlb_unit.specs.declared.actors.Actor.TheVariants as by
use Rattle.adlb_unit.specs.declared.messages.Message.TheVariants as tells
use Rattle.adlb_unit.specs.declared.names.Server.{Server}
use Rattle.adlb_unit.specs.declared.tokens.Token.{Token}
use Rattle.exhaust_ring.specs.Ring.{Ring}
use Rattle.server_law.specs.Acts.{Accepts, Acks, Act, Answers, Asks_on, Cancels, Checks_alone, Closes, Counts, Declines, Ends_keep}
use Rattle.server_law.specs.Acts.{Ends_put, Ends_reserve, Ends_try, Fails, Fetches, Fetches_part, Finds, Finds_alone, Gives, Gives_up}
use Rattle.server_law.specs.Acts.{Grants, Grants_try, Hears_done, Hears_failed, Hears_shutdown, Hints, Keeps, Looks, Marks, Notes_own}
use Rattle.server_law.specs.Acts.{Notices, Passes, Passes_on, Promises, Queries, Refuses, Refuses_part, Refuses_push, Sends_unit}
use Rattle.server_law.specs.Acts.{ServerSaying, Shuts, Shuts_alone, Starts, Tells, Wants, Withdraws, does, finished_after, ring_after, says}
use Rattle.server_law.specs.Acts.{tested_in, turned, turns, waiting_after}
use Rattle.server_law.specs.Carried.{done}
use Rattle.server_law.specs.State.{ServerModel}
use Rattle.core_run.specs.World.{World, pool_of, server_named}
use Rattle.core_law.specs.Acting.{acted}
use Rattle.core_law.specs.OnLinks.{Each}
use Rattle.core_law.specs.Well.{IsShaped}
use Rattle.core_law.proofs.Actors.{pool_beside, pool_there}
use Rattle.core_law.proofs.Acts.{counted_kept, counted_own, others_told}
use Rattle.core_law.proofs.OwnStates.{counted_activity}
use Rattle.core_check_law.specs.OnWay.{OnToken}
use Rattle.core_check_law.proofs.LoudActs.{is_loud}

-- Classes.

-- the whole check of a server that is alone
abbrev pub is_alone : Act → Bool
is_alone Finds_alone = true
is_alone Shuts_alone = true
is_alone Checks_alone = true
is_alone _ = false

-- a mark is taken
abbrev pub marks_new : Act → Bool
marks_new Starts = true
marks_new (Marks from t) = true
marks_new Finds_alone = true
marks_new Shuts_alone = true
marks_new Checks_alone = true
marks_new _ = false

-- a token is sent
abbrev pub says_token : Act → Bool
says_token Starts = true
says_token (Marks from t) = true
says_token (Passes from t) = true
says_token _ = false

-- of a token, and of the end of a check
abbrev pub is_turn : Act → Bool
is_turn Starts = true
is_turn (Marks from t) = true
is_turn (Passes from t) = true
is_turn (Fails from t why) = true
is_turn (Gives_up from t) = true
is_turn (Hears_failed from t why) = true
is_turn (Finds from t) = true
is_turn (Shuts from t) = true
is_turn _ = false

-- where no mark is taken, the marks are as they were
pub record IsRingAsWas (before after : Ring) : Type 0 where
  pub number : after.number ≡ before.number
  pub mark : after.mark ≡ before.mark
  pub check : after.check ≡ before.check

ring_same : (r : Ring) → IsRingAsWas r r
ring_same r = record { number = refl; mark = refl; check = refl }

tested_ring : (wave : ℕ) (r : Ring) → IsRingAsWas r (tested_in wave r)
tested_ring wave r = by_test (eqb wave 2) refl
  where
    by_test : (t : Bool) → eqb wave 2 ≡ t → IsRingAsWas r (tested_in wave r)
    by_test true is = rw is (record { number = refl; mark = refl; check = refl })
    by_test false is = rw is (ring_same r)

-- an act that takes no new mark leaves the ring as it was
pub ring_of : (a : Act) (s : ServerModel) → marks_new a ≡ false → IsRingAsWas s.kept.ring (ring_after a s)
ring_of Starts s old = absurd (cc)
ring_of (Marks from t) s old = absurd (cc)
ring_of Finds_alone s old = absurd (cc)
ring_of Shuts_alone s old = absurd (cc)
ring_of Checks_alone s old = absurd (cc)
ring_of (Fails from t why) s old = tested_ring t.wave s.kept.ring
ring_of _ s old = record { number = refl; mark = refl; check = refl }

-- an act of the ring leaves who waits, who has finished and the push
pub record IsParkedAsWas (a : Act) (s : ServerModel) : Type 0 where
  pub waiting : waiting_after a s ≡ s.kept.parked.waiting
  pub finished : finished_after a s.kept.finished ≡ s.kept.finished
  pub push : turned (turns a) s.kept.pushing.push ≡ s.kept.pushing.push

-- an act that changes neither what is free nor who waits leaves those who wait
pub parked_of : (a : Act) (s : ServerModel) → is_loud a ≡ false → IsParkedAsWas a s
parked_of Notices s quiet = record { waiting = refl; finished = refl; push = refl }
parked_of Notes_own s quiet = record { waiting = refl; finished = refl; push = refl }
parked_of (Wants from) s quiet = record { waiting = refl; finished = refl; push = refl }
parked_of Starts s quiet = record { waiting = refl; finished = refl; push = refl }
parked_of (Marks from t) s quiet = record { waiting = refl; finished = refl; push = refl }
parked_of (Passes from t) s quiet = record { waiting = refl; finished = refl; push = refl }
parked_of (Fails from t why) s quiet = record { waiting = refl; finished = refl; push = refl }
parked_of (Gives_up from t) s quiet = record { waiting = refl; finished = refl; push = refl }
parked_of (Hears_failed from t why) s quiet = record { waiting = refl; finished = refl; push = refl }
parked_of (Finds from t) s quiet = record { waiting = refl; finished = refl; push = refl }
parked_of (Shuts from t) s quiet = record { waiting = refl; finished = refl; push = refl }
parked_of (Hears_shutdown from) s quiet = record { waiting = refl; finished = refl; push = refl }
parked_of Finds_alone s quiet = record { waiting = refl; finished = refl; push = refl }
parked_of Shuts_alone s quiet = record { waiting = refl; finished = refl; push = refl }
parked_of Checks_alone s quiet = record { waiting = refl; finished = refl; push = refl }
parked_of _ s quiet = absurd (cc)

-- What an act says that sends no token.
abbrev pub SaysNone : (Server → Token → Type 0) → Server → Act → ServerModel → Type 0
SaysNone P k a s = Each (λ (y : ServerSaying). OnToken P (by.Server k) y.to y.message) (says a s)

-- an act that says no token has nothing of which this has to hold
pub said_none : (P : Server → Token → Type 0) (k : Server) (a : Act) (s : ServerModel) → says_token a ≡ false → SaysNone P k a s
said_none P k (Accepts unit) s silent = (tt, tt)
said_none P k (Refuses unit) s silent = (tt, tt)
said_none P k (Ends_put unit end) s silent = (tt, tt)
said_none P k (Grants wish unit) s silent = (tt, tt)
said_none P k (Ends_reserve wish end) s silent = (tt, tt)
said_none P k (Grants_try wish unit) s silent = (tt, tt)
said_none P k (Ends_try wish end) s silent = (tt, tt)
said_none P k (Looks wish) s silent = (tt, tt)
said_none P k (Fetches rank request id unit) s silent = (tt, tt)
said_none P k (Counts rank request kind) s silent = (tt, tt)
said_none P k (Keeps rank request common) s silent = (tt, tt)
said_none P k (Refuses_part rank request common) s silent = (tt, tt)
said_none P k (Ends_keep rank request common end) s silent = (tt, tt)
said_none P k (Closes request batch accepted part) s silent = (tt, tt)
said_none P k (Fetches_part rank request batch part) s silent = (tt, tt)
said_none P k (Gives at wish rest unit) s silent = (tt, tt)
said_none P k (Tells at wish rest end) s silent = (tt, tt)
said_none P k (Asks_on at wish to rest) s silent = (tt, tt)
said_none P k (Passes_on at wish from rest note) s silent = (tt, tt)
said_none P k (Answers from wish unit) s silent = (tt, tt)
said_none P k (Declines from wish) s silent = (tt, tt)
said_none P k (Hints wish) s silent = (tt, tt)
said_none P k (Queries to id length) s silent = (tt, tt)
said_none P k (Promises from id length) s silent = (tt, tt)
said_none P k (Refuses_push from id length) s silent = (tt, tt)
said_none P k (Sends_unit to length unit) s silent = (tt, tt)
said_none P k (Cancels to id length) s silent = (tt, tt)
said_none P k (Acks to id) s silent = (tt, tt)
said_none P k (Withdraws from id) s silent = (tt, tt)
said_none P k (Hears_done rank request) s silent = (tt, tt)
said_none P k Notices s silent = (tt, tt)
said_none P k Starts s silent = absurd (cc)
said_none P k (Marks from t) s silent = absurd (cc)
said_none P k (Passes from t) s silent = absurd (cc)
said_none P k (Fails from t why) s silent = (tt, tt)
said_none P k (Finds from t) s silent = others_told (λ to m. OnToken P (by.Server k) to m) s tells.Exhaust (λ to. tt)
said_none P k (Shuts from t) s silent = others_told (λ to m. OnToken P (by.Server k) to m) s tells.Shutdown (λ to. tt)
said_none P k _ s silent = tt

-- Servers after an act: the one that acts, and another.

-- the server whose act it is, before and after
pub record IsMine (w : World) (k : Server) (a : Act) (t : Server) : Type 0 where
  pub same : t ≡ k
  pub kept : (pool_of (acted w k a) t).kept ≡ (does a (pool_of w k)).kept
  pub activity : (pool_of (acted w k a) t).activity ≡ (pool_of w k).activity
  pub config : (pool_of (acted w k a) t).config ≡ (pool_of w k).config
  pub me : (pool_of (acted w k a) t).me ≡ (pool_of w k).me

-- another server, which the act leaves as it is
pub record IsOthers (w : World) (k : Server) (a : Act) (t : Server) : Type 0 where
  pub differs : t.0 ≢ k.0
  pub pool : pool_of (acted w k a) t ≡ pool_of w t
  pub kept : (pool_of (acted w k a) t).kept ≡ (pool_of w t).kept
  pub activity : (pool_of (acted w k a) t).activity ≡ (pool_of w t).activity

-- each server is the one whose act it is, or is left as it is
pub now : (w : World) (k : Server) (a : Act) → IsShaped w → k.0 < w.config.servers → (t : Server) → t.0 < w.config.servers
    → IsMine w k a t ⊎ IsOthers w k a t
now w k a shape here t there = by_place (cases_eq t.0 k.0)
  where
    s : ServerModel
    s = pool_of w k

    inside : k.0 < length w.servers
    inside = let e = shape.servers in omega arith

    by_place : (t.0 ≡ k.0) ⊎ (t.0 ≢ k.0) → IsMine w k a t ⊎ IsOthers w k a t
    by_place (inl e) =
        let same : t ≡ k = ap server_named e in
        let pool : pool_of (acted w k a) t ≡ done a s = ap (pool_of (acted w k a)) same ∙ pool_there w k (done a s) inside in
        inl (record {
          same = same;
          kept = ap (λ (x : ServerModel). x.kept) pool ∙ counted_kept (does a s) (says a s);
          activity = ap (λ (x : ServerModel). x.activity) pool ∙ counted_activity (does a s) (says a s);
          config = ap (λ (x : ServerModel). x.config) pool ∙ (counted_own (does a s) (says a s)).0;
          me = ap (λ (x : ServerModel). x.me) pool ∙ (counted_own (does a s) (says a s)).1;
        })
    by_place (inr differs) =
        let pool = pool_beside w k t (done a s) differs in
        inr (record {
          differs = differs;
          pool = pool;
          kept = ap (λ (x : ServerModel). x.kept) pool;
          activity = ap (λ (x : ServerModel). x.activity) pool;
        })
