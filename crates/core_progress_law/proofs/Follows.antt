-- An act that takes no letter says news, or is server 0's wish for a check, or starts one: whatever it finds, the run goes on.
use Rattle.adlb_unit.specs.declared.actors.Actor.{Actor}
use Rattle.adlb_unit.specs.declared.configs.Config.{Config}
use Rattle.adlb_unit.specs.declared.messages.Message.{Message}
use Rattle.adlb_unit.specs.declared.names.Server.{Server}
use Rattle.core_check_law.proofs.Classes.{IsMine, IsOthers, now}
use Rattle.core_check_law.proofs.Tokens.{token_count}
use Rattle.core_check_law.specs.OnWay.{IsRinged, IsUnchanged, last_check}
use Rattle.core_check_law.specs.Tokens.{tokens}
use Rattle.core_law.proofs.OnLinks.{links_next}
use Rattle.core_law.proofs.OwedByRanks.{no_sum}
use Rattle.core_law.proofs.Sums.{links_le}
use Rattle.core_law.proofs.LettersAndActors.{own_of}
use Rattle.core_law.specs.Acting.{IsAct, acted}
use Rattle.core_law.specs.Letters.{one}
use Rattle.core_law.specs.Measures.{heard_weight, links_weight, measure, said_weight}
use Rattle.core_law.specs.Well.{IsWell}
use Rattle.core_wish_law.specs.News.{news}
use Rattle.core_progress_law.specs.Going.{Goes, IsTurning, failures}
use Rattle.core_run.specs.World.{World, pool_of, server_named}
use Rattle.server_law.specs.Acts.{Acks, Act, Asks_on, Checks_alone, Finds_alone, Gives, Hints, Notes_own, Notices, Queries, Shuts_alone}
use Rattle.server_law.specs.Acts.{Starts, Tells, does, says, takes, zeroth}
use Rattle.server_law.specs.State.{Kept, ServerModel}
use Rattle.std.proofs.Common.{[], ap, arith, false, inl, inr, length, refl, sym, true, ◌+◌, ◌<◌, ◌∙◌, ◌≡◌, ◌≢◌, ◌≤◌, ◌⊎◌}
use Rattle.adlb_unit.specs.declared.actors.Actor.TheVariants as by
use Rattle.adlb_unit.specs.declared.messages.Message.TheVariants as tells

-- Sums.

-- what an act makes of the news
pub news_next : (w : World) (me : Server) (a : Act) → IsWell w → IsAct w me a
    → measure news (acted w me a) + heard_weight news.letter me (takes a)
    ≡ measure news w + said_weight news.letter me (says a (pool_of w me))
unfolding measure
news_next w me a well is =
    let next = links_next news w me a well.shape is (own_of w me a well is) in
    let before = no_sum w.servers in
    let after = no_sum (acted w me a).servers in
    omega arith

-- failed tests that are under way after an act
pub failures_next : (w : World) (me : Server) (a : Act) → IsWell w → IsAct w me a
    → links_weight w.config failures (acted w me a).links + heard_weight failures.letter me (takes a)
    ≡ links_weight w.config failures w.links + said_weight failures.letter me (says a (pool_of w me))
failures_next w me a well is = links_next failures w me a well.shape is (own_of w me a well is)

-- Server 0.

-- server 0 is the one of number 0
pub zero_is : (w : World) (me : Server) (a : Act) → IsWell w → IsAct w me a → (pool_of w me).me.0 ≡ 0 → me ≡ zeroth
zero_is w me a well is e = ap server_named (ap (λ (k : Server). k.0) (sym (own_of w me a well is).named) ∙ e)

-- server 0 is there
pub zero_there : (w : World) → 0 < w.config.servers
zero_there w = let few = w.config.servers_within.0 in omega arith

-- the acting server, where it is server 0
pub zero_kept : (w : World) (me : Server) (a : Act) → IsWell w → IsAct w me a → me ≡ zeroth
    → (pool_of (acted w me a) zeroth).kept ≡ (does a (pool_of w me)).kept
zero_kept w me a well is e = by_now (now w me a well.shape is.here zeroth (zero_there w))
  where
    by_now : IsMine w me a zeroth ⊎ IsOthers w me a zeroth → (pool_of (acted w me a) zeroth).kept ≡ (does a (pool_of w me)).kept
    by_now (inl mine) = mine.kept
    by_now (inr other) = absurd (other.differs (ap (λ (k : Server). k.0) (sym e)))

module _ (w : World) (me : Server) (well : IsWell w) (ring : IsRinged w) (several : w.config.servers ≢ 1) where
  abbrev s : ServerModel
  s = pool_of w me

  said_live : (a : Act) → IsAct w me a → takes a ≡ [] → said_weight news.letter me (says a s) ≡ 1 → Goes (acted w me a)
  said_live a is none said =
      let next = news_next w me a well is in
      let nothing : heard_weight news.letter me (takes a) ≡ 0 = ap (heard_weight news.letter me) none in
      inl (inl (omega arith))

  not_alone : (a : Act) → IsAct w me a → s.config.servers ≡ 1 → Goes (acted w me a)
  not_alone a is one = absurd (several (ap (λ (c : Config). c.servers) (sym (own_of w me a well is).config) ∙ one))

  wants_live : (a : Act) → IsAct w me a → s.me.0 ≡ 0 → (does a s).kept.ring.wanted ≡ true → Goes (acted w me a)
  wants_live a is zero_here wanted =
      let kept = zero_kept w me a well is (zero_is w me a well is zero_here) in
      inl (inr (inr (ap (λ (k : Kept). k.ring.wanted) kept ∙ wanted)))

  -- a check starts: no other server has its mark
  starts_turning : IsAct w me Starts → s.me.0 ≡ 0 → links_weight w.config failures w.links ≡ 0 → IsTurning (acted w me Starts)
  starts_turning is zero_here none =
      let same = zero_is w me Starts well is zero_here in
      let kept = zero_kept w me Starts well is same in
      let check : last_check (acted w me Starts) ≡ s.kept.ring.check + 1 = ap (λ (k : Kept). k.ring.check) kept in
      let was : last_check w ≡ s.kept.ring.check = ap (λ (k : Server). (pool_of w k).kept.ring.check) (sym same) in
      record {
        runs = ap (λ (k : Kept). k.ring.runs) kept;
        none = let next = failures_next w me Starts well is in omega arith;
        same = λ t there number. by_now t there number check was (now w me Starts well.shape is.here t there);
      }
    where
      by_now : (t : Server) → t.0 < w.config.servers → (pool_of (acted w me Starts) t).kept.ring.number ≡ last_check (acted w me Starts)
          → last_check (acted w me Starts) ≡ s.kept.ring.check + 1 → last_check w ≡ s.kept.ring.check
          → IsMine w me Starts t ⊎ IsOthers w me Starts t → IsUnchanged (pool_of (acted w me Starts) t)
      by_now t there number check was (inl mine) = mine.activity ∙ sym (ap (λ (k : Kept). k.ring.mark) mine.kept)
      by_now t there number check was (inr other) =
          let low = ring.numbered.numbers t there in
          let its : (pool_of (acted w me Starts) t).kept.ring.number ≡ (pool_of w t).kept.ring.number = ap
          (λ (k : Kept). k.ring.number) other.kept in
          absurd (omega arith)

  -- where no check runs no test of one has failed
  no_failure : (pool_of w zeroth).kept.ring.runs ≡ false → links_weight w.config failures w.links ≡ 0
  no_failure off =
      let all = token_count w well.shape (zero_there w) ring.tokens in
      let few = links_le w.config failures tokens w.links failed_less in
      let none : one (pool_of w zeroth).kept.ring.runs ≡ 0 = ap one off in
      omega arith
    where
      failed_less : (from to : Actor) (m : Message) → failures.letter from to m ≤ tokens.letter from to m
      failed_less (by.Rank from) to m = omega arith
      failed_less (by.Server from) (by.Rank to) m = omega arith
      failed_less (by.Server from) (by.Server to) (tells.Token t) = omega arith
      failed_less (by.Server from) (by.Server to) (tells.Failed t why) = omega arith
      failed_less (by.Server from) (by.Server to) _ = omega arith

  -- an act that takes no letter leaves the run going on
  pub follow_goes : (a : Act) → IsAct w me a → takes a ≡ [] → Goes (acted w me a)
  follow_goes (Gives at wish rest unit) is none = said_live _ is none refl
  follow_goes (Tells at wish rest end) is none = said_live _ is none refl
  follow_goes (Asks_on at wish to rest) is none = said_live _ is none refl
  follow_goes (Hints wish) is none = said_live _ is none refl
  follow_goes (Queries to id length) is none = said_live _ is none refl
  follow_goes (Acks to id) is none = said_live _ is none refl
  follow_goes Notices is none = said_live _ is none refl
  follow_goes Notes_own is none = wants_live Notes_own is is.sure.0 refl
  follow_goes Starts is none =
      let may = is.sure.0 in
      let same = zero_is w me Starts well is may.zeroth in
      let off : (pool_of w zeroth).kept.ring.runs ≡ false = ap (λ (k : Server). (pool_of w k).kept.ring.runs) (sym same) ∙ may.alone in
      inr (starts_turning is may.zeroth (no_failure off))
  follow_goes Finds_alone is none = not_alone Finds_alone is is.sure.alone
  follow_goes Shuts_alone is none = not_alone Shuts_alone is is.sure.0
  follow_goes Checks_alone is none = not_alone Checks_alone is is.sure
  follow_goes _ is none = absurd (cc)
