-- The stamp of an event keeps what tokens say. Where it raises the activity the server is stirred, and stays so through its acts.
use Rattle.std.proofs.Common.{◌≡◌, ◌≢◌, ◌<◌, ◌≤◌, ◌⊎◌, inl, inr, ℕ, ◌+◌, Bool, true, false, filter, refl, sym, ap, ◌∙◌, subst, arith}
use Rattle.std.proofs.lemmas.Bool.{cases_eq}
use Rattle.adlb_unit.specs.declared.names.Server.{Server}
use Rattle.adlb_unit.specs.declared.tokens.Token.{Token}
use Rattle.server_law.specs.Acts.{Act, Checks_alone, Fails, Finds, Finds_alone, Gives_up, Hears_failed, Marks, Shuts, Shuts_alone, Starts}
use Rattle.server_law.specs.Acts.{askers, does, ring_after, says, zeroth}
use Rattle.server_law.specs.Carried.{done}
use Rattle.server_law.specs.Endings.{is_quiet}
use Rattle.server_law.specs.State.{Kept, ServerModel}
use Rattle.server_law.specs.Step.{raised, ticked}
use Rattle.core_run.specs.World.{World, pool_of, server_named}
use Rattle.core_law.specs.Acting.{ticks}
use Rattle.core_law.specs.Well.{IsWell}
use Rattle.core_law.proofs.Actors.{pool_beside, pool_there}
use Rattle.core_law.proofs.Acts.{counted_kept, counted_own}
use Rattle.core_law.proofs.Checking.{tested_runs}
use Rattle.core_law.proofs.OwnStates.{counted_activity}
use Rattle.core_law.proofs.UnderWay.{weaker}
use Rattle.core_law.proofs.LettersAndActors.{inside_servers, tick_balance}
use Rattle.core_check_law.specs.OnWay.{IsOnWay, IsRinged, IsUnchanged, OnToken, last_check, of_home}
use Rattle.core_check_law.specs.Tokens.{tokens}
use Rattle.core_check_law.proofs.Classes.{marks_new, ring_of}
use Rattle.core_check_law.proofs.LoudActs.{IsStirred}
use Rattle.core_check_law.proofs.Tokens.{token_weaker}

-- a server after the stamp: it keeps what it kept, and its activity is as it was or one more
pub record IsTicked (s n : ServerModel) : Type 0 where
  pub config : n.config ≡ s.config
  pub me : n.me ≡ s.me
  pub kept : n.kept ≡ s.kept
  pub activity : (n.activity ≡ s.activity) ⊎ (n.activity ≡ s.activity + 1)

raised_is : (up : Bool) (n : ℕ) → (raised up n ≡ n) ⊎ (raised up n ≡ n + 1)
raised_is true n = inr refl
raised_is false n = inl refl

-- a quiet server stays quiet
ticked_quiet : (s n : ServerModel) → IsTicked s n → is_quiet s ≡ true → is_quiet n ≡ true
ticked_quiet s n t quiet = rw (t.config, t.me, t.kept) quiet

module _ (w : World) (me : Server) (stamp : ℕ) (up : Bool) (well : IsWell w) (here : me.0 < w.config.servers) where
  abbrev next : World
  next = ticks w me stamp up

  -- the stamp of an event changes nothing of a server but its activity, which rises by one at most
  pub after : (t : Server) → IsTicked (pool_of w t) (pool_of next t)
  after t = by_place (cases_eq t.0 me.0)
    where
      s : ServerModel
      s = ticked (pool_of w me) stamp up

      by_place : (t.0 ≡ me.0) ⊎ (t.0 ≢ me.0) → IsTicked (pool_of w t) (pool_of next t)
      by_place (inl e) =
          let same : me ≡ t = ap server_named (sym e) in
          let found : pool_of next me ≡ s = pool_there w me s (inside_servers w me well here) in
          let here : IsTicked (pool_of w me) s =
          record { config = refl; me = refl; kept = refl; activity = by_up (raised_is up (pool_of w me).activity) } in
          subst (λ (c : Server). IsTicked (pool_of w c) (pool_of next c)) same (subst (IsTicked (pool_of w me)) (sym found) here)
        where
          by_up : (raised up (pool_of w me).activity ≡ (pool_of w me).activity)
              ⊎ (raised up (pool_of w me).activity ≡ (pool_of w me).activity + 1)
              → (s.activity ≡ (pool_of w me).activity) ⊎ (s.activity ≡ (pool_of w me).activity + 1)
          by_up is = is
      by_place (inr differs) =
          let beside : pool_of next t ≡ pool_of w t = pool_beside w me t s differs in
          subst (IsTicked (pool_of w t)) (sym beside) (record { config = refl; me = refl; kept = refl; activity = inl refl })

  -- one that has changed nothing since its mark had not before
  pub ticked_back : (t : Server) → t.0 < w.config.servers → IsUnchanged (pool_of next t) → IsUnchanged (pool_of w t)
  ticked_back t there un = by_activity (after t).activity
    where
      same : (pool_of next t).kept.ring.mark ≡ (pool_of w t).kept.ring.mark
      same = ap (λ (x : Kept). x.ring.mark) (after t).kept

      by_activity : ((pool_of next t).activity ≡ (pool_of w t).activity) ⊎ ((pool_of next t).activity ≡ (pool_of w t).activity + 1)
          → IsUnchanged (pool_of w t)
      by_activity (inl e) = sym e ∙ un ∙ same
      by_activity (inr e) = let m = (well.own.servers t there).mark in let f = same in absurd (omega arith)

  number_is : (t : Server) → (pool_of next t).kept.ring.number ≡ (pool_of w t).kept.ring.number
  number_is t = ap (λ (x : Kept). x.ring.number) (after t).kept

  check_is : last_check next ≡ last_check w
  check_is = ap (λ (x : Kept). x.ring.check) (after zeroth).kept

  way_ticks : (to : Server) (t : Token) → IsOnWay w to t → IsOnWay next to t
  way_ticks to t on = record {
    number = on.number ∙ sym check_is;
    homes = on.homes;
    marked = λ s there e. number_is s ∙ on.marked s there e;
    fresh = λ first s there high e. on.fresh first s there high (sym (number_is s) ∙ e);
    bridge = λ s there e un. by_bridge s (on.bridge s there (sym (number_is s) ∙ e) (ticked_back s there un));
  }
    where
      by_bridge : (s : Server) → (is_quiet (pool_of w s) ≡ true) × (filter (of_home w.config s) t.asked ≡ askers (pool_of w s).kept)
          → (is_quiet (pool_of next s) ≡ true) × (filter (of_home w.config s) t.asked ≡ askers (pool_of next s).kept)
      by_bridge s was =
          (ticked_quiet (pool_of w s) (pool_of next s) (after s) was.0, was.1 ∙ sym (ap (λ (x : Kept). askers x) (after s).kept))

  -- after the stamp of an event the tokens are numbered, balanced and right on their links
  pub tick_ringed : IsRinged w → IsRinged next
  tick_ringed ring = record {
    numbered = record {
      numbers = λ s there.
          let n = (ring.numbered).numbers s there in let a = number_is s in let z = check_is in omega arith;
    };
    tokens = tick_balance tokens w me stamp up (inside_servers w me well here) ring.tokens;
    on = weaker (λ from to l. OnToken (IsOnWay w) from to l.message) (λ from to l. OnToken (IsOnWay next) from to l.message) w.config
        w.links (λ from to l q. token_weaker (IsOnWay w) (IsOnWay next) way_ticks from to l.message q) ring.on;
  }

-- Stirred.

-- the stamp of an event that raises the activity stirs the server
pub tick_stirs : (s : ServerModel) (stamp : ℕ) → s.kept.ring.mark ≤ s.activity → IsStirred (ticked s stamp true)
tick_stirs s stamp low = inl (omega arith)

runs_off : (a : Act) (s : ServerModel) → marks_new a ≡ false → s.kept.ring.runs ≡ false → (ring_after a s).runs ≡ false
runs_off Starts s old off = absurd (cc)
runs_off (Marks from t) s old off = absurd (cc)
runs_off Finds_alone s old off = absurd (cc)
runs_off Shuts_alone s old off = absurd (cc)
runs_off Checks_alone s old off = absurd (cc)
runs_off (Fails from t why) s old off = tested_runs t.wave s.kept.ring ∙ off
runs_off (Gives_up from t) s old off = refl
runs_off (Hears_failed from t why) s old off = refl
runs_off (Finds from t) s old off = refl
runs_off (Shuts from t) s old off = refl
runs_off _ s old off = off

-- where server 0 runs no check once the act is carried out
pub off_stirs : (a : Act) (s : ServerModel) → s.me.0 ≡ 0 → (ring_after a s).runs ≡ false → IsStirred (done a s)
off_stirs a s zero_here off = inr ((
  ap (λ (x : Server). x.0) (counted_own (does a s) (says a s)).1 ∙ zero_here,
  ap (λ (x : Kept). x.ring.runs) (counted_kept (does a s) (says a s)) ∙ off,
))

-- a stirred server stays so through an act that takes no mark
pub stirred_stays : (a : Act) (s : ServerModel) → marks_new a ≡ false → IsStirred s → IsStirred (done a s)
stirred_stays a s old (inl more) =
    let kept = ap (λ (x : Kept). x.ring.mark) (counted_kept (does a s) (says a s)) in
    let m = (ring_of a s old).mark in
    let count = counted_activity (does a s) (says a s) in
    inl (omega arith)
stirred_stays a s old (inr off) = off_stirs a s off.0 (runs_off a s old off.1)
