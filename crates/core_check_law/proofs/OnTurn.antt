-- Each token under way is on turn, through each act, each stamp and each step of a rank.
use Rattle.std.proofs.Common.{◌≡◌, ◌≢◌, ◌<◌, ◌≤◌, ◌⊎◌, inl, inr, ℕ, ◌+◌, Bool, true, false, List, [], ◌∷◌, ◌++◌, refl, sym, ap, ◌∙◌, subst}
use Rattle.std.proofs.Common.{arith}
use Rattle.adlb_unit.specs.Targets.{home}
use Rattle.adlb_unit.specs.declared.actors.Actor.{Actor}
use Rattle.adlb_unit.specs.declared.actors.Actor.TheVariants as by
use Rattle.adlb_unit.specs.declared.configs.Config.{Config}
use Rattle.adlb_unit.specs.declared.letters.Letter.{Letter}
use Rattle.adlb_unit.specs.declared.messages.Message.{Message}
use Rattle.adlb_unit.specs.declared.messages.Message.TheVariants as tells
use Rattle.adlb_unit.specs.declared.messages.Why.{Why}
use Rattle.adlb_unit.specs.declared.names.Server.{Server}
use Rattle.adlb_unit.specs.declared.tokens.Token.{Token}
use Rattle.bag_ledger.specs.declared.entries.Entry.{Entry}
use Rattle.exhaust_ring.specs.Expected.{HasComeBack, IsToTest}
use Rattle.exhaust_ring.specs.Ring.{Asker, Ring, token}
use Rattle.rank_client.specs.State.{ClientModel}
use Rattle.server_law.specs.Acts.{Act, Checks_alone, Fails, Finds, Finds_alone, Marks, Passes, ServerSaying, Shuts, Shuts_alone, Starts}
use Rattle.server_law.specs.Acts.{askers, onward, ring_after, says, takes, zeroth}
use Rattle.server_law.specs.State.{Kept, ServerModel, is_home, ring_at}
use Rattle.core_run.specs.World.{Links, World, actors, pool_of}
use Rattle.core_law.specs.Acting.{IsAct, acted, taken_off}
use Rattle.core_law.specs.Measures.{heard_weight, said_weight, weigh}
use Rattle.core_law.specs.OnLinks.{Each, OnLinks}
use Rattle.core_law.specs.Well.{IsSquare, IsWell}
use Rattle.core_law.proofs.Acts.{taken_off_on}
use Rattle.core_law.proofs.OwnStates.{alone_is}
use Rattle.core_law.proofs.Sums.{others_none}
use Rattle.core_law.proofs.UnderWay.{each_append, each_weaker, weaker}
use Rattle.core_law.proofs.LettersAndActors.{own_of}
use Rattle.core_check_law.specs.OnWay.{IsOnWay, IsRinged, OnFailed, OnToken, last_check, reach}
use Rattle.core_check_law.specs.Tokens.{token_letter}
use Rattle.core_check_law.specs.Turn.{AreOnTurn, IsOnTurn}
use Rattle.core_check_law.proofs.Classes.{IsMine, IsOthers, now, says_token}
use Rattle.core_check_law.proofs.Homes.{home_is, reach_at, reach_zeroth}
use Rattle.core_check_law.proofs.Letters.{letters_next}
use Rattle.core_check_law.proofs.Named.{apart_joined, askers_apart, askers_inside}
use Rattle.core_check_law.proofs.Stays.{changed}
use Rattle.core_check_law.proofs.Tokens.{NoToken, failed_weaker, none_left, none_runs, not_failed, not_token, token_weaker}
use Rattle.core_check_law.proofs.Turns.{marked_of, onward_is, own_homes, token_front, zeroth_here}

abbrev IsNumber : ℕ → ℕ → Type 0
IsNumber m n = m ≡ n

-- The act makes a server's tests, or forgets them.
abbrev pub is_test : Act → Bool
is_test Starts = true
is_test (Marks from t) = true
is_test (Passes from t) = true
is_test (Fails from t why) = true
is_test Finds_alone = true
is_test Shuts_alone = true
is_test Checks_alone = true
is_test _ = false

-- otherwise they are as they were
pub record AreTestsAsWere (before after : Ring) : Type 0 where
  pub tested : after.tested ≡ before.tested
  pub check : after.check ≡ before.check

tests_of : (a : Act) (s : ServerModel) → is_test a ≡ false → AreTestsAsWere s.kept.ring (ring_after a s)
tests_of Starts s old = absurd (cc)
tests_of (Marks from t) s old = absurd (cc)
tests_of (Passes from t) s old = absurd (cc)
tests_of (Fails from t why) s old = absurd (cc)
tests_of Finds_alone s old = absurd (cc)
tests_of Shuts_alone s old = absurd (cc)
tests_of Checks_alone s old = absurd (cc)
tests_of _ s old = record { tested = refl; check = refl }

-- What is said stays so where tests are as they were.

module _ (w : World) (ranks : List ClientModel) (servers : List ServerModel) (links : Links) (ledger : List Entry) where
  abbrev v : World
  v = changed w ranks servers links ledger

  module _ (first : AreTestsAsWere (pool_of w zeroth).kept.ring (pool_of v zeroth).kept.ring)
      (same : (t : Server) → t.0 < w.config.servers → AreTestsAsWere (pool_of w t).kept.ring (pool_of v t).kept.ring) where
    -- a token is on turn in a world whose rings are as before
    pub turn_stays : (to : Server) (t : Token) → IsOnTurn w to t → IsOnTurn v to t
    turn_stays to t on = record {
      wave = on.wave;
      inside = on.inside;
      once = on.once;
      untested = λ s there by_wave. (same s there).tested ∙ on.untested s there by_wave;
      tested = λ second. first.tested ∙ on.tested second;
    }

    -- the number of the last check stays
    pub failed_stays : (t : Token) → t.check ≡ last_check w → t.check ≡ last_check v
    failed_stays t is = is ∙ sym first.check

    -- with fewer letters
    pub turns_stay : AreOnTurn w → ((P : Actor → Actor → Letter → Type 0) → OnLinks P w.config w.links → OnLinks P w.config links)
        → AreOnTurn v
    turns_stay turn goes = record {
      tokens = weaker (λ from to l. OnToken (IsOnTurn w) from to l.message) (λ from to l. OnToken (IsOnTurn v) from to l.message) w.config
          links (λ from to l p. token_weaker (IsOnTurn w) (IsOnTurn v) turn_stays from to l.message p)
          (goes (λ from to l. OnToken (IsOnTurn w) from to l.message) turn.tokens);
      failed = weaker (λ from to l. OnFailed (λ t. t.check ≡ last_check w) from to l.message)
          (λ from to l. OnFailed (λ t. t.check ≡ last_check v) from to l.message) w.config links
          (λ from to l p. failed_weaker (λ t. t.check ≡ last_check w) (λ t. t.check ≡ last_check v) failed_stays from to l.message p)
          (goes (λ from to l. OnFailed (λ t. t.check ≡ last_check w) from to l.message) turn.failed);
    }

-- Sayings without a token.

each_none : {X : Type 0} (f : X → ℕ) (xs : List X) → weigh f xs ≡ 0 → Each (λ x. f x ≡ 0) xs
each_none f [] none = tt
each_none f (x ∷ xs) none = (omega arith, each_none f xs (omega arith))

silent_weight : (k : Server) (a : Act) (s : ServerModel) → is_test a ≡ false → said_weight token_letter k (says a s) ≡ 0
silent_weight k Starts s old = absurd (cc)
silent_weight k (Marks from t) s old = absurd (cc)
silent_weight k (Passes from t) s old = absurd (cc)
silent_weight k (Fails from t why) s old = absurd (cc)
silent_weight k Finds_alone s old = absurd (cc)
silent_weight k Shuts_alone s old = absurd (cc)
silent_weight k Checks_alone s old = absurd (cc)
silent_weight k (Finds from t) s old = others_none token_letter k s tells.Exhaust (λ to. refl)
silent_weight k (Shuts from t) s old = others_none token_letter k s tells.Shutdown (λ to. refl)
silent_weight k _ s old = omega arith

-- An act.

module _ (w : World) (k : Server) (well : IsWell w) (ring : IsRinged w) (turn : AreOnTurn w) where
  abbrev s : ServerModel
  s = pool_of w k

  abbrev IsSaying : (Actor → Actor → Message → Type 0) → Act → Type 0
  IsSaying P a = Each (λ (y : ServerSaying). P (by.Server k) y.to y.message) (says a s)

  abbrev TokenOf : World → Actor → Actor → Message → Type 0
  TokenOf v from to m = OnToken (IsOnTurn v) from to m

  abbrev FailedOf : World → Actor → Actor → Message → Type 0
  FailedOf v from to m = OnFailed (λ t. t.check ≡ last_check v) from to m

  abbrev Left : (Actor → Actor → Message → Type 0) → Act → Type 0
  Left P a = OnLinks (λ from to l. P from to l.message) w.config (taken_off w.config k w.links (takes a))

  some : (a : Act) → IsAct w k a → 0 < w.config.servers
  some a is = let h = is.here in omega arith

  turns_next : (a : Act) → IsAct w k a → Left (TokenOf (acted w k a)) a → Left (FailedOf (acted w k a)) a
      → IsSaying (TokenOf (acted w k a)) a → IsSaying (FailedOf (acted w k a)) a → AreOnTurn (acted w k a)
  turns_next a is tokens failed says_token says_failed =
      let v = acted w k a in
      let own = own_of w k a well is in
      record {
        tokens = letters_next (TokenOf v) w k a well.shape is own tokens says_token;
        failed = letters_next (FailedOf v) w k a well.shape is own failed says_failed;
      }

  tests_after : (a : Act) → IsAct w k a → is_test a ≡ false → (t : Server) → t.0 < w.config.servers
      → AreTestsAsWere (pool_of w t).kept.ring (pool_of (acted w k a) t).kept.ring
  tests_after a is old t there = by_server (now w k a well.shape is.here t there)
    where
      by_server : IsMine w k a t ⊎ IsOthers w k a t → AreTestsAsWere (pool_of w t).kept.ring (pool_of (acted w k a) t).kept.ring
      by_server (inl m) =
          let r = tests_of a s old in
          let it : s ≡ pool_of w t = ap (pool_of w) (sym m.same) in
          record {
            tested = ap (λ (x : Kept). x.ring.tested) m.kept ∙ r.tested ∙ ap (λ (x : ServerModel). x.kept.ring.tested) it;
            check = ap (λ (x : Kept). x.ring.check) m.kept ∙ r.check ∙ ap (λ (x : ServerModel). x.kept.ring.check) it;
          }
      by_server (inr o) = record {
        tested = ap (λ (x : Kept). x.ring.tested) o.kept;
        check = ap (λ (x : Kept). x.ring.check) o.kept;
      }

  -- an act that is of no test
  silent_turn : (a : Act) → IsAct w k a → is_test a ≡ false → AreOnTurn (acted w k a)
  silent_turn a is old =
      turns_next a is
      (taken_off_on (λ from to l. TokenOf v from to l.message) w.config k w.links (takes a) is.here is.front square
      (weaker (λ from to l. TokenOf w from to l.message) (λ from to l. TokenOf v from to l.message) w.config w.links
      (λ from to l p. token_weaker (IsOnTurn w) (IsOnTurn v) (turn_stays w v.ranks v.servers v.links v.ledger first same) from to
      l.message p) turn.tokens))
      (taken_off_on (λ from to l. FailedOf v from to l.message) w.config k w.links (takes a) is.here is.front square
      (weaker (λ from to l. FailedOf w from to l.message) (λ from to l. FailedOf v from to l.message) w.config w.links
      (λ from to l p. failed_weaker (λ t. t.check ≡ last_check w) (λ t. t.check ≡ last_check v)
      (failed_stays w v.ranks v.servers v.links v.ledger first same) from to l.message p) turn.failed))
      (each_weaker IsSilent (λ (y : ServerSaying). TokenOf v (by.Server k) y.to y.message)
      (λ y none. not_token (IsOnTurn v) (by.Server k) y.to y.message none) (says a s) silent)
      (each_weaker IsSilent (λ (y : ServerSaying). FailedOf v (by.Server k) y.to y.message)
      (λ y none. not_failed (λ t. t.check ≡ last_check v) (by.Server k) y.to y.message none) (says a s) silent)
    where
      v : World
      v = acted w k a

      square : IsSquare (actors w.config) w.links
      square = (well.shape).square

      same : (t : Server) → t.0 < w.config.servers → AreTestsAsWere (pool_of w t).kept.ring (pool_of v t).kept.ring
      same = tests_after a is old

      first : AreTestsAsWere (pool_of w zeroth).kept.ring (pool_of v zeroth).kept.ring
      first = same zeroth (some a is)

      IsSilent : ServerSaying → Type 0
      IsSilent y = token_letter (by.Server k) y.to y.message ≡ 0

      silent : Each IsSilent (says a s)
      silent = each_none (λ y. token_letter (by.Server k) y.to y.message) (says a s) (silent_weight k a s old)

  -- an act where no token is left
  lone_turn : (a : Act) → IsAct w k a → OnLinks NoToken w.config (taken_off w.config k w.links (takes a))
      → IsSaying (TokenOf (acted w k a)) a → IsSaying (FailedOf (acted w k a)) a → AreOnTurn (acted w k a)
  lone_turn a is none says_token says_failed =
      let v = acted w k a in
      let left = taken_off w.config k w.links (takes a) in
      turns_next a is
      (weaker NoToken (λ from to l. TokenOf v from to l.message) w.config left
      (λ from to l z. not_token (IsOnTurn v) from to l.message z) none)
      (weaker NoToken (λ from to l. FailedOf v from to l.message) w.config left
      (λ from to l z. not_failed (λ t. t.check ≡ last_check v) from to l.message z) none)
      says_token says_failed

  -- where it takes one
  left_none : (a : Act) → IsAct w k a → heard_weight token_letter k (takes a) ≡ 1
      → OnLinks NoToken w.config (taken_off w.config k w.links (takes a))
  left_none a is takes_one = none_left w k a well.shape is ring.tokens takes_one

  -- where no check runs here, at server 0
  left_off : (a : Act) → IsAct w k a → s.me.0 ≡ 0 → s.kept.ring.runs ≡ false
      → OnLinks NoToken w.config (taken_off w.config k w.links (takes a))
  left_off a is zero_here off =
      let it = zeroth_here w k well is.here zero_here in
      let here = subst (λ (c : Server). (pool_of w c).kept.ring.runs ≡ false) it off in
      taken_off_on NoToken w.config k w.links (takes a) is.here is.front (well.shape).square
      (none_runs w well.shape (some a is) ring.tokens here)

  onward_reach : k.0 < w.config.servers → reach w.config (onward s) ≡ k.0 + 1
  onward_reach here = onward_is w k well here

  -- Server 0 starts a check.

  start_turn : (is : IsAct w k Starts) → IsOnTurn (acted w k Starts) (onward s) (token (s.kept.ring.check + 1) 1 (askers s.kept))
  start_turn is = record {
    wave = inl refl;
    inside = askers_inside w k well is.here;
    once = askers_apart w k well is.here;
    untested = λ c there by_wave. by_server c (now w k Starts well.shape is.here c there) by_wave;
    tested = λ second. absurd (omega arith);
  }
    where
      by_server : (c : Server) → IsMine w k Starts c ⊎ IsOthers w k Starts c
          → (IsNumber 1 1 × (c.0 < reach w.config (onward s))) ⊎ (IsNumber 1 2 × (reach w.config (onward s) ≤ c.0))
          → (pool_of (acted w k Starts) c).kept.ring.tested ≡ false
      by_server c (inl m) by_wave = ap (λ (x : Kept). x.ring.tested) m.kept
      by_server c (inr o) (inl first) =
          let r = onward_reach is.here in
          let z = ap (λ (x : Server). x.0) (zeroth_here w k well is.here (is.sure.0).zeroth) in
          let low = first.1 in
          absurd (o.differs (omega arith))
      by_server c (inr o) (inr second) = let no = second.0 in absurd (omega arith)

  -- Another server takes its mark.

  module _ (from : Server) (t : Token) (is : IsAct w k (Marks from t)) where
    mark_was : IsOnTurn w k t
    mark_was = token_front (IsOnTurn w) w k from t (Marks from t) is refl turn.tokens

    mark_way : IsOnWay w k t
    mark_way = token_front (IsOnWay w) w k from t (Marks from t) is refl ring.on

    mark_other : k.0 ≢ 0
    mark_other e = (is.sure.1).other (ap (λ (x : Server). x.0) (well.own.servers k is.here).me ∙ e)

    -- those that wait here have another home than those of the list
    mark_differ : Each (λ (a : Asker). Each (λ (b : Asker). a.0.0 ≢ b.0.0) (askers s.kept)) t.asked
    mark_differ = each_weaker (λ (a : Asker). (home w.config a.0).0 < reach w.config k)
        (λ (a : Asker). Each (λ (b : Asker). a.0.0 ≢ b.0.0) (askers s.kept)) (λ (a : Asker) low.
        each_weaker (λ (b : Asker). is_home w.config k b.0 ≡ true) (λ (b : Asker). a.0.0 ≢ b.0.0) (λ (b : Asker) home_here same.
        let at = home_is w.config k b home_here in
        let r = reach_at w.config k mark_other in
        let so : (home w.config a.0).0 ≡ (home w.config b.0).0 = ap (λ (n : ℕ). (home w.config (record { 0 = n })).0) same in
        absurd (omega arith)) (askers s.kept) (own_homes w k well is.here)) t.asked (mark_way.homes (is.sure.1).wave)

    mark_turn : IsOnTurn (acted w k (Marks from t)) (onward s) (token t.check t.wave (t.asked ++ askers s.kept))
    mark_turn = record {
      wave = mark_was.wave;
      inside = each_append (λ (a : Asker). a.0.0 < w.config.ranks) t.asked (askers s.kept) mark_was.inside (askers_inside w k well is.here);
      once = apart_joined t.asked (askers s.kept) mark_was.once (askers_apart w k well is.here) mark_differ;
      untested = λ c there by_wave. by_server c there (now w k (Marks from t) well.shape is.here c there) by_wave;
      tested = λ second. let first = (is.sure.1).wave in absurd (omega arith);
    }
      where
        by_server : (c : Server) → c.0 < w.config.servers → IsMine w k (Marks from t) c ⊎ IsOthers w k (Marks from t) c
            → ((t.wave ≡ 1) × (c.0 < reach w.config (onward s))) ⊎ ((t.wave ≡ 2) × (reach w.config (onward s) ≤ c.0))
            → (pool_of (acted w k (Marks from t)) c).kept.ring.tested ≡ false
        by_server c there (inl m) by_wave = ap (λ (x : Kept). x.ring.tested) m.kept
        by_server c there (inr o) (inl first) =
            let r = onward_reach is.here in
            let q = reach_at w.config k mark_other in
            let d = o.differs in
            let low = first.1 in
            ap (λ (x : Kept). x.ring.tested) o.kept ∙ mark_was.untested c there (inl (first.0, omega arith))
        by_server c there (inr o) (inr second) = let a = second.0 in let b = (is.sure.1).wave in absurd (omega arith)

  -- The token goes on in wave 2.

  module _ (from : Server) (t : Token) (is : IsAct w k (Passes from t)) where
    pass_was : IsOnTurn w k t
    pass_was = token_front (IsOnTurn w) w k from t (Passes from t) is refl turn.tokens

    pass_turn : IsOnTurn (acted w k (Passes from t)) (onward s) (token t.check 2 t.asked)
    pass_turn = record {
      wave = inr refl;
      inside = pass_was.inside;
      once = pass_was.once;
      untested = λ c there by_wave. by_server c there (now w k (Passes from t) well.shape is.here c there) by_wave;
      tested = λ second. by_zeroth (now w k (Passes from t) well.shape is.here zeroth (some (Passes from t) is)) is.sure.1;
    }
      where
        v : World
        v = acted w k (Passes from t)

        still : (c : Server) → c.0 < w.config.servers → (k.0 + 1) ≤ c.0 → HasComeBack (ring_at s) t ⊎ IsToTest (ring_at s) t
            → (pool_of w c).kept.ring.tested ≡ false
        still c there high (inl back) =
            let z = ap (λ (x : Server). x.0) (zeroth_here w k well is.here (back.running).zeroth) in
            let r = reach_zeroth w.config k z in
            pass_was.untested c there (inl (back.wave, omega arith))
        still c there high (inr test) =
            let other : k.0 ≢ 0 = λ e. test.other (ap (λ (x : Server). x.0) (well.own.servers k is.here).me ∙ e) in
            let r = reach_at w.config k other in
            pass_was.untested c there (inr (test.wave, omega arith))

        by_server : (c : Server) → c.0 < w.config.servers → IsMine w k (Passes from t) c ⊎ IsOthers w k (Passes from t) c
            → (IsNumber 2 1 × (c.0 < reach w.config (onward s))) ⊎ (IsNumber 2 2 × (reach w.config (onward s) ≤ c.0))
            → (pool_of v c).kept.ring.tested ≡ false
        by_server c there on (inl first) = let no = first.0 in absurd (omega arith)
        by_server c there (inl m) (inr second) =
            let r = onward_reach is.here in
            let z = ap (λ (x : Server). x.0) m.same in
            let high = second.1 in
            absurd (omega arith)
        by_server c there (inr o) (inr second) =
            let r = onward_reach is.here in
            let high = second.1 in
            ap (λ (x : Kept). x.ring.tested) o.kept ∙ still c there (omega arith) is.sure.1

        by_zeroth : IsMine w k (Passes from t) zeroth ⊎ IsOthers w k (Passes from t) zeroth
            → HasComeBack (ring_at s) t ⊎ IsToTest (ring_at s) t → (pool_of v zeroth).kept.ring.tested ≡ true
        by_zeroth (inl m) row = ap (λ (x : Kept). x.ring.tested) m.kept
        by_zeroth (inr o) (inl back) =
            absurd (o.differs (ap (λ (x : Server). x.0) (sym (zeroth_here w k well is.here (back.running).zeroth))))
        by_zeroth (inr o) (inr test) = ap (λ (x : Kept). x.ring.tested) o.kept ∙ pass_was.tested test.wave

  -- A test fails.

  fail_check : (from : Server) (t : Token) (why : Why) (is : IsAct w k (Fails from t why))
      → t.check ≡ last_check (acted w k (Fails from t why))
  fail_check from t why is =
      let was = token_front (IsOnWay w) w k from t (Fails from t why) is refl ring.on in
      was.number ∙ sym (marked_of w k well (Fails from t why) is refl zeroth (some (Fails from t why) is)).check

  -- Every act.

  alone_turn : (a : Act) → IsAct w k a → s.config.servers ≡ 1 → IsSaying (TokenOf (acted w k a)) a → IsSaying (FailedOf (acted w k a)) a
      → AreOnTurn (acted w k a)
  alone_turn a is one says_token says_failed =
      let pool = well.own.servers k is.here in
      let alone : w.config.servers ≡ 1 = ap (λ (c : Config). c.servers) (sym pool.config) ∙ one in
      lone_turn a is (left_off a is (alone_is w.config k s is.here pool alone).1 (pool.alone alone)) says_token says_failed

  -- tokens are on turn after each act
  pub act_turns : (a : Act) → IsAct w k a → AreOnTurn (acted w k a)
  act_turns Starts is =
      lone_turn Starts is (left_off Starts is (is.sure.0).zeroth (is.sure.0).alone) (start_turn is, tt) (tt, tt)
  act_turns (Marks from t) is = lone_turn (Marks from t) is (left_none (Marks from t) is refl) (mark_turn from t is, tt) (tt, tt)
  act_turns (Passes from t) is = lone_turn (Passes from t) is (left_none (Passes from t) is refl) (pass_turn from t is, tt) (tt, tt)
  act_turns (Fails from t why) is =
      lone_turn (Fails from t why) is (left_none (Fails from t why) is refl) (tt, tt) (fail_check from t why is, tt)
  act_turns Finds_alone is = alone_turn Finds_alone is (is.sure.alone) tt tt
  act_turns Shuts_alone is = alone_turn Shuts_alone is (is.sure.0) tt tt
  act_turns Checks_alone is = alone_turn Checks_alone is is.sure tt tt
  act_turns a is = silent_turn a is refl
