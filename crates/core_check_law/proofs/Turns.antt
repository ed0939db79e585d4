-- The marks, and what a token says of the servers, through each act.
use Rattle.std.proofs.Common.{◌≡◌, ◌≢◌, ◌<◌, ◌≤◌, ◌⊎◌, inl, inr, ℕ, ◌+◌, Bool, true, false, [], ◌∷◌, ◌++◌, filter, refl, sym, ap, ◌∙◌}
use Rattle.std.proofs.Common.{subst, arith, append-nil}
use Rattle.std.proofs.lemmas.Bool.{lt-ltb}
use Rattle.std.proofs.lemmas.List.Elements.{filter-append}
use Rattle.adlb_unit.specs.Ring.{behind}
use Rattle.adlb_unit.specs.Targets.{home}
use Rattle.adlb_unit.specs.declared.actors.Actor.{Actor}
use Rattle.adlb_unit.specs.declared.actors.Actor.TheVariants as by
use Rattle.adlb_unit.specs.declared.configs.Config.{Config}
use Rattle.adlb_unit.specs.declared.messages.Message.{Message}
use Rattle.adlb_unit.specs.declared.messages.Message.TheVariants as tells
use Rattle.adlb_unit.specs.declared.names.Server.{Server}
use Rattle.adlb_unit.specs.declared.tokens.Token.{Token}
use Rattle.exhaust_ring.specs.Expected.{HasComeBack, IsToTest}
use Rattle.exhaust_ring.specs.Ring.{Asker, token}
use Rattle.server_law.specs.Acts.{Act, Checks_alone, Finds_alone, Marks, Passes, Shuts_alone, Starts, askers, check_alone, does, of_server}
use Rattle.server_law.specs.Acts.{onward, takes, zeroth}
use Rattle.server_law.specs.Endings.{is_quiet}
use Rattle.server_law.specs.State.{Kept, ServerModel, is_home, ring_at}
use Rattle.core_run.specs.World.{World, pool_of, server_named}
use Rattle.core_law.specs.Acting.{AreFront, IsAct, acted, taken_off}
use Rattle.core_law.specs.Measures.{IsBalanced}
use Rattle.core_law.specs.OnLinks.{Each, OnLinks}
use Rattle.core_law.specs.Own.{IsEntry}
use Rattle.core_law.specs.Well.{IsShaped, IsWell}
use Rattle.core_law.proofs.Acts.{balance_kept, taken_off_on}
use Rattle.core_law.proofs.Checking.{check_ended}
use Rattle.core_law.proofs.OwnStates.{alone_is}
use Rattle.core_law.proofs.UnderWay.{at_front, each_append, each_weaker, weaker}
use Rattle.core_law.proofs.LettersAndActors.{own_of}
use Rattle.core_check_law.specs.OnWay.{AreNumbered, IsOnWay, IsRinged, IsUnchanged, OnToken, last_check, of_home, reach}
use Rattle.core_check_law.specs.Tokens.{tokens}
use Rattle.core_check_law.proofs.Classes.{IsMine, IsOthers, SaysNone, marks_new, now, parked_of, ring_of, said_none, says_token}
use Rattle.core_check_law.proofs.Homes.{each_of_all, home_is, home_other, homes_of, kept_all, kept_none, reach_at, reach_onward}
use Rattle.core_check_law.proofs.Homes.{reach_zeroth}
use Rattle.core_check_law.proofs.Letters.{letters_next}
use Rattle.core_check_law.proofs.Stays.{IsMarked, IsParkedSame, IsSteady, askers_same, numbers_stay, quiet_same, way_stays}
use Rattle.core_check_law.proofs.LoudActs.{IsStep, IsStirred, is_loud}
use Rattle.core_check_law.proofs.Tokens.{NoToken, none_left, none_runs, not_token, token_kept, token_weaker}

abbrev IsNumber : ℕ → ℕ → Type 0
IsNumber m n = m ≡ n

-- the token that an act takes
pub token_front : (P : Server → Token → Type 0) (w : World) (k from : Server) (t : Token) (a : Act) → IsAct w k a
    → takes a ≡ of_server from (tells.Token t) ∷ [] → OnLinks (λ from to l. OnToken P from to l.message) w.config w.links → P k t
token_front P w k from t a is it on =
    let f = subst (AreFront w.config k w.links) it is.front in
    let here = at_front (λ from to l. OnToken P from to l.message) w.config w.links (by.Server from) (by.Server k) f.0 f.1 on f.2
    (lt-ltb k.0 w.config.servers is.here) f.3 in
    subst (λ (m : Message). OnToken P (by.Server from) (by.Server k) m) f.4 here

module _ (w : World) (k : Server) (well : IsWell w) where
  abbrev s : ServerModel
  s = pool_of w k

  abbrev shape : IsShaped w
  shape = well.shape

  -- servers, where no mark is new
  pub marked_of : (a : Act) → IsAct w k a → marks_new a ≡ false → (t : Server) → t.0 < w.config.servers
      → IsMarked (pool_of w t) (pool_of (acted w k a) t)
  marked_of a is old t there = by_server (now w k a shape is.here t there)
    where
      by_server : IsMine w k a t ⊎ IsOthers w k a t → IsMarked (pool_of w t) (pool_of (acted w k a) t)
      by_server (inl m) =
          let r = ring_of a s old in
          let it : s ≡ pool_of w t = ap (pool_of w) (sym m.same) in
          record {
            config = m.config ∙ ap (λ (x : ServerModel). x.config) it;
            me = m.me ∙ ap (λ (x : ServerModel). x.me) it;
            number = ap (λ (x : Kept). x.ring.number) m.kept ∙ r.number ∙ ap (λ (x : ServerModel). x.kept.ring.number) it;
            mark = ap (λ (x : Kept). x.ring.mark) m.kept ∙ r.mark ∙ ap (λ (x : ServerModel). x.kept.ring.mark) it;
            check = ap (λ (x : Kept). x.ring.check) m.kept ∙ r.check ∙ ap (λ (x : ServerModel). x.kept.ring.check) it;
            activity = m.activity ∙ ap (λ (x : ServerModel). x.activity) it;
          }
      by_server (inr o) = subst (IsMarked (pool_of w t)) (sym o.pool)
          (record { config = refl; me = refl; number = refl; mark = refl; check = refl; activity = refl })

  -- one that has changed nothing since its mark had not before
  pub unchanged_back : (a : Act) → IsAct w k a → marks_new a ≡ false → (t : Server) → t.0 < w.config.servers
      → IsUnchanged (pool_of (acted w k a) t) → IsUnchanged (pool_of w t)
  unchanged_back a is old t there un = let x = marked_of a is old t there in sym x.activity ∙ un ∙ x.mark

  abbrev IsSteadyFor : Act → Server → Type 0
  IsSteadyFor a t = IsSteady (pool_of w t) (pool_of (acted w k a) t)

  others_steady : (a : Act) (t : Server) → IsOthers w k a t → IsSteadyFor a t
  others_steady a t o = inr (record {
    waiting = ap (λ (x : Kept). x.parked.waiting) o.kept;
    finished = ap (λ (x : Kept). x.finished) o.kept;
    push = ap (λ (x : Kept). x.pushing.push) o.kept;
  })

  stirred_of : (a : Act) → IsAct w k a → s.kept.ring.mark < s.activity → (t : Server) → t.0 < w.config.servers → IsSteadyFor a t
  stirred_of a is more t there = by_server (now w k a shape is.here t there)
    where
      by_server : IsMine w k a t ⊎ IsOthers w k a t → IsSteadyFor a t
      by_server (inl m) =
          inl (subst (λ (x : ServerModel). x.kept.ring.mark < x.activity) (ap (pool_of w) (sym m.same)) more)
      by_server (inr o) = others_steady a t o

  quiet_of : (a : Act) → IsAct w k a → is_loud a ≡ false → (t : Server) → t.0 < w.config.servers → IsSteadyFor a t
  quiet_of a is quiet t there = by_server (now w k a shape is.here t there)
    where
      by_server : IsMine w k a t ⊎ IsOthers w k a t → IsSteadyFor a t
      by_server (inl m) =
          let same = parked_of a s quiet in
          let it : s ≡ pool_of w t = ap (pool_of w) (sym m.same) in
          inr (record {
            waiting = ap (λ (x : Kept). x.parked.waiting) m.kept ∙ same.waiting ∙ ap (λ (x : ServerModel). x.kept.parked.waiting) it;
            finished = ap (λ (x : Kept). x.finished) m.kept ∙ same.finished ∙ ap (λ (x : ServerModel). x.kept.finished) it;
            push = ap (λ (x : Kept). x.pushing.push) m.kept ∙ same.push ∙ ap (λ (x : ServerModel). x.kept.pushing.push) it;
          })
      by_server (inr o) = others_steady a t o

  some : (a : Act) → IsAct w k a → 0 < w.config.servers
  some a is = let h = is.here in omega arith

  -- a token that goes on has reached one server more
  pub onward_is : k.0 < w.config.servers → reach w.config (onward s) ≡ k.0 + 1
  onward_is here =
      let own = well.own.servers k here in
      subst (λ (c : Config). reach w.config (behind c s.me 1) ≡ k.0 + 1) (sym own.config)
      (subst (λ (c : Server). reach w.config (behind w.config c 1) ≡ k.0 + 1) (sym own.me) (reach_onward w.config k here))

  -- the server with number 0 is the first of the ring
  pub zeroth_here : k.0 < w.config.servers → s.me.0 ≡ 0 → k ≡ zeroth
  zeroth_here here e = ap server_named (ap (λ (x : Server). x.0) (sym (well.own.servers k here).me) ∙ e)

  other_here : k.0 < w.config.servers → s.me.0 ≢ 0 → k.0 ≢ 0
  other_here here other e = other (ap (λ (x : Server). x.0) (well.own.servers k here).me ∙ e)

  -- the ranks that ask here have their home here
  pub own_homes : k.0 < w.config.servers → Each (λ (a : Asker). is_home w.config k a.0 ≡ true) (askers s.kept)
  own_homes here =
      homes_of w.config k s.kept.parked.waiting
      (each_of_all (IsEntry w.config k) s.kept.parked.waiting (well.own.servers k here).waiting)

  -- a server that acts and leaves who waits stays quiet, and the same wait
  mine_quiet : (a : Act) (t : Server) → IsMine w k a t → is_loud a ≡ false → is_quiet s ≡ true
      → (is_quiet (pool_of (acted w k a) t) ≡ true) × (askers (pool_of (acted w k a) t).kept ≡ askers s.kept)
  mine_quiet a t m soft quiet =
      let same = parked_of a s soft in
      let parked : IsParkedSame s (pool_of (acted w k a) t) = record {
        waiting = ap (λ (x : Kept). x.parked.waiting) m.kept ∙ same.waiting;
        finished = ap (λ (x : Kept). x.finished) m.kept ∙ same.finished;
        push = ap (λ (x : Kept). x.pushing.push) m.kept ∙ same.push;
      } in (
        quiet_same s (pool_of (acted w k a) t) m.config m.me parked quiet,
        askers_same s.kept (pool_of (acted w k a) t).kept parked.waiting,
      )

  module _ (ring : IsRinged w) where
    abbrev P : World → Actor → Actor → Message → Type 0
    P v from to m = OnToken (IsOnWay v) from to m

    abbrev Ways : Act → Type 0
    Ways a = OnLinks (λ from to l. P (acted w k a) from to l.message) w.config (acted w k a).links

    balance_of : (a : Act) → IsAct w k a → IsBalanced tokens (acted w k a)
    balance_of a is =
        balance_kept tokens w k a shape is (own_of w k a well is)
        (token_kept w.config k a s is.here (well.own.servers k is.here) is.sure) ring.tokens

    numbers_of : (a : Act) → IsAct w k a → marks_new a ≡ false → AreNumbered (acted w k a)
    numbers_of a is old =
        let v = acted w k a in
        numbers_stay w v.ranks v.servers v.links v.ledger (marked_of a is old zeroth (some a is)) (marked_of a is old) ring.numbered

    -- an act that sends no token
    silent_way : (a : Act) → IsStep w k a → marks_new a ≡ false → says_token a ≡ false → Ways a
    silent_way a is old silent =
        letters_next (P v) w k a shape is.act (own_of w k a well is.act) (by_loud (is_loud a) refl) (said_none (IsOnWay v) k a s silent)
      where
        v : World
        v = acted w k a

        Left : Type 0
        Left = OnLinks (λ from to l. P v from to l.message) w.config (taken_off w.config k w.links (takes a))

        off : OnLinks (λ from to l. P v from to l.message) w.config w.links → Left
        off on = taken_off_on (λ from to l. P v from to l.message) w.config k w.links (takes a) (is.act).here (is.act).front shape.square on

        by_steady : ((t : Server) → t.0 < w.config.servers → IsSteadyFor a t) → Left
        by_steady steady =
            let marked = marked_of a is.act old in
            let stays = way_stays w v.ranks v.servers v.links v.ledger (marked zeroth (some a is.act)) marked steady in
            off (weaker (λ from to l. P w from to l.message) (λ from to l. P v from to l.message) w.config w.links
            (λ from to l p. token_weaker (IsOnWay w) (IsOnWay v) stays from to l.message p) ring.on)

        by_stirred : IsStirred s → Left
        by_stirred (inl more) = by_steady (stirred_of a is.act more)
        by_stirred (inr still) =
            let it = zeroth_here (is.act).here still.0 in
            let none =
            none_runs w shape (some a is.act) ring.tokens (subst (λ (c : Server). (pool_of w c).kept.ring.runs ≡ false) it still.1) in
            off (weaker NoToken (λ from to l. P v from to l.message) w.config w.links
            (λ from to l z. not_token (IsOnWay v) from to l.message z) none)

        by_loud : (b : Bool) → is_loud a ≡ b → Left
        by_loud true loud = by_stirred (is.stirred loud)
        by_loud false soft = by_steady (quiet_of a is.act soft)

    -- an act where no other token is left
    said_way : (a : Act) → IsAct w k a → OnLinks NoToken w.config (taken_off w.config k w.links (takes a))
        → SaysNone (IsOnWay (acted w k a)) k a s → Ways a
    said_way a is none said =
        let v = acted w k a in
        letters_next (P v) w k a shape is (own_of w k a well is)
        (weaker NoToken (λ from to l. P v from to l.message) w.config (taken_off w.config k w.links (takes a))
        (λ from to l z. not_token (IsOnWay v) from to l.message z) none) said

    -- Server 0 starts a check.

    module _ (is : IsAct w k Starts) where
      start_zeroth : k ≡ zeroth
      start_zeroth = zeroth_here is.here (is.sure.0).zeroth

      start_check : last_check w ≡ s.kept.ring.check
      start_check = ap (λ (c : Server). (pool_of w c).kept.ring.check) (sym start_zeroth)

      start_number : s.kept.ring.check + 1 ≡ last_check (acted w k Starts)
      start_number = by_server (now w k Starts shape is.here zeroth (some Starts is))
        where
          by_server : IsMine w k Starts zeroth ⊎ IsOthers w k Starts zeroth → s.kept.ring.check + 1 ≡ last_check (acted w k Starts)
          by_server (inl m) = sym (ap (λ (x : Kept). x.ring.check) m.kept)
          by_server (inr o) = absurd (o.differs (ap (λ (x : Server). x.0) (sym start_zeroth)))

      start_way : IsOnWay (acted w k Starts) (onward s) (token (s.kept.ring.check + 1) 1 (askers s.kept))
      start_way = record {
        number = start_number;
        homes = λ first. each_weaker (λ (a : Asker). is_home w.config k a.0 ≡ true)
            (λ (a : Asker). (home w.config a.0).0 < reach w.config (onward s))
            (λ (a : Asker) h. let e = home_is w.config k a h in let r = onward_is is.here in omega arith) (askers s.kept)
            (own_homes is.here);
        marked = λ t there e. by_marked t (now w k Starts shape is.here t there) e;
        fresh = λ first t there high e. by_fresh t there high e (now w k Starts shape is.here t there);
        bridge = λ t there e un. by_bridge t (now w k Starts shape is.here t there) there e;
      }
        where
          v : World
          v = acted w k Starts

          by_marked : (t : Server) → IsMine w k Starts t ⊎ IsOthers w k Starts t → IsNumber 1 2 ⊎ (t.0 < reach w.config (onward s))
              → (pool_of v t).kept.ring.number ≡ s.kept.ring.check + 1
          by_marked t (inl m) e = ap (λ (x : Kept). x.ring.number) m.kept
          by_marked t (inr o) (inl e) = absurd (omega arith)
          by_marked t (inr o) (inr low) =
              let r = onward_is is.here in let z = ap (λ (x : Server). x.0) start_zeroth in absurd (o.differs (omega arith))

          by_fresh : (t : Server) → t.0 < w.config.servers → reach w.config (onward s) ≤ t.0
              → (pool_of v t).kept.ring.number ≡ s.kept.ring.check + 1 → IsMine w k Starts t ⊎ IsOthers w k Starts t → ⊥
          by_fresh t there high e (inl m) =
              let r = onward_is is.here in let z = ap (λ (x : Server). x.0) m.same in absurd (omega arith)
          by_fresh t there high e (inr o) =
              let n = (ring.numbered).numbers t there in
              let f = ap (λ (x : Kept). x.ring.number) o.kept in
              let z = start_check in
              absurd (omega arith)

          by_bridge : (t : Server) → IsMine w k Starts t ⊎ IsOthers w k Starts t → t.0 < w.config.servers
              → (pool_of v t).kept.ring.number ≡ s.kept.ring.check + 1
              → (is_quiet (pool_of v t) ≡ true) × (filter (of_home w.config t) (askers s.kept) ≡ askers (pool_of v t).kept)
          by_bridge t (inl m) there e =
              let now = mine_quiet Starts t m refl (is.sure.0).rests in
              let all = kept_all (of_home w.config k) (askers s.kept) (own_homes is.here) in
              let block : filter (of_home w.config t) (askers s.kept) ≡ askers s.kept =
              subst (λ (c : Server). filter (of_home w.config c) (askers s.kept) ≡ askers s.kept) (sym m.same) all in
              (now.0, block ∙ sym now.1)
          by_bridge t (inr o) there e =
              let n = (ring.numbered).numbers t there in
              let f = ap (λ (x : Kept). x.ring.number) o.kept in
              let z = start_check in
              absurd (omega arith)

      start_numbers : AreNumbered (acted w k Starts)
      start_numbers = record { numbers = λ t there. by_number t there (now w k Starts shape is.here t there) }
        where
          by_number : (t : Server) → t.0 < w.config.servers → IsMine w k Starts t ⊎ IsOthers w k Starts t
              → (pool_of (acted w k Starts) t).kept.ring.number ≤ last_check (acted w k Starts)
          by_number t there (inl m) =
              let e = start_number in let f = ap (λ (x : Kept). x.ring.number) m.kept in omega arith
          by_number t there (inr o) =
              let e = start_number in
              let f = ap (λ (x : Kept). x.ring.number) o.kept in
              let n = (ring.numbered).numbers t there in
              let z = start_check in
              omega arith

    -- Another server takes its mark.

    module _ (from : Server) (t : Token) (is : IsAct w k (Marks from t)) where
      mark_was : IsOnWay w k t
      mark_was = token_front (IsOnWay w) w k from t (Marks from t) is refl ring.on

      mark_other : k.0 ≢ 0
      mark_other = other_here is.here (is.sure.1).other

      mark_reach : reach w.config k ≡ k.0
      mark_reach = reach_at w.config k mark_other

      mark_check : last_check w ≡ last_check (acted w k (Marks from t))
      mark_check = by_server (now w k (Marks from t) shape is.here zeroth (some (Marks from t) is))
        where
          by_server : IsMine w k (Marks from t) zeroth ⊎ IsOthers w k (Marks from t) zeroth
              → last_check w ≡ last_check (acted w k (Marks from t))
          by_server (inl m) = absurd (mark_other (ap (λ (x : Server). x.0) (sym m.same)))
          by_server (inr o) = sym (ap (λ (x : Kept). x.ring.check) o.kept)

      mark_way : IsOnWay (acted w k (Marks from t)) (onward s) (token t.check t.wave (t.asked ++ askers s.kept))
      mark_way = record {
        number = mark_was.number ∙ mark_check;
        homes = λ first. each_append (λ (a : Asker). (home w.config a.0).0 < reach w.config (onward s)) t.asked (askers s.kept)
            (each_weaker (λ (a : Asker). (home w.config a.0).0 < reach w.config k)
            (λ (a : Asker). (home w.config a.0).0 < reach w.config (onward s))
            (λ (a : Asker) h. let r = onward_is is.here in let q = mark_reach in omega arith) t.asked (mark_was.homes first))
            (each_weaker (λ (a : Asker). is_home w.config k a.0 ≡ true)
            (λ (a : Asker). (home w.config a.0).0 < reach w.config (onward s))
            (λ (a : Asker) h. let e = home_is w.config k a h in let r = onward_is is.here in omega arith) (askers s.kept)
            (own_homes is.here));
        marked = λ c there e. by_marked c (now w k (Marks from t) shape is.here c there) there e;
        fresh = λ first c there high e. by_fresh c there high e (now w k (Marks from t) shape is.here c there);
        bridge = λ c there e un. by_bridge c (now w k (Marks from t) shape is.here c there) there e un;
      }
        where
          v : World
          v = acted w k (Marks from t)

          by_marked : (c : Server) → IsMine w k (Marks from t) c ⊎ IsOthers w k (Marks from t) c → c.0 < w.config.servers
              → (t.wave ≡ 2) ⊎ (c.0 < reach w.config (onward s)) → (pool_of v c).kept.ring.number ≡ t.check
          by_marked c (inl m) there e = ap (λ (x : Kept). x.ring.number) m.kept
          by_marked c (inr o) there (inl second) = let first = (is.sure.1).wave in absurd (omega arith)
          by_marked c (inr o) there (inr low) =
              let r = onward_is is.here in
              let q = mark_reach in
              let d = o.differs in
              ap (λ (x : Kept). x.ring.number) o.kept ∙ mark_was.marked c there (inr (omega arith))

          by_fresh : (c : Server) → c.0 < w.config.servers → reach w.config (onward s) ≤ c.0 → (pool_of v c).kept.ring.number ≡ t.check
              → IsMine w k (Marks from t) c ⊎ IsOthers w k (Marks from t) c → ⊥
          by_fresh c there high e (inl m) =
              let r = onward_is is.here in let z = ap (λ (x : Server). x.0) m.same in absurd (omega arith)
          by_fresh c there high e (inr o) =
              let r = onward_is is.here in
              let q = mark_reach in
              mark_was.fresh (is.sure.1).wave c there (omega arith) (sym (ap (λ (x : Kept). x.ring.number) o.kept) ∙ e)

          by_bridge : (c : Server) → IsMine w k (Marks from t) c ⊎ IsOthers w k (Marks from t) c → c.0 < w.config.servers
              → (pool_of v c).kept.ring.number ≡ t.check → IsUnchanged (pool_of v c)
              → (is_quiet (pool_of v c) ≡ true) × (filter (of_home w.config c) (t.asked ++ askers s.kept) ≡ askers (pool_of v c).kept)
          by_bridge c (inl m) there e un =
              let now = mine_quiet (Marks from t) c m refl is.sure.2 in
              let others = kept_none (of_home w.config k) t.asked (each_weaker (λ (x : Asker). (home w.config x.0).0 < reach w.config k)
              (λ (x : Asker). is_home w.config k x.0 ≡ false)
              (λ (x : Asker) h. home_other w.config k x (λ e. let q = mark_reach in absurd (omega arith))) t.asked
              (mark_was.homes (is.sure.1).wave)) in
              let own = kept_all (of_home w.config k) (askers s.kept) (own_homes is.here) in
              let all : filter (of_home w.config k) (t.asked ++ askers s.kept) ≡ askers s.kept =
              filter-append (of_home w.config k) t.asked (askers s.kept)
              ∙ ap (λ l. l ++ filter (of_home w.config k) (askers s.kept)) others ∙ own in
              let block : filter (of_home w.config c) (t.asked ++ askers s.kept) ≡ askers s.kept =
              subst (λ (x : Server). filter (of_home w.config x) (t.asked ++ askers s.kept) ≡ askers s.kept) (sym m.same) all in
              (now.0, block ∙ sym now.1)
          by_bridge c (inr o) there e un =
              let old = mark_was.bridge c there (sym (ap (λ (x : Kept). x.ring.number) o.kept) ∙ e)
              (sym o.activity ∙ un ∙ ap (λ (x : Kept). x.ring.mark) o.kept) in
              let none = kept_none (of_home w.config c) (askers s.kept) (each_weaker (λ (x : Asker). is_home w.config k x.0 ≡ true)
              (λ (x : Asker). is_home w.config c x.0 ≡ false)
              (λ (x : Asker) h. home_other w.config c x (λ e. o.differs (sym e ∙ home_is w.config k x h))) (askers s.kept)
              (own_homes is.here)) in
              let block = filter-append (of_home w.config c) t.asked (askers s.kept)
              ∙ ap (λ l. filter (of_home w.config c) t.asked ++ l) none ∙ append-nil (filter (of_home w.config c) t.asked) ∙ old.1 in (
                ap is_quiet o.pool ∙ old.0,
                block ∙ sym (ap (λ (x : Kept). askers x) o.kept),
              )

      mark_numbers : AreNumbered (acted w k (Marks from t))
      mark_numbers = record { numbers = λ c there. by_number c there (now w k (Marks from t) shape is.here c there) }
        where
          by_number : (c : Server) → c.0 < w.config.servers → IsMine w k (Marks from t) c ⊎ IsOthers w k (Marks from t) c
              → (pool_of (acted w k (Marks from t)) c).kept.ring.number ≤ last_check (acted w k (Marks from t))
          by_number c there (inl m) =
              let e = mark_check in
              let g = mark_was.number in
              let f = ap (λ (x : Kept). x.ring.number) m.kept in
              omega arith
          by_number c there (inr o) =
              let e = mark_check in
              let f = ap (λ (x : Kept). x.ring.number) o.kept in
              let n = (ring.numbered).numbers c there in
              omega arith

    -- The token goes on in wave 2.

    module _ (from : Server) (t : Token) (is : IsAct w k (Passes from t)) where
      pass_was : IsOnWay w k t
      pass_was = token_front (IsOnWay w) w k from t (Passes from t) is refl ring.on

      -- server 0 has it after wave 1, each other server in wave 2
      pass_marked : (c : Server) → c.0 < w.config.servers → (pool_of w c).kept.ring.number ≡ t.check
      pass_marked c there = by_row is.sure.1
        where
          by_row : HasComeBack (ring_at s) t ⊎ IsToTest (ring_at s) t → (pool_of w c).kept.ring.number ≡ t.check
          by_row (inl back) =
              let z = ap (λ (x : Server). x.0) (zeroth_here is.here (back.running).zeroth) in
              let r = reach_zeroth w.config k z in
              pass_was.marked c there (inr (omega arith))
          by_row (inr test) = pass_was.marked c there (inl test.wave)

      pass_way : IsOnWay (acted w k (Passes from t)) (onward s) (token t.check 2 t.asked)
      pass_way =
          let v = acted w k (Passes from t) in
          way_stays w v.ranks v.servers v.links v.ledger (marked_of (Passes from t) is refl zeroth (some (Passes from t) is))
          (marked_of (Passes from t) is refl)
          (quiet_of (Passes from t) is refl) (onward s) (token t.check 2 t.asked)
          (record {
            number = pass_was.number;
            homes = λ first. absurd (omega arith);
            marked = λ c there e. pass_marked c there;
            fresh = λ first. absurd (omega arith);
            bridge = pass_was.bridge;
          })

    -- The whole check of a server that is alone.

    alone_numbers : (a : Act) → IsAct w k a → w.config.servers ≡ 1 → (does a s).kept.ring.number ≡ (does a s).kept.ring.check
        → AreNumbered (acted w k a)
    alone_numbers a is alone own = record { numbers = λ c there. by_server c there (now w k a shape is.here c there) }
      where
        by_server : (c : Server) → c.0 < w.config.servers → IsMine w k a c ⊎ IsOthers w k a c
            → (pool_of (acted w k a) c).kept.ring.number ≤ last_check (acted w k a)
        by_server c there (inl m) =
            let it : c ≡ zeroth = ap server_named (omega arith) in
            let n = ap (λ (x : Kept). x.ring.number) m.kept in
            let z : (pool_of (acted w k a) c).kept.ring.check ≡ last_check (acted w k a) =
            ap (λ (x : Server). (pool_of (acted w k a) x).kept.ring.check) it in
            let g = ap (λ (x : Kept). x.ring.check) m.kept in
            omega arith
        by_server c there (inr o) = let d = o.differs in let h = is.here in absurd (d (omega arith))

    alone_ringed : (a : Act) → IsAct w k a → s.config.servers ≡ 1 → says_token a ≡ false
        → ((does a s).kept.ring.number ≡ (does a s).kept.ring.check) → IsRinged (acted w k a)
    alone_ringed a is one silent own =
        let v = acted w k a in
        let pool = well.own.servers k is.here in
        let alone : w.config.servers ≡ 1 = ap (λ (c : Config). c.servers) (sym pool.config) ∙ one in
        let z : k ≡ zeroth = let h = is.here in ap server_named (omega arith) in
        let off = subst (λ (c : Server). (pool_of w c).kept.ring.runs ≡ false) z (pool.alone alone) in
        let none = none_runs w shape (some a is) ring.tokens off in
        record {
          numbered = alone_numbers a is alone own;
          tokens = balance_of a is;
          on = said_way a is (taken_off_on NoToken w.config k w.links (takes a) is.here is.front shape.square none)
              (said_none (IsOnWay v) k a s silent);
        }

    alone_own : k.0 < w.config.servers → s.config.servers ≡ 1 → (check_alone s).ring.ring.number ≡ (check_alone s).ring.ring.check
    alone_own here one =
        let pool = well.own.servers k here in
        let alone : w.config.servers ≡ 1 = ap (λ (c : Config). c.servers) (sym pool.config) ∙ one in
        (check_ended s one (alone_is w.config k s here pool alone).1).number

    -- Every act.

    -- after each act of a step the tokens are numbered, balanced and right on their links
    pub act_ringed : (a : Act) → IsStep w k a → IsRinged (acted w k a)
    act_ringed Starts is =
        let off = subst (λ (c : Server). (pool_of w c).kept.ring.runs ≡ false) (start_zeroth is.act) ((is.act).sure.0).alone in
        record {
          numbered = start_numbers is.act;
          tokens = balance_of Starts is.act;
          on = said_way Starts is.act (none_runs w shape (some Starts is.act) ring.tokens off) (start_way is.act, tt);
        }
    act_ringed (Marks from t) is = record {
      numbered = mark_numbers from t is.act;
      tokens = balance_of (Marks from t) is.act;
      on = said_way (Marks from t) is.act (none_left w k (Marks from t) shape is.act ring.tokens refl) (mark_way from t is.act, tt);
    }
    act_ringed (Passes from t) is = record {
      numbered = numbers_of (Passes from t) is.act refl;
      tokens = balance_of (Passes from t) is.act;
      on = said_way (Passes from t) is.act (none_left w k (Passes from t) shape is.act ring.tokens refl) (pass_way from t is.act, tt);
    }
    act_ringed Finds_alone is =
        alone_ringed Finds_alone is.act ((is.act).sure.alone) refl (alone_own (is.act).here ((is.act).sure.alone))
    act_ringed Shuts_alone is =
        alone_ringed Shuts_alone is.act ((is.act).sure.0) refl (alone_own (is.act).here ((is.act).sure.0))
    act_ringed Checks_alone is = alone_ringed Checks_alone is.act (is.act).sure refl (alone_own (is.act).here (is.act).sure)
    act_ringed a is = by_class a is refl refl
      where
        by_class : (a : Act) → IsStep w k a → marks_new a ≡ false → says_token a ≡ false → IsRinged (acted w k a)
        by_class a is old silent = record {
          numbered = numbers_of a is.act old;
          tokens = balance_of a is.act;
          on = silent_way a is old silent;
        }
