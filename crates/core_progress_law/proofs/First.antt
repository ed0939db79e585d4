-- An act that takes a notice, a token, a failed test or the word that the server may end: where the run went on, it goes on.
use Rattle.adlb_unit.specs.Ring.{behind}
use Rattle.adlb_unit.specs.declared.actors.Actor.{Actor}
use Rattle.adlb_unit.specs.declared.configs.Config.{Config}
use Rattle.adlb_unit.specs.declared.messages.Message.{Message}
use Rattle.adlb_unit.specs.declared.names.Server.{Server}
use Rattle.core_check_law.proofs.Classes.{IsMine, IsOthers, now}
use Rattle.core_check_law.specs.OnWay.{IsRinged, IsUnchanged, last_check}
use Rattle.core_law.proofs.LettersAndActors.{own_of}
use Rattle.core_law.specs.Acting.{IsAct, acted}
use Rattle.core_law.specs.Measures.{heard_weight, said_weight}
use Rattle.core_law.specs.Well.{IsWell}
use Rattle.core_progress_law.proofs.Follows.{failures_next, news_next, zero_is, zero_kept, zero_there}
use Rattle.core_wish_law.specs.News.{news}
use Rattle.core_progress_law.specs.Going.{Goes, IsLive, IsTurning, failures}
use Rattle.core_run.specs.World.{World, pool_of}
use Rattle.server_law.specs.Acts.{Act, Fails, Finds, Gives_up, Heard, Hears_failed, Hears_shutdown, Marks, Passes, Shuts, Wants, does, says}
use Rattle.server_law.specs.Acts.{takes, tested_in, to_others, to_server, zeroth}
use Rattle.server_law.specs.State.{Kept, ServerModel}
use Rattle.server_law.specs.Step.{raises}
use Rattle.std.proofs.Common.{Bool, List, [], ap, arith, false, inl, inr, length, map, refl, sym, true, ℕ, ◌-◌, ◌<◌, ◌==◌, ◌∙◌, ◌∷◌, ◌≡◌}
use Rattle.std.proofs.Common.{◌⊎◌}
use Rattle.std.proofs.lemmas.List.FromFn.{length-range_with_len}
use Rattle.std.specs.List.{range_with_len}
use Rattle.adlb_unit.specs.declared.actors.Actor.TheVariants as by
use Rattle.adlb_unit.specs.declared.messages.Message.TheVariants as tells

-- what the act takes raises the activity
abbrev pub raises_taken : List Heard → Bool
raises_taken [] = true
raises_taken (h ∷ more) = raises h.message

-- the act ends a check without a verdict
abbrev pub may_fail : Act → Bool
may_fail (Fails from t why) = true
may_fail (Gives_up from t) = true
may_fail _ = false

-- each other server is told
others_some : (f : Actor → Actor → Message → ℕ) (me : Server) (s : ServerModel) (m : Message) → 1 < s.config.servers
    → ((to : Server) → f (by.Server me) (by.Server to) m ≡ 1) → 0 < said_weight f me (to_others s m)
others_some f me s m several each = by_list (range_with_len 1 (s.config.servers - 1)) (length-range_with_len 1 (s.config.servers - 1))
  where
    by_list : (ns : List ℕ) → length ns ≡ s.config.servers - 1
        → 0 < said_weight f me (map (λ t. to_server t m) (map (behind s.config s.me) ns))
    by_list [] none = absurd (omega arith)
    by_list (n ∷ ns) none = let one_told = each (behind s.config s.me n) in omega arith

module _ (w : World) (me : Server) (well : IsWell w) (ring : IsRinged w) (several : 1 < w.config.servers) where
  abbrev s : ServerModel
  s = pool_of w me

  -- of server 0
  flag_kept : (a : Act) (f : Kept → Bool) → IsAct w me a → (f s.kept ≡ true → f (does a s).kept ≡ true)
      → f (pool_of w zeroth).kept ≡ true → f (pool_of (acted w me a) zeroth).kept ≡ true
  flag_kept a f is keeps was = by_now (now w me a well.shape is.here zeroth (zero_there w))
    where
      by_now : IsMine w me a zeroth ⊎ IsOthers w me a zeroth → f (pool_of (acted w me a) zeroth).kept ≡ true
      by_now (inl mine) = ap f mine.kept ∙ keeps (ap (λ (k : Server). f (pool_of w k).kept) (sym mine.same) ∙ was)
      by_now (inr other) = ap f other.kept ∙ was

  live_kept : (a : Act) → IsAct w me a → heard_weight news.letter me (takes a) ≡ 0 → (s.kept.shut ≡ true → (does a s).kept.shut ≡ true)
      → (s.kept.ring.wanted ≡ true → (does a s).kept.ring.wanted ≡ true) → IsLive w → IsLive (acted w me a)
  live_kept a is none shut wanted (inl some) = let next = news_next w me a well is in inl (omega arith)
  live_kept a is none shut wanted (inr (inl was)) = inr (inl (flag_kept a (λ k. k.shut) is shut was))
  live_kept a is none shut wanted (inr (inr was)) = inr (inr (flag_kept a (λ k. k.ring.wanted) is wanted was))

  check_kept : (a : Act) → IsAct w me a → (does a s).kept.ring.check ≡ s.kept.ring.check → last_check (acted w me a) ≡ last_check w
  check_kept a is same = by_now (now w me a well.shape is.here zeroth (zero_there w))
    where
      by_now : IsMine w me a zeroth ⊎ IsOthers w me a zeroth → last_check (acted w me a) ≡ last_check w
      by_now (inl mine) = ap (λ (k : Kept). k.ring.check) mine.kept ∙ same
          ∙ ap (λ (k : Server). (pool_of w k).kept.ring.check) (sym mine.same)
      by_now (inr other) = ap (λ (k : Kept). k.ring.check) other.kept

  turning_kept : (a : Act) → IsAct w me a → said_weight failures.letter me (says a s) ≡ 0
      → (s.kept.ring.runs ≡ true → (does a s).kept.ring.runs ≡ true) → (does a s).kept.ring.check ≡ s.kept.ring.check
      → ((does a s).kept.ring.number ≡ last_check w → s.activity ≡ (does a s).kept.ring.mark) → IsTurning w → IsTurning (acted w me a)
  turning_kept a is none runs check own turning = record {
    runs = flag_kept a (λ k. k.ring.runs) is runs turning.runs;
    none = let next = failures_next w me a well is in let was = turning.none in omega arith;
    same = λ t there number. by_now t there number (now w me a well.shape is.here t there);
  }
    where
      by_now : (t : Server) → t.0 < w.config.servers → (pool_of (acted w me a) t).kept.ring.number ≡ last_check (acted w me a)
          → IsMine w me a t ⊎ IsOthers w me a t → IsUnchanged (pool_of (acted w me a) t)
      by_now t there number (inl mine) =
          mine.activity
          ∙ own (ap (λ (k : Kept). k.ring.number) (sym mine.kept) ∙ number ∙ check_kept a is check)
          ∙ ap (λ (k : Kept). k.ring.mark) (sym mine.kept)
      by_now t there number (inr other) =
          other.activity
          ∙ turning.same t there (ap (λ (k : Kept). k.ring.number) (sym other.kept) ∙ number ∙ check_kept a is check)
          ∙ ap (λ (k : Kept). k.ring.mark) (sym other.kept)

  own_same : IsTurning w → me.0 < w.config.servers → s.kept.ring.number ≡ last_check w → s.activity ≡ s.kept.ring.mark
  own_same turning here number = turning.same me here number

  -- a test that fails was not one where nothing else is going on
  live_or : (a : Act) → IsAct w me a → heard_weight news.letter me (takes a) ≡ 0 → (s.kept.shut ≡ true → (does a s).kept.shut ≡ true)
      → (s.kept.ring.wanted ≡ true → (does a s).kept.ring.wanted ≡ true) → (IsTurning w → IsLive w) → Goes w → Goes (acted w me a)
  live_or a is none shut wanted live (inl was) = inl (live_kept a is none shut wanted was)
  live_or a is none shut wanted live (inr turning) = inl (live_kept a is none shut wanted (live turning))

  both_kept : (a : Act) → IsAct w me a → heard_weight news.letter me (takes a) ≡ 0 → said_weight failures.letter me (says a s) ≡ 0
      → (does a s).kept.shut ≡ s.kept.shut → (does a s).kept.ring.wanted ≡ s.kept.ring.wanted → (does a s).kept.ring.runs ≡ s.kept.ring.runs
      → (does a s).kept.ring.check ≡ s.kept.ring.check
      → (IsTurning w → (does a s).kept.ring.number ≡ last_check w → s.activity ≡ (does a s).kept.ring.mark) → Goes w → Goes (acted w me a)
  both_kept a is none said shut wanted runs check own (inl was) = inl (live_kept a is none (λ e. shut ∙ e) (λ e. wanted ∙ e) was)
  both_kept a is none said shut wanted runs check own (inr turning) =
      inr (turning_kept a is said (λ e. runs ∙ e) check (own turning) turning)

  tested_in_wanted : (wave : ℕ) → (tested_in wave s.kept.ring).wanted ≡ s.kept.ring.wanted
  tested_in_wanted wave = by_test (wave == 2) refl
    where
      by_test : (t : Bool) → (wave == 2) ≡ t → (tested_in wave s.kept.ring).wanted ≡ s.kept.ring.wanted
      by_test true is = rw is refl
      by_test false is = rw is refl

  -- an event that does not raise the activity goes on
  pub first_goes : (a : Act) → IsAct w me a → raises_taken (takes a) ≡ false → (may_fail a ≡ true → IsTurning w → IsLive w)
      → Goes w → Goes (acted w me a)
  first_goes (Wants from) is low live was =
      let kept = zero_kept w me (Wants from) well is (zero_is w me (Wants from) well is is.sure) in
      inl (inr (inr (ap (λ (k : Kept). k.ring.wanted) kept)))
  first_goes (Marks from t) is low live was = both_kept (Marks from t) is refl refl refl refl refl refl (λ turning e. refl) was
  first_goes (Passes from t) is low live was =
      both_kept (Passes from t) is refl refl refl refl refl refl (λ turning e. own_same turning is.here e) was
  first_goes (Fails from t why) is low live was =
      live_or (Fails from t why) is refl (λ e. e) (λ e. tested_in_wanted t.wave ∙ e) (live refl) was
  first_goes (Gives_up from t) is low live was = live_or (Gives_up from t) is refl (λ e. e) (λ e. e) (live refl) was
  first_goes (Hears_failed from t why) is low live was =
      live_or (Hears_failed from t why) is refl (λ e. e) (λ e. e)
      (λ turning. let next = failures_next w me (Hears_failed from t why) well is in let none = turning.none in absurd (omega arith)) was
  first_goes (Finds from t) is low live was =
      let next = news_next w me (Finds from t) well is in
      let more : 1 < s.config.servers = let e = ap (λ (c : Config). c.servers) (own_of w me (Finds from t) well is).config in omega arith in
      let told = others_some news.letter me s tells.Exhaust more (λ to. refl) in
      inl (inl (omega arith))
  first_goes (Shuts from t) is low live was =
      let kept = zero_kept w me (Shuts from t) well is (zero_is w me (Shuts from t) well is is.sure.0.running.zeroth) in
      inl (inr (inl (ap (λ (k : Kept). k.shut) kept)))
  first_goes (Hears_shutdown from) is low live (inl was) = inl (live_kept (Hears_shutdown from) is refl (λ e. refl) (λ e. e) was)
  first_goes (Hears_shutdown from) is low live (inr turning) =
      inr (turning_kept (Hears_shutdown from) is refl (λ e. e) refl (λ e. own_same turning is.here e) turning)
  first_goes _ is low live was = absurd (cc)
