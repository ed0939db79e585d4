-- What the token says of the bag where it goes on: all rests as it leaves server 0 in wave 2, and nothing fits at one server more.
use Rattle.std.proofs.Common.{◌≡◌, ◌≢◌, ◌<◌, ◌≤◌, ◌⊎◌, inl, inr, ℕ, ◌+◌, ◌==◌, ◌&&◌, ◌||◌, Bool, true, false, cond, List, [], ◌∷◌, filter}
use Rattle.std.proofs.Common.{find, None, Some, refl, sym, ap, ◌∙◌, subst, arith}
use Rattle.std.specs.Prelude.{is_none}
use Rattle.std.specs.List.{list_any}
use Rattle.std.specs.Option.{option_map}
use Rattle.std.proofs.lemmas.Bool.{and_parts, cases_eq, eqb-true}
use Rattle.adlb_unit.specs.Permit.{permitted}
use Rattle.adlb_unit.specs.declared.names.Server.{Server}
use Rattle.adlb_unit.specs.declared.tokens.Token.{Token}
use Rattle.bag_ledger.specs.Bag.{Bag}
use Rattle.exhaust_ring.specs.Expected.{HasComeBack, IsToTest}
use Rattle.exhaust_ring.specs.Ring.{Asker, token}
use Rattle.work_queue.specs.Best.{offered}
use Rattle.work_queue.specs.Fits.{asked_for, first_fit}
use Rattle.work_queue.specs.Queue.{id_of}
use Rattle.work_queue.specs.declared.placing.Placed.{Placed}
use Rattle.server_law.specs.Acts.{Act, Passes, askers, fit_among, onward}
use Rattle.server_law.specs.Endings.{is_quiet}
use Rattle.server_law.specs.State.{ServerModel, ring_at}
use Rattle.server_law.proofs.Tests.{is_none_says}
use Rattle.core_run.specs.World.{World, pool_of, server_named}
use Rattle.core_law.specs.Acting.{IsAct, acted}
use Rattle.core_law.specs.Lawful.{IsLawful}
use Rattle.core_law.specs.OnLinks.{Each}
use Rattle.core_law.specs.Well.{IsWell}
use Rattle.core_law.proofs.UnderWay.{each_weaker}
use Rattle.core_check_law.specs.OnWay.{IsOnWay, IsRinged, IsUnchanged, of_home, reach}
use Rattle.core_check_law.specs.Settling.{AreUnchanged, IsOpen, IsSettledBehind, IsSettling, NoFit}
use Rattle.core_check_law.proofs.Homes.{reach_at, reach_zeroth}
use Rattle.core_check_law.proofs.Quiet.{AreTold, quiet_goes, quiet_rests}
use Rattle.core_check_law.proofs.RestKept.{as_was, settling_stays}
use Rattle.core_check_law.proofs.Turns.{onward_is, token_front, unchanged_back, zeroth_here}

-- Where no free unit fits a rank of the list.

none_found : (asked : List Asker) (units : List Placed) → first_fit asked units ≡ None
    → Each (λ (p : Placed). asked_for asked p ≡ false) units
none_found asked [] none = tt
none_found asked (p ∷ units) none = by_test (asked_for asked p) refl (λ e. none_found asked units e) none
  where
    by_test : (t : Bool) → asked_for asked p ≡ t
        → (first_fit asked units ≡ None → Each (λ (q : Placed). asked_for asked q ≡ false) units)
        → option_map id_of (cond t (Some p) (find (asked_for asked) units)) ≡ None
        → (asked_for asked p ≡ false) × Each (λ (q : Placed). asked_for asked q ≡ false) units
    by_test true is later e = absurd (cc)
    by_test false is later e = (is, later e)

none_asked : (p : Placed) (asked : List Asker) → asked_for asked p ≡ false → Each (λ (a : Asker). offered a.0 a.1 p ≡ false) asked
none_asked p [] none = tt
none_asked p (a ∷ asked) none =
    let x = by_tests (is_none p.pin) (permitted a.0 a.1 p.unit.kind p.unit.target)
    (list_any (λ (c : Asker). permitted c.0 c.1 p.unit.kind p.unit.target) asked) none in
    (x.0, none_asked p asked x.1)
  where
    by_tests : (free here later : Bool) → free && (here || later) ≡ false → (free && here ≡ false) × (free && later ≡ false)
    by_tests true true later e = absurd (cc)
    by_tests true false later e = (refl, e)
    by_tests false here later e = (refl, refl)

each_swapped : {X Y : Type 0} (P : X → Y → Type 0) (xs : List X) (ys : List Y) → Each (λ x. Each (P x) ys) xs
    → Each (λ y. Each (λ x. P x y) xs) ys
each_swapped P xs [] each = tt
each_swapped P xs (y ∷ ys) each = (
  each_weaker (λ x. P x y × Each (P x) ys) (λ x. P x y) (λ x e. e.0) xs each,
  each_swapped P xs ys (each_weaker (λ x. P x y × Each (P x) ys) (λ x. Each (P x) ys) (λ x e. e.1) xs each),
)

none_fits : (units : List Placed) (asked : List Asker) → first_fit asked units ≡ None → Each (NoFit units) asked
none_fits units asked none =
    each_swapped (λ (p : Placed) (a : Asker). offered a.0 a.1 p ≡ false) units asked
    (each_weaker (λ (p : Placed). asked_for asked p ≡ false) (λ (p : Placed). Each (λ (a : Asker). offered a.0 a.1 p ≡ false) asked)
    (λ p e. none_asked p asked e) units (none_found asked units none))

-- The token goes on.

module _ (w : World) (b : Bag) (k from : Server) (t : Token) (well : IsWell w) (l : IsLawful w b) (ring : IsRinged w)
    (is : IsAct w k (Passes from t)) where
  abbrev s : ServerModel
  s = pool_of w k

  abbrev a : Act
  a = Passes from t

  on : reach w.config (onward s) ≡ k.0 + 1
  on = onward_is w k well is.here

  server_at : (c : Server) → c.0 ≡ k.0 → k ≡ c
  server_at c e = ap server_named (sym e)

  passed : (is_quiet s ≡ true) × IsUnchanged s × Each (NoFit s.kept.queue.units) t.asked
  passed =
      let parts = and_parts (is_quiet s) ((s.activity == s.kept.ring.mark) && is_none (fit_among s.kept t.asked)) is.sure.2 in
      let more = and_parts (s.activity == s.kept.ring.mark) (is_none (fit_among s.kept t.asked)) parts.1 in
      let none = none_fits s.kept.queue.units t.asked ((is_none_says (fit_among s.kept t.asked)).0 more.1) in
      (parts.0, eqb-true s.activity s.kept.ring.mark more.0, none)

  -- this server passed its own tests
  unchanged_here : (c : Server) → c.0 ≡ k.0 → IsUnchanged (pool_of w c)
  unchanged_here c e = subst (λ (x : Server). IsUnchanged (pool_of w x)) (server_at c e) passed.1

  none_here : (c : Server) → c.0 ≡ k.0 → Each (NoFit (pool_of w c).kept.queue.units) t.asked
  none_here c e = subst (λ (x : Server). Each (NoFit (pool_of w x).kept.queue.units) t.asked) (server_at c e) passed.2

  -- with those after, all from here on
  unchanged_from : AreUnchanged w (k.0 + 1) → (c : Server) → k.0 ≤ c.0 → c.0 < w.config.servers → IsUnchanged (pool_of w c)
  unchanged_from un c high there = by_place (cases_eq c.0 k.0)
    where
      by_place : (c.0 ≡ k.0) ⊎ (c.0 ≢ k.0) → IsUnchanged (pool_of w c)
      by_place (inl e) = unchanged_here c e
      by_place (inr differs) = un c (omega arith) there

  begins : AreTold w → s.me.0 ≡ 0 → AreUnchanged w (k.0 + 1) → IsSettling w b (k.0 + 1) t.asked
  begins told first un = record {
    rest = quiet_rests w b well l (λ c there. (bridge c there).0);
    listed = λ c there. (bridge c there).1;
    going = quiet_goes w b well l (λ c there. (bridge c there).0) told;
    none = λ c there low. let z = at_zeroth in none_here c (omega arith);
  }
    where
      at_zeroth : k.0 ≡ 0
      at_zeroth = ap (λ (x : Server). x.0) (zeroth_here w k well is.here first)

      was : IsOnWay w k t
      was = token_front (IsOnWay w) w k from t a is refl ring.on

      bridge : (c : Server) → c.0 < w.config.servers
          → (is_quiet (pool_of w c) ≡ true) × (filter (of_home w.config c) t.asked ≡ askers (pool_of w c).kept)
      bridge c there =
          let z = at_zeroth in
          let r = reach_zeroth w.config k at_zeroth in
          was.bridge c there (was.marked c there (inr (omega arith))) (unchanged_from un c (omega arith) there)

  goes_on : s.me.0 ≢ 0 → t.wave ≡ 2 → IsSettledBehind w b k t → AreUnchanged w (k.0 + 1) → IsOpen b t.asked
      → IsSettling w b (k.0 + 1) t.asked
  goes_on other second was un still = record {
    rest = old.rest;
    listed = old.listed;
    going = old.going;
    none = λ c there low. by_place c there low (cases_eq c.0 k.0);
  }
    where
      r : reach w.config k ≡ k.0
      r = reach_at w.config k (λ e. other (ap (λ (x : Server). x.0) (well.own.servers k is.here).me ∙ e))

      old : IsSettling w b (reach w.config k) t.asked
      old = was second (λ c high there. unchanged_from un c (let e = r in omega arith) there) still

      by_place : (c : Server) → c.0 < w.config.servers → c.0 < k.0 + 1 → (c.0 ≡ k.0) ⊎ (c.0 ≢ k.0)
          → Each (NoFit (pool_of w c).kept.queue.units) t.asked
      by_place c there low (inl e) = none_here c e
      by_place c there low (inr differs) = old.none c there (let e = r in omega arith)

  -- where a token goes on, what it says of the bag is so with one server more
  pub pass_settles : AreTold w → IsSettledBehind w b k t → IsSettledBehind (acted w k a) b (onward s) (token t.check 2 t.asked)
  pass_settles told was second un still = subst (λ (n : ℕ). IsSettling (acted w k a) b n t.asked) (sym on) next
    where
      un_was : AreUnchanged w (k.0 + 1)
      un_was c high there = unchanged_back w k well a is refl c there (un c (let e = on in omega arith) there)

      by_wave : HasComeBack (ring_at s) t ⊎ IsToTest (ring_at s) t → IsSettling w b (k.0 + 1) t.asked
      by_wave (inl back) = begins told back.running.zeroth un_was
      by_wave (inr tests) = goes_on tests.other tests.wave was un_was still

      next : IsSettling (acted w k a) b (k.0 + 1) t.asked
      next =
          let v = acted w k a in
          settling_stays w v.ranks v.servers v.links v.ledger b (k.0 + 1) t.asked
          (as_was w k a well.shape is (record { queue = refl; wished = refl; push = refl; done = refl })) (by_wave is.sure.1)
