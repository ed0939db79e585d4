-- When a check is started, and what a server that is alone finds by it.
use Rattle.std.proofs.Common.{◌≡◌, ◌≢◌, ◌==◌, ℕ, Bool, true, false, cond, ◌&&◌, not, List, [], ◌∷◌, map, Any, Option, None, Some, refl, sym}
use Rattle.std.proofs.Common.{ap, ◌∙◌, arith}
use Rattle.std.specs.List.{list_any}
use Rattle.std.proofs.lemmas.Bool.{and_parts, eq-eqb, eqb-true, false_from_ne_true, not-true}
use Rattle.std.proofs.lemmas.List.{get_or-map, length-map}
use Rattle.std.proofs.lemmas.List.Folds.{Any-from_list_any}
use Rattle.std.proofs.lemmas.Option.{get_or_from_slice_get, slice_get_within}
use Rattle.adlb_unit.specs.Permit.{Permits}
use Rattle.adlb_unit.specs.declared.messages.Why.TheVariants.{Fits}
use Rattle.adlb_unit.specs.declared.names.UnitId.{UnitId}
use Rattle.exhaust_ring.specs.Ring.{Asker, MayStart, RingModel, begun, ended, may_start, with_ring, with_tests}
use Rattle.exhaust_ring.specs.Tests.{fitting}
use Rattle.exhaust_ring.specs.Visits.{Outcome, first_token, is_verdict, judged, judged_alone, outcome, started}
use Rattle.exhaust_ring.specs.declared.steps.RingStep.TheVariants.{Ended, Exhausted, Fail, Shutdown}
use Rattle.work_queue.specs.Best.{best_of}
use Rattle.work_queue.proofs.Walks.{best_walk, no_fit}
use Rattle.server_components.specs.Calls.{wants}
use Rattle.server_components.specs.declared.waits.Waiting.{Waiting}
use Rattle.server_law.specs.Acts.{askers, check_alone, fit_among}
use Rattle.server_law.specs.Endings.{fits, is_quiet}
use Rattle.server_law.specs.State.{Kept, ServerModel, ring_at}
use Rattle.server_law.specs.Sure.{IsExhausted}
use Rattle.server_law.proofs.Found.{best_says, some_there}

-- the test of whether a check may start says it
pub may_is : (m : RingModel) (quiet : Bool) → may_start m quiet ≡ true → MayStart m quiet
may_is m quiet e =
    let a = and_parts (m.me.0 == 0) (m.ring.wanted && (not m.ring.runs && (quiet && not m.shut))) e in
    let b = and_parts m.ring.wanted (not m.ring.runs && (quiet && not m.shut)) a.1 in
    let c = and_parts (not m.ring.runs) (quiet && not m.shut) b.1 in
    let d = and_parts quiet (not m.shut) c.1 in
    record { zeroth = eqb-true m.me.0 0 a.0; wanted = b.0; alone = not-true m.ring.runs c.0; rests = d.0; going = not-true m.shut d.1 }

-- where a check may start its test passes
pub may_tested : (m : RingModel) (quiet : Bool) → MayStart m quiet → may_start m quiet ≡ true
may_tested m quiet may = rw (eq-eqb m.me.0 0 may.zeroth, may.wanted, may.alone, may.rests, may.going) refl

-- none is where the server is not quiet
pub unquiet_may_not : (m : RingModel) (quiet : Bool) → quiet ≡ false → may_start m quiet ≡ false
unquiet_may_not m quiet unquiet = rw unquiet (by_tests (m.me.0 == 0) m.ring.wanted m.ring.runs)
  where
    by_tests : (zeroth wanted runs : Bool) → zeroth && (wanted && (not runs && (false && not m.shut))) ≡ false
    by_tests false wanted runs = refl
    by_tests true false runs = refl
    by_tests true true true = refl
    by_tests true true false = refl

-- What a server finds that is alone.

-- where no free unit fits a rank of the list, none is permitted to a rank that waits
pub unfit_where : (k : Kept) → fit_among k (askers k) ≡ None → list_any (fits k) k.parked.waiting ≡ false
unfit_where k none = false_from_ne_true (list_any (fits k) k.parked.waiting) (λ some.
    let has = Any-from_list_any (fits k) k.parked.waiting some in
    let e : Waiting = has.1 in
    let found = some_there (best_of e.wish.rank e.wish.types k.queue.units) (sym (best_says k e.wish) ∙ has.4) in
    let best = (best_walk e.wish.rank e.wish.types k.queue.units found.0).0 found.1 in
    let asked : Any (λ (a : Asker). Permits a.0 a.1 best.unit.unit.kind best.unit.unit.target) (askers k) = (
      has.0,
      wants e,
      omega (arith, has.2, length-map k.parked.waiting wants),
      get_or-map wants k.parked.waiting has.0 e (wants e) has.2 ∙ ap wants has.3,
      best.is_offered.1,
    ) in
    (no_fit (askers k) k.queue.units).0 none (
      best.place,
      best.unit,
      slice_get_within k.queue.units best.place best.unit best.here,
      get_or_from_slice_get k.queue.units best.place best.unit best.unit best.here,
      (best.is_offered.0, asked),
    ))

module _ (m : RingModel) (activity : ℕ) where
  abbrev after : RingModel
  after = with_ring m (begun m.ring activity)

  -- it is quiet as it takes its mark, so that the first test to fail can only be that a free unit fits
  abbrev checked : List Asker → Option UnitId → Outcome
  checked parked fits = judged_alone (judged after (first_token after parked) (fitting fits))

  by_fit : (parked : List Asker) (fits : Option UnitId) → m.config.servers ≡ 1 → started m activity parked fits ≡ checked parked fits
  by_fit parked fits alone = rw (eq-eqb m.config.servers 1 alone, eq-eqb activity activity refl) refl

  -- where a unit fits, there is no verdict
  no_verdict : (parked : List Asker) (id : UnitId) → is_verdict (checked parked (Some id)).step ≡ false
  no_verdict parked id = by_me (m.me.0 == 0)
    where
      by_me : (zeroth : Bool)
          → is_verdict (judged_alone (cond zeroth (outcome (with_ring after (ended after.ring)) Ended)
          (outcome (with_ring after (with_tests after.ring)) (Fail (first_token after parked) (Fits id))))).step ≡ false
      by_me true = refl
      by_me false = refl

  -- all work is used up where none fits, somebody waits, and that was not found before
  abbrev Finds : List Asker → Option UnitId → Type 0
  Finds parked fits = (fits ≡ None) × (m.exhausted ≡ false) × (parked ≢ [])

  finds : (parked : List Asker) (fits : Option UnitId) → (checked parked fits).step ≡ Exhausted → Finds parked fits
  finds parked (Some id) is = let no : true ≡ false = sym (ap is_verdict is) ∙ no_verdict parked id in absurd (cc)
  finds [] None is = absurd (cc)
  finds (first ∷ more) None is = by_before (outcome _ Ended) (outcome _ Exhausted) refl m.exhausted refl is
    where
      by_before : (x y : Outcome) → x.step ≡ Ended → (before : Bool) → m.exhausted ≡ before → (cond before x y).step ≡ Exhausted
          → Finds (first ∷ more) None
      by_before x y ends true before is = let no : Ended ≡ Exhausted = sym ends ∙ is in absurd (cc)
      by_before x y ends false before is = (refl, before, λ none. absurd (cc))

  -- the server is shut where nobody waits
  shuts : (parked : List Asker) (fits : Option UnitId) → (checked parked fits).step ≡ Shutdown → parked ≡ []
  shuts parked (Some id) is = let no : true ≡ false = sym (ap is_verdict is) ∙ no_verdict parked id in absurd (cc)
  shuts [] None is = refl
  shuts (first ∷ more) None is = by_before (outcome _ Ended) (outcome _ Exhausted) refl refl m.exhausted is
    where
      by_before : (x y : Outcome) → x.step ≡ Ended → y.step ≡ Exhausted → (before : Bool) → (cond before x y).step ≡ Shutdown
          → first ∷ more ≡ []
      by_before x y ends finds true is = let no : Ended ≡ Shutdown = sym ends ∙ is in absurd (cc)
      by_before x y ends finds false is = let no : Exhausted ≡ Shutdown = sym finds ∙ is in absurd (cc)

module _ (s : ServerModel) (alone : s.config.servers ≡ 1) where
  now : (check_alone s).step ≡ (checked (ring_at s) s.activity (askers s.kept) (fit_among s.kept (askers s.kept))).step
  now = ap (λ (o : Outcome). o.step) (by_fit (ring_at s) s.activity (askers s.kept) (fit_among s.kept (askers s.kept)) alone)

  -- if a quiet server that is alone finds exhaustion by its check, it is exhausted
  pub exhausted_alone : is_quiet s ≡ true → (check_alone s).step ≡ Exhausted → IsExhausted s
  exhausted_alone quiet is = by_waiting s.kept.parked.waiting refl
    where
      found : Finds (ring_at s) s.activity (askers s.kept) (fit_among s.kept (askers s.kept))
      found = finds (ring_at s) s.activity (askers s.kept) (fit_among s.kept (askers s.kept)) (sym now ∙ is)

      by_waiting : (waiting : List Waiting) → s.kept.parked.waiting ≡ waiting → IsExhausted s
      by_waiting [] nobody = absurd (found.2 (ap (map wants) nobody))
      by_waiting (e ∷ behind) stands = record {
        alone = alone;
        quiet = quiet;
        new = found.1;
        first = e;
        behind = behind;
        waits = stands;
        unfit = unfit_where s.kept found.0;
      }

  -- a server that is alone and shuts down has no rank that waits
  pub shut_alone : (check_alone s).step ≡ Shutdown → s.kept.parked.waiting ≡ []
  shut_alone is = by_waiting s.kept.parked.waiting refl
    where
      nobody : askers s.kept ≡ []
      nobody = shuts (ring_at s) s.activity (askers s.kept) (fit_among s.kept (askers s.kept)) (sym now ∙ is)

      by_waiting : (waiting : List Waiting) → s.kept.parked.waiting ≡ waiting → s.kept.parked.waiting ≡ []
      by_waiting [] stands = stands
      by_waiting (e ∷ behind) stands = let no : wants e ∷ map wants behind ≡ [] = sym (ap (map wants) stands) ∙ nobody in absurd (cc)
