-- What a server that is alone does as soon as it is quiet: it checks at once, and is shut, or has a reason against that.
use Rattle.adlb_unit.specs.declared.names.UnitId.{UnitId}
use Rattle.core_check_law.specs.Settling.{Has}
use Rattle.core_law.specs.OnLinks.{Each}
use Rattle.core_progress_law.proofs.Ends.{quiet_after}
use Rattle.core_progress_law.proofs.Following.{brings}
use Rattle.exhaust_ring.specs.Ring.{Asker, MayStart}
use Rattle.exhaust_ring.specs.Visits.{is_verdict}
use Rattle.exhaust_ring.specs.declared.steps.RingStep.{RingStep}
use Rattle.exhaust_ring.specs.declared.steps.RingStep.TheVariants.{Ended, Exhausted, Fail, Pass, Shutdown}
use Rattle.server_components.specs.Calls.{wants}
use Rattle.server_components.specs.declared.waits.Waiting.{Waiting}
use Rattle.server_law.proofs.Endings.{checks_start, ends_unquiet, notices_quiet, starts_alone, tells_first}
use Rattle.server_law.proofs.Starting.{exhausted_alone}
use Rattle.server_law.proofs.Waiters.{done_kept, done_named}
use Rattle.server_law.specs.Acts.{Act, Checks_alone, Finds_alone, Hears_shutdown, Notes_own, Shuts, Shuts_alone, askers, check_alone, does}
use Rattle.server_law.specs.Acts.{fit_among, shut_after}
use Rattle.server_law.specs.Carried.{all_done, done}
use Rattle.server_law.specs.Endings.{checks, ends_event, finds_alone, is_noted, is_quiet, notice, tells_all}
use Rattle.server_law.specs.Plan.{decided}
use Rattle.server_law.specs.State.{Kept, ServerModel, ring_at}
use Rattle.std.proofs.Common.{Bool, List, None, Option, Some, [], ap, append-nil, false, inl, inr, map, refl, subst, sym, true, ◌++◌, ◌==◌}
use Rattle.std.proofs.Common.{◌∙◌, ◌∷◌, ◌≡◌, ◌⊎◌}
use Rattle.std.proofs.lemmas.Bool.{eq-eqb}
use Rattle.adlb_unit.specs.declared.notes.End.TheVariants as ends_by

-- somebody waits though all work was found used up, or a free unit fits a rank that waits
abbrev pub IsUnfound : Kept → Type 0
IsUnfound k = ((k.exhausted ≡ true) × (e : Waiting) × Has k.parked.waiting e) ⊎ ((id : UnitId) × (fit_among k (askers k) ≡ Some id))

-- What its check finds.

module _ (v : ServerModel) (is_alone : (v.config.servers == 1) ≡ true) where
  abbrev itself : v.activity == v.activity ≡ true
  itself = eq-eqb v.activity v.activity refl

  finds : (first : Asker) (more : List Asker) → askers v.kept ≡ first ∷ more → fit_among v.kept (first ∷ more) ≡ None
      → v.kept.exhausted ≡ false → (check_alone v).step ≡ Exhausted
  finds first more some none fresh = rw (is_alone, some, none, itself, fresh) refl

  shuts : askers v.kept ≡ [] → fit_among v.kept [] ≡ None → (check_alone v).step ≡ Shutdown
  shuts nobody none = rw (is_alone, nobody, none, itself) refl

  unfound : is_verdict (check_alone v).step ≡ false → IsUnfound v.kept
  unfound open_yet = by_fit (fit_among v.kept (askers v.kept)) refl
    where
      no_verdict : (step : RingStep) → is_verdict step ≡ true → (check_alone v).step ≡ step → ⊥
      no_verdict step is e = let no : true ≡ false = sym is ∙ ap is_verdict (sym e) ∙ open_yet in absurd (cc)

      by_exhausted : (e : Waiting) (behind : List Waiting) → v.kept.parked.waiting ≡ e ∷ behind → fit_among v.kept (askers v.kept) ≡ None
          → (b : Bool) → v.kept.exhausted ≡ b → IsUnfound v.kept
      by_exhausted e behind stands none true is = inl (is, e, subst (λ (l : List Waiting). Has l e) (sym stands) (inl refl))
      by_exhausted e behind stands none false is =
          let asked : askers v.kept ≡ wants e ∷ map wants behind = ap (map wants) stands in
          let nothing : fit_among v.kept (wants e ∷ map wants behind) ≡ None = ap (fit_among v.kept) (sym asked) ∙ none in
          absurd (no_verdict Exhausted refl (finds (wants e) (map wants behind) asked nothing is))

      by_waiting : (es : List Waiting) → v.kept.parked.waiting ≡ es → fit_among v.kept (askers v.kept) ≡ None → IsUnfound v.kept
      by_waiting [] stands none =
          let asked : askers v.kept ≡ [] = ap (map wants) stands in
          let nothing : fit_among v.kept [] ≡ None = ap (fit_among v.kept) (sym asked) ∙ none in
          absurd (no_verdict Shutdown refl (shuts asked nothing))
      by_waiting (e ∷ behind) stands none = by_exhausted e behind stands none v.kept.exhausted refl

      by_fit : (o : Option UnitId) → fit_among v.kept (askers v.kept) ≡ o → IsUnfound v.kept
      by_fit (Some id) e = inr (id, e)
      by_fit None e = by_waiting v.kept.parked.waiting refl e

-- The end of an event.

shut_kept : (a : Act) → shut_after a true ≡ true
shut_kept (Shuts from t) = refl
shut_kept (Hears_shutdown from) = refl
shut_kept Shuts_alone = refl
shut_kept _ = refl

shut_stays : (list : List Act) (s : ServerModel) → s.kept.shut ≡ true → (all_done list s).kept.shut ≡ true
shut_stays [] s shut = shut
shut_stays (a ∷ list) s shut =
    shut_stays list (done a s) (ap (λ (k : Kept). k.shut) (done_kept a s) ∙ ap (shut_after a) shut ∙ shut_kept a)

-- a server that is alone, has changed since its last notice, and runs no check; each rank that waits is idle
pub record IsReady (t : ServerModel) : Type 0 where
  pub alone : t.config.servers ≡ 1
  pub zeroth : t.me.0 ≡ 0
  pub new : is_noted t.kept.noted t.activity ≡ false
  pub idle : t.kept.ring.runs ≡ false
  pub waits : (e : Waiting) → Has t.kept.parked.waiting e → e.asked ≡ None

-- no act of these says such a letter
abbrev pub NoneBring : List Act → Type 0
NoneBring list = Each (λ (a : Act). brings a ≡ false) list

module _ (t : ServerModel) (ready : IsReady t) where
  abbrev kept_v : (done Notes_own t).kept ≡ (does Notes_own t).kept
  kept_v = done_kept Notes_own t

  one_server : (done Notes_own t).config.servers ≡ 1
  one_server = ap (λ c. c.servers) (done_named Notes_own t).0 ∙ ready.alone

  noted : is_quiet t ≡ true → decided ends_event t ≡ Notes_own ∷ checks (done Notes_own t)
  noted quiet =
      let zero_here : (t.me.0 == 0) ≡ true = eq-eqb t.me.0 0 ready.zeroth in
      ap (λ (l : List Act). l ++ (checks (all_done l t) ++ [])) (notices_quiet t quiet ready.new ∙ ap notice zero_here)
      ∙ ap (λ (l : List Act). Notes_own ∷ l) (append-nil (checks (done Notes_own t)))

  may : is_quiet t ≡ true → t.kept.shut ≡ false → MayStart (ring_at (done Notes_own t)) (is_quiet (done Notes_own t))
  may quiet going = record {
    zeroth = ap (λ k. k.0) (done_named Notes_own t).1 ∙ ready.zeroth;
    wanted = ap (λ (k : Kept). k.ring.wanted) kept_v;
    alone = ap (λ (k : Kept). k.ring.runs) kept_v ∙ ready.idle;
    rests = quiet_after Notes_own t refl refl refl ∙ quiet;
    going = ap (λ (k : Kept). k.shut) kept_v ∙ going;
  }

  checked : is_quiet t ≡ true → t.kept.shut ≡ false
      → decided ends_event t ≡ Notes_own ∷ finds_alone (check_alone (done Notes_own t)).step (done Notes_own t).kept.parked.waiting
  checked quiet going =
      noted quiet
      ∙ ap (λ (l : List Act). Notes_own ∷ l)
      (checks_start (done Notes_own t) (may quiet going) ∙ starts_alone (done Notes_own t) one_server)

  -- where the check finds no verdict
  kept_unfound : is_verdict (check_alone (done Notes_own t)).step ≡ false → decided ends_event t ≡ Notes_own ∷ Checks_alone ∷ []
      → IsUnfound (all_done (decided ends_event t) t).kept
  kept_unfound none list =
      subst IsUnfound (sym (ap (λ (l : List Act). (all_done l t).kept) list ∙ done_kept Checks_alone (done Notes_own t)))
      (unfound (done Notes_own t) (eq-eqb (done Notes_own t).config.servers 1 one_server) none)

  -- by what the check finds
  by_step : (step : RingStep) → (check_alone (done Notes_own t)).step ≡ step → is_quiet t ≡ true → NoneBring (decided ends_event t)
      → decided ends_event t ≡ Notes_own ∷ finds_alone step (done Notes_own t).kept.parked.waiting
      → ((all_done (decided ends_event t) t).kept.shut ≡ true) ⊎ IsUnfound (all_done (decided ends_event t) t).kept
  by_step Exhausted is quiet none list =
      let found = exhausted_alone (done Notes_own t) one_server (quiet_after Notes_own t refl refl refl ∙ quiet) is in
      let stands : t.kept.parked.waiting ≡ found.first ∷ found.behind = ap (λ (k : Kept). k.parked.waiting) (sym kept_v) ∙ found.waits in
      let idle = ready.waits found.first (subst (λ (l : List Waiting). Has l found.first) (sym stands) (inl refl)) in
      let told : decided ends_event t ≡ Notes_own ∷ Finds_alone ∷ _ =
      list
      ∙ ap (λ (l : List Waiting). Notes_own ∷ Finds_alone ∷ tells_all ends_by.Exhausted [] l) found.waits
      ∙ ap (λ (l : List Act). Notes_own ∷ Finds_alone ∷ l) (tells_first ends_by.Exhausted found.first found.behind idle) in
      let bad : true ≡ false = (subst NoneBring told none).1.1.0 in
      absurd (cc)
  by_step Shutdown is quiet none list =
      inl (ap (λ (l : List Act). (all_done l t).kept.shut) list ∙ ap (λ (k : Kept). k.shut) (done_kept Shuts_alone (done Notes_own t)))
  by_step (Pass token) is quiet none list = inr (kept_unfound (ap is_verdict is) list)
  by_step (Fail token why) is quiet none list = inr (kept_unfound (ap is_verdict is) list)
  by_step Ended is quiet none list = inr (kept_unfound (ap is_verdict is) list)

  -- after the event it is shut, or has a reason against that
  pub alone_end : is_quiet (all_done (decided ends_event t) t) ≡ true → NoneBring (decided ends_event t)
      → ((all_done (decided ends_event t) t).kept.shut ≡ true) ⊎ IsUnfound (all_done (decided ends_event t) t).kept
  alone_end quiet none = by_quiet (is_quiet t) refl
    where
      by_shut : is_quiet t ≡ true → (b : Bool) → t.kept.shut ≡ b
          → ((all_done (decided ends_event t) t).kept.shut ≡ true) ⊎ IsUnfound (all_done (decided ends_event t) t).kept
      by_shut on true is = inl (shut_stays (decided ends_event t) t is)
      by_shut on false is = by_step (check_alone (done Notes_own t)).step refl on none (checked on is)

      by_quiet : (b : Bool) → is_quiet t ≡ b
          → ((all_done (decided ends_event t) t).kept.shut ≡ true) ⊎ IsUnfound (all_done (decided ends_event t) t).kept
      by_quiet true on = by_shut on t.kept.shut refl
      by_quiet false off =
          let same : all_done (decided ends_event t) t ≡ t = ap (λ (l : List Act). all_done l t) (ends_unquiet t off) in
          let bad : false ≡ true = sym off ∙ ap is_quiet (sym same) ∙ quiet in
          absurd (cc)
