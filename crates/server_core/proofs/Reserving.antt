-- What a reserve comes to.
use Rattle.std.proofs.Common.{◌≡◌, Bool, true, false, List, [], ◌∷◌, ◌++◌, Option, None, Some, refl, sym, ap, ◌∙◌}
use Rattle.adlb_unit.specs.Ring.{others}
use Rattle.adlb_unit.specs.declared.names.Rank.{Rank}
use Rattle.adlb_unit.specs.declared.names.Server.{Server}
use Rattle.adlb_unit.specs.declared.notes.End.{End}
use Rattle.bag_ledger.proofs.Tests.{some_is}
use Rattle.work_queue.specs.declared.placing.Placed.{Placed}
use Rattle.server_components.specs.Calls.{asking, reserved, step_for}
use Rattle.server_components.specs.Grants.{best_for, pinned_to}
use Rattle.server_components.specs.Parked.{entry_of, is_of}
use Rattle.server_components.specs.declared.steps.ReserveStep.TheVariants as comes_to
use Rattle.server_components.specs.declared.wishes.Wish.{Wish}
use Rattle.server_law.specs.Acts.{Act, Around, Asks_on, Ends_reserve, Grants, Parks}
use Rattle.server_law.specs.Carried.{done}
use Rattle.server_law.specs.Expected.{IsHome, Runs}
use Rattle.server_law.specs.Plan.{Plan}
use Rattle.server_law.specs.Reserves.{reserve, reserve_now, reserve_rule}
use Rattle.server_law.specs.State.{ServerModel, idle, is_waiting, runs_at_home}
use Rattle.server_law.specs.Waits.{ask_next, asks_on}
use Rattle.server_law.proofs.Tests.{waits_not_says}
use Rattle.server_core.specs.inside.{parked_of}
use Rattle.server_core.specs.Out.{Out, going_on, made, planned}
use Rattle.server_core.specs.Waits.{over, over_by, sought, told_ask, told_end, told_step, with_parked}
use Rattle.server_core.proofs.Alone.{NonePasses}
use Rattle.server_core.proofs.Asking.{asks_gone, asks_here, at_waiting, none_pass, waits_here}
use Rattle.server_core.proofs.Going.{asks_then, nothing_said, plan_if, plan_one}

-- who runs does not wait
pub new_here : {s : ServerModel} {rank : Rank} → Runs s rank → is_waiting s.kept rank ≡ false
new_here {s} {rank} runs = (waits_not_says s.kept rank).1 runs.waits_not

-- What comes of the call of a rank that runs and is at home here.
pub record Reserves (s : ServerModel) (out : Out) (wish : Wish) : Type 0 where
  -- calls are over
  pub ends : (end : End) → over s.kept ≡ Some end → (q : Plan) → reserve_rule s wish ≡ Some q
      → told_end wish.rank wish.request end out s ≡ planned out q s
  -- or they are not
  pub steps : over s.kept ≡ None → (q : Plan) → reserve_rule s wish ≡ Some q
      → told_step (step_for s.me (best_for s.kept.queue wish.rank wish.types) (others s.config s.me)) wish.rank wish.request wish.types out
      (sought s wish) ≡ planned out q s
  pub asks : (to : Server) → comes_to.Ask to ≡ step_for s.me (best_for s.kept.queue wish.rank wish.types) (others s.config s.me)
      → entry_of (parked_of (sought s wish)) wish.rank ≡ Some (asking wish (others s.config s.me))

-- the act, where calls are over and where they are not
decides_over : (done exhausted : Bool) (best : Option Placed) (wish : Wish) (end : End) → over_by done exhausted ≡ Some end
    → reserve done exhausted best wish ≡ Ends_reserve wish end
decides_over true exhausted best wish end is = ap (Ends_reserve wish) (some_is is)
decides_over false true best wish end is = ap (Ends_reserve wish) (some_is is)
decides_over false false best wish end is = absurd (cc)

decides_on : (done exhausted : Bool) (best : Option Placed) (wish : Wish) → over_by done exhausted ≡ None
    → reserve done exhausted best wish ≡ reserve false false best wish
decides_on true exhausted best wish is = absurd (cc)
decides_on false true best wish is = absurd (cc)
decides_on false false best wish is = refl

module _ (s : ServerModel) (out : Out) (wish : Wish) (runs : IsHome s wish.rank × Runs s wish.rank) where
  none : NonePasses (is_of wish.rank) s.kept.parked.waiting
  none = none_pass (is_of wish.rank) s.kept.parked.waiting (new_here runs.1)

  abbrev at : Around
  at = record { before = s.kept.parked.waiting; behind = [] }

  -- by the act that is decided, and whether another server is asked then
  by_act : (a : Act) (l : List Act) → reserve_now s.kept wish ≡ a → asks_on wish.rank (done a s) ≡ l
      → (q : Plan) → reserve_rule s wish ≡ Some q → going_on out (a ∷ l) s ≡ planned out q s
  by_act a l now asks =
      plan_if (runs_at_home s wish.rank) (reserve_now s.kept wish) (asks_on wish.rank ∷ []) s out (going_on out (a ∷ l) s)
      (sym (plan_one a (asks_on wish.rank) s out ∙ ap (λ m. going_on out (a ∷ m) s) asks)
      ∙ ap (λ b. planned out (record { first = b; follow = asks_on wish.rank ∷ [] }) s) (sym now))

  ends_here : (end : End) → over s.kept ≡ Some end → (q : Plan) → reserve_rule s wish ≡ Some q
      → told_end wish.rank wish.request end out s ≡ planned out q s
  ends_here end is =
      let a = Ends_reserve wish end in
      by_act a [] (decides_over s.kept.done s.kept.exhausted (best_for s.kept.queue wish.rank wish.types) wish end is)
      (asks_gone wish.rank (done a s) none)

  acts : over s.kept ≡ None → (o : Option Placed) → best_for s.kept.queue wish.rank wish.types ≡ o
      → reserve_now s.kept wish ≡ reserve false false o wish
  acts is o best =
      decides_on s.kept.done s.kept.exhausted (best_for s.kept.queue wish.rank wish.types) wish is
      ∙ ap (λ k. reserve false false k wish) best

  asks_of : (rest : List Server) → others s.config s.me ≡ rest → asks_on wish.rank (done (Parks wish) s) ≡ ask_next at wish None rest
  asks_of rest is =
      asks_here s.kept.parked.waiting (idle wish (others s.config s.me)) [] none (done (Parks wish) s) refl ∙ ap (ask_next at wish None) is

  steps_here : over s.kept ≡ None → (o : Option Placed) → best_for s.kept.queue wish.rank wish.types ≡ o
      → (rest : List Server) → others s.config s.me ≡ rest → (q : Plan) → reserve_rule s wish ≡ Some q
      → told_step (step_for s.me o rest) wish.rank wish.request wish.types out
      (with_parked s (pinned_to wish.rank o s.kept.queue) (reserved (parked_of s) wish o).parked) ≡ planned out q s
  steps_here is (Some u) best rest to_ask q rule =
      let a = Grants wish u.unit in
      by_act a [] (acts is (Some u) best) (asks_gone wish.rank (done a s) none) q rule
  steps_here is None best [] to_ask q rule =
      let seat = ap (λ l. at_waiting s (s.kept.parked.waiting ++ asking wish l ∷ [])) to_ask
      ∙ ap (λ l. at_waiting s (s.kept.parked.waiting ++ idle wish l ∷ [])) (sym to_ask) in
      ap (λ v. made v out) seat ∙ nothing_said (Parks wish) s out refl refl
      ∙ by_act (Parks wish) [] (acts is None best) (asks_of [] to_ask) q rule
  steps_here is None best (to ∷ rest) to_ask q rule =
      let seat = ap (λ l. at_waiting s (s.kept.parked.waiting ++ asking wish l ∷ [])) to_ask in
      ap (told_ask to wish.rank wish.request wish.types out) seat ∙ asks_then (Parks wish) s out refl refl at wish to rest
      ∙ by_act (Parks wish) (Asks_on at wish to rest ∷ []) (acts is None best) (asks_of (to ∷ rest) to_ask) q rule

  waits_of : (o : Option Placed) (to : Server) → comes_to.Ask to ≡ step_for s.me o (others s.config s.me)
      → entry_of (parked_of (with_parked s (pinned_to wish.rank o s.kept.queue) (reserved (parked_of s) wish o).parked)) wish.rank
      ≡ Some (asking wish (others s.config s.me))
  waits_of (Some u) to told = absurd (cc)
  waits_of None to told =
      waits_here s.kept.parked.waiting (asking wish (others s.config s.me)) [] none
      (with_parked s s.kept.queue (reserved (parked_of s) wish None).parked) refl

  -- what a reserve comes to is what the rule says
  pub reserves : Reserves s out wish
  reserves = record {
    ends = ends_here;
    steps = λ is. steps_here is (best_for s.kept.queue wish.rank wish.types) refl (others s.config s.me) refl;
    asks = waits_of (best_for s.kept.queue wish.rank wish.types);
  }
