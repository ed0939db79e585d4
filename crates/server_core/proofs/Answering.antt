-- The server that was asked for a rank answers: what the rank's home does.
use Rattle.std.proofs.Common.{◌≡◌, ◌<◌, ℕ, Bool, true, false, ◌&&◌, List, [], ◌∷◌, ◌++◌, Option, None, Some, refl, sym, ap, ◌∙◌, subst}
use Rattle.std.specs.Prelude.{is_some}
use Rattle.std.proofs.lemmas.Bool.{and_from, and_left, eq-eqb}
use Rattle.std.proofs.lemmas.List.Elements.{All-append}
use Rattle.std.proofs.lemmas.List.Folds.{list_any-from_Any}
use Rattle.adlb_unit.specs.declared.actors.Actor.TheVariants as by
use Rattle.adlb_unit.specs.declared.messages.Message.TheVariants as tells
use Rattle.adlb_unit.specs.declared.names.Rank.{Rank}
use Rattle.adlb_unit.specs.declared.names.Server.{Server}
use Rattle.adlb_unit.specs.declared.notes.End.{End}
use Rattle.adlb_unit.specs.declared.notes.UnitNote.{UnitNote}
use Rattle.bag_ledger.proofs.Tests.{some_is}
use Rattle.work_queue.specs.declared.placing.Placed.{Placed}
use Rattle.server_components.specs.Calls.{after_none, asking, asks_next, step_for}
use Rattle.server_components.specs.Grants.{best_for, note_of, pinned_to}
use Rattle.server_components.specs.Parked.{IsParked, entry_of, is_asked, is_idle, is_of, is_pending}
use Rattle.server_components.specs.declared.steps.ReserveStep.TheVariants as comes_to
use Rattle.server_components.specs.declared.waits.Waiting.{Waiting}
use Rattle.server_components.specs.declared.wishes.Wish.{Wish}
use Rattle.server_law.specs.Acts.{Act, Asks_on, Gives, Passes_on, Tells, Wakes, to_rank}
use Rattle.server_law.specs.Asks.{grant_rule, none_rule, pass_at, pass_on, wake, wake_at}
use Rattle.server_law.specs.Carried.{Served, all_done, counted, done, posted}
use Rattle.server_law.specs.Expected.{IsUnanswered}
use Rattle.server_law.specs.Finding.{Place}
use Rattle.server_law.specs.Plan.{Plan}
use Rattle.server_law.specs.State.{ServerModel, idle}
use Rattle.server_law.specs.Waits.{ask_next, asks_on, look_again, look_at, looks_again}
use Rattle.server_law.proofs.Places.{found_there}
use Rattle.server_core.specs.inside.{parked_of}
use Rattle.server_core.specs.Out.{Out, going_on, made, planned, with_letter}
use Rattle.server_core.specs.Waits.{looked, over, released, told_ask, told_end, told_note, told_step, with_parked}
use Rattle.server_core.proofs.Alone.{NonePasses}
use Rattle.server_core.proofs.Asking.{asks_gone, asks_here, at_waiting, looks_on, looks_over, waits_here}
use Rattle.server_core.proofs.Going.{asks_then, nothing_said, plan_two, says_only}
use Rattle.server_core.proofs.Seats.{IsAskedAt, asked_as, fails_for, found_is, gone_is, turned_is}
use Rattle.server_core.proofs.Sounds.{waits_within}

-- the rank is told which unit another server has pinned to it
abbrev pub told_passed : Rank → ℕ → UnitNote → Out → ServerModel → Served
told_passed rank request note out s =
    made (counted s (by.Rank rank)) (with_letter out (posted s (to_rank rank (tells.Grant request note))))

-- What comes of an answer, for a rank that waits here since this request.
pub record Answered (s : ServerModel) (out : Out) (from : Server) (rank : Rank) (request : ℕ) : Type 0 where
  pub within : rank.0 < s.config.ranks
  -- how it waits
  pub here : Waiting
  pub found : entry_of (parked_of s) rank ≡ Some here
  -- a unit was pinned to it
  pub passes : (note : UnitNote) (q : Plan) → grant_rule s from rank request note ≡ Some q
      → told_passed rank request note out (released s rank) ≡ planned out q s
  -- no unit was found, and calls are over
  pub ends : (end : End) → over s.kept ≡ Some end → (q : Plan) → none_rule s from rank request ≡ Some q
      → told_end rank request end out (released s rank) ≡ planned out q s
  -- or they are not
  pub steps : over s.kept ≡ None → (q : Plan) → none_rule s from rank request ≡ Some q
      → told_step (step_for s.me (best_for s.kept.queue rank here.wish.types) here.to_ask) rank request here.wish.types out
      (looked s rank here.wish.types) ≡ planned out q s
  pub asks : (to : Server) → comes_to.Ask to ≡ step_for s.me (best_for s.kept.queue rank here.wish.types) here.to_ask
      → entry_of (parked_of (looked s rank here.wish.types)) rank ≡ Some (asks_next here)

module _ (s : ServerModel) (out : Out) (from : Server) (p : Place) (at : IsAskedAt s from p) where
  abbrev wish : Wish
  wish = p.here.wish

  abbrev waiting : List Waiting
  waiting = s.kept.parked.waiting

  abbrev woken : ServerModel
  woken = at_waiting s (p.at.before ++ idle p.here.wish p.here.to_ask ∷ p.at.behind)

  abbrev wakes : Act
  wakes = Wakes p.at p.here.wish from p.here.to_ask

  none_left : NonePasses (is_of p.here.wish.rank) (p.at.before ++ p.at.behind)
  none_left = All-append (λ e. is_of p.here.wish.rank e ≡ false) p.at.before p.at.behind at.alone.before at.alone.behind

  looks : looks_again p.here.wish.rank woken
      ≡ look_again s.kept.done s.kept.exhausted (best_for s.kept.queue p.here.wish.rank p.here.wish.types) p.at p.here.wish p.here.to_ask
  looks =
      let test : Waiting → Bool = λ e. is_of p.here.wish.rank e && is_idle e in
      let fails = fails_for p.here.wish.rank test (λ e is. and_left _ _ is) p.at.before at.alone.before in
      let own = and_from (is_of p.here.wish.rank p.here) true (eq-eqb p.here.wish.rank.0 p.here.wish.rank.0 refl) refl in
      ap (look_at s.kept) (found_there test p.at.before (idle p.here.wish p.here.to_ask) p.at.behind fails own)

  -- the acts that follow, where the rank is looked at again and another server is asked
  by_rule : (l m : List Act)
      → look_again s.kept.done s.kept.exhausted
      (best_for s.kept.queue p.here.wish.rank p.here.wish.types) p.at p.here.wish p.here.to_ask ≡ l
      → asks_on p.here.wish.rank (all_done l woken) ≡ m
      → (q : Plan) → none_rule s from p.here.wish.rank p.here.wish.request ≡ Some q → going_on out (wakes ∷ (l ++ m)) s ≡ planned out q s
  by_rule l m first second q is =
      let rule = ap wake_at at.found ∙ ap (wake p) at.asked in
      subst (λ r. going_on out (wakes ∷ (l ++ m)) s ≡ planned out r s) (some_is (sym rule ∙ is))
      (sym (plan_two wakes (looks_again p.here.wish.rank) (asks_on p.here.wish.rank) s out l m (looks ∙ first) second))

  ends_here : (end : End) → over s.kept ≡ Some end → (q : Plan) → none_rule s from p.here.wish.rank p.here.wish.request ≡ Some q
      → told_end p.here.wish.rank p.here.wish.request end out (released s p.here.wish.rank) ≡ planned out q s
  ends_here end is q rule =
      let a = Tells p.at p.here.wish p.here.to_ask end in
      let best = best_for s.kept.queue p.here.wish.rank p.here.wish.types in
      ap (λ l. told_end p.here.wish.rank p.here.wish.request end out (at_waiting s l)) (gone_is p.here.wish.rank waiting p at.alone)
      ∙ by_rule (a ∷ []) [] (looks_over best p.at p.here.wish p.here.to_ask s.kept.done s.kept.exhausted end is)
      (asks_gone p.here.wish.rank (done a woken) none_left) q rule

  turned : with_parked s s.kept.queue (after_none (parked_of s) p.here.wish.rank None).parked
      ≡ at_waiting s (p.at.before ++ asks_next p.here ∷ p.at.behind)
  turned =
      ap (at_waiting s)
      (turned_is p.here.wish.rank waiting p at.alone (is_of p.here.wish.rank) asks_next (λ e fails. fails) at.alone.own)

  goes_on : over s.kept ≡ None → (o : Option Placed) → best_for s.kept.queue p.here.wish.rank p.here.wish.types ≡ o
      → look_again s.kept.done s.kept.exhausted (best_for s.kept.queue p.here.wish.rank p.here.wish.types) p.at p.here.wish p.here.to_ask
      ≡ look_again false false o p.at p.here.wish p.here.to_ask
  goes_on is o best =
      looks_on (best_for s.kept.queue p.here.wish.rank p.here.wish.types) p.at p.here.wish p.here.to_ask s.kept.done s.kept.exhausted is
      ∙ ap (λ k. look_again false false k p.at p.here.wish p.here.to_ask) best

  asks_next_of : (rest : List Server) → p.here.to_ask ≡ rest → asks_on p.here.wish.rank woken ≡ ask_next p.at p.here.wish None rest
  asks_next_of rest to_ask =
      asks_here p.at.before (idle p.here.wish p.here.to_ask) p.at.behind at.alone.before woken refl
      ∙ ap (ask_next p.at p.here.wish None) to_ask

  steps_here : over s.kept ≡ None → (o : Option Placed) → best_for s.kept.queue p.here.wish.rank p.here.wish.types ≡ o
      → (rest : List Server) → p.here.to_ask ≡ rest → (q : Plan) → none_rule s from p.here.wish.rank p.here.wish.request ≡ Some q
      → told_step (step_for s.me o rest) p.here.wish.rank p.here.wish.request p.here.wish.types out
      (with_parked s (pinned_to p.here.wish.rank o s.kept.queue) (after_none (parked_of s) p.here.wish.rank o).parked) ≡ planned out q s
  steps_here is (Some u) best rest to_ask q rule =
      let a = Gives p.at p.here.wish p.here.to_ask u.unit in
      let told = told_note p.here.wish.rank p.here.wish.request (note_of s.me u.unit) out in
      ap (λ l. told (with_parked s (pinned_to p.here.wish.rank (Some u) s.kept.queue)
      (record { waiting = l; wishes = s.kept.parked.wishes })))
      (gone_is p.here.wish.rank waiting p at.alone)
      ∙ by_rule (a ∷ []) [] (goes_on is (Some u) best) (asks_gone p.here.wish.rank (done a woken) none_left) q rule
  steps_here is None best [] to_ask q rule =
      let seat = turned ∙ ap (λ l. at_waiting s (p.at.before ++ asking p.here.wish l ∷ p.at.behind)) to_ask
      ∙ ap (λ l. at_waiting s (p.at.before ++ idle p.here.wish l ∷ p.at.behind)) (sym to_ask) in
      ap (λ v. made v out) seat ∙ nothing_said wakes s out refl refl
      ∙ by_rule [] [] (goes_on is None best) (asks_next_of [] to_ask) q rule
  steps_here is None best (to ∷ rest) to_ask q rule =
      let seat = turned ∙ ap (λ l. at_waiting s (p.at.before ++ asking p.here.wish l ∷ p.at.behind)) to_ask in
      ap (told_ask to p.here.wish.rank p.here.wish.request p.here.wish.types out) seat
      ∙ asks_then wakes s out refl refl p.at p.here.wish to rest
      ∙ by_rule [] (Asks_on p.at p.here.wish to rest ∷ []) (goes_on is None best) (asks_next_of (to ∷ rest) to_ask) q rule

  asks_of : (o : Option Placed) (to : Server) → comes_to.Ask to ≡ step_for s.me o p.here.to_ask
      → entry_of (parked_of (with_parked s (pinned_to p.here.wish.rank o s.kept.queue)
      (after_none (parked_of s) p.here.wish.rank o).parked))
      p.here.wish.rank ≡ Some (asks_next p.here)
  asks_of (Some u) to told = absurd (cc)
  asks_of None to told =
      waits_here p.at.before (asks_next p.here) p.at.behind at.alone.before
      (with_parked s s.kept.queue (after_none (parked_of s) p.here.wish.rank None).parked)
      (ap (λ (v : ServerModel). v.kept.parked.waiting) turned)

  passes_here : (note : UnitNote) (q : Plan) → grant_rule s from p.here.wish.rank p.here.wish.request note ≡ Some q
      → told_passed p.here.wish.rank p.here.wish.request note out (released s p.here.wish.rank) ≡ planned out q s
  passes_here note q is =
      let a = Passes_on p.at p.here.wish from p.here.to_ask note in
      let rule = ap (λ o. pass_at o note) at.found ∙ ap (λ o. pass_on p o note) at.asked in
      ap (λ l. told_passed p.here.wish.rank p.here.wish.request note out (at_waiting s l)) (gone_is p.here.wish.rank waiting p at.alone)
      ∙ says_only a s out (to_rank p.here.wish.rank (tells.Grant p.here.wish.request note)) refl refl
      ∙ subst (λ r. going_on out (a ∷ []) s ≡ planned out r s) (some_is (sym rule ∙ is)) refl

  answered_here : IsParked (parked_of s) → Answered s out from p.here.wish.rank p.here.wish.request
  answered_here sound =
      let best = best_for s.kept.queue p.here.wish.rank p.here.wish.types in
      let found = found_is p.here.wish.rank waiting p at.alone in
      record {
        within = waits_within (parked_of s) sound (is_of p.here.wish.rank) p.here found;
        here = p.here;
        found = found;
        passes = passes_here;
        ends = ends_here;
        steps = λ is. steps_here is best refl p.here.to_ask refl;
        asks = asks_of best;
      }

-- what the home does after the answer of the server that was asked
pub answered : (s : ServerModel) (out : Out) (from : Server) (rank : Rank) (request : ℕ) → IsParked (parked_of s)
    → IsUnanswered s from rank request → Answered s out from rank request
answered s out from rank request sound is =
    asked_as s sound.once from rank request is (λ r k. Answered s out from r k) (λ p at. answered_here s out from p at sound)

-- a rank for which a server is unanswered waits for it
pub pending_of : (s : ServerModel) (from : Server) (rank : Rank) (request : ℕ) → IsUnanswered s from rank request
    → is_pending (parked_of s) rank ≡ true
pending_of s from rank request is =
    list_any-from_Any (λ e. is_of rank e && is_asked e) s.kept.parked.waiting
    (is.0, is.1, is.2, is.3, and_from _ _ (eq-eqb _ _ (ap (λ (r : Rank). r.0) is.4.0)) (ap (λ (a : Option Server). is_some a) is.4.2))
