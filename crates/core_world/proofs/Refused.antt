-- In a world to which a run leads, there is no such event exactly if the tests say so.
use Rattle.std.proofs.Common.{◌≡◌, ◌<◌, ◌↔◌, ◌⊎◌, inl, inr, ℕ, Bool, true, false, ◌&&◌, cond, List, [], ◌∷◌, length}
use Rattle.std.proofs.Common.{Option, Some, None, Result, Ok, Err, refl, sym, ap, ◌∙◌, subst, arith}
use Rattle.std.specs.Prelude.{IsSome, IsTrue, nat_lt, not}
use Rattle.std.specs.Option.{option_map}
use Rattle.std.proofs.lemmas.Bool.{and_from}
use Rattle.adlb_unit.specs.Links.{is_within, place_of}
use Rattle.adlb_unit.specs.declared.actors.Actor.{Actor}
use Rattle.adlb_unit.specs.declared.actors.Actor.TheVariants as by
use Rattle.adlb_unit.specs.declared.letters.Letter.{Letter}
use Rattle.adlb_unit.specs.declared.notes.Trouble.{Trouble}
use Rattle.adlb_unit.specs.declared.notes.Trouble.TheVariants as troubles
use Rattle.bag_ledger.specs.declared.entries.Answer.{Answer}
use Rattle.rank_client.specs.Step.{begin}
use Rattle.core_run.specs.declared.events.Event.{Event}
use Rattle.core_run.specs.declared.events.Event.TheVariants as occurs
use Rattle.core_run.specs.Runs.{is_over}
use Rattle.core_run.specs.World.{World, after_rank, client_of, handle, happens, link}
use Rattle.core_world.specs.declared.faults.ApplyFault.{ApplyFault}
use Rattle.core_world.specs.declared.faults.ApplyFault.TheVariants as faults
use Rattle.core_world.specs.declared.worlds.World.TheInside.{Inside}
use Rattle.core_world.specs.Applied.{HasNone, IsEnabled, fault_of}
use Rattle.core_world.specs.Fields.{IsSound, seen_of}
use Rattle.core_world.specs.Seen.{Seen, under_way}
use Rattle.core_world.specs.Stage.{IsReached}
use Rattle.core_world.proofs.Ended.{ended_handles_none, none_some}
use Rattle.core_world.proofs.Reached.{front_goes}

nowhere : {X Y : Type 0} (t : Bool) (f : X → Y) (o : Option X) → o ≡ None → cond t (option_map f o) None ≡ None
nowhere true f None is = refl
nowhere true f (Some x) is = absurd (cc)
nowhere false f o is = refl

over_handles_none : (w : World) (from to : Actor) (letters : List Letter) → is_over w to ≡ true → handle w from to letters ≡ None
over_handles_none w from to [] over = refl
over_handles_none w from (by.Rank to) (letter ∷ rest) over = absurd (cc)
over_handles_none w from (by.Server to) (letter ∷ rest) over = ended_handles_none w from to letter rest over

-- an event that the tests refuse does not happen
pub none_happens : (w : World) (e : Event) → HasNone w e → happens w e ≡ None
none_happens w (occurs.Call rank call) (inl out) = rw out refl
none_happens w (occurs.Call rank call) (inr unready) =
    nowhere (nat_lt rank.0 w.config.ranks) (after_rank w rank w.links) (begin (client_of w rank) call) unready
none_happens w (occurs.Deliver from to) none = by_tests (is_within w.config from) (is_within w.config to) refl refl none
  where
    letters : List Letter
    letters = link w.links (place_of w.config from) (place_of w.config to)

    here : (letters ≡ []) ⊎ (is_over w to ≡ true) → handle w from to letters ≡ None
    here (inl empty) = ap (handle w from to) empty
    here (inr over) = over_handles_none w from to letters over

    by_tests : (f t : Bool) → is_within w.config from ≡ f → is_within w.config to ≡ t
        → (f ≡ false) ⊎ (t ≡ false) ⊎ (cond (f && t) letters [] ≡ []) ⊎ (is_over w to ≡ true)
        → cond (f && t) (handle w from to letters) None ≡ None
    by_tests true true f t (inl out) = absurd (cc)
    by_tests true true f t (inr (inl out)) = absurd (cc)
    by_tests true true f t (inr (inr none)) = here none
    by_tests true false f t none = refl
    by_tests false to f t none = refl

unbegun : {X Y : Type 0} (f : X → Y) (o : Option X) → option_map f o ≡ None → o ≡ None
unbegun f None is = refl
unbegun f (Some x) is = absurd (cc)

-- an event that does not happen is refused by the tests
pub has_none : (w : World) (e : Event) → IsReached w → happens w e ≡ None → HasNone w e
has_none w (occurs.Call rank call) reached none = by_test (nat_lt rank.0 w.config.ranks) refl none
  where
    by_test : (b : Bool) → nat_lt rank.0 w.config.ranks ≡ b
        → cond b (option_map (after_rank w rank w.links) (begin (client_of w rank) call)) None ≡ None → HasNone w (occurs.Call rank call)
    by_test true is none = inr (unbegun (after_rank w rank w.links) (begin (client_of w rank) call) none)
    by_test false is none = inl is
has_none w (occurs.Deliver from to) reached none = by_tests (is_within w.config from) (is_within w.config to) refl refl
  where
    letters : List Letter
    letters = link w.links (place_of w.config from) (place_of w.config to)

    by_front : is_within w.config from ≡ true → is_within w.config to ≡ true → (over : Bool) → is_over w to ≡ over
        → (ls : List Letter) → letters ≡ ls → (under_way w from to ≡ []) ⊎ (is_over w to ≡ true)
    by_front f t over is [] front = inl (ap (λ b. cond b letters []) (and_from _ _ f t) ∙ front)
    by_front f t true is (letter ∷ rest) front = inr is
    by_front f t false is (letter ∷ rest) front = absurd (none_some _ none (front_goes w from to letter rest reached f t is front))

    by_tests : (f t : Bool) → is_within w.config from ≡ f → is_within w.config to ≡ t → HasNone w (occurs.Deliver from to)
    by_tests false to f t = inl f
    by_tests true false f t = inr (inl t)
    by_tests true true f t = inr (inr (by_front f t (is_over w to) refl letters refl))

-- As the code looks: there is a letter, and its receiver goes on.

none_outside : {X : Type 0} (f t : Bool) (xs : List X) → t ≡ false → length (cond (f && t) xs []) ≡ 0
none_outside true true xs out = absurd (cc)
none_outside true false xs out = refl
none_outside false t xs out = refl

letter_goes : (w : World) (from to : Actor) → IsReached w → is_over w to ≡ false → 0 < length (under_way w from to)
    → IsEnabled w (occurs.Deliver from to)
letter_goes w from to reached going some = by_event (happens w (occurs.Deliver from to)) refl
  where
    by_none : HasNone w (occurs.Deliver from to) → ⊥
    by_none (inl out) = let empty : length (under_way w from to) ≡ 0 = rw out refl in omega arith
    by_none (inr (inl out)) =
        let empty : length (under_way w from to) ≡ 0 =
        none_outside (is_within w.config from) (is_within w.config to) (link w.links (place_of w.config from) (place_of w.config to)) out in
        omega arith
    by_none (inr (inr (inl empty))) = omega (arith, some, ap length empty)
    by_none (inr (inr (inr over))) = absurd (cc)

    by_event : (o : Option World) → happens w (occurs.Deliver from to) ≡ o → IsSome o
    by_event (Some next) is = refl
    by_event None is = absurd (by_none (has_none w (occurs.Deliver from to) reached is))

-- a letter under way is handled exactly if its receiver is not over
pub receiver_decides : (w : World) (from to : Actor) (waiting : ℕ) (over : Bool) → IsReached w → waiting ≡ length (under_way w from to)
    → 0 < waiting → over ≡ is_over w to → IsTrue (not over) ↔ IsEnabled w (occurs.Deliver from to)
receiver_decides w from to waiting true reached is some over =
    (λ going. absurd (cc), λ enabled. absurd (none_some _ (none_happens w (occurs.Deliver from to) (inr (inr (inr (sym over))))) enabled))
receiver_decides w from to waiting false reached is some over =
    (λ going. letter_goes w from to reached (sym over) (omega (arith, is, some)), λ enabled. refl)

-- An answer that says so.

abbrev Answered : Type 0
Answered = Result (Option Answer) ApplyFault

abbrev Says : Seen → Event → Answered → Event → Type 0
Says now e answer given = (answer ≡ Err (faults.NotEnabled given)) ↔ ((now.trouble ≡ None) × HasNone now.world e × (given ≡ e))

same_event : (e given : Event) (answer : Answered) → answer ≡ Err (faults.NotEnabled e) → answer ≡ Err (faults.NotEnabled given) → given ≡ e
same_event e given answer is said = cc

unseen : (w : World) (e : Event) → IsReached w → (IsEnabled w e → ⊥) → HasNone w e
unseen w e reached unable = by_event (happens w e) refl
  where
    by_event : (o : Option World) → happens w e ≡ o → HasNone w e
    by_event (Some next) is = absurd (unable (subst IsSome (sym is) refl))
    by_event None is = has_none w e reached is

-- the world of these fields has not failed, and the event is not enabled, or is
pub refusal_says : (i : Inside) (now : Seen) (e given : Event) → seen_of i ≡ now → IsSound i → i.trouble ≡ None → (IsEnabled i.stage e → ⊥)
    → Says now e (Err (faults.NotEnabled e)) given
refusal_says i now e given view sound whole unable =
    subst (λ (s : Seen). Says s e (Err (faults.NotEnabled e)) given) view (
      λ said. (whole, unseen i.stage e (sound whole).1 unable, same_event e given _ refl said),
      λ parts. ap (λ (x : Event). Err (faults.NotEnabled x)) (sym parts.2),
    )

-- an event that is enabled is answered for another reason than that it is not
pub enabled_says : (i : Inside) (now : Seen) (e given : Event) (answer : Answered) → seen_of i ≡ now → IsEnabled i.stage e
    → (answer ≡ Err (faults.NotEnabled given) → ⊥) → Says now e answer given
enabled_says i now e given answer view enabled other =
    subst (λ (s : Seen). Says s e answer given) view
    (λ said. absurd (other said), λ parts. absurd (none_some _ (none_happens i.stage e parts.1) enabled))

-- an answer is not the fault that the event is not enabled
pub done_is_none : (answer : Answered) (told : Option Answer) (given : Event) → answer ≡ Ok told
    → answer ≡ Err (faults.NotEnabled given) → ⊥
done_is_none answer told given is said = absurd (cc)

-- a trouble is not the fault that the event is not enabled
pub trouble_is_none : (answer : Answered) (trouble : Trouble) (given : Event) → answer ≡ Err (fault_of trouble)
    → answer ≡ Err (faults.NotEnabled given) → ⊥
trouble_is_none answer troubles.Memory given is said = absurd (cc)
trouble_is_none answer (troubles.TooLong stamp) given is said = absurd (cc)
