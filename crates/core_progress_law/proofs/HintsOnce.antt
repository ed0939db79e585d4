-- In one event a server hints of a rank at most as often as it keeps a wish of it.
use Rattle.adlb_unit.specs.declared.actors.Actor.{Actor}
use Rattle.adlb_unit.specs.declared.messages.Message.{Message}
use Rattle.adlb_unit.specs.declared.names.UnitId.{UnitId}
use Rattle.adlb_unit.specs.declared.units.Unit.{Unit}
use Rattle.core_wish_law.proofs.Chains.{costs}
use Rattle.core_wish_law.proofs.Rules.{acts_paid}
use Rattle.core_wish_law.proofs.Wishes.{wishes_of}
use Rattle.core_wish_law.specs.Costs.{allowance, cost}
use Rattle.core_law.proofs.Sums.{weigh-append}
use Rattle.core_law.specs.Letters.{one}
use Rattle.core_law.specs.Measures.{weigh}
use Rattle.server_components.specs.Calls.{is_soft_for}
use Rattle.server_components.specs.declared.wishes.Wish.{Wish}
use Rattle.server_law.proofs.Decided.{EachHintsNone, acks_hints_none, decided_hints_none, each_none_joined, ends_event_hints_none}
use Rattle.server_law.proofs.Decided.{presses_hints_none}
use Rattle.server_law.proofs.Handled.{acts_handle}
use Rattle.server_law.specs.Acts.{Accepts, Act, Arrives, Heard, Hints, takes}
use Rattle.server_law.specs.Carried.{all_done, done}
use Rattle.server_law.specs.Endings.{ends_event}
use Rattle.server_law.specs.Finding.{Place, is_free_as, permits, taker}
use Rattle.server_law.specs.Hints.{hint_all, hints_if, is_first_for, is_later_for}
use Rattle.server_law.specs.Plan.{Decider, Plan, decided, in_order}
use Rattle.server_law.specs.Presses.{presses}
use Rattle.server_law.specs.Pushes.{acks, expects_unit}
use Rattle.server_law.specs.Puts.{expects_put, gives, is_taken, put_now, settles, settles_as}
use Rattle.server_law.specs.State.{ServerModel}
use Rattle.server_law.specs.Step.{acts}
use Rattle.server_law.specs.Sure.{AreHintsOf, IsHintOf}
use Rattle.std.proofs.Common.{Bool, List, None, Option, Some, [], ap, arith, cond, false, find, length, not, refl, subst, sym, true, ℕ}
use Rattle.std.proofs.Common.{◌&&◌, ◌++◌, ◌+◌, ◌==◌, ◌∙◌, ◌∷◌, ◌≡◌, ◌≤◌}
use Rattle.std.specs.Option.{option_map}
use Rattle.work_queue.specs.declared.placing.Placed.{Placed}
use Rattle.adlb_unit.specs.declared.actors.Actor.TheVariants as by
use Rattle.adlb_unit.specs.declared.messages.Message.TheVariants as tells

-- hints of the rank of this number
abbrev pub hint_of : ℕ → Act → ℕ
hint_of r (Hints wish) = one (wish.rank.0 == r)
hint_of r _ = 0

-- how many of these acts hint of the rank
abbrev pub hints_of : ℕ → List Act → ℕ
hints_of r list = weigh (hint_of r) list

-- Acts that are no hints.

none_hinted : (r : ℕ) (list : List Act) → AreHintsOf [] list → hints_of r list ≡ 0
none_hinted r [] none = refl
none_hinted r (a ∷ more) none = let here = here_none a none.0 in let later = none_hinted r more none.1 in omega arith
  where
    here_none : (a : Act) → IsHintOf [] a → hint_of r a ≡ 0
    here_none (Hints wish) any = absurd (omega (arith, any.2))
    here_none _ any = refl

hint_cost : (r : ℕ) (a : Act) → hint_of r a ≤ cost a
hint_cost r (Hints wish) = by_test (wish.rank.0 == r)
  where
    by_test : (t : Bool) → one t ≤ 75
    by_test true = omega arith
    by_test false = omega arith
hint_cost r _ = omega arith

hints_cost : (r : ℕ) (list : List Act) → hints_of r list ≤ costs list
hints_cost r [] = omega arith
hints_cost r (a ∷ more) = let here = hint_cost r a in let later = hints_cost r more in omega arith

-- A unit that is settled.

hinted : (r : ℕ) (test : Wish → Bool) (wishes : List Wish)
    → hints_of r (hints_if test wishes) ≡ weigh (λ w. one (test w && (w.rank.0 == r))) wishes
hinted r test [] = refl
hinted r test (w ∷ wishes) = by_test (hinted r test wishes) (test w) refl
  where
    by_test : hints_of r (hints_if test wishes) ≡ weigh (λ w. one (test w && (w.rank.0 == r))) wishes → (b : Bool) → test w ≡ b
        → hints_of r (hints_if test (w ∷ wishes)) ≡ weigh (λ w. one (test w && (w.rank.0 == r))) (w ∷ wishes)
    by_test later true is = rw is (omega arith)
    by_test later false is = rw is (omega arith)

-- first those that its target names, then the others
apart : (p q e : Bool) → one ((p && q) && e) + one ((p && not q) && e) ≤ one e
apart true true true = omega arith
apart true true false = omega arith
apart true false true = omega arith
apart true false false = omega arith
apart false q e = omega arith

apart_sum : (r : ℕ) (p q : Wish → Bool) (wishes : List Wish)
    → weigh (λ w. one ((p w && q w) && (w.rank.0 == r))) wishes + weigh (λ w. one ((p w && not (q w)) && (w.rank.0 == r))) wishes
    ≤ weigh (λ (w : Wish). one (w.rank.0 == r)) wishes
apart_sum r p q [] = omega arith
apart_sum r p q (w ∷ wishes) = let here = apart (p w) (q w) (w.rank.0 == r) in let later = apart_sum r p q wishes in omega arith

all_hinted : (r : ℕ) (unit : Unit) (wishes : List Wish) → hints_of r (hint_all unit wishes) ≤ wishes_of r wishes
unfolding wishes_of
all_hinted r unit wishes =
    let a = hinted r (is_first_for unit) wishes in
    let b = hinted r (is_later_for unit) wishes in
    let sum = weigh-append (hint_of r) (hints_if (is_first_for unit) wishes) (hints_if (is_later_for unit) wishes) in
    let once = apart_sum r (permits unit) (λ w. is_soft_for unit.target w.rank) wishes in
    omega arith

settled_hints : (r : ℕ) (id : UnitId) (s : ServerModel) → hints_of r (settles id s) ≤ wishes_of r s.kept.parked.wishes
settled_hints r id s = by_unit (find (is_free_as id) s.kept.queue.units)
  where
    by_taker : (unit : Unit) (o : Option Place) → hints_of r (gives s.kept unit o) ≤ wishes_of r s.kept.parked.wishes
    by_taker unit None = all_hinted r unit s.kept.parked.wishes
    by_taker unit (Some p) = omega arith

    by_unit : (o : Option Placed) → hints_of r (settles_as s.kept o) ≤ wishes_of r s.kept.parked.wishes
    by_unit None = omega arith
    by_unit (Some p) = by_taker p.unit (taker p.unit s.kept.parked.waiting)

-- after the act that takes the letter, where a unit is settled first
settle_hints : (r : ℕ) (id : UnitId) (ds : List Decider) (t : ServerModel) → EachHintsNone ds
    → hints_of r (decided (settles id ∷ (ds ++ ends_event)) t) ≤ wishes_of r t.kept.parked.wishes
settle_hints r id ds t none =
    let u = all_done (settles id t) t in
    let rest = decided (ds ++ ends_event) u in
    let sum = weigh-append (hint_of r) (settles id t) rest in
    let first = settled_hints r id t in
    let later = none_hinted r rest
    (decided_hints_none (ds ++ ends_event) [] u (each_none_joined ds ends_event none ends_event_hints_none)) in
    omega arith

-- An event.

-- a unit may come by it
abbrev brings_unit : Message → Bool
brings_unit (tells.Put unit) = true
brings_unit (tells.PushUnit unit) = true
brings_unit _ = false

first_brings : List Heard → Bool
first_brings [] = false
first_brings (h ∷ more) = brings_unit h.message

none_allowed : (a : Act) → first_brings (takes a) ≡ false → allowance a ≡ 0
unfolding first_brings
none_allowed (Accepts unit) low = absurd (cc)
none_allowed (Arrives from unit) low = absurd (cc)
none_allowed _ low = refl

module _ (s : ServerModel) (first : Act) (more : List Act) (r : ℕ) where
  abbrev Few : Type 0
  Few = hints_of r more ≤ wishes_of r (done first s).kept.parked.wishes

  of_plan : (p : Plan) → Some (in_order ends_event s p) ≡ Some (first ∷ more)
      → hints_of r (decided (p.follow ++ ends_event) (done p.first s)) ≤ wishes_of r (done p.first s).kept.parked.wishes → Few
  of_plan p e few =
      let f : p.first ≡ first = cc in
      let m : decided (p.follow ++ ends_event) (done p.first s) ≡ more = cc in
      subst (λ (a : Act). hints_of r more ≤ wishes_of r (done a s).kept.parked.wishes) f
      (subst (λ (l : List Act). hints_of r l ≤ wishes_of r (done p.first s).kept.parked.wishes) m few)

  loud : (from : Actor) (m : Message) → brings_unit m ≡ true → acts s from m ≡ Some (first ∷ more) → Few
  loud (by.Rank from) (tells.Put unit) brings are = by_test (expects_put s from unit) are
    where
      plan_is : Plan
      plan_is = record { first = put_now s.kept unit; follow = settles unit.id ∷ presses (is_taken s.kept unit) ∷ [] }

      by_test : (t : Bool)
          → option_map (in_order ends_event s)
          (cond t (Some (record { first = put_now s.kept unit; follow = settles unit.id ∷ presses (is_taken s.kept unit) ∷ [] })) None)
          ≡ Some (first ∷ more) → Few
      by_test true e =
          of_plan (record { first = put_now s.kept unit; follow = settles unit.id ∷ presses (is_taken s.kept unit) ∷ [] }) e
          (settle_hints r unit.id (presses (is_taken s.kept unit) ∷ []) (done (put_now s.kept unit) s)
          (presses_hints_none (is_taken s.kept unit), tt))
      by_test false e = absurd (cc)
  loud (by.Server from) (tells.PushUnit unit) brings are = by_tests (from.0 == s.me.0) (expects_unit s.kept unit) are
    where
      by_tests : (self t : Bool)
          → option_map (in_order ends_event s)
          (cond self None (cond t (Some (record { first = Arrives from unit; follow = settles unit.id ∷ acks ∷ [] })) None))
          ≡ Some (first ∷ more) → Few
      by_tests true t e = absurd (cc)
      by_tests false true e =
          of_plan (record { first = Arrives from unit; follow = settles unit.id ∷ acks ∷ [] }) e
          (settle_hints r unit.id (acks ∷ []) (done (Arrives from unit) s) (acks_hints_none, tt))
      by_tests false false e = absurd (cc)
  loud (by.Server from) (tells.Put unit) brings are = by_self (from.0 == s.me.0) are
    where
      by_self : (t : Bool) → option_map (in_order ends_event s) (cond {A = Option Plan} t None None) ≡ Some (first ∷ more) → Few
      by_self true e = absurd (cc)
      by_self false e = absurd (cc)
  loud (by.Rank from) (tells.PushUnit unit) brings are = absurd (cc)
  loud from m brings are = absurd (cc)

  -- the acts of an event hint of a rank at most as often as its wishes are kept
  pub few_hints : (from : Actor) (m : Message) → length s.kept.parked.wishes ≤ 32 → acts s from m ≡ Some (first ∷ more) → Few
  unfolding first_brings
  few_hints from m few are = by_class (brings_unit m) refl
    where
      by_class : (b : Bool) → brings_unit m ≡ b → Few
      by_class true brings = loud from m brings are
      by_class false quiet =
          let paid = acts_paid s from m first more few are in
          let handled = acts_handle s from m (first ∷ more) are in
          let same : handled.first ≡ first = heads handled.are in
          let low : first_brings (takes first) ≡ false =
          ap (λ (a : Act). first_brings (takes a)) (sym same) ∙ ap first_brings handled.takes ∙ quiet in
          let none = none_allowed first low in
          let cheap = paid.few in
          let all = hints_cost r more in
          omega arith
        where
          head : List Act → Act
          head [] = first
          head (a ∷ rest) = a

          heads : {a : Act} {rest : List Act} → first ∷ more ≡ a ∷ rest → a ≡ first
          heads e = sym (ap head e)
