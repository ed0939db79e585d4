-- Hints that a free unit makes, one after the other.
use Rattle.std.specs.Option.{option_map}
use Rattle.adlb_unit.specs.declared.names.Rank.{Rank}
use Rattle.adlb_unit.specs.declared.names.Target.{Target}
use Rattle.adlb_unit.specs.declared.names.WorkType.{WorkType}
use Rattle.bag_ledger.proofs.Tests.{some_is}
use Rattle.std.proofs.Common.{◌≡◌, ◌≢◌, ◌<◌, ℕ, Bool, true, false, ◌&&◌, not, cond, List, [], ◌∷◌, ◌++◌, length, find, Option, None, Some}
use Rattle.std.proofs.Common.{refl, sym, ap, ◌∙◌, subst, arith, length-append}
use Rattle.std.specs.List.{AllPairs}
use Rattle.std.proofs.lemmas.Bool.{and_from, and_left, and_parts, and_right, eq-eqb, not_from_false, not_from_true}
use Rattle.std.proofs.lemmas.List.Elements.{All-filter, All-head, All-tail, All-weaker}
use Rattle.adlb_unit.specs.Targets.{home}
use Rattle.adlb_unit.specs.declared.actors.Actor.TheVariants as by
use Rattle.adlb_unit.specs.declared.messages.Message.TheVariants as tells
use Rattle.adlb_unit.specs.declared.units.Unit.{Unit}
use Rattle.work_queue.proofs.Searched.{find_none}
use Rattle.server_components.specs.Calls.{call_of, forgotten_if, hints_next, is_soft_for, or_else, suits, suits_first}
use Rattle.server_components.specs.Parked.{IsParked, is_by}
use Rattle.server_components.specs.declared.wishes.Wish.{Wish}
use Rattle.server_law.specs.Acts.{Hints, ServerSaying, to_server, unwished}
use Rattle.server_law.specs.Carried.{counted, posted}
use Rattle.server_law.specs.Finding.{permits}
use Rattle.server_law.specs.Hints.{hint_all, hints_if, is_first_for, is_later_for}
use Rattle.server_law.specs.State.{ServerModel}
use Rattle.server_core.specs.inside.{parked_of}
use Rattle.server_core.specs.Out.{HasRoom, Out, going_on, with_letter}
use Rattle.server_core.proofs.Going.{room_left, says_one}
use Rattle.server_core.specs.Waits.{unwished_next, with_parked}
use Rattle.server_core.proofs.Alone.{IsSplit, NonePasses, before_others, behind_others, found_split, gone_one}

-- The hints to ranks whose wishes pass a test.

module _ (test : Wish → Bool) where
  hints_joined : (xs ys : List Wish) → hints_if test (xs ++ ys) ≡ hints_if test xs ++ hints_if test ys
  hints_joined [] ys = refl
  hints_joined (w ∷ xs) ys = by_test (test w) (hints_joined xs ys)
    where
      by_test : (t : Bool) → hints_if test (xs ++ ys) ≡ hints_if test xs ++ hints_if test ys
          → cond t (Hints w ∷ hints_if test (xs ++ ys)) (hints_if test (xs ++ ys))
          ≡ cond t (Hints w ∷ hints_if test xs) (hints_if test xs) ++ hints_if test ys
      by_test true rest = ap (λ l. Hints w ∷ l) rest
      by_test false rest = rest

  hints_none : (xs : List Wish) → NonePasses test xs → hints_if test xs ≡ []
  hints_none [] none = refl
  hints_none (w ∷ xs) none =
      let F : Wish → Type 0 = λ z. test z ≡ false in
      rw (All-head F w xs none, hints_none xs (All-tail F w xs none)) refl

  -- without the first that passes, and without one that does not
  hints_first : (before : List Wish) (w : Wish) (behind : List Wish) → NonePasses test before → test w ≡ true
      → hints_if test (before ++ w ∷ behind) ≡ Hints w ∷ hints_if test (before ++ behind)
  hints_first before w behind fails passes =
      rw (hints_joined before (w ∷ behind), hints_joined before behind, hints_none before fails, passes) refl

  hints_past : (before : List Wish) (w : Wish) (behind : List Wish) → test w ≡ false
      → hints_if test (before ++ w ∷ behind) ≡ hints_if test (before ++ behind)
  hints_past before w behind fails = rw (hints_joined before (w ∷ behind), hints_joined before behind, fails) refl

-- All hints that a unit makes.

-- each rank has one wish at most
abbrev pub AreOnce : List Wish → Type 0
AreOnce wishes = AllPairs (λ (v w : Wish). v.rank.0 ≢ w.rank.0) wishes

-- the wish that is taken off next, and then the others
pub record HintsNext (unit : Unit) (wishes : List Wish) (w : Wish) : Type 0 where
  pub hints : hint_all unit wishes ≡ Hints w ∷ hint_all unit (unwished w.rank wishes)

-- where one stands
module _ (wishes : List Wish) (once : AreOnce wishes) (w : Wish) (test : Wish → Bool) (at : IsSplit test wishes w) where
  others : unwished w.rank wishes ≡ at.before ++ at.behind
  others =
      let apart = subst AreOnce at.stands once in
      let number : Wish → ℕ = λ v. v.rank.0 in
      ap (λ l. unwished w.rank l) at.stands
      ∙ gone_one (is_by w.rank) at.before w at.behind (before_others number at.before w at.behind apart)
      (eq-eqb w.rank.0 w.rank.0 refl) (behind_others number at.before w at.behind apart)

  fewer_left : length (unwished w.rank wishes) < length wishes
  fewer_left =
      let now = ap length others ∙ length-append at.before at.behind in
      let was = ap length at.stands ∙ length-append at.before (w ∷ at.behind) in
      omega (arith, now, was)

-- the wish that is taken off next leaves fewer
next_left : (kind : WorkType) (target : Target) (wishes : List Wish) → AreOnce wishes → (w : Wish) → hints_next kind target wishes ≡ Some w
    → length (unwished w.rank wishes) < length wishes
next_left kind target wishes once w is = by_named (find (suits_first kind target) wishes) refl is
  where
    by_named : (o : Option Wish) → find (suits_first kind target) wishes ≡ o → or_else o (find (suits kind target) wishes) ≡ Some w
        → length (unwished w.rank wishes) < length wishes
    by_named (Some v) found is =
        fewer_left wishes once w (suits_first kind target) (found_split (suits_first kind target) wishes w (found ∙ is))
    by_named None found is = fewer_left wishes once w (suits kind target) (found_split (suits kind target) wishes w is)

module _ (unit : Unit) (wishes : List Wish) (once : AreOnce wishes) where
  abbrev first : Wish → Bool
  first = is_first_for unit

  abbrev later : Wish → Bool
  later = is_later_for unit

  named_next : (w : Wish) → find first wishes ≡ Some w → HintsNext unit wishes w
  named_next w found =
      let at = found_split first wishes w found in
      let parts = and_parts (permits unit w) (is_soft_for unit.target w.rank) at.passes in
      let past : later w ≡ false = and_right (permits unit w) _ (not_from_true _ parts.1) in
      let rest = others wishes once w first at in
      let here = ap (hints_if first) at.stands ∙ hints_first first at.before w at.behind at.fails at.passes
      ∙ ap (λ l. Hints w ∷ hints_if first l) (sym rest) in
      let there = ap (hints_if later) at.stands ∙ hints_past later at.before w at.behind past ∙ ap (hints_if later) (sym rest) in
      record { hints = rw (here, there) refl }

  suited_next : (w : Wish) → NonePasses first wishes → find (permits unit) wishes ≡ Some w → HintsNext unit wishes w
  suited_next w none found =
      let test = permits unit in
      let at = found_split test wishes w found in
      let rest = others wishes once w test at in
      let F : Wish → Type 0 = λ v. test v ≡ false in
      let G : Wish → Type 0 = λ v. later v ≡ false in
      let N : Wish → Type 0 = λ v. first v ≡ false in
      let fails = All-weaker F G (λ v is. and_left (permits unit v) _ is) at.before at.fails in
      let unnamed = hints_none first wishes none in
      let unnamed_left = hints_none first (unwished w.rank wishes) (All-filter (λ v. not (is_by w.rank v)) N wishes none) in
      let own : first w ≡ false = All-head N w at.behind (All-behind at.before (w ∷ at.behind) (subst (NonePasses first) at.stands none)) in
      let passes : later w ≡ true = and_from (permits unit w) _ at.passes (not_from_false _ (soft_not at.passes own)) in
      let there = ap (hints_if later) at.stands ∙ hints_first later at.before w at.behind fails passes
      ∙ ap (λ l. Hints w ∷ hints_if later l) (sym rest) in
      record { hints = rw (unnamed, unnamed_left, there) refl }
    where
      soft_not : permits unit w ≡ true → first w ≡ false → is_soft_for unit.target w.rank ≡ false
      soft_not permitted is = sym (ap (λ t. t && is_soft_for unit.target w.rank) permitted) ∙ is

      All-behind : (xs ys : List Wish) → NonePasses first (xs ++ ys) → NonePasses first ys
      All-behind [] ys none = none
      All-behind (v ∷ xs) ys none = All-behind xs ys (All-tail (λ z. first z ≡ false) v (xs ++ ys) none)

  -- the next wish to hint is the first that the unit is for
  pub next_hint : (w : Wish) → hints_next unit.kind unit.target wishes ≡ Some w → HintsNext unit wishes w
  next_hint w is = by_named (find first wishes) refl is
    where
      by_named : (o : Option Wish) → find first wishes ≡ o → or_else o (find (permits unit) wishes) ≡ Some w → HintsNext unit wishes w
      by_named (Some v) found is = named_next w (found ∙ is)
      by_named None found is = suited_next w (find_none first wishes found) is

  -- if no wish is for the unit, nothing is hinted
  pub no_hint : hints_next unit.kind unit.target wishes ≡ None → hint_all unit wishes ≡ []
  no_hint is = by_named (find first wishes) refl is
    where
      by_named : (o : Option Wish) → find first wishes ≡ o → or_else o (find (permits unit) wishes) ≡ None → hint_all unit wishes ≡ []
      by_named (Some v) found is = absurd (cc)
      by_named None found is =
          let F : Wish → Type 0 = λ v. permits unit v ≡ false in
          let G : Wish → Type 0 = λ v. later v ≡ false in
          let none = All-weaker F G (λ v no. and_left (permits unit v) _ no) wishes (find_none (permits unit) wishes is) in
          rw (hints_none first wishes (find_none first wishes found), hints_none later wishes none) refl

-- The home of the next rank is told, and then the others are.

-- the call that is named is that of a wish
pub call_told : (o : Option Wish) (rank : Rank) (request : ℕ) → Some (rank, request) ≡ option_map call_of o
    → (w : Wish) × (o ≡ Some w) × (call_of w ≡ (rank, request))
call_told None rank request told = absurd (cc)
call_told (Some w) rank request told = (w, refl, some_is (sym told))

call_none : (o : Option Wish) → None ≡ option_map call_of o → o ≡ None
call_none None told = refl
call_none (Some w) told = absurd (cc)

-- the server without the wish, and what it sends
abbrev without_wish : ServerModel → Rank → ServerModel
without_wish s rank =
    with_parked s s.kept.queue (record { waiting = s.kept.parked.waiting; wishes = unwished rank s.kept.parked.wishes })

abbrev hint_for : ServerModel → Rank → ℕ → ServerSaying
hint_for s rank request = to_server (home s.config rank) (tells.Hint rank request)

told_hint : (unit : Unit) (s : ServerModel) (out : Out) (w : Wish) → HintsNext unit s.kept.parked.wishes w
    → let v = without_wish s w.rank in
    going_on (with_letter out (posted v (hint_for s w.rank w.request))) (hint_all unit (unwished w.rank s.kept.parked.wishes))
    (counted v (by.Server (home s.config w.rank)))
    ≡ going_on out (hint_all unit s.kept.parked.wishes) s
told_hint unit s out w next =
    let more = hint_all unit (unwished w.rank s.kept.parked.wishes) in
    sym (ap (λ l. going_on out l s) next.hints ∙ says_one (Hints w) more s out (hint_for s w.rank w.request) refl refl)

-- What comes of the wish that is taken off next.
pub record HintTold (s : ServerModel) (kind : WorkType) (target : Target) (u : ServerModel) (rank : Rank) (request : ℕ) : Type 0 where
  pub fewer : length u.kept.parked.wishes < length s.kept.parked.wishes
  pub room : (out : Out) → HasRoom s out 2 → HasRoom u out 3
  pub goes : (unit : Unit) → unit.kind ≡ kind → unit.target ≡ target → (out : Out)
      → going_on (with_letter out (posted u (hint_for u rank request))) (hint_all unit u.kept.parked.wishes)
      (counted u (by.Server (home u.config rank))) ≡ going_on out (hint_all unit s.kept.parked.wishes) s

module _ (s : ServerModel) (sound : IsParked (parked_of s)) (kind : WorkType) (target : Target) where
  abbrev named : Option Wish
  named = hints_next kind target s.kept.parked.wishes

  abbrev without : Option Wish → ServerModel
  without o = with_parked s s.kept.queue (forgotten_if (parked_of s) o).parked

  own : (unit : Unit) → unit.kind ≡ kind → unit.target ≡ target → hints_next unit.kind unit.target s.kept.parked.wishes ≡ named
  own unit same_kind same_target =
      ap (λ k. hints_next k unit.target s.kept.parked.wishes) same_kind ∙ ap (λ a. hints_next kind a s.kept.parked.wishes) same_target

  hints : (w : Wish) → named ≡ Some w → HintTold s kind target (without (Some w)) w.rank w.request
  hints w is =
      let fewer = next_left kind target s.kept.parked.wishes sound.wished_once w is in
      record {
        fewer = fewer;
        room = λ out room. room_left s s.kept.queue (forgotten_if (parked_of s) (Some w)).parked out 2 3 (omega (arith, fewer)) room;
        goes = λ unit same_kind same_target out.
            told_hint unit s out w (next_hint unit s.kept.parked.wishes sound.wished_once w (own unit same_kind same_target ∙ is));
      }

  -- what is known of the hint that is said next
  pub hint_told : {u : ServerModel} {rank : Rank} {request : ℕ} → u ≡ unwished_next kind target s
      → Some (rank, request) ≡ option_map call_of named
      → HintTold s kind target u rank request
  hint_told {u} {rank} {request} made told =
      let w = call_told named rank request told in
      let now = subst (λ (k : Rank × ℕ). HintTold s kind target (without (Some w.0)) k.0 k.1) w.2 (hints w.0 w.1) in
      subst (λ v. HintTold s kind target v rank request) (sym (made ∙ ap without w.1)) now

  -- or there is no such wish
  pub no_more : {u : ServerModel} → u ≡ unwished_next kind target s → None ≡ option_map call_of named → (unit : Unit) → unit.kind ≡ kind
      → unit.target ≡ target → hint_all unit u.kept.parked.wishes ≡ []
  no_more made told unit same_kind same_target =
      let none = call_none named told in
      ap (λ (v : ServerModel). hint_all unit v.kept.parked.wishes) (made ∙ ap without none)
      ∙ no_hint unit s.kept.parked.wishes sound.wished_once (own unit same_kind same_target ∙ none)
