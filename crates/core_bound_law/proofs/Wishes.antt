-- A server keeps one wish at most of each rank, so at most as many as there are ranks.
use Rattle.std.proofs.Common.{◌≡◌, ◌≤◌, ◌<◌, ℕ, zero, suc, ◌+◌, ◌==◌, Bool, true, false, not, List, [], ◌∷◌, ◌++◌, filter, length, Some}
use Rattle.std.proofs.Common.{refl, sym, ap, ◌∙◌, subst, arith}
use Rattle.std.specs.Prelude.{nat_lt}
use Rattle.std.proofs.lemmas.Bool.{eqb-true, eq-eqb, false_from_ne_true, lt-ltb, ltb-true, cases_lt}
use Rattle.std.proofs.Common.{inl, inr, ◌⊎◌}
use Rattle.adlb_unit.specs.declared.actors.Actor.{Actor}
use Rattle.adlb_unit.specs.declared.actors.Actor.TheVariants as by
use Rattle.adlb_unit.specs.declared.configs.Config.{Config}
use Rattle.adlb_unit.specs.declared.letters.Letter.{Letter}
use Rattle.adlb_unit.specs.declared.names.Rank.{Rank}
use Rattle.adlb_unit.specs.declared.names.Server.{Server}
use Rattle.server_components.specs.Parked.{is_by}
use Rattle.server_components.specs.declared.wishes.Wish.{Wish}
use Rattle.server_law.specs.Acts.{Act, Answers, Declines, Hints, unwished, wishes_after}
use Rattle.server_law.specs.Carried.{Served, all_done, done}
use Rattle.server_law.specs.State.{Kept, ServerModel}
use Rattle.server_law.specs.Step.{at_event, serve}
use Rattle.server_law.proofs.Carrying.{carried_state}
use Rattle.server_law.proofs.Once.{step_acts}
use Rattle.server_law.proofs.Waiters.{done_kept}
use Rattle.core_run.specs.World.{World, after_server, pool_of, start, taken}
use Rattle.core_law.specs.Letters.{one}
use Rattle.core_law.specs.Measures.{weigh}
use Rattle.core_law.specs.OnLinks.{Each}
use Rattle.core_law.specs.Own.{IsWish}
use Rattle.core_law.specs.Well.{IsWell}
use Rattle.core_law.proofs.Actors.{every_pool}
use Rattle.core_law.proofs.EveryRun.{pool_at}
use Rattle.core_law.proofs.Steps.{A_call, A_request, An_answer, Does, Serves}
use Rattle.core_law.proofs.Sums.{weigh-append}
use Rattle.core_law.proofs.LettersAndActors.{inside_servers}

-- the wishes of the rank
unfoldable pub wishes_of : ℕ → List Wish → ℕ
wishes_of rank wishes = weigh (λ (w : Wish). one (w.rank.0 == rank)) wishes

-- one wish of each rank at most
abbrev pub AreSingle : List Wish → Type 0
AreSingle wishes = (rank : ℕ) → wishes_of rank wishes ≤ 1

-- One act.

-- without some wishes the others weigh no more
pub fewer : (f : Wish → ℕ) (test : Wish → Bool) (wishes : List Wish) → weigh f (filter test wishes) ≤ weigh f wishes
fewer f test [] = omega arith
fewer f test (w ∷ wishes) = by_test (fewer f test wishes) (test w) refl
  where
    by_test : weigh f (filter test wishes) ≤ weigh f wishes → (t : Bool) → test w ≡ t
        → weigh f (filter test (w ∷ wishes)) ≤ weigh f (w ∷ wishes)
    by_test later true is = rw is (omega arith)
    by_test later false is = rw is (omega arith)

-- the wish of the rank goes
pub off : (rank : Rank) (wishes : List Wish) → wishes_of rank.0 (unwished rank wishes) ≡ 0
unfolding wishes_of
off rank [] = refl
off rank (w ∷ wishes) = by_test (off rank wishes) (w.rank.0 == rank.0) refl
  where
    by_test : wishes_of rank.0 (unwished rank wishes) ≡ 0 → (t : Bool) → (w.rank.0 == rank.0) ≡ t
        → wishes_of rank.0 (unwished rank (w ∷ wishes)) ≡ 0
    by_test later true is = rw is later
    by_test later false is = rw is (rw is (omega arith))

-- an act keeps one wish of each rank at most
pub wishes_single : (a : Act) (wishes : List Wish) → AreSingle wishes → AreSingle (wishes_after a wishes)
unfolding wishes_of
wishes_single (Answers from wish unit) wishes once rank =
    let was = once rank in
    let f = fewer (λ w. one (w.rank.0 == rank)) (λ w. not (is_by wish.rank w)) wishes in omega arith
wishes_single (Hints wish) wishes once rank =
    let was = once rank in
    let f = fewer (λ w. one (w.rank.0 == rank)) (λ w. not (is_by wish.rank w)) wishes in omega arith
wishes_single (Declines from wish) wishes once rank = by_test (wish.rank.0 == rank) refl
  where
    sum : weigh (λ (w : Wish). one (w.rank.0 == rank)) (unwished wish.rank wishes ++ wish ∷ [])
        ≡ wishes_of rank (unwished wish.rank wishes) + (one (wish.rank.0 == rank) + 0)
    sum = weigh-append (λ (w : Wish). one (w.rank.0 == rank)) (unwished wish.rank wishes) (wish ∷ [])

    by_test : (t : Bool) → (wish.rank.0 == rank) ≡ t
        → weigh (λ (w : Wish). one (w.rank.0 == rank)) (unwished wish.rank wishes ++ wish ∷ []) ≤ 1
    by_test true is =
        let none : wishes_of rank (unwished wish.rank wishes) ≡ 0 =
        subst (λ (n : ℕ). wishes_of n (unwished wish.rank wishes) ≡ 0) (eqb-true wish.rank.0 rank is) (off wish.rank wishes) in
        let all = sum in
        let it : one (wish.rank.0 == rank) ≡ 1 = rw is refl in
        omega arith
    by_test false is =
        let was = once rank in
        let f = fewer (λ (w : Wish). one (w.rank.0 == rank)) (λ w. not (is_by wish.rank w)) wishes in
        let all = sum in
        let it : one (wish.rank.0 == rank) ≡ 0 = rw is refl in
        omega arith
wishes_single _ wishes once rank = once rank

-- A step.

-- the server keeps one wish at most of each rank
abbrev pub IsSingle : ServerModel → Type 0
IsSingle s = AreSingle s.kept.parked.wishes

-- an act of a server keeps one wish of each rank at most
pub act_single : (a : Act) (s : ServerModel) → IsSingle s → IsSingle (done a s)
act_single a s once =
    subst (λ (k : Kept). AreSingle k.parked.wishes) (sym (done_kept a s)) (wishes_single a s.kept.parked.wishes once)

acts_single : (list : List Act) (s : ServerModel) → IsSingle s → IsSingle (all_done list s)
acts_single [] s once = once
acts_single (a ∷ more) s once = acts_single more (done a s) (act_single a s once)

step_single : (s : ServerModel) (from : Actor) (letter : Letter) (x : Served) → IsSingle s → serve s from letter ≡ Some x → IsSingle x.state
step_single s from letter x once is =
    let step = step_acts s from letter x is in
    let now = at_event s letter in
    let kept = acts_single step.list now once in
    subst IsSingle (sym (carried_state step.list now) ∙ ap (λ (y : Served). y.state) step.makes) kept

-- A run.

-- each server keeps one wish at most of each rank
abbrev pub KeepSingle : World → Type 0
KeepSingle w = (server : Server) → server.0 < w.config.servers → IsSingle (pool_of w server)

event_single : (w next : World) (from : Actor) (me : Server) (letter : Letter) (rest : List Letter) (x : Served) → IsWell w → KeepSingle w
    → Serves w from me letter rest x next → KeepSingle (after_server w me (taken w from (by.Server me) rest) x)
event_single w next from me letter rest x well once does =
    let now : IsSingle x.state = step_single (pool_of w me) from letter x (once me does.here) does.does in
    every_pool (λ t s. IsSingle s) w me x.state (inside_servers w me well does.here) now (λ other there differs. once other there)

-- an event keeps it in a world
pub single_kept : (w next : World) → IsWell w → KeepSingle w → Does w next → KeepSingle next
single_kept w next well once (A_call does) = subst KeepSingle (sym does.is) once
single_kept w next well once (An_answer does) = subst KeepSingle (sym does.is) once
single_kept w next well once (A_request {from = from} {me = me} {letter = letter} {rest = rest} {x = x} does) =
    subst KeepSingle (sym does.is) (event_single w next from me letter rest x well once does)

-- at the start no wish is kept
pub begins_single : (config : Config) → KeepSingle (start config)
unfolding wishes_of
begins_single config server within = subst IsSingle (sym (pool_at config server within)) (λ rank. omega arith)

-- How many.

-- of ranks below this one
below : ℕ → List Wish → ℕ
below n wishes = weigh (λ (w : Wish). one (nat_lt w.rank.0 n)) wishes

next_below : (i n : ℕ) → one (nat_lt i (suc n)) ≤ one (nat_lt i n) + one (i == n)
next_below i n = by_order (cases_lt i n)
  where
    few : (t : Bool) → one t ≤ 1
    few true = omega arith
    few false = omega arith

    by_order : (i < n) ⊎ (n ≤ i) → one (nat_lt i (suc n)) ≤ one (nat_lt i n) + one (i == n)
    by_order (inl low) = let it : one (nat_lt i n) ≡ 1 = rw (lt-ltb i n low) refl in let f = few (nat_lt i (suc n)) in omega arith
    by_order (inr high) = by_next (cases_lt i (suc n))
      where
        by_next : (i < suc n) ⊎ (suc n ≤ i) → one (nat_lt i (suc n)) ≤ one (nat_lt i n) + one (i == n)
        by_next (inl here) =
            let it : one (i == n) ≡ 1 = rw (eq-eqb i n (omega arith)) refl in let f = few (nat_lt i (suc n)) in omega arith
        by_next (inr there) =
            let no_one : nat_lt i (suc n) ≡ false = false_from_ne_true (nat_lt i (suc n))
            (λ e. let l = ltb-true i (suc n) e in absurd (omega arith)) in
            let it : one (nat_lt i (suc n)) ≡ 0 = rw no_one refl in omega arith

sum_below : (n : ℕ) (wishes : List Wish) → below (suc n) wishes ≤ below n wishes + wishes_of n wishes
unfolding below wishes_of
sum_below n [] = omega arith
sum_below n (w ∷ wishes) = let here = next_below w.rank.0 n in let later = sum_below n wishes in omega arith

none_below : (wishes : List Wish) → below 0 wishes ≡ 0
unfolding below
none_below [] = refl
none_below (w ∷ wishes) =
    let no_one : nat_lt w.rank.0 0 ≡ false = false_from_ne_true (nat_lt w.rank.0 0)
    (λ e. let l = ltb-true w.rank.0 0 e in absurd (omega arith)) in
    let it : one (nat_lt w.rank.0 0) ≡ 0 = rw no_one refl in
    let later = none_below wishes in
    omega arith

few_below : (n : ℕ) (wishes : List Wish) → AreSingle wishes → below n wishes ≤ n
few_below zero wishes once = let none = none_below wishes in omega arith
few_below (suc n) wishes once = let sum = sum_below n wishes in let single = once n in let later = few_below n wishes once in omega arith

all_below : (n : ℕ) (wishes : List Wish) → Each (λ (w : Wish). w.rank.0 < n) wishes → below n wishes ≡ length wishes
unfolding below
all_below n [] each = refl
all_below n (w ∷ wishes) each =
    let it : one (nat_lt w.rank.0 n) ≡ 1 = rw (lt-ltb w.rank.0 n each.0) refl in let later = all_below n wishes each.1 in omega arith

-- so there are as many wishes as ranks at most
pub few_wishes : (config : Config) (me : Server) (wishes : List Wish) → Each (IsWish config me) wishes → AreSingle wishes
    → length wishes ≤ config.ranks
few_wishes config me wishes are once =
    let all = all_below config.ranks wishes (within wishes are) in
    let few = few_below config.ranks wishes once in
    omega arith
  where
    within : (ws : List Wish) → Each (IsWish config me) ws → Each (λ (w : Wish). w.rank.0 < config.ranks) ws
    within [] are = tt
    within (w ∷ ws) are = ((are.0).within, within ws are.1)
