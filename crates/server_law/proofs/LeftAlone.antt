-- A rank for which another server is asked is left alone until that server answers.
use Rattle.std.proofs.Common.{◌≡◌, ◌≢◌, ◌⊎◌, inl, inr, ◌≤◌, ◌+◌, ◌==◌, ℕ, Bool, true, false, cond, List, [], ◌∷◌, ◌++◌, Some, refl, sym, ap}
use Rattle.std.proofs.Common.{◌∙◌, subst, arith}
use Rattle.std.specs.Prelude.{count_by}
use Rattle.std.proofs.lemmas.Bool.{eq-eqb}
use Rattle.std.proofs.lemmas.List.Sums.{sum_by-append, sum_by-cons}
use Rattle.adlb_unit.specs.Targets.{home_of}
use Rattle.adlb_unit.specs.declared.actors.Actor.{Actor}
use Rattle.adlb_unit.specs.declared.actors.Actor.TheVariants as by
use Rattle.adlb_unit.specs.declared.configs.Config.{Config}
use Rattle.adlb_unit.specs.declared.letters.Letter.{Letter}
use Rattle.adlb_unit.specs.declared.names.BatchId.{BatchId}
use Rattle.adlb_unit.specs.declared.names.Rank.{Rank}
use Rattle.adlb_unit.specs.declared.names.Server.{Server}
use Rattle.bag_ledger.specs.declared.entries.Entry.{Entry}
use Rattle.bag_ledger.specs.declared.entries.Entry.TheVariants as enters
use Rattle.bag_ledger.proofs.Tests.{some_is}
use Rattle.server_components.specs.Store.{closed, fetched, is_due}
use Rattle.server_components.specs.declared.parts.Part.{Part}
use Rattle.server_components.specs.Parked.{is_of}
use Rattle.server_components.specs.declared.waits.Waiting.{Waiting}
use Rattle.server_components.specs.declared.wishes.Wish.{Wish}
use Rattle.server_law.specs.Acts.{Act, Accepts, Answers, Around, Arrives, Asks_on, Closes, Counts, Ends_keep, Ends_put, Ends_reserve}
use Rattle.server_law.specs.Acts.{Ends_try, Fetches, Fetches_part, Finds, Finds_alone, Gives, Grants, Grants_try, Heard, Is_hinted, Keeps}
use Rattle.server_law.specs.Acts.{Looks, Passes_on, Promises, Refuses, Refuses_part, Sends_unit, Tells, Wakes, Withdraws, comes, entries}
use Rattle.server_law.specs.Acts.{frees, goes, takes}
use Rattle.server_law.specs.Calm.{AskedAreLeft, AskedWaitOn, EndsCall, IsAnswer, WaitOnce}
use Rattle.server_law.specs.Carried.{Served, all_done, carried, done}
use Rattle.server_law.specs.Expected.{IsExpected, IsHome}
use Rattle.server_law.specs.State.{Kept, ServerModel, awaiting, idle}
use Rattle.server_law.specs.Step.{at_event}
use Rattle.server_law.specs.Sure.{AreSure, SitsIn, Sure, TakeNone}
use Rattle.server_law.proofs.Once.{act_once, step_acts}
use Rattle.server_law.proofs.Carrying.{carried_state}
use Rattle.server_law.proofs.Expected.{expected_have_steps}
use Rattle.server_law.proofs.Handled.{acts_handle}
use Rattle.server_law.proofs.Tests.{expects_ask_says}
use Rattle.server_law.proofs.Waiters.{Each, Has, all_each, any_has, done_kept, done_named, each_append, has_after, has_any, has_parts, one}
use Rattle.server_law.proofs.Waiters.{some_of}

-- the rank waits with this wish, and this server is unanswered
abbrev Waits : Wish → Server → Waiting → Type 0
Waits wish asked e = (e.wish ≡ wish) × (e.asked ≡ Some asked)

only : (wish : Wish) (asked : Server) (e : Waiting) → Has (Waits wish asked) (e ∷ []) → Waits wish asked e
only wish asked e (inl holds) = holds
only wish asked e (inr never) = absurd never

-- It waits on.

abbrev NoAnswer : Wish → Server → Heard → Type 0
NoAnswer wish asked h = IsAnswer wish asked h.from h.message → ⊥

-- if it goes, it comes again
turns : (a : Act) (s : ServerModel) (wish : Wish) (asked : Server) → Each (NoAnswer wish asked) (takes a)
    → Has (Waits wish asked) (goes a) → Has (Waits wish asked) (comes a s)
turns (Gives at w rest unit) s wish asked heard has = let is = only wish asked (idle w rest) has in let no = is.1 in absurd (cc)
turns (Tells at w rest end) s wish asked heard has = let is = only wish asked (idle w rest) has in let no = is.1 in absurd (cc)
turns (Asks_on at w to rest) s wish asked heard has = let is = only wish asked (idle w (to ∷ rest)) has in let no = is.1 in absurd (cc)
turns (Passes_on at w from rest note) s wish asked heard has =
    let is = only wish asked (awaiting w from rest) has in
    absurd (heard.0 (ap by.Server (some_is is.1), ap (λ (v : Wish). v.rank) is.0, ap (λ (v : Wish). v.request) is.0))
turns (Wakes at w from rest) s wish asked heard has =
    let is = only wish asked (awaiting w from rest) has in
    absurd (heard.0 (ap by.Server (some_is is.1), ap (λ (v : Wish). v.rank) is.0, ap (λ (v : Wish). v.request) is.0))
turns (Is_hinted at e from) s wish asked heard has = let is = only wish asked e has in inl (is.0, is.1)
turns _ s wish asked heard has = absurd has

act_waits_on : (a : Act) (s : ServerModel) (wish : Wish) (asked : Server) → SitsIn a s → Each (NoAnswer wish asked) (takes a)
    → Has (Waits wish asked) s.kept.parked.waiting → Has (Waits wish asked) (done a s).kept.parked.waiting
act_waits_on a s wish asked sits heard has =
    subst (λ (k : Kept). Has (Waits wish asked) k.parked.waiting) (sym (done_kept a s))
    (has_after (Waits wish asked) a s sits (turns a s wish asked heard) has)

acts_wait_on : (list : List Act) (s : ServerModel) (wish : Wish) (asked : Server) → AreSure list s → TakeNone list
    → Has (Waits wish asked) s.kept.parked.waiting → Has (Waits wish asked) (all_done list s).kept.parked.waiting
acts_wait_on [] s wish asked sure none has = has
acts_wait_on (a ∷ more) s wish asked sure none has =
    acts_wait_on more (done a s) wish asked sure.2 none.1
    (act_waits_on a s wish asked sure.0 (subst (λ heard. Each (NoAnswer wish asked) heard) (sym none.0) tt) has)

-- a rank for which a server is asked waits on until that server answers
pub asked_wait_on : AskedWaitOn
asked_wait_on s from letter x wish asked is waits other =
    let step = step_acts s from letter x is in
    let now = at_event s letter in
    let h = acts_handle now from letter.message step.list step.are in
    let has = any_has (Waits wish asked) s.kept.parked.waiting waits in
    let heard = subst (λ l. Each (NoAnswer wish asked) l) (sym h.takes) (other, tt) in
    let first = act_waits_on h.first now wish asked h.sure.0 heard has in
    let last = acts_wait_on h.more (done h.first now) wish asked h.sure.2 h.follow first in
    let same : all_done (h.first ∷ h.more) now ≡ x.state =
    ap (λ l. all_done l now) (sym h.are) ∙ sym (carried_state step.list now) ∙ ap (λ (y : Served). y.state) step.makes in
    has_any (Waits wish asked) x.state.kept.parked.waiting
    (subst (λ (y : ServerModel). Has (Waits wish asked) y.kept.parked.waiting) same last)

-- Its call is not ended.

abbrev Ends_not : Server → Rank → Entry → Type 0
Ends_not me rank e = EndsCall me rank e → ⊥

-- the letter is not the rank's own, nor this server's
abbrev IsForeign : Server → Rank → Heard → Type 0
IsForeign me rank h = (h.from ≢ by.Rank rank) × (h.from ≢ by.Server me)

-- beside it no idle one waits of its rank
none_beside : (s : ServerModel) (wish : Wish) (asked : Server) (at : Around) (w : Wish) (rest : List Server)
    → s.kept.parked.waiting ≡ at.before ++ idle w rest ∷ at.behind → WaitOnce s → Has (Waits wish asked) s.kept.parked.waiting
    → w.rank ≡ wish.rank → ⊥
none_beside s wish asked at w rest stands once has same =
    by_place (has_parts (Waits wish asked) at.before (idle w rest ∷ at.behind) (subst (Has (Waits wish asked)) stands has))
  where
    own : (e : Waiting) → Waits wish asked e → is_of wish.rank e ≡ true
    own e is = eq-eqb e.wish.rank.0 wish.rank.0 (ap (λ (v : Wish). v.rank.0) is.0)

    few : count_by (is_of wish.rank) at.before + (1 + count_by (is_of wish.rank) at.behind) ≤ 1
    few =
        let f : Waiting → ℕ = λ e. one (is_of wish.rank e) in
        let sum = sum_by-append f at.before (idle w rest ∷ at.behind) in
        let more = sum_by-cons f (idle w rest) at.behind in
        let it : one (w.rank.0 == wish.rank.0) ≡ 1 = rw (eq-eqb w.rank.0 wish.rank.0 (ap (λ (r : Rank). r.0) same)) refl in
        let all : count_by (is_of wish.rank) (at.before ++ idle w rest ∷ at.behind) ≤ 1 = rw stands at (once wish.rank) in
        omega arith

    by_place : Has (Waits wish asked) at.before ⊎ Has (Waits wish asked) (idle w rest ∷ at.behind) → ⊥
    by_place (inl before) =
        let some = some_of (is_of wish.rank) (Waits wish asked) at.before own before in
        let all = few in
        omega arith
    by_place (inr (inl here)) = let no = here.1 in absurd (cc)
    by_place (inr (inr behind)) =
        let some = some_of (is_of wish.rank) (Waits wish asked) at.behind own behind in
        let all = few in
        omega arith

frees_not : (me other : Server) (rank : Rank) (batch : BatchId) (part : Part) → Each (Ends_not me rank) (frees other batch part)
frees_not me other rank batch part = by_test (is_due part)
  where
    by_test : (t : Bool) → Each (Ends_not me rank) (cond t (enters.Freed other batch ∷ []) [])
    by_test true = ((λ is. is), tt)
    by_test false = tt

ends_not : (a : Act) (s : ServerModel) (wish : Wish) (asked : Server) → SitsIn a s → Sure a s → WaitOnce s → IsHome s wish.rank
    → Has (Waits wish asked) s.kept.parked.waiting → Each (IsForeign s.me wish.rank) (takes a)
    → Each (Ends_not s.me wish.rank) (entries a s)
ends_not (Accepts unit) s wish asked sits sure once home has foreign = ((λ is. is), tt)
ends_not (Refuses unit) s wish asked sits sure once home has foreign = ((λ is. is), tt)
ends_not (Ends_put unit end) s wish asked sits sure once home has foreign = ((λ is. foreign.0.0 (ap by.Rank is)), tt)
ends_not (Grants w unit) s wish asked sits sure once home has foreign = ((λ is. foreign.0.0 (ap by.Rank is.1)), tt)
ends_not (Ends_reserve w end) s wish asked sits sure once home has foreign = ((λ is. foreign.0.0 (ap by.Rank is)), tt)
ends_not (Grants_try w unit) s wish asked sits sure once home has foreign = ((λ is. foreign.0.0 (ap by.Rank is.1)), tt)
ends_not (Ends_try w end) s wish asked sits sure once home has foreign = ((λ is. foreign.0.0 (ap by.Rank is)), tt)
ends_not (Looks w) s wish asked sits sure once home has foreign = ((λ is. is), tt)
ends_not (Fetches rank request id unit) s wish asked sits sure once home has foreign = ((λ is. is), tt)
ends_not (Counts rank request kind) s wish asked sits sure once home has foreign = ((λ is. is), tt)
ends_not (Gives at w rest unit) s wish asked sits sure once home has foreign =
    ((λ is. none_beside s wish asked at w rest sits once has is.1), tt)
ends_not (Tells at w rest end) s wish asked sits sure once home has foreign =
    ((λ is. none_beside s wish asked at w rest sits once has is), tt)
ends_not (Finds from t) s wish asked sits sure once home has foreign = ((λ is. is), tt)
ends_not Finds_alone s wish asked sits sure once home has foreign = ((λ is. is), tt)
ends_not (Keeps rank request common) s wish asked sits sure once home has foreign = ((λ is. is), tt)
ends_not (Refuses_part rank request common) s wish asked sits sure once home has foreign = ((λ is. is), tt)
ends_not (Ends_keep rank request common end) s wish asked sits sure once home has foreign = ((λ is. foreign.0.0 (ap by.Rank is)), tt)
ends_not (Closes request batch accepted part) s wish asked sits sure once home has foreign =
    ((λ is. is), frees_not s.me s.me wish.rank batch (closed accepted part))
ends_not (Fetches_part rank request batch part) s wish asked sits sure once home has foreign =
    ((λ is. is), frees_not s.me s.me wish.rank batch (fetched part))
-- a rank of this home is not asked for by another server
ends_not (Answers from w unit) s wish asked sits sure once home has foreign = (
  (λ is.
      let theirs = ((expects_ask_says s from w.rank).0 sure.0).1 in
      let made : ℕ → Server = λ n. record { 0 = n } in
      let same : from ≡ s.me = ap made (sym theirs ∙ ap (home_of s.config.servers) is.1 ∙ home) in
      foreign.0.1 (ap by.Server same)),
  tt,
)
ends_not (Promises from id length) s wish asked sits sure once home has foreign = ((λ is. is), tt)
ends_not (Sends_unit to length unit) s wish asked sits sure once home has foreign = ((λ is. is), tt)
ends_not (Arrives from unit) s wish asked sits sure once home has foreign = ((λ is. is), tt)
ends_not (Withdraws from id) s wish asked sits sure once home has foreign = ((λ is. is), tt)
ends_not _ s wish asked sits sure once home has foreign = tt

home_after : (a : Act) (s : ServerModel) (rank : Rank) → IsHome s rank → IsHome (done a s) rank
home_after a s rank home =
    let same = done_named a s in
    ap (λ (c : Config). home_of c.servers rank) same.0 ∙ home ∙ ap (λ (m : Server). m.0) (sym same.1)

-- of acts after the first
acts_end_not : (list : List Act) (s : ServerModel) (wish : Wish) (asked me : Server) → s.me ≡ me → AreSure list s → TakeNone list
    → WaitOnce s → IsHome s wish.rank → Has (Waits wish asked) s.kept.parked.waiting
    → Each (Ends_not me wish.rank) (carried list s).entries
acts_end_not [] s wish asked me named sure none once home has = tt
acts_end_not (a ∷ more) s wish asked me named sure none once home has =
    let heard : Each (IsForeign s.me wish.rank) (takes a) = subst (λ h. Each (IsForeign s.me wish.rank) h) (sym none.0) tt in
    let still : Each (NoAnswer wish asked) (takes a) = subst (λ h. Each (NoAnswer wish asked) h) (sym none.0) tt in
    let first = subst (λ (m : Server). Each (Ends_not m wish.rank) (entries a s)) named
    (ends_not a s wish asked sure.0 sure.1 once home has heard) in
    let rest = acts_end_not more (done a s) wish asked me ((done_named a s).1 ∙ named) sure.2 none.1 (act_once a s sure.0 sure.1 once)
    (home_after a s wish.rank home) (act_waits_on a s wish asked sure.0 still has) in
    each_append (Ends_not me wish.rank) (entries a s) (carried more (done a s)).entries first rest

-- no server writes to itself
not_own : (s : ServerModel) (from : Actor) (letter : Letter) → IsExpected s from letter → from ≢ by.Server s.me
not_own s (by.Rank from) letter expected is = absurd (cc)
not_own s (by.Server from) letter expected is = expected.1 (cc)

-- until then no unit of its home is granted to it and its call is not over
pub asked_are_left : AskedAreLeft
asked_are_left s from letter x wish asked is once home waits other foreign =
    let step = step_acts s from letter x is in
    let now = at_event s letter in
    let h = acts_handle now from letter.message step.list step.are in
    let has = any_has (Waits wish asked) s.kept.parked.waiting waits in
    let apart = not_own s from letter ((expected_have_steps s from letter).0 (rw is refl)) in
    let heard : Each (IsForeign now.me wish.rank) (takes h.first) =
    subst (λ l. Each (IsForeign now.me wish.rank) l) (sym h.takes) ((foreign, apart), tt) in
    let first = ends_not h.first now wish asked h.sure.0 h.sure.1 once home has heard in
    let unanswered = subst (λ l. Each (NoAnswer wish asked) l) (sym h.takes) (other, tt) in
    let still = act_waits_on h.first now wish asked h.sure.0 unanswered has in
    let rest = acts_end_not h.more (done h.first now) wish asked s.me (done_named h.first now).1 h.sure.2 h.follow
    (act_once h.first now h.sure.0 h.sure.1 once) (home_after h.first now wish.rank home) still in
    let all = each_append (Ends_not s.me wish.rank) (entries h.first now) (carried h.more (done h.first now)).entries first rest in
    let same : (carried (h.first ∷ h.more) now).entries ≡ x.entries =
    ap (λ l. (carried l now).entries) (sym h.are) ∙ ap (λ (y : Served). y.entries) step.makes in
    all_each (Ends_not s.me wish.rank) x.entries (subst (Each (Ends_not s.me wish.rank)) same all)
