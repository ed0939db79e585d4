-- After Finish a rank makes no call.
use Rattle.std.proofs.Common.{◌≡◌, ◌<◌, ◌⊎◌, inl, inr, List, [], ◌∷◌, ◌++◌, length, Some, None, refl, sym, ap, ◌∙◌, arith}
use Rattle.std.specs.Prelude.{option_and_then}
use Rattle.std.proofs.lemmas.List.{length-append}
use Rattle.adlb_unit.specs.declared.configs.Config.{Config}
use Rattle.adlb_unit.specs.declared.names.Rank.{Rank}
use Rattle.bag_ledger.specs.declared.entries.Call.TheVariants as calls_to
use Rattle.bag_ledger.specs.declared.entries.Entry.{Entry}
use Rattle.bag_ledger.specs.declared.entries.Said.{Said}
use Rattle.bag_ledger.specs.declared.states.RankState.{RankState}
use Rattle.bag_ledger.specs.declared.states.Status.{Status}
use Rattle.bag_ledger.specs.declared.states.Status.TheVariants as does
use Rattle.bag_ledger.specs.Bag.{Bag, start}
use Rattle.bag_ledger.specs.Runs.{IsRun, call_of, calls, says}
use Rattle.bag_ledger.specs.Steps.{Is, after}
use Rattle.bag_ledger.proofs.Tests.{some_is}
use Rattle.balance_law.specs.Orderly.{finish}
use Rattle.balance_law.proofs.Deeds.{Deed, awaits, begins, calls_done, finishes, hears, waits}
use Rattle.balance_law.proofs.Going.{there_is}
use Rattle.balance_law.proofs.Paths.{IsPath, along, calls_along, of_rank, path_of}
use Rattle.balance_law.proofs.Seen.{IsAway, IsTurn, of_mine, of_none, seen}
use Rattle.balance_law.proofs.Whole.{start_long}
use Rattle.cover_law.specs.Begun.{pending_of}

-- no call of a rank that has finished is pending
none_pends : (s : Status) → s ≡ does.Finished → call_of s ≡ None
none_pends s is = ap call_of is

-- nothing more is said of it
abbrev IsSilent : Bag → Bag → List Entry → Rank → Type 0
IsSilent b last es rank = (along says b es rank ≡ []) × (pending_of last rank ≡ None)

silent : (b last : Bag) (es : List Entry) → IsPath b es last → (rank : Rank) (r : RankState) → Is b rank r → r.status ≡ does.Finished
    → IsSilent b last es rank
silent b last [] path rank r there is = (
  refl,
  ap (λ (v : Bag). pending_of v rank) (sym path) ∙ ap (option_and_then (λ (s : RankState). call_of s.status)) there ∙ ap call_of is,
)
silent b last (e ∷ es) path rank r there is = by_case (seen b e path.0 rank) (silent (after b e) last es path.1 rank)
  where
    passed : of_rank rank (says b e) ≡ [] → IsSilent (after b e) last es rank → IsSilent b last (e ∷ es) rank
    passed none later = (rw none later.0, later.1)

    by_deed : (t now : RankState) → t.status ≡ does.Finished → Is (after b e) rank now → Deed b e rank t now
        → ((n : RankState) → Is (after b e) rank n → n.status ≡ does.Finished → IsSilent (after b e) last es rank)
        → IsSilent b last (e ∷ es) rank
    by_deed t now over here (waits quiet idle status end batch) later =
        passed (of_none rank (says b e) quiet) (later now here (status ∙ over))
    by_deed t now over here (begins c quiet idle runs pends end batch) later = absurd (cc)
    by_deed t now over here (hears c answer heard pends runs end batch comes) later =
        absurd (let none = ap call_of over in cc (none, pends))
    by_deed t now over here (awaits id u common quiet comes shared status accepts grants gives) later =
        absurd (let none = ap call_of over in let some = comes.calls in cc (none, some))
    by_deed t now over here (calls_done heard idle runs) later = absurd (cc)
    by_deed t now over here (finishes heard idle runs done end batch) later = absurd (cc)

    by_case : IsAway b e rank ⊎ IsTurn b e rank
        → ((n : RankState) → Is (after b e) rank n → n.status ≡ does.Finished → IsSilent (after b e) last es rank)
        → IsSilent b last (e ∷ es) rank
    by_case (inl away) later = passed away.1 (later r (away.0 ∙ there) is)
    by_case (inr t) later =
        by_deed t.was t.now (ap (λ (y : RankState). y.status) (some_is (sym t.there ∙ there)) ∙ is) t.here t.deed later

-- Finish is pending nowhere
never_pends : (s : Status) → call_of s ≡ Some calls_to.Finish → ⊥
never_pends (does.Putting u) is = absurd (cc)
never_pends (does.Keeping call common) is = absurd (cc)
never_pends (does.Closing call) is = absurd (cc)
never_pends (does.Asking call types) is = absurd (cc)
never_pends (does.Trying call types) is = absurd (cc)
never_pends (does.Fetching call id own) is = absurd (cc)
never_pends (does.Counting call kind) is = absurd (cc)
never_pends _ is = absurd (cc)

-- it is the last call that is told, and none is pending
abbrev IsLast : Bag → Rank → List Said → Type 0
IsLast last rank more = (more ≡ []) × (pending_of last rank ≡ None)

last_of : (b last : Bag) (es : List Entry) → IsPath b es last → (rank : Rank) (r : RankState) → Is b rank r → (said more : List Said)
    → along says b es rank ≡ said ++ finish ∷ more → IsLast last rank more
last_of b last [] path rank r there said more is = absurd (omega (arith, ap length is, length-append said (finish ∷ more)))
last_of b last (e ∷ es) path rank r there said more is =
    by_case (seen b e path.0 rank) (last_of (after b e) last es path.1 rank)
  where
    Later : Type 0
    Later = (n : RankState) → Is (after b e) rank n → (s m : List Said) → along says (after b e) es rank ≡ s ++ finish ∷ m
        → IsLast last rank m

    rest : List Said
    rest = along says (after b e) es rank

    passed : (n : RankState) → Is (after b e) rank n → of_rank rank (says b e) ≡ [] → Later → IsLast last rank more
    passed n here none later = later n here said more (rw none at is)

    -- another call comes first
    first : (n : RankState) → Is (after b e) rank n → (x : Said) → of_rank rank (says b e) ≡ x ∷ [] → (x ≡ finish → ⊥) → Later
        → IsLast last rank more
    first n here x one other later = at said (rw one at is)
      where
        at : (s : List Said) → x ∷ rest ≡ s ++ finish ∷ more → IsLast last rank more
        at [] same = absurd (other (cc))
        at (y ∷ s) same = later n here s more (cc)

    by_deed : (t now : RankState) → Is (after b e) rank now → Deed b e rank t now → Later → IsLast last rank more
    by_deed t now here (waits quiet idle status end batch) later = passed now here (of_none rank (says b e) quiet) later
    by_deed t now here (begins c quiet idle runs pends end batch) later = passed now here (of_none rank (says b e) quiet) later
    by_deed t now here (hears c answer heard pends runs end batch comes) later =
        first now here _ (of_mine rank (says b e) _ heard)
        (λ same. never_pends t.status (pends ∙ ap (λ (s : Said). Some s.call) same)) later
    by_deed t now here (awaits id u common quiet comes shared status accepts grants gives) later =
        passed now here (of_none rank (says b e) quiet) later
    by_deed t now here (calls_done heard idle runs) later =
        first now here _ (of_mine rank (says b e) _ heard)
        (λ same. let e = ap (λ (s : Said). s.call) same in absurd (cc)) later
    by_deed t now here (finishes heard idle runs done end batch) later = at said (rw (of_mine rank (says b e) finish heard) at is)
      where
        over : IsSilent (after b e) last es rank
        over = silent (after b e) last es path.1 rank now here done

        at : (s : List Said) → finish ∷ rest ≡ s ++ finish ∷ more → IsLast last rank more
        at [] same = (let e : rest ≡ more = cc in sym e ∙ over.0, over.1)
        at (y ∷ s) same =
            let e : rest ≡ s ++ finish ∷ more = cc in
            absurd (omega (arith, ap length e, ap length over.0, length-append s (finish ∷ more)))

    by_case : IsAway b e rank ⊎ IsTurn b e rank → Later → IsLast last rank more
    by_case (inl away) later = passed r (away.0 ∙ there) away.1 later
    by_case (inr t) later = by_deed t.was t.now t.here t.deed later

-- after Finish a rank makes no call
pub finish_is_last : (config : Config) (ledger : List Entry) (last : Bag) (rank : Rank) (said more : List Said) → rank.0 < config.ranks
    → IsRun (start config) ledger last → calls config ledger rank ≡ said ++ finish ∷ more
    → (more ≡ []) × (pending_of last rank ≡ None)
finish_is_last config ledger last rank said more below run is =
    let first = there_is (start config).ranks rank.0 (omega (arith, below, start_long config)) in
    last_of (start config) last ledger (path_of (start config) last ledger run) rank first.0 first.1 said more
    (sym (calls_along (start config) ledger rank) ∙ is)
