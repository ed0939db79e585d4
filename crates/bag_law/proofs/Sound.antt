-- Every legal entry keeps the bag sound, so it is sound after every legal run; and what a rank was told is true.
use Rattle.std.proofs.Common.{◌≡◌, ℕ, zero, suc, ◌+◌, ◌≤◌, Bool, List, [], ◌∷◌, ◌++◌, replicate, Option, Some, None, refl, sym, ap, ◌∙◌}
use Rattle.std.proofs.Common.{subst, arith, slice_get, append_assoc, append-nil}
use Rattle.std.proofs.lemmas.List.Elements.{All-nil}
use Rattle.std.proofs.lemmas.List.Sums.{sum_by-cons}
use Rattle.adlb_unit.specs.declared.configs.Config.{Config}
use Rattle.adlb_unit.specs.declared.names.Rank.{Rank}
use Rattle.adlb_unit.specs.declared.names.UnitId.{UnitId}
use Rattle.adlb_unit.specs.declared.names.BatchId.{BatchId}
use Rattle.bag_ledger.specs.declared.entries.Entry.{Entry}
use Rattle.bag_ledger.specs.declared.entries.Said.{Said}
use Rattle.bag_ledger.specs.declared.states.RankState.{RankState}
use Rattle.bag_ledger.specs.Bag.{Bag, fresh, start}
use Rattle.bag_ledger.specs.Steps.{LegalWhere, after}
use Rattle.bag_ledger.specs.Runs.{IsRunWhere, calls_from, said_by, says}
use Rattle.bag_ledger.proofs.Charge.{step_tracked}
use Rattle.bag_ledger.proofs.Turns.{fresh_at}
use Rattle.bag_law.specs.Calls.{AreTrueCalls, IsTrueSaid}
use Rattle.bag_law.specs.Counts.{brought, if_there, owes, owing, used}
use Rattle.bag_law.specs.Sound.{IsSoundBag}
use Rattle.bag_law.proofs.Apart.{apart_stays}
use Rattle.bag_law.proofs.Batches.{batches_stay}
use Rattle.bag_law.proofs.Calls.{calls_stay}
use Rattle.bag_law.proofs.Counts.{counts_stay}
use Rattle.bag_law.proofs.Ends.{ends_stay}
use Rattle.bag_law.proofs.Fetches.{fetches_stay}
use Rattle.bag_law.proofs.Ids.{ids_stay}
use Rattle.bag_law.proofs.Promises.{single_stays}
use Rattle.bag_law.proofs.Shares.{shares_stay}
use Rattle.bag_law.proofs.There.{there_stays}

-- a legal entry keeps a sound bag sound
pub step_keeps_sound : (found : Bag → Bool) (b : Bag) (e : Entry) → LegalWhere found b e → IsSoundBag b → IsSoundBag (after b e)
step_keeps_sound found b e l is =
    record {
      ids = ids_stay found b e l is.ids;
      batches = batches_stay found b e l is.ids is.batches;
      there = there_stays found b e l is.there;
      shares = shares_stay found b e l is.batches is.shares;
      counts = counts_stay found b e l is.fetches is.batches is.counts;
      fetches = fetches_stay found b e l is.fetches;
      single = single_stays found b e l is.single;
      tracked = step_tracked found b e l is.tracked;
      apart = apart_stays found b e l is.tracked is.apart;
      told = ends_stay found b e l is.told;
    }

-- the bag at the start is sound
pub start_is_sound : (config : Config) → IsSoundBag (start config)
start_is_sound config =
    let ranks : List RankState = replicate config.ranks fresh in
    record {
      ids = record { each = λ id. by_rank id (slice_get ranks id.rank.0) refl };
      batches = record {
        brought = λ n r e. rw (fresh_at config.ranks n r e) tt;
        batch = λ n r e. rw (fresh_at config.ranks n r e) tt;
        open_is = λ batch p e opened. absurd (cc);
        freed = λ batch p e freed. absurd (cc);
      };
      there = record { each = λ batch p e. absurd (cc) };
      shares = record { each = λ id u e. absurd (cc) };
      fetches = record { each = λ n r e. rw (fresh_at config.ranks n r e) tt };
      counts = record { each = λ batch. sym (none_owed batch config.ranks) };
      single = record { each = λ id. omega arith };
      tracked = record { measured = λ id p e. absurd (cc); promised = λ id u to s. let none = s.0 in absurd (cc) };
      apart = record { each = λ id u p at of. absurd (cc) };
      told =
          record {
            each = λ n r end e told. let none : None ≡ Some end = ap (λ (x : RankState). x.end)
                (sym (fresh_at config.ranks n r e)) ∙ told in absurd (cc);
          };
    }
  where
    by_rank : (id : UnitId) (o : Option RankState) → slice_get (replicate config.ranks fresh) id.rank.0 ≡ o
        → 0 + 0 + if_there (brought id.number) (slice_get (replicate config.ranks fresh) id.rank.0)
        ≤ if_there (used id.number) (slice_get (replicate config.ranks fresh) id.rank.0)
    by_rank id None e = rw e (omega arith)
    by_rank id (Some r) e = rw (e, fresh_at config.ranks id.rank.0 r e) (omega arith)

    none_owed : (batch : BatchId) (n : ℕ) → 0 + 0 + owes batch [] (replicate n fresh) ≡ 0
    none_owed batch zero = refl
    none_owed batch (suc n) =
        let c = sum_by-cons (λ (r : RankState). owing batch [] r.status) fresh (replicate n fresh) in
        let m = none_owed batch n in omega arith

-- a run keeps a sound bag sound
pub run_keeps_sound : (found : Bag → Bool) (b last : Bag) (es : List Entry) → IsRunWhere found b es last → IsSoundBag b → IsSoundBag last
run_keeps_sound found b last [] run is = subst IsSoundBag run is
run_keeps_sound found b last (e ∷ es) run is =
    run_keeps_sound found run.0 last es run.2 (subst IsSoundBag (sym run.1.2) (step_keeps_sound found b e run.1.1 is))

-- the bag after a legal run is sound
pub run_is_sound : (found : Bag → Bool) (config : Config) (ledger : List Entry) (last : Bag) → IsRunWhere found (start config) ledger last
    → IsSoundBag last
run_is_sound found config ledger last run = run_keeps_sound found (start config) last ledger run (start_is_sound config)

-- Calls.

more_calls_are_true : (found : Bag → Bool) (b last : Bag) (es : List Entry) (rank : Rank) (said : List Said) → IsRunWhere found b es last
    → IsSoundBag b → AreTrueCalls rank said b → AreTrueCalls rank (said ++ calls_from b es rank) last
more_calls_are_true found b last [] rank said run sound is =
    subst (λ s. AreTrueCalls rank s last) (sym (append-nil said)) (subst (AreTrueCalls rank said) run is)
more_calls_are_true found b last (e ∷ es) rank said run sound is =
    let now : AreTrueCalls rank (said ++ said_by rank (says b e)) run.0 =
    subst (AreTrueCalls rank (said ++ said_by rank (says b e))) (sym run.1.2)
    (calls_stay found b e rank said run.1.1 sound.fetches is) in
    let next : IsSoundBag run.0 = subst IsSoundBag (sym run.1.2) (step_keeps_sound found b e run.1.1 sound) in
    let all = more_calls_are_true found run.0 last es rank (said ++ said_by rank (says b e)) run.2 next now in
    let same : calls_from run.0 es rank ≡ calls_from (after b e) es rank = ap (λ x. calls_from x es rank) run.1.2 in
    subst (λ s. AreTrueCalls rank s last)
    (append_assoc said (said_by rank (says b e)) (calls_from run.0 es rank) ∙ ap (λ x. said ++ (said_by rank (says b e) ++ x)) same) all

-- what a rank was told in a legal run is true of the bag
pub run_calls_are_true : (found : Bag → Bool) (config : Config) (ledger : List Entry) (last : Bag) (rank : Rank)
    → IsRunWhere found (start config) ledger last → AreTrueCalls rank (calls_from (start config) ledger rank) last
run_calls_are_true found config ledger last rank run =
    more_calls_are_true found (start config) last ledger rank [] run (start_is_sound config)
    (record { each = All-nil (IsTrueSaid (start config) rank); once = λ id. omega arith })
