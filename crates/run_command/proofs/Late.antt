-- What the ranks of a run with threads have begun of their programs when the stamps run out.
use Rattle.std.proofs.Common.{◌≡◌, ◌^◌, ◌++◌, ◌∷◌, ◌⊎◌, inl, inr, ℕ, List, [], length, Option, Some, None, ap, sym, ◌∙◌}
use Rattle.std.proofs.Common.{subst, arith}
use Rattle.std.proofs.Common.{refl, append_assoc}
use Rattle.adlb_threads.specs.Runs.{HasCalled, IsFaultOf, IsLateRun}
use Rattle.adlb_threads.specs.declared.faults.RanFault.{RanFault}
use Rattle.adlb_threads.specs.declared.faults.RanFault.TheVariants as runs
use Rattle.adlb_unit.specs.declared.configs.Config.{Config}
use Rattle.adlb_unit.specs.declared.names.Rank.{Rank}
use Rattle.bag_ledger.specs.declared.entries.Answer.TheVariants.{Fine}
use Rattle.bag_ledger.specs.declared.entries.Call.{Call}
use Rattle.bag_ledger.specs.declared.entries.Call.TheVariants.{Finish}
use Rattle.bag_ledger.specs.declared.entries.Said.{Said}
use Rattle.bag_ledger.specs.Runs.{calls}
use Rattle.balance_law.specs.Orderly.{finish}
use Rattle.balance_law.proofs.Going.{there_is}
use Rattle.begun_law.specs.Told.{IsTold, ahead, alike}
use Rattle.begun_law.proofs.Finishing.{finish_is_last}
use Rattle.begun_law.proofs.Moments.{moment}
use Rattle.cover_law.specs.Begun.{pending_of}
use Rattle.rank_client.specs.Calls.{plus}
use Rattle.rank_client.specs.Remembered.{pending_call}
use Rattle.rank_client.specs.State.{ClientModel}
use Rattle.run_command.specs.Begun.{HasCome, HaveBegun, hears, leaves, works}
use Rattle.run_command.specs.inside.{IsStopOf}

-- One rank, of which the ledger tells these calls.
module _ (so_far : List Said → Option Call → Type 0) (s : ClientModel) (told : List Said) (pending : Option Call)
    (last : (said more : List Said) → told ≡ said ++ finish ∷ more → (more ≡ []) × (pending ≡ None))
  where
    come : HasCalled so_far s → IsTold s.transcript (pending_call s.pending) told pending → HasCome so_far told pending
    come called is = by_way called.transcript is
      where
        by_way : (s.transcript ≡ called.before) ⊎ (s.transcript ≡ plus called.before Finish (Some Fine))
            → IsTold s.transcript (pending_call s.pending) told pending → HasCome so_far told pending
        by_way (inl own) (alike same) =
            works called.begun (subst (λ l. so_far l called.begun) (sym (same ∙ own)) called.made)
        by_way (inl own) (ahead x began same none) =
            hears called.before x (subst (λ o. so_far called.before o) (sym called.pends ∙ began) called.made)
            (same ∙ ap (λ l. l ++ x ∷ []) own) none
        by_way (inr own) (alike same) =
            let is_last = last called.before [] (same ∙ own) in
            leaves called.before called.begun called.made (same ∙ own) is_last.1
        by_way (inr own) (ahead x began same none) =
            let whole = same ∙ ap (λ l. l ++ x ∷ []) own ∙ append_assoc called.before (finish ∷ []) (x ∷ []) in
            absurd (let none_more = (last called.before (x ∷ []) whole).0 in cc)

-- All ranks.
module _ {A P : Type 0} (are_programs : ℕ → A → List P → Type 0) (so_far : P → Rank → List Said → Option Call → Type 0) (asked : A)
    (config : Config) (programs : List P) (all : length programs ≡ config.ranks) (are : are_programs config.ranks asked programs)
  where
    -- the ranks of a late run have begun 2^34 calls of their programs
    pub late_begun : (stamp : ℕ) → IsLateRun config so_far programs stamp → HaveBegun are_programs so_far asked config.ranks (2 ^ 34)
    late_begun stamp is =
        let run = is.late.run in
        let now = moment config _ run.last run.runs in
        record {
          config = config;
          ranks_are = refl;
          ledger = (run.last).ledger;
          last = now.last;
          legal = now.legal;
          programs = programs;
          are = are;
          each = λ rank below.
              let p = there_is programs rank.0 (omega (arith, below, all)) in (
                p.0,
                p.1,
                come (so_far p.0 rank) (is.finals.client rank) (calls config (run.last).ledger rank) (pending_of now.last rank)
                    (λ said more e. finish_is_last config (run.last).ledger now.last rank said more below now.legal e)
                    (is.each rank p.0 p.1)
                    (subst (λ (s : ClientModel). IsTold s.transcript (pending_call s.pending) (calls config (run.last).ledger rank)
                    (pending_of now.last rank)) (run.ranks rank below) (now.told rank below)),
              );
          enough = let many = is.late.many in let kept = now.many in omega (arith, many, kept);
        }

    -- why such a run had no report
    pub ran_late : (long : Type 0) → (HaveBegun are_programs so_far asked config.ranks (2 ^ 34) → long) → (met : RanFault)
        → IsFaultOf met → ((stamp : ℕ) → met ≡ runs.TooLong stamp → IsLateRun config so_far programs stamp) → IsStopOf long met
    ran_late long takes runs.NoThread is late = tt
    ran_late long takes runs.Memory is late = tt
    ran_late long takes (runs.TooLong stamp) is late = (is, takes (late_begun stamp (late stamp refl)))
