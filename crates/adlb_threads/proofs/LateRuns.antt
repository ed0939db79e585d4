-- A late end of ranks is a late run of their programs.
use Rattle.std.proofs.Common.{◌≡◌, ◌⊎◌, inl, inr, ℕ, List, length, Option, None, Some, slice_get, subst, ◌∙◌, arith}
use Rattle.std.proofs.lemmas.Option.{slice_get_within}
use Rattle.adlb_unit.specs.declared.configs.Config.{Config}
use Rattle.adlb_unit.specs.declared.names.Rank.{Rank}
use Rattle.bag_ledger.specs.declared.entries.Answer.TheVariants.{Fine}
use Rattle.bag_ledger.specs.declared.entries.Call.{Call}
use Rattle.bag_ledger.specs.declared.entries.Call.TheVariants.{Finish}
use Rattle.bag_ledger.specs.declared.entries.Said.{Said}
use Rattle.rank_client.specs.Calls.{plus}
use Rattle.rank_client.specs.State.{start}
use Rattle.rank_mail.proofs.Lists.{there}
use Rattle.thread_actors.specs.World.{rank_named}
use Rattle.thread_actors.specs.RankJobs.{EndsAs, Ended, ended_by}
use Rattle.thread_actors.specs.declared.faults.ActorFault.{ActorFault}
use Rattle.adlb_threads.proofs.OwnRuns.{client_same}
use Rattle.adlb_threads.specs.inside.{IsLateEnd}
use Rattle.adlb_threads.specs.Runs.{HasCalled, IsLateRun}

-- the transcript of a rank is that of its calls before Finish, and perhaps Finish
with_finish : (fault : Option ActorFault) (said before : List Said) → said ≡ ended_by fault before
    → (said ≡ before) ⊎ (said ≡ plus before Finish (Some Fine))
with_finish None said before is = inr is
with_finish (Some fault) said before is = inl is

pub is_late_run : {P O : Type 0} (config : Config) (so_far : P → Rank → List Said → Option Call → Type 0)
    (follows : P → Rank → List Said → O → Type 0) (programs : List P) (ends : List (Ended O)) (stamp : ℕ)
    → length programs ≡ config.ranks → length ends ≡ config.ranks
    → ((k : ℕ) (p : P) (e : Ended O) → slice_get programs k ≡ Some p → slice_get ends k ≡ Some e
    → EndsAs (so_far p (rank_named k)) (follows p (rank_named k)) config (rank_named k) e)
    → IsLateEnd config ends stamp → IsLateRun config so_far programs stamp
is_late_run config so_far follows programs ends stamp count long kept is = record {
  finals = is.finals;
  late = is.late;
  each = λ rank p at.
      let low = slice_get_within programs rank.0 p at in
      let e = there ends rank.0 (omega (arith, low, count, long)) in
      let begun = (kept rank.0 p e.0 at e.1).begun in
      let run = begun.run in
      let same = client_same config (start config rank) (e.0).desk.events run.last (is.finals.client rank) run.walks
      (is.own rank e.0 e.1) in
      subst (HasCalled (so_far p rank)) same (record {
        before = begun.before;
        begun = begun.begun;
        made = begun.made;
        transcript = with_finish (e.0).fault run.last.transcript begun.before (run.transcript ∙ begun.said_is);
        pends = run.pends;
      });
}
