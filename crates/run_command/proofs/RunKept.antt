-- What is kept of a run in threads, for any number of ranks.
use Rattle.std.proofs.Common.{◌≡◌, ◌<◌, ℕ, List, length, Some, sym, subst, arith, slice_get, inl, inr}
use Rattle.std.proofs.lemmas.Option.{slice_get_cases}
use Rattle.adlb_threads.specs.Reports.{Reported}
use Rattle.adlb_threads.specs.Runs.{IsOneRun, IsRunOf}
use Rattle.adlb_unit.specs.declared.configs.Config.{Config}
use Rattle.adlb_unit.specs.declared.names.Rank.{Rank}
use Rattle.bag_ledger.specs.declared.entries.Said.{Said}
use Rattle.run_command.specs.Kept.{HasRun, IsRunBy}

-- a list has an element at each place within it
there : {X : Type 0} (xs : List X) (k : ℕ) → k < length xs → (x : X) × (slice_get xs k ≡ Some x)
there xs k within = elim (slice_get_cases xs k).1 [
  | inl some ↦ (some.0, some.2)
  | inr past ↦ absurd (omega (arith, within, past.0))
]

-- it is one run of all actors with the configuration that it has
pub one_run : {O : Type 0} (config : Config) (r : Reported O) → r.config ≡ config → IsOneRun config r → IsOneRun r.config r
one_run config r is one = subst (λ (x : Config). IsOneRun x r) (sym is) one

module _ {A P O : Type 0} (are_programs : ℕ → A → List P → Type 0) (follows : P → Rank → List Said → O → Type 0) (asked : A)
    (programs : List P) (config : Config) (r : Reported O) (c : IsRunOf config follows programs r) (all : length programs ≡ config.ranks)
    (are : are_programs config.ranks asked programs)
  where
    abbrev with_config : Config → Reported O
    with_config x = record { config = x; ledger = r.ledger; transcripts = r.transcripts; outcomes = r.outcomes; left = r.left }

    rank_run : (rank : Rank) → rank.0 < config.ranks → IsRunBy follows programs (with_config config) rank
    rank_run rank below =
        let p = there programs rank.0 (omega (arith, all, below)) in
        let e = c.each rank p.0 p.1 in
        record {
          program = p.0;
          said = e.2.0;
          outcome = e.0;
          program_is = p.1;
          outcome_is = e.1;
          calls_are = e.2.2;
          followed = e.2.1;
        }

    has_run : HasRun are_programs follows asked (with_config config)
    has_run = record {
      programs = programs;
      are = are;
      last = c.last;
      legal = c.legal;
      transcripts = c.transcripts;
      all = c.all;
      each = rank_run;
      outcomes = c.outcomes;
      left = c.left;
    }

    -- what is asked was run by its programs
    pub threaded_has_run : HasRun are_programs follows asked r
    threaded_has_run = subst (λ (x : Config). HasRun are_programs follows asked (with_config x)) (sym c.config_is) has_run
