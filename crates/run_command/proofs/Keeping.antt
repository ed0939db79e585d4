-- What is kept of a run of one rank over one server.
use Rattle.std.proofs.Common.{◌≡◌, ◌<◌, ◌≤◌, ◌^◌, ℕ, zero, suc, List, [], ◌∷◌, ◌++◌, length, Option, Some, None, Result, Ok, Err, IfOk, map}
use Rattle.std.proofs.Common.{refl, sym, ap, ◌∙◌, subst, arith, slice_get, slice_index_or}
use Rattle.std.proofs.lemmas.Result.{IfOk-at_ok}
use Rattle.adlb_threads.specs.Reports.{Reported}
use Rattle.adlb_unit.specs.declared.configs.Config.{Config}
use Rattle.adlb_unit.specs.declared.names.Rank.{Rank}
use Rattle.adlb_unit.specs.declared.notes.Trouble.{Trouble}
use Rattle.adlb_unit.specs.declared.notes.Trouble.TheVariants as troubles
use Rattle.adlb_unit.specs.declared.notes.Trouble.TheVariants.{TooLong}
use Rattle.balance_law.specs.Orderly.{finish}
use Rattle.bag_ledger.specs.declared.entries.Call.TheVariants as calls_to
use Rattle.bag_ledger.specs.declared.entries.Entry.{Entry}
use Rattle.bag_ledger.specs.declared.entries.Said.{Said}
use Rattle.bag_ledger.specs.Bag.{Bag, empty, start}
use Rattle.bag_ledger.specs.Runs.{IsRun, calls, calls_from}
use Rattle.core_inline.specs.Inline.{IsEnd, IsStart, Run, finish_answer, seat_of, zeroth}
use Rattle.core_inline.proofs.Lefts.{nothing_left}
use Rattle.rank_client.specs.Calls.{plus}
use Rattle.rank_client.specs.Seat.{Seat}
use Rattle.server_core.specs.declared.states.LeftUnit.{LeftUnit}
use Rattle.run_command.specs.inside.{HasNumbers, IsReportOf, IsTroubleOf, one_report}
use Rattle.run_command.specs.Kept.{HasRun, IsKept, IsRunBy, IsWorkedUp, Kept}

-- where all work of a run is done, it is kept
pub run_is_kept : {A P O : Type 0} (are_programs : ℕ → A → List P → Type 0) (follows : P → Rank → List Said → O → Type 0) (asked : A)
    (k : Kept O) → HasRun are_programs follows asked k.report → IsWorkedUp k.report → IsKept are_programs follows asked k
run_is_kept are_programs follows asked k run worked_up =
    record { run = run; worked_up = worked_up; left = run.left (worked_up run.last run.legal).0 }

-- the bag at the start has the numbers of the run and nothing else
same_start : (config : Config) (run : Run) → HasNumbers config run → start run.config ≡ start config
same_start config run same =
    let by_ranks : ℕ → Bag = λ n. empty n run.config.servers run.config.limit in
    let by_servers : ℕ → Bag = λ n. empty config.ranks n run.config.limit in
    let by_limit : ℕ → Bag = λ n. empty config.ranks config.servers n in
    ap by_ranks same.ranks ∙ ap by_servers same.servers ∙ ap by_limit same.limit

-- the one element of a list is its first
pub first_at : {X : Type 0} (xs : List X) (x : X) → length xs ≡ 1 → x ≡ slice_index_or xs 0 x → slice_get xs 0 ≡ Some x
first_at [] x long is = absurd (omega (arith, long))
first_at (y ∷ ys) x long is = ap Some (sym is)

-- a rank below one is the only one
only : (P : Rank → Type 0) → P zeroth → (k : ℕ) → k < 1 → P (record { 0 = k })
only P here zero low = here
only P here (suc k) low = absurd (omega arith)

module _ {A P O : Type 0} (are_programs : ℕ → A → List P → Type 0) (follows : P → Rank → List Said → O → Type 0) (asked : A)
    (programs : List P) (program : P) (config : Config) (last : Run) (said transcript : List Said) (ledger : List Entry)
    (left : List LeftUnit) (one_rank : config.ranks ≡ 1) (numbers : HasNumbers config last)
    (are : are_programs config.ranks asked programs) (is : slice_get programs 0 ≡ Some program)
    (finished : transcript ≡ said ++ finish ∷ []) (ends : IsEnd last ledger transcript left)
  where
    module _ (outcome : O) (followed : follows program zeroth said outcome) where
      abbrev report : Reported O
      report = one_report config ledger transcript left outcome

      said_is : calls config ledger zeroth ≡ transcript
      said_is = sym (ap (λ b. calls_from b ledger zeroth) (same_start config last numbers)) ∙ ends.calls_are

      rank_run : IsRunBy follows programs report zeroth
      rank_run = record {
        program = program;
        said = said;
        outcome = outcome;
        program_is = is;
        outcome_is = refl;
        calls_are = said_is ∙ finished;
        followed = followed;
      }

      low : (k : ℕ) → k < config.ranks → k < 1
      low k below = omega (arith, one_rank)

      has_run : HasRun are_programs follows asked report
      has_run = record {
        programs = programs;
        are = are;
        last = ends.last;
        legal = subst (λ b. IsRun b ledger ends.last) (same_start config last numbers) ends.legal;
        transcripts = λ rank below.
            only (λ r. slice_get (transcript ∷ []) r.0 ≡ Some (calls config ledger r)) (ap Some (sym said_is)) rank.0 (low rank.0 below);
        all = sym one_rank;
        each = λ rank below. only (λ r. IsRunBy follows programs report r) rank_run rank.0 (low rank.0 below);
        outcomes = sym one_rank;
        left = λ spent. nothing_left ends.last left spent ends.left_is;
      }

    -- where there is a report of what the program found, it is of a run
    pub reports_run : (outcome : Result O Trouble) (result : Result (Kept O) Trouble) → IfOk outcome (λ o. follows program zeroth said o) →
        IfOk result (λ k. IsReportOf config ledger transcript left outcome k.report) →
        IfOk result (λ k. HasRun are_programs follows asked k.report)
    reports_run outcome (Err trouble) worked reported = tt
    reports_run outcome (Ok k) worked reported =
        let F : O → Type 0 = λ o. follows program zeroth said o in
        let followed : follows program zeroth said reported.found = IfOk-at_ok F reported.is worked in
        subst (λ (r : Reported O). HasRun are_programs follows asked r) (sym reported.report) (has_run reported.found followed)

-- a report of transcripts and outcomes
abbrev report_with : {O : Type 0} → Config → List Entry → List (List Said) → List O → List LeftUnit → Reported O
report_with config ledger transcripts outcomes left =
    record { config = config; ledger = ledger; transcripts = transcripts; outcomes = outcomes; left = left }

-- a report of one rank is the report with that rank's transcript and outcome
pub reported : {V O : Type 0} (config : Config) (ledger : List Entry) (left : List LeftUnit) (seen_as : V → List Said)
    (transcripts : List V)
    (transcript : V) (outcomes : List O) (outcome : O) → transcripts ≡ transcript ∷ [] → outcomes ≡ outcome ∷ [] →
    report_with config ledger (map seen_as transcripts) outcomes left ≡ one_report config ledger (seen_as transcript) left outcome
reported {V} {O} config ledger left seen_as transcripts transcript outcomes outcome one found =
    ap (λ ts. report_with config ledger (map seen_as ts) outcomes left) one
    ∙ ap (λ (os : List O). report_with config ledger (seen_as transcript ∷ []) os left) found

-- the trouble of a run is one that a world which failed tells
pub trouble_told : (trouble : Trouble) (run : Run) → ((stamp : ℕ) → run.failed ≡ Some (TooLong stamp) → 2 ^ 48 ≤ stamp) →
    ((n : ℕ) → trouble ≡ TooLong n → (run.failed ≡ Some (TooLong n)) × (2 ^ 35 ≤ length run.transcript)) →
    IsTroubleOf (2 ^ 35 ≤ length run.transcript) trouble
trouble_told troubles.Memory run late told = tt
trouble_told (troubles.TooLong stamp) run late told = let is = told stamp refl in (late stamp is.0, is.1)

-- the numbers stay from the start of the world to its end
pub numbers_of : (config : Config) (limit : ℕ) (first mid last : Run) → config.ranks ≡ 1 → config.servers ≡ 1 → limit ≡ config.limit
    → IsStart limit first → HasNumbers first.config mid → last.config ≡ mid.config → HasNumbers config last
numbers_of config limit first mid last one_rank one_server is start same kept = record {
  ranks = ap (λ (c : Config). c.ranks) kept ∙ same.ranks ∙ start.one_rank ∙ sym one_rank;
  servers = ap (λ (c : Config). c.servers) kept ∙ same.servers ∙ start.one_server ∙ sym one_server;
  limit = ap (λ (c : Config). c.limit) kept ∙ same.limit ∙ start.limit_is ∙ is;
}

-- where nothing failed, Finish came to the transcript
pub finishes : (before last : Run) (transcript : List Said) → last.transcript
    ≡ plus before.transcript calls_to.Finish (finish_answer last.failed) → last.failed ≡ None → transcript ≡ last.transcript
    → transcript ≡ before.transcript ++ finish ∷ []
finishes before last transcript says whole same =
    same ∙ says ∙ ap (λ (t : Option Trouble). plus before.transcript calls_to.Finish (finish_answer t)) whole

-- a link of the same seat has the same numbers
pub seat_numbers : (before after : Run) → seat_of after ≡ seat_of before → HasNumbers before.config after
seat_numbers before after same = record {
  ranks = ap (λ (s : Seat). s.ranks) same;
  servers = ap (λ (s : Seat). s.servers) same;
  limit = ap (λ (s : Seat). s.limit) same;
}

-- the numbers stay through two steps
pub numbers_again : (config : Config) (mid last : Run) → HasNumbers config mid → HasNumbers mid.config last → HasNumbers config last
numbers_again config mid last first then = record {
  ranks = then.ranks ∙ first.ranks;
  servers = then.servers ∙ first.servers;
  limit = then.limit ∙ first.limit;
}
