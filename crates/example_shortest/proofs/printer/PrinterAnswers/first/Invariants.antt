use Rattle.std.proofs.Common.{◌≡◌, ◌+◌, ℕ, Bool, count_by, sum_by, take}
use Rattle.example_shortest.proofs.printer.PrinterAnswers.first.Given as goal

abbrev pub invariant-loop-pages : goal.invariant-loop-pages
invariant-loop-pages l = (test : ℕ → Bool) →
    sum_by (λ job. count_by test job) l.out ≡ count_by test (take l.pages-index l.jobs) + sum_by (λ job. count_by test job) l.fn.out
