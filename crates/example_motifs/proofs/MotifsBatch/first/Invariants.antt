use Rattle.std.proofs.Common.{◌≡◌, ℕ, Bool, sum_by}
use Rattle.example_motifs.specs.Texts.{worth}
use Rattle.example_motifs.specs.declared.texts.TheConstants.{TEXT}
use Rattle.example_motifs.proofs.Looked.{so_far}
use Rattle.example_motifs.proofs.MotifsBatch.first.Given as goal

abbrev pub invariant-loop-number : goal.invariant-loop-number
invariant-loop-number l = (test : ℕ × ℕ → Bool) →
    sum_by (worth l.self.all.now test TEXT.now) l.out ≡ so_far l.self.all.now test TEXT.now l.number
