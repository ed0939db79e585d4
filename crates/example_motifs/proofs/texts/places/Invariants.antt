use Rattle.std.proofs.Common.{◌≡◌, ◌+◌, ◌≤◌, length}
use Rattle.example_motifs.specs.Texts.{places}
use Rattle.example_motifs.proofs.texts.places.Given as goal

abbrev pub invariant-loop-after : goal.invariant-loop-after
invariant-loop-after l = record {
  found : l.found + places l.motif l.rest ≡ places l.motif l.text;
  few : l.found + length l.rest ≤ length l.text;
}

abbrev pub decreases-loop-after : goal.decreases-loop-after
decreases-loop-after l = length l.rest
