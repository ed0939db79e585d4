use Rattle.std.proofs.Common.{◌≡◌, take}
use Rattle.std.specs.Prelude.{flat_map}
use Rattle.flow_law.specs.Flows.{line_of}
use Rattle.flow_app.proofs.texts.text_of.Given as goal

abbrev pub invariant-loop-place : goal.invariant-loop-place
invariant-loop-place l = l.text.items ≡ flat_map (line_of l.flow) (take l.place l.flow)
