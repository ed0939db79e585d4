use Rattle.std.proofs.Common.{◌≡◌, ◌++◌, ◌∷◌, take}
use Rattle.std.specs.List.{All, flat_map}
use Rattle.ledger_file.specs.Fields.{IsWithin, word}
use Rattle.ledger_file.specs.inside.Given.{field_of}
use Rattle.ledger_file.proofs.writing.append_fields.Given as goal

abbrev pub invariant-loop-field : goal.invariant-loop-field
invariant-loop-field l =
    (l.bytes.items ≡ l.initial.bytes.items ++ flat_map (λ f. 32 ∷ word (field_of f)) (take l.field-index l.fields))
    × All (λ f. IsWithin (field_of f)) (take l.field-index l.fields)
