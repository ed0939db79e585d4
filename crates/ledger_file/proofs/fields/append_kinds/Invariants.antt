use Rattle.std.proofs.Common.{◌≡◌, ◌++◌, ◌∷◌, take, true}
use Rattle.std.specs.List.{flat_map, list_all}
use Rattle.std.specs.Prelude.{decimal}
use Rattle.ledger_file.specs.Fields.{in_u32}
use Rattle.ledger_file.proofs.fields.append_kinds.Given as goal

abbrev pub invariant-loop-kind : goal.invariant-loop-kind
invariant-loop-kind l =
    (l.bytes.items ≡ l.initial.bytes.items ++ flat_map (λ k. 44 ∷ decimal k.0) (take l.kind-index l.rest))
    × (list_all (λ k. in_u32 k.0) (take l.kind-index l.rest) ≡ true)
