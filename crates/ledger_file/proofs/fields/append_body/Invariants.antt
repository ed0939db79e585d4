use Rattle.std.proofs.Common.{◌≡◌, ◌++◌, ◌^◌, take, true}
use Rattle.std.specs.List.{flat_map, list_all}
use Rattle.std.specs.Prelude.{nat_lt}
use Rattle.ledger_file.specs.Fields.{hex}
use Rattle.ledger_file.proofs.fields.append_body.Given as goal

abbrev pub invariant-loop-b : goal.invariant-loop-b
invariant-loop-b l =
    (l.bytes.items ≡ l.initial.bytes.items ++ flat_map hex (take l.b-index l.body))
    × (list_all (λ b. nat_lt b (2 ^ 8)) (take l.b-index l.body) ≡ true)
