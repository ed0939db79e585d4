use Rattle.std.proofs.Common.{◌≡◌, ◌+◌, ◌∙◌, List, None, Some, ap, arith, sym}
use Rattle.adlb_unit.specs.declared.configs.Config.{Config}
use Rattle.bag_ledger.specs.declared.entries.Entry.{Entry}
use Rattle.bag_ledger.specs.Bag.{start}
use Rattle.bag_ledger.proofs.Legal.{is_found, none_found}
use Rattle.bag_ledger.proofs.Tests.{some_is}
use Rattle.ledger_command.specs.Verdicts.{IsVerdict}
use Rattle.ledger_command.specs.declared.verdicts.Verdict.{Verdict}
use Rattle.ledger_command.specs.declared.verdicts.Verdict.TheVariants.{Illegal, Legal}
use Rattle.ledger_command.proofs.verdicts.one_verdict.Goals as goal

pub returns : goal.returns
returns c = same
  where
    same : (config : Config) (ledger : List Entry) (a b : Verdict) → IsVerdict config ledger a → IsVerdict config ledger b → a ≡ b
    same config ledger (Legal m) (Legal n) p q = ap Legal (p.1 ∙ sym q.1)
    same config ledger (Legal m) (Illegal k) p q =
        let e : None ≡ Some (0 + k) = sym (none_found (start config) p.0.0 0 ledger p.0.1) ∙ is_found (start config) 0 k ledger q in
        absurd (cc)
    same config ledger (Illegal j) (Legal n) p q =
        let e : None ≡ Some (0 + j) = sym (none_found (start config) q.0.0 0 ledger q.0.1) ∙ is_found (start config) 0 j ledger p in
        absurd (cc)
    same config ledger (Illegal j) (Illegal k) p q =
        let e : 0 + j ≡ 0 + k = some_is (sym (is_found (start config) 0 j ledger p) ∙ is_found (start config) 0 k ledger q) in
        ap Illegal (omega (arith, e))
