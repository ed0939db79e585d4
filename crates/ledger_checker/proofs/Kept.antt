-- A common part that is kept is within the limit.
use Rattle.std.proofs.Common.{◌≡◌, ◌∙◌, ℕ, ◌≤◌, true, List, length, Some, sym, arith, refl, ap}
use Rattle.std.specs.Prelude.{option_and_then}
use Rattle.adlb_unit.specs.declared.names.Server.{Server}
use Rattle.adlb_unit.specs.declared.names.BatchId.{BatchId}
use Rattle.bag_ledger.specs.declared.entries.Entry.TheVariants.{Kept}
use Rattle.bag_ledger.specs.Bag.{Bag, rank_at, keeping}
use Rattle.bag_ledger.specs.Step.{legal}
use Rattle.bag_ledger.proofs.Bridge.{legal_test}
use Rattle.bag_ledger.proofs.Charge.{unit_put}
use Rattle.bag_ledger.proofs.Tests.{some_is}

-- a part that may be kept is within the limit
pub kept_fits : (b : Bag) (server : Server) (batch : BatchId) (call : ℕ) (common : List ℕ) → legal b (Kept server batch) ≡ true
    → option_and_then (λ r. keeping r.status) (rank_at b batch.rank) ≡ Some (call, common) → length common ≤ b.limit
kept_fits b server batch call common is brings =
    let l = (legal_test b (Kept server batch)).0 is in
    let put = unit_put (λ r. keeping r.status) (rank_at b batch.rank) l.0 (batch.number, l.1) l.2 (rw l.3 refl) in
    let both : (batch.number, l.1) ≡ (call, common) = some_is (sym put ∙ brings) in
    let same : l.1 ≡ common = ap (λ (p : ℕ × List ℕ). p.1) both in
    let fits = l.6 in
    rw (← same) (omega (arith, fits))
