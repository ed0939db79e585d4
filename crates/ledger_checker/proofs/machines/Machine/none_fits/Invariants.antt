use Rattle.std.proofs.Common.{◌≡◌, drop}
use Rattle.bag_ledger.specs.Bag.{none_fits}
use Rattle.ledger_checker.proofs.machines.Machine.none_fits.Given as goal

-- the ranks so far have no fit
abbrev pub invariant-loop-place : goal.invariant-loop-place
invariant-loop-place l = none_fits l.self.units l.place (drop l.place l.ranks) ≡ none_fits l.self.units 0 l.ranks
