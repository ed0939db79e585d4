-- The rules that a ledger enters.
use Rattle.std.specs.Prelude.{◌≡◌, ◌≢◌, ◌<◌, ℕ, true, List, [], Contains, flat_map}
use Rattle.adlb_unit.specs.declared.configs.Config.{Config}
use Rattle.adlb_unit.specs.declared.names.Rank.{Rank}
use Rattle.bag_ledger.specs.declared.entries.Entry.{Entry}
use Rattle.flow_law.specs.Flows.{HasValue, Name}
use Rattle.flow_law.specs.declared.Definition.{Definition}
use Rattle.flow_law.specs.declared.Op.{Op}
use Rattle.work_law.specs.Work.{put_of}
use Rattle.flow_run_law.specs.Puts.{IsOnce, rules_of}
use Rattle.flow_run_law.specs.Units.{Forms, IsGoodRule, IsRule, Rule, flows}
use Rattle.put_law.specs.Entered.{entered}

-- the rank that has the flow
abbrev pub home : Rank
home = record { 0 = 0 }

-- the numbers of the rules that `Putting` entries of this rank put, in order
abbrev pub rules_entered : Forms → List Entry → Rank → List ℕ
rules_entered F ledger rank = flat_map (rules_of F) (entered ledger rank)

-- rank 0 enters each rule once at most, with the values of its inputs, and another rank enters none
pub record AreEntered (F : Forms) (config : Config) (ledger : List Entry) (flow : List Definition) : Type 0 where
  pub once : IsOnce (rules_entered F ledger home)
  pub values : (i : ℕ) (op : Op) (a b : ℕ) → F.fits (Rule i op a b) ≡ true →
      Contains (entered ledger home) (put_of (flows F) (Rule i op a b)) → IsGoodRule flow i op a b
  pub others : (rank : Rank) → rank.0 < config.ranks → rank.0 ≢ 0 → rules_entered F ledger rank ≡ []

-- each rule that has a value is entered by rank 0
abbrev pub AreAllEntered : Forms → List Entry → List Definition → Type 0
AreAllEntered F ledger flow =
    (i : ℕ) (name : Name) (op : Op) (left right : Name) (v : ℕ) → IsRule flow i name op left right → HasValue flow name v →
    Contains (rules_entered F ledger home) i
