-- Two sums that are equal stay equal, where each step of a rank keeps them so.
use Rattle.std.proofs.Common.{◌≡◌, ◌<◌, ℕ, ◌+◌, arith}
use Rattle.adlb_unit.specs.declared.actors.Actor.TheVariants as by
use Rattle.adlb_unit.specs.declared.configs.Config.{Config}
use Rattle.adlb_unit.specs.declared.messages.Message.{Message}
use Rattle.adlb_unit.specs.declared.names.Rank.{Rank}
use Rattle.adlb_unit.specs.declared.names.Server.{Server}
use Rattle.rank_client.specs.State.{ClientModel}
use Rattle.rank_client.specs.Step.{Made}
use Rattle.core_run.specs.World.{Links, World, after_rank, client_of}
use Rattle.core_law.specs.Measures.{IsBalanced, Weights, due, links_weight, measure, sends_weight}
use Rattle.core_law.specs.Well.{IsShaped}
use Rattle.core_law.proofs.RankShapes.{Began, Heard, Then}
use Rattle.core_law.proofs.Steps.{rank_owes, rank_weight}
use Rattle.core_law.proofs.Sums.{AreWithin}

-- what a step of a rank keeps, with what is sent, where so much is taken
abbrev pub RankKeeps : Weights → Rank → ClientModel → ℕ → Made → Type 0
RankKeeps m me s taken x =
    taken + m.rank me.0 s + m.rank_due me.0 x.state ≡ sends_weight m (by.Rank me) x.sends + m.rank me.0 x.state + m.rank_due me.0 s

-- each step of a rank keeps the two sides equal
pub record IsLaw (config : Config) (m : Weights) : Type 0 where
  pub heard : (me : Rank) (s : ClientModel) (from : Server) (message : Message) (x : Made) → Heard config me s message x → Then s x
      → RankKeeps m me s (m.letter (by.Server from) (by.Rank me) message) x
  pub begun : (me : Rank) (s : ClientModel) (x : Made) → Began config me s x → Then s x → RankKeeps m me s 0 x

-- a step of a rank that weighs as much after as before keeps a balance
pub rank_balance : (m : Weights) (w : World) (me : Rank) (links : Links) (x : Made) (taken : ℕ) → IsShaped (record w { links = links })
    → me.0 < w.config.ranks → AreWithin w.config x.sends → links_weight w.config m links + taken ≡ links_weight w.config m w.links
    → RankKeeps m me (client_of w me) taken x → IsBalanced m w → IsBalanced m (after_rank w me links x)
unfolding measure due
rank_balance m w me links x taken shape here within took keeps even =
    let v : World = record w { links = links } in
    let held = rank_weight m v me x shape here within in
    let owed = rank_owes m v me x shape here in
    let same = even.same in
    record { same = omega arith }
