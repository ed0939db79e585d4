-- Notices may pile up at server 0: of them there are no more than the calls that were begun pay for.
use Rattle.adlb_unit.specs.declared.actors.Actor.{Actor}
use Rattle.adlb_unit.specs.declared.configs.Config.{Config}
use Rattle.adlb_unit.specs.declared.messages.Message.{Message}
use Rattle.adlb_unit.specs.declared.names.Server.{Server}
use Rattle.core_wish_law.proofs.Bound.{credit_left}
use Rattle.core_wish_law.specs.Bounds.{begun}
use Rattle.core_wish_law.specs.Credits.{letter_credit, letters_credit}
use Rattle.core_law.proofs.Sums.{links_le}
use Rattle.core_law.specs.Letters.{one}
use Rattle.core_law.specs.Pushed.{letters_of}
use Rattle.core_progress_law.proofs.Totals.{Weighing, both_weigh, links_both}
use Rattle.core_progress_law.specs.Room.{is_notice, kind_letter, notices_to}
use Rattle.core_run.specs.Runs.{Runs}
use Rattle.core_run.specs.World.{World, start}
use Rattle.core_run.specs.declared.events.Event.{Event}
use Rattle.std.proofs.Common.{Bool, List, arith, false, true, ℕ, ◌*◌, ◌+◌, ◌==◌, ◌≤◌}
use Rattle.adlb_unit.specs.declared.actors.Actor.TheVariants as by
use Rattle.adlb_unit.specs.declared.messages.Message.TheVariants as tells

-- 24 times as much
abbrev twice : Weighing → Weighing
twice f = both_weigh f f

abbrev times_24 : Weighing → Weighing
times_24 f = both_weigh (twice (twice (twice (twice f)))) (twice (twice (twice f)))

one_most : (t : Bool) → one t ≤ 1
one_most true = omega arith
one_most false = omega arith

-- a notice has the credit of its event and of the check that it wants
paid_for : (t : Server) (from to : Actor) (m : Message) → times_24 (kind_letter is_notice t) from to m ≤ letter_credit from m
paid_for t from (by.Rank to) m = omega arith
paid_for t from (by.Server to) m = by_message m
  where
    by_message : (m : Message) → times_24 (kind_letter is_notice t) from (by.Server to) m ≤ letter_credit from m
    by_message tells.Notice = let most = one_most (to.0 == t.0) in omega arith
    by_message _ = omega arith

-- so there are few for the calls
pub few_notices : (config : Config) (n : ℕ) (events : List Event) (w : World) (t : Server) → Runs (start config) events w → begun events ≤ n
    → notices_to w t ≤ 256 * (n + 1)
few_notices config n events w t run few =
    let f = kind_letter is_notice t in
    let a = links_both w.config f f w.links in
    let b = links_both w.config (twice f) (twice f) w.links in
    let c = links_both w.config (twice (twice f)) (twice (twice f)) w.links in
    let d = links_both w.config (twice (twice (twice f))) (twice (twice (twice f))) w.links in
    let e = links_both w.config (twice (twice (twice (twice f)))) (twice (twice (twice f))) w.links in
    let less = links_le w.config (letters_of (times_24 f)) letters_credit w.links (paid_for t) in
    let left = credit_left config events w run in
    omega (arith, few)
