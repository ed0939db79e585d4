-- What the visits of a token make of a server's ring, and what the server answers.
use Rattle.std.specs.Prelude.{ℕ, ◌==◌, Bool, true, false, List, [], ◌∷◌, ◌++◌, Option, None, Some, if◌then◌else◌}
use Rattle.adlb_unit.specs.declared.messages.Why.{Why}
use Rattle.adlb_unit.specs.declared.messages.Why.TheVariants.{Busy}
use Rattle.adlb_unit.specs.declared.names.UnitId.{UnitId}
use Rattle.adlb_unit.specs.declared.tokens.Token.{Token}
use Rattle.exhaust_ring.specs.Ring.{Asker, RingModel, begun, ended, token, with_exhausted, with_mark, with_ring, with_shut, with_tests}
use Rattle.exhaust_ring.specs.Tests.{first_failing}
use Rattle.exhaust_ring.specs.declared.steps.RingStep.{RingStep}
use Rattle.exhaust_ring.specs.declared.steps.RingStep.TheVariants.{Pass, Fail, Exhausted, Shutdown, Ended}

-- what a visit makes of the ring, and what is said
pub record Outcome : Type 0 where
  pub ring : RingModel
  pub step : RingStep

-- a ring with what is said
abbrev pub outcome : RingModel → RingStep → Outcome
outcome ring step = record { ring = ring; step = step }

-- Wave 1, at another server than server 0: a quiet server takes its mark, and its ranks that wait come last on the list.
abbrev pub visited1 : RingModel → Token → Bool → ℕ → List Asker → Outcome
visited1 m t quiet activity parked =
    if quiet then outcome (with_ring m (with_mark m.ring t.check activity)) (Pass (token t.check t.wave (t.asked ++ parked)))
    else outcome m (Fail t Busy)

-- The tests, in wave 1 at server 0 and in wave 2 at the others: if all pass, the token goes on in wave 2. Otherwise the check ends at
-- server 0, and another server tells server 0 of the first test that fails.
abbrev pub judged : RingModel → Token → Option Why → Outcome
judged m t None = outcome (with_ring m (with_tests m.ring)) (Pass (token t.check 2 t.asked))
judged m t (Some why) =
    if m.me.0 == 0 then outcome (with_ring m (ended m.ring)) Ended
    else outcome (with_ring m (with_tests m.ring)) (Fail t why)

-- a visit in wave 2
abbrev pub visited2 : RingModel → Token → Bool → ℕ → Option UnitId → Outcome
visited2 m t quiet activity fits = judged m t (first_failing quiet m.ring.mark activity fits)

-- The verdict, at server 0 after both waves: with nobody on the list the run has ended. Otherwise all work is used up, which is found
-- once.
abbrev pub found_of : RingModel → List Asker → Outcome
found_of m [] = outcome (with_shut m) Shutdown
found_of m (first ∷ more) = if m.exhausted then outcome (with_ring m (ended m.ring)) Ended else outcome (with_exhausted m) Exhausted

-- a visit of the token for the verdict
abbrev pub verdict_of : RingModel → Token → Outcome
verdict_of m t = found_of m t.asked

-- A check begins, with the ranks that wait at server 0. The token goes round; if there is one server alone, the tests and the verdict
-- follow at once.
abbrev pub first_token : RingModel → List Asker → Token
first_token m parked = token m.ring.check 1 parked

-- a check of a server that is alone goes on to the verdict at once
abbrev pub then_verdict : RingModel → RingStep → Outcome
then_verdict m (Pass t) = verdict_of m t
then_verdict m step = outcome m step

-- the verdict of a server that is alone
abbrev pub judged_alone : Outcome → Outcome
judged_alone o = then_verdict o.ring o.step

-- a check that starts: with one server it is judged at once
abbrev pub started : RingModel → ℕ → List Asker → Option UnitId → Outcome
started m activity parked fits =
    let after = with_ring m (begun m.ring activity) in
    if m.config.servers == 1 then judged_alone (visited2 after (first_token after parked) true activity fits)
    else outcome after (Pass (first_token after parked))

-- it says what was found
abbrev pub is_verdict : RingStep → Bool
is_verdict Exhausted = true
is_verdict Shutdown = true
is_verdict _ = false
