-- The rules of the letters by which several servers find that all work is used up, or that no rank waits or runs any more.
use Rattle.std.specs.Prelude.{◌==◌, Bool, true, false, List, [], ◌∷◌, Option, None, Some, if◌then◌else◌}
use Rattle.adlb_unit.specs.declared.messages.Why.{Why}
use Rattle.adlb_unit.specs.declared.messages.Why.TheVariants.{Busy}
use Rattle.adlb_unit.specs.declared.names.Server.{Server}
use Rattle.adlb_unit.specs.declared.notes.End.TheVariants as ends_by
use Rattle.adlb_unit.specs.declared.tokens.Token.{Token}
use Rattle.exhaust_ring.specs.Expected.{expects, is_running}
use Rattle.exhaust_ring.specs.Ring.{Asker}
use Rattle.exhaust_ring.specs.Tests.{first_failing}
use Rattle.server_law.specs.Acts.{Act, Fails, Finds, Gives_up, Hears_exhaust, Hears_failed, Hears_shutdown, Marks, Passes, Shuts, Wants}
use Rattle.server_law.specs.Acts.{fit_among}
use Rattle.server_law.specs.Endings.{is_quiet, tells_idle}
use Rattle.server_law.specs.Plan.{Plan, plan}
use Rattle.server_law.specs.State.{ServerModel, ring_at}

-- Server 0 is told that a check is wanted.
abbrev pub notice_rule : ServerModel → Server → Option Plan
notice_rule s from = if s.me.0 == 0 then plan (Wants from) [] else None

-- The token comes.

-- in the first wave, at another server than server 0: where it is quiet
abbrev pub marks : Bool → Server → Token → Act
marks true from t = Marks from t
marks false from t = Fails from t Busy

-- the tests, at server 0 after the first wave, and at the others in the second: where all pass; where one fails at server 0; elsewhere
abbrev pub tests : Bool → Option Why → Server → Token → Act
tests at_zeroth None from t = Passes from t
tests true (Some why) from t = Gives_up from t
tests false (Some why) from t = Fails from t why

-- the tests of the second wave, by the server as it is
abbrev pub tests_now : ServerModel → Server → Token → Act
tests_now s from t = tests (s.me.0 == 0) (first_failing (is_quiet s) s.kept.ring.mark s.activity (fit_among s.kept t.asked)) from t

-- the verdict, at server 0 after the second wave: nobody is on the list; somebody is, and all work was found used up before; or was not
abbrev pub verdict : Bool → List Asker → Server → Token → Option Plan
verdict exhausted [] from t = plan (Shuts from t) []
verdict true (first ∷ more) from t = plan (Gives_up from t) []
verdict false (first ∷ more) from t = plan (Finds from t) (tells_idle ends_by.Exhausted ∷ [])

-- by the wave
abbrev pub visit_zeroth : ServerModel → Server → Token → Option Plan
visit_zeroth s from t = if t.wave == 1 then plan (tests_now s from t) [] else verdict s.kept.exhausted t.asked from t

-- a token at a server other than 0
abbrev pub visit_other : ServerModel → Server → Token → Option Plan
visit_other s from t = if t.wave == 1 then plan (marks (is_quiet s) from t) [] else plan (tests_now s from t) []

-- a token at a server
abbrev pub visit : ServerModel → Server → Token → Option Plan
visit s from t = if s.me.0 == 0 then visit_zeroth s from t else visit_other s from t

-- Token: a visit, if the token is expected
abbrev pub token_rule : ServerModel → Server → Token → Option Plan
token_rule s from t = if expects (ring_at s) from t then visit s from t else None

-- Server 0 is told that a test failed in the check that runs.
abbrev pub failed_rule : ServerModel → Server → Token → Why → Option Plan
failed_rule s from t why = if is_running (ring_at s) t then plan (Hears_failed from t why) [] else None

-- Server 0 tells its verdict.
abbrev pub exhaust_rule : ServerModel → Server → Option Plan
exhaust_rule s from = if from.0 == 0 then plan (Hears_exhaust from) (tells_idle ends_by.Exhausted ∷ []) else None

-- Shutdown: the servers end
abbrev pub shutdown_rule : ServerModel → Server → Option Plan
shutdown_rule s from = if from.0 == 0 then plan (Hears_shutdown from) [] else None
