-- The test of a quiet server.
use Rattle.std.specs.Prelude.{◌↔◌, IsTrue}
use Rattle.server_law.specs.Endings.{is_quiet}
use Rattle.server_law.specs.Expected.{IsQuiet}
use Rattle.server_law.specs.State.{ServerModel}

-- the law: the test that follows each event says that the server is quiet
abbrev pub QuietIsTested : Type 0
QuietIsTested = (s : ServerModel) → IsTrue (is_quiet s) ↔ IsQuiet s
