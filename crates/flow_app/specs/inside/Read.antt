-- What was read of an input.
use Rattle.std.specs.Prelude.{◌≡◌, ◌≤◌, ◌++◌, None, length}
use Rattle.flow_law.specs.Flows.{AreDistinct, Name}
use Rattle.flow_app.specs.declared.reading.Reading.{Reading}
use Rattle.flow_app.specs.Kinds.{Kind}
use Rattle.flow_app.specs.Reading.{defined, definition_limit, fault_of}
use Rattle.flow_app.specs.Linked.{noted_number, number_of}

-- the definitions are of distinct names, and the number of each name is noted
pub record IsRead (r : Reading) : Type 0 where
  pub distinct : AreDistinct r.definitions.items
  pub few : length r.definitions.items ≤ definition_limit
  pub numbers : (name : Name) → noted_number r.numbers name ≡ number_of r.definitions.items name

-- what was read, and one line of this kind more
pub record Extends (old : Reading) (kind : Kind) (new : Reading) : Type 0 where
  pub read : IsRead new
  pub fine : fault_of old.definitions.items kind ≡ None
  pub more : new.definitions.items ≡ old.definitions.items ++ defined kind
