-- What a put comes to.
use Rattle.std.specs.Prelude.{◌≡◌, ◌≤◌, ◌+◌, length}
use Rattle.adlb_unit.specs.declared.units.Unit.{Unit}
use Rattle.work_queue.specs.Queue.{Queue, Overfills, charge_of, with_unit}
use Rattle.server_components.specs.declared.putting.PutStep.{PutStep}
use Rattle.server_components.specs.declared.putting.PutStep.TheVariants.{Accepted, Full}

-- the unit is in the queue, which had room; or it would go beyond the limit, the charge is told and nothing changed
abbrev pub IsPut : Queue → Unit → PutStep → Queue → Type 0
IsPut old unit Accepted new = (charge_of old + length unit.body ≤ old.limit) × (new ≡ with_unit old unit)
IsPut old unit (Full charge) new = Overfills old unit × (charge ≡ charge_of old) × (new ≡ old)
