-- The put with these five.
use Rattle.bag_ledger.specs.declared.entries.Call.{Call}
use Rattle.bag_ledger.specs.declared.entries.Call.TheVariants.{Put}
use Rattle.tour_app.specs.declared.units.Putting.{Putting}

-- the put as a call
abbrev pub call_of : Putting → Call
call_of p = Put p.kind p.prio p.target p.answer p.body
