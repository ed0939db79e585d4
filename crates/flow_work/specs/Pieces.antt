-- What code puts and reads, as units and calls.
use Rattle.std.specs.Prelude.{Option, Some, None}
use Rattle.bag_ledger.specs.declared.entries.Call.{Call}
use Rattle.bag_ledger.specs.declared.entries.Call.TheVariants.{Put}
use Rattle.flow_run_law.specs.Units.{Answer, FlowUnit, Rule}
use Rattle.flow_work.specs.declared.pieces.Piece.{Piece}
use Rattle.flow_work.specs.declared.pieces.Piece.TheVariants as pieces
use Rattle.flow_work.specs.declared.pieces.Putting.{Putting}

-- a unit of the code, as a unit of the flow
abbrev pub piece : Piece → FlowUnit
piece (pieces.Rule r) = Rule r.number r.op r.left r.right
piece (pieces.Answer a) = Answer a.number a.value

-- what was read, as a unit of the flow
abbrev pub piece_read : Option Piece → Option FlowUnit
piece_read None = None
piece_read (Some p) = Some (piece p)

-- the put with these five
abbrev pub call_of : Putting → Call
call_of p = Put p.kind p.prio p.target p.answer p.body
