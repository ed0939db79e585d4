-- What a server says and enters where a check goes on, or ends.
use Rattle.std.specs.Prelude.{ℕ, Bool, List, [], ◌∷◌, ◌++◌, if◌then◌else◌}
use Rattle.adlb_unit.specs.declared.messages.Message.{Message}
use Rattle.adlb_unit.specs.declared.messages.Message.TheVariants as tells
use Rattle.adlb_unit.specs.declared.notes.End.TheVariants as ends_by
use Rattle.bag_ledger.specs.declared.entries.Entry.{Entry}
use Rattle.bag_ledger.specs.declared.entries.Entry.TheVariants as enters
use Rattle.exhaust_ring.specs.Ring.{RingModel}
use Rattle.exhaust_ring.specs.declared.steps.RingStep.{RingStep}
use Rattle.exhaust_ring.specs.declared.steps.RingStep.TheVariants.{Pass, Fail, Exhausted, Shutdown, Ended}
use Rattle.server_components.specs.declared.waits.Waiting.{Waiting}
use Rattle.server_core.specs.Out.{Out, going_on}
use Rattle.server_law.specs.Acts.{Act, ServerSaying, onward, to_others, to_server, zeroth}
use Rattle.server_law.specs.Carried.{Served, all_counted, stamped}
use Rattle.server_law.specs.Endings.{tells_all}
use Rattle.server_law.specs.State.{ServerModel}

-- the server with this ring
abbrev pub with_check : ServerModel → RingModel → ServerModel
with_check s n = record s { kept = record s.kept { ring = n.ring; exhausted = n.exhausted; shut = n.shut } }

-- these sayings, after what was sent and entered before
abbrev pub out_after : Out → List ServerSaying → List Entry → ServerModel → Out
out_after out list entries s =
    record { sends = out.sends ++ stamped s list; entries = out.entries ++ entries; room = out.room }

-- the sayings are sent
abbrev pub said : Out → List ServerSaying → ServerModel → Served
said out list s = record { state = all_counted s list; sends = out.sends ++ stamped s list; entries = out.entries }

-- the verdict, as the other servers are told it
abbrev pub verdict : Bool → Message
verdict shut = if shut then tells.Shutdown else tells.Exhaust

-- what other servers are told, what is entered, and how idle ranks are told
abbrev pub step_says : RingStep → ServerModel → List ServerSaying
step_says (Pass t) s = to_server (onward s) (tells.Token t) ∷ []
step_says (Fail t why) s = to_server zeroth (tells.Failed t why) ∷ []
step_says Exhausted s = to_others s tells.Exhaust
step_says Shutdown s = to_others s tells.Shutdown
step_says Ended s = []

-- a check that finds that all work is used up enters it
abbrev pub step_enters : RingStep → List Entry
step_enters Exhausted = enters.Exhausted ∷ []
step_enters _ = []

-- and tells all idle ranks
abbrev pub step_tells : RingStep → List Waiting → List Act
step_tells Exhausted waiting = tells_all ends_by.Exhausted [] waiting
step_tells _ waiting = []

-- all of that, in this order
abbrev pub stepped : RingStep → Out → ServerModel → Served
stepped step out s =
    let t = all_counted s (step_says step s) in
    going_on (out_after out (step_says step s) (step_enters step) s) (step_tells step s.kept.parked.waiting) t

-- at most this number of letters, and of entries, besides those to ranks
abbrev pub step_letters : RingStep → ServerModel → ℕ
step_letters Exhausted s = s.config.servers
step_letters Shutdown s = s.config.servers
step_letters _ s = 1
