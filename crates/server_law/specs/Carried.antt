-- Acts carried out one after the other, with the stamps and places of what they send.
use Rattle.std.specs.Prelude.{ℕ, ◌+◌, List, [], ◌∷◌, ◌++◌, slice_index_or, slice_set}
use Rattle.adlb_unit.specs.Links.{place_of, sending}
use Rattle.adlb_unit.specs.declared.actors.Actor.{Actor}
use Rattle.adlb_unit.specs.declared.letters.Sending.{Sending}
use Rattle.bag_ledger.specs.declared.entries.Entry.{Entry}
use Rattle.server_law.specs.Acts.{Act, ServerSaying, does, entries, says}
use Rattle.server_law.specs.State.{ServerModel}

-- what acts make of the server, the letters that it sends, and its entries
pub record Served : Type 0 where
  pub state : ServerModel
  pub sends : List Sending
  pub entries : List Entry

-- Letters.

-- the number of letters that went to the actor
abbrev pub sent_to : ServerModel → Actor → ℕ
sent_to s to = slice_index_or s.sent (place_of s.config to) 0

-- the server with one letter more sent to the actor
abbrev pub counted : ServerModel → Actor → ServerModel
counted s to = record s { sent = slice_set s.sent (place_of s.config to) (sent_to s to + 1) }

-- the saying as it is sent
abbrev pub posted : ServerModel → ServerSaying → Sending
posted s x = sending s.clock (sent_to s x.to) x.to x.message

-- the letters of these sayings in order, and the server that has counted them
abbrev pub stamped : ServerModel → List ServerSaying → List Sending
stamped s [] = []
stamped s (y ∷ ys) = posted s y ∷ stamped (counted s y.to) ys

-- the server with these letters more sent
abbrev pub all_counted : ServerModel → List ServerSaying → ServerModel
all_counted s [] = s
all_counted s (y ∷ ys) = all_counted (counted s y.to) ys

-- Acts.

-- the server after one act, which has counted what the act sends
abbrev pub done : Act → ServerModel → ServerModel
done a s = all_counted (does a s) (says a s)

-- the letters of an act
abbrev pub sends : Act → ServerModel → List Sending
sends a s = stamped (does a s) (says a s)

-- what was served, after these letters and entries
abbrev pub joined : List Sending → List Entry → Served → Served
joined sends entries x = record x { sends = sends ++ x.sends; entries = entries ++ x.entries }

-- acts in order
abbrev pub carried : List Act → ServerModel → Served
carried [] s = record { state = s; sends = []; entries = [] }
carried (a ∷ more) s = joined (sends a s) (entries a s) (carried more (done a s))

-- the server after these acts
abbrev pub all_done : List Act → ServerModel → ServerModel
all_done [] s = s
all_done (a ∷ more) s = all_done more (done a s)
