-- One step of a rank: the rule of its call or letter, and the stamps and places of what it sends.
use Rattle.std.specs.Prelude.{ℕ, ◌+◌, nat_lt, nat_le, ◌&&◌, not, List, [], ◌∷◌, ◌++◌, slice_index_or, slice_set, Option, None, Some}
use Rattle.std.specs.Prelude.{if◌then◌else◌}
use Rattle.std.specs.Option.{option_map}
use Rattle.adlb_unit.specs.Limits.{stamp_limit}
use Rattle.adlb_unit.specs.Links.{sending, stamp_after}
use Rattle.adlb_unit.specs.declared.actors.Actor.TheVariants as by
use Rattle.adlb_unit.specs.declared.letters.Letter.{Letter}
use Rattle.adlb_unit.specs.declared.letters.Sending.{Sending}
use Rattle.adlb_unit.specs.declared.messages.Message.{Message}
use Rattle.adlb_unit.specs.declared.messages.Message.TheVariants as tells
use Rattle.adlb_unit.specs.declared.names.Server.{Server}
use Rattle.adlb_unit.specs.declared.notes.Trouble.{Trouble}
use Rattle.adlb_unit.specs.declared.notes.Trouble.TheVariants as troubles
use Rattle.bag_ledger.specs.declared.entries.Answer.{Answer}
use Rattle.bag_ledger.specs.declared.entries.Call.{Call}
use Rattle.bag_ledger.specs.declared.entries.Entry.{Entry}
use Rattle.rank_client.specs.Rules.{ClientResponse, ClientSaying, answer_call, is_free, open_call}
use Rattle.rank_client.specs.State.{ClientModel}

-- what a step makes of the client, the letters that it sends, its entries, and the answer if the call ends
pub record Made : Type 0 where
  pub state : ClientModel
  pub sends : List Sending
  pub entries : List Entry
  pub answer : Option Answer

-- Stamps and places.

-- one more than the last stamp; of a letter, one more than the greater of the last stamp and the letter's
abbrev pub call_stamp : ClientModel → ℕ
call_stamp s = s.clock + 1

-- the stamp of an event that hears the letter
abbrev pub letter_stamp : ClientModel → Letter → ℕ
letter_stamp s letter = stamp_after s.clock letter

-- the client at this stamp
abbrev pub ticked : ClientModel → ℕ → ClientModel
ticked s stamp = record s { clock = stamp }

-- the number of letters that went to the server
abbrev pub sent_to : ClientModel → Server → ℕ
sent_to s to = slice_index_or s.sent to.0 0

-- the client with one letter more sent to the server
abbrev pub counted : ClientModel → Server → ClientModel
counted s to = record s { sent = slice_set s.sent to.0 (sent_to s to + 1) }

-- the letter as it is sent
abbrev pub posted : ClientModel → ClientSaying → Sending
posted s x = sending s.clock (sent_to s x.to) (by.Server x.to) x.message

-- letters sent one after the other
abbrev pub post : Made → List ClientSaying → Made
post x [] = x
post x (y ∷ says) = post (record x { state = counted x.state y.to; sends = x.sends ++ posted x.state y ∷ [] }) says

-- what a rule makes, with its letters sent
abbrev pub made : ClientResponse → Made
made x = post (record { state = x.state; sends = []; entries = x.entries; answer = x.answer }) x.says

-- The step.

-- the rank begins a call; nothing where it is not ready
abbrev pub begin : ClientModel → Call → Option Made
begin s call = if is_free s then option_map made (open_call (ticked s (call_stamp s)) call) else None

-- the rank hears a letter. Nothing where the letter is not expected: by a rank that has not finished, with a stamp that was given,
-- as the pending call awaits it
abbrev pub hear : ClientModel → Server → Letter → Option Made
hear s from letter =
    if not s.finished && nat_lt letter.stamp stamp_limit
    then option_map made (answer_call (ticked s (letter_stamp s letter)) s.pending from letter.message)
    else None

-- What makes a client fail.

-- a stamp past the last one that is given
abbrev pub late : ℕ → Option Trouble
late stamp = if nat_le stamp_limit stamp then Some (troubles.TooLong stamp) else None

-- a server that has failed says so
abbrev pub told_trouble : Message → Option Trouble
told_trouble (tells.Broken trouble) = Some trouble
told_trouble _ = None

-- the first of these
abbrev pub first_trouble : Option Trouble → Option Trouble → Option Trouble
first_trouble (Some trouble) later = Some trouble
first_trouble None later = later

-- the trouble with which a call or a letter is answered: that of a client which has failed, or that of the step
abbrev pub call_trouble : ClientModel → Option Trouble
call_trouble s = first_trouble s.trouble (late (call_stamp s))

-- why the letter makes the client fail, if it does
abbrev pub letter_trouble : ClientModel → Letter → Option Trouble
letter_trouble s letter = first_trouble s.trouble (first_trouble (told_trouble letter.message) (late (letter_stamp s letter)))
