-- How the words of an entry are read.
use Rattle.std.specs.Prelude.{ℕ, List, [], ◌∷◌, Option, Some, None, codes, if◌then◌else◌}
use Rattle.std.specs.Str.{bytes_eq}
use Rattle.bag_ledger.specs.declared.entries.Entry.{Entry}
use Rattle.bag_ledger.specs.declared.entries.Entry.TheVariants as of
use Rattle.ledger_file.specs.declared.names.Name.{Name}
use Rattle.ledger_file.specs.declared.names.Name.TheVariants as name
use Rattle.ledger_file.specs.inside.Names.{name_of}
use Rattle.adlb_unit.specs.declared.names.Rank.{Rank}
use Rattle.adlb_unit.specs.declared.names.Server.{Server}
use Rattle.adlb_unit.specs.declared.names.WorkType.{WorkType}
use Rattle.ledger_file.specs.inside.Reading.{onward, next, value, whole, with_call, with_server, with_unit, rank_of, server_of, kind_of}
use Rattle.ledger_file.specs.inside.Reading.{unit_of, batch_of, length_in, number_in, pair_in, prio_in, target_in, answer_in, top_in}
use Rattle.ledger_file.specs.inside.Reading.{types_in, bytes_in, end_in}

-- The entries of names with fields of the same kinds. They are a call; a call and the wanted types; a server and an id; a server, whom it
-- gives to, and an id.
abbrev pub call_entry : Name → Rank → ℕ → Entry
call_entry name.Rejected rank call = of.Rejected rank call
call_entry name.Closing rank call = of.Closing rank call
call_entry name.NoCurrent rank call = of.NoCurrent rank call
call_entry name.Done rank call = of.Done rank call
call_entry _ rank call = of.Finished rank call

-- an entry of a call and types
abbrev pub wish_entry : Name → Rank → ℕ → Option (List WorkType) → Entry
wish_entry name.Asked rank call types = of.Asked rank call types
wish_entry _ rank call types = of.Tried rank call types

-- an entry of a server and an id
abbrev pub id_entry : Name → Server → ℕ × ℕ → Entry
id_entry name.Accepted server x = of.Accepted server (unit_of x)
id_entry name.Kept server x = of.Kept server (batch_of x)
id_entry name.Closed server x = of.Closed server (batch_of x)
id_entry name.Freed server x = of.Freed server (batch_of x)
id_entry name.Arrived server x = of.Arrived server (unit_of x)
id_entry _ server x = of.Withdrawn server (unit_of x)

-- an entry of a server, whom it gives to, and an id
abbrev pub way_entry : Name → Server → ℕ → ℕ × ℕ → Entry
way_entry name.Fetched server to x = of.Fetched server (rank_of to) (unit_of x)
way_entry name.CommonFetched server to x = of.CommonFetched server (rank_of to) (batch_of x)
way_entry _ server to x = of.Left server (server_of to) (unit_of x)

-- the entry of this name with these fields, if they are its fields
abbrev pub read_row : Name → List (List ℕ) → Option (Entry × List (List ℕ))
read_row name.Putting =
    with_call (λ rank call. next length_in (λ kind. next prio_in (λ prio.
    next target_in (λ target. next answer_in (λ answer. next bytes_in (λ bytes.
    value (of.Putting rank call (kind_of kind) prio target answer bytes)))))))
read_row name.Refused = with_server (λ server. with_unit (λ unit. next number_in (λ used. value (of.Refused server unit used))))
read_row name.Accepted = with_server (λ server. next pair_in (λ x. value (of.Accepted server (unit_of x))))
read_row name.Rejected = with_call (λ rank call. value (of.Rejected rank call))
read_row name.Keeping = with_call (λ rank call. next bytes_in (λ common. value (of.Keeping rank call common)))
read_row name.Kept = with_server (λ server. next pair_in (λ x. value (of.Kept server (batch_of x))))
read_row name.Closing = with_call (λ rank call. value (of.Closing rank call))
read_row name.Closed = with_server (λ server. next pair_in (λ x. value (of.Closed server (batch_of x))))
read_row name.Freed = with_server (λ server. next pair_in (λ x. value (of.Freed server (batch_of x))))
read_row name.Asked = with_call (λ rank call. next types_in (λ types. value (of.Asked rank call types)))
read_row name.Tried = with_call (λ rank call. next types_in (λ types. value (of.Tried rank call types)))
read_row name.Granted =
    with_server (λ server. with_call (λ rank call. with_unit (λ unit. value (of.Granted server rank call unit))))
read_row name.Looked = with_server (λ server. with_call (λ rank call. value (of.Looked server rank call)))
read_row name.NoCurrent = with_call (λ rank call. value (of.NoCurrent rank call))
read_row name.Fetching = with_call (λ rank call. with_unit (λ unit. value (of.Fetching rank call unit)))
read_row name.Fetched =
    with_server (λ server. next length_in (λ rank. next pair_in (λ x. value (of.Fetched server (rank_of rank) (unit_of x)))))
read_row name.CommonFetched =
    with_server (λ server. next length_in (λ rank. next pair_in (λ x. value (of.CommonFetched server (rank_of rank) (batch_of x)))))
read_row name.Promised = with_server (λ server. with_unit (λ unit. next length_in (λ length. value (of.Promised server unit length))))
read_row name.Left =
    with_server (λ server. next length_in (λ to. next pair_in (λ x. value (of.Left server (server_of to) (unit_of x)))))
read_row name.Arrived = with_server (λ server. next pair_in (λ x. value (of.Arrived server (unit_of x))))
read_row name.Withdrawn = with_server (λ server. next pair_in (λ x. value (of.Withdrawn server (unit_of x))))
read_row name.Counting = with_call (λ rank call. next length_in (λ kind. value (of.Counting rank call (kind_of kind))))
read_row name.Counted =
    with_server (λ server. with_call (λ rank call. next number_in (λ free.
    next top_in (λ top. next number_in (λ at_top.
    value (of.Counted server rank call (record { free = free; top = top; at_top = at_top })))))))
read_row name.Done = with_call (λ rank call. value (of.Done rank call))
read_row name.Exhausted = value of.Exhausted
read_row name.Over = with_call (λ rank call. next end_in (λ ending. value (of.Over rank call ending)))
read_row name.Finished = with_call (λ rank call. value (of.Finished rank call))

-- the entry of these words
abbrev pub named : List (List ℕ) → Option Name → Option Entry
named fields None = None
named fields (Some n) = onward whole (read_row n fields)

-- the entry of the words of a line
unfoldable pub read_entry : List (List ℕ) → Option Entry
read_entry [] = None
read_entry (w ∷ fields) = named fields (name_of w)

-- the numbers of a first line
abbrev pub read_numbers : List (List ℕ) → Option ((ℕ × ℕ × ℕ) × List (List ℕ))
read_numbers = next length_in (λ ranks. next length_in (λ servers. next number_in (λ limit. value (ranks, servers, limit))))

-- the sizes of the first line
unfoldable pub read_sizes : List (List ℕ) → Option (ℕ × ℕ × ℕ)
read_sizes [] = None
read_sizes (w ∷ ws) = if bytes_eq w (codes "ledger") then onward whole (read_numbers ws) else None
