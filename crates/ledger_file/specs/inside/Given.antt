-- The fields that the code holds, as fields of a line.
use Rattle.std.specs.Prelude.{ℕ, List, ◌∷◌, drop, map, take}
use Rattle.std.specs.List.{flat_map}
use Rattle.bag_ledger.specs.declared.entries.Entry.{Entry}
use Rattle.bag_ledger.specs.declared.entries.Entry.TheVariants as of
use Rattle.ledger_file.specs.Lines.{row}
use Rattle.ledger_file.specs.declared.fields.Field.{Field}
use Rattle.ledger_file.specs.declared.fields.Field.TheVariants as given
use Rattle.ledger_file.specs.Fields.{Field as Spelt, u32, u64, i32, id, aim, rank_or_none, prio_or_none, wanted, body, told, word}

-- a field of the code, as one of a line
abbrev pub field_of : Field → Spelt
field_of (given.Short n) = u32 n
field_of (given.Number n) = u64 n
field_of (given.Prio z) = i32 z
field_of (given.Id rank n) = id rank.0 n
field_of (given.Aim t) = aim t
field_of (given.Answer r) = rank_or_none r
field_of (given.Top z) = prio_or_none z
field_of (given.Types t) = wanted t.now
field_of (given.Bytes b) = body b.now
field_of (given.End e) = told e

-- fields of the code, as those of a line
abbrev pub fields_of : List Field → List Spelt
fields_of fs = map field_of fs

-- fields, each after a blank
abbrev pub spaced : List Spelt → List ℕ
spaced fs = flat_map (λ f. 32 ∷ word f) fs

-- how many fields of an entry name a server, a rank or another server, and a call; these, and those after them
abbrev pub heads : Entry → ℕ
heads (of.Granted server rank call unit) = 3
heads (of.Looked server rank call) = 3
heads (of.Counted server rank call info) = 3
heads (of.Refused server unit used) = 1
heads (of.Accepted server unit) = 1
heads (of.Kept server batch) = 1
heads (of.Closed server batch) = 1
heads (of.Freed server batch) = 1
heads (of.Promised server unit length) = 1
heads (of.Arrived server unit) = 1
heads (of.Withdrawn server unit) = 1
heads of.Exhausted = 0
heads _ = 2

-- the first fields of an entry, which say whom it is about
abbrev pub who : Entry → List Spelt
who e = take (heads e) (row e).1

-- the other fields of an entry
abbrev pub what : Entry → List Spelt
what e = drop (heads e) (row e).1
