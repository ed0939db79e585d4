-- The text of a configuration and a ledger, line by line.
use Rattle.std.specs.Prelude.{◌≡◌, ◌≢◌, ℕ, ◌+◌, List, [], ◌∷◌, ◌++◌, length, map, codes}
use Rattle.std.specs.List.{AllByRecursion, flat_map, join_with_byte}
use Rattle.adlb_unit.specs.declared.configs.Config.{Config}
use Rattle.bag_ledger.specs.declared.entries.Entry.{Entry}
use Rattle.bag_ledger.specs.declared.entries.Entry.TheVariants as of
use Rattle.ledger_file.specs.Fields.{Field, u32, u64, i32, id, aim, rank_or_none, prio_or_none, wanted, body, told, word, IsWithin}

-- the name of an entry and its fields, in their order
abbrev pub row : Entry → List ℕ × List Field
row (of.Putting rank call kind prio target answer bytes) =
    (codes "putting", u32 rank.0 ∷ u64 call ∷ u32 kind.0 ∷ i32 prio ∷ aim target ∷ rank_or_none answer ∷ body bytes ∷ [])
row (of.Refused server unit used) = (codes "refused", u32 server.0 ∷ id unit.rank.0 unit.number ∷ u64 used ∷ [])
row (of.Accepted server unit) = (codes "accepted", u32 server.0 ∷ id unit.rank.0 unit.number ∷ [])
row (of.Rejected rank call) = (codes "rejected", u32 rank.0 ∷ u64 call ∷ [])
row (of.Keeping rank call common) = (codes "keeping", u32 rank.0 ∷ u64 call ∷ body common ∷ [])
row (of.Kept server batch) = (codes "kept", u32 server.0 ∷ id batch.rank.0 batch.number ∷ [])
row (of.Closing rank call) = (codes "closing", u32 rank.0 ∷ u64 call ∷ [])
row (of.Closed server batch) = (codes "closed", u32 server.0 ∷ id batch.rank.0 batch.number ∷ [])
row (of.Freed server batch) = (codes "freed", u32 server.0 ∷ id batch.rank.0 batch.number ∷ [])
row (of.Asked rank call types) = (codes "asked", u32 rank.0 ∷ u64 call ∷ wanted types ∷ [])
row (of.Tried rank call types) = (codes "tried", u32 rank.0 ∷ u64 call ∷ wanted types ∷ [])
row (of.Granted server rank call unit) = (codes "granted", u32 server.0 ∷ u32 rank.0 ∷ u64 call ∷ id unit.rank.0 unit.number ∷ [])
row (of.Looked server rank call) = (codes "looked", u32 server.0 ∷ u32 rank.0 ∷ u64 call ∷ [])
row (of.NoCurrent rank call) = (codes "nocurrent", u32 rank.0 ∷ u64 call ∷ [])
row (of.Fetching rank call unit) = (codes "fetching", u32 rank.0 ∷ u64 call ∷ id unit.rank.0 unit.number ∷ [])
row (of.Fetched server rank unit) = (codes "fetched", u32 server.0 ∷ u32 rank.0 ∷ id unit.rank.0 unit.number ∷ [])
row (of.CommonFetched server rank batch) = (codes "commonfetched", u32 server.0 ∷ u32 rank.0 ∷ id batch.rank.0 batch.number ∷ [])
row (of.Promised server unit length) = (codes "promised", u32 server.0 ∷ id unit.rank.0 unit.number ∷ u32 length ∷ [])
row (of.Left server to unit) = (codes "left", u32 server.0 ∷ u32 to.0 ∷ id unit.rank.0 unit.number ∷ [])
row (of.Arrived server unit) = (codes "arrived", u32 server.0 ∷ id unit.rank.0 unit.number ∷ [])
row (of.Withdrawn server unit) = (codes "withdrawn", u32 server.0 ∷ id unit.rank.0 unit.number ∷ [])
row (of.Counting rank call kind) = (codes "counting", u32 rank.0 ∷ u64 call ∷ u32 kind.0 ∷ [])
row (of.Counted server rank call info) =
    (codes "counted", u32 server.0 ∷ u32 rank.0 ∷ u64 call ∷ u64 info.free ∷ prio_or_none info.top ∷ u64 info.at_top ∷ [])
row (of.Done rank call) = (codes "done", u32 rank.0 ∷ u64 call ∷ [])
row of.Exhausted = (codes "exhausted", [])
row (of.Over rank call ending) = (codes "over", u32 rank.0 ∷ u64 call ∷ told ending ∷ [])
row (of.Finished rank call) = (codes "finished", u32 rank.0 ∷ u64 call ∷ [])

-- the words of a name and fields; words with a blank between them, and a line feed
abbrev pub words : List ℕ × List Field → List (List ℕ)
words x = x.0 ∷ map word x.1

-- a line of a name and its fields
abbrev pub line : List ℕ × List Field → List ℕ
line x = join_with_byte 32 (words x) ++ 10 ∷ []

-- the first line, the line of an entry, and the last line after n entries
abbrev pub first_row : Config → List ℕ × List Field
first_row config = (codes "ledger", u32 config.ranks ∷ u32 config.servers ∷ u64 config.limit ∷ [])

-- the last line, with the number of entries
abbrev pub last_row : ℕ → List ℕ × List Field
last_row n = (codes "end", u64 n ∷ [])

-- the lines of entries, and before them the first line
abbrev pub lines : List Entry → List ℕ
lines entries = flat_map (λ e. line (row e)) entries

-- the first line, and those of the entries
abbrev pub open_text : Config → List Entry → List ℕ
open_text config entries = line (first_row config) ++ lines entries

-- the whole text
abbrev pub text : Config → List Entry → List ℕ
text config entries = open_text config entries ++ line (last_row (length entries))

-- the numbers of the entries lie in the ranges of their types
abbrev pub IsEntry : Entry → Type 0
IsEntry e = AllByRecursion IsWithin (row e).1

-- each entry can be written
abbrev pub AreEntries : List Entry → Type 0
AreEntries entries = AllByRecursion IsEntry entries

-- the bytes are the text of this configuration and ledger
pub record IsText (config : Config) (entries : List Entry) (bytes : List ℕ) : Type 0 where
  pub within : AreEntries entries
  pub whole : bytes ≡ text config entries

-- bytes begin with the line of an entry, or with the last line after n entries
abbrev pub BeginsWithEntry : List ℕ → Type 0
BeginsWithEntry bytes = (e : Entry) × (after : List ℕ) × IsEntry e × (bytes ≡ line (row e) ++ after)

-- the bytes begin with the last line
abbrev pub BeginsWithEnd : ℕ → List ℕ → Type 0
BeginsWithEnd n bytes = (after : List ℕ) × (bytes ≡ line (last_row n) ++ after)

-- The first line, counted from 1, that is not what is due at its place. It is no first line; or the lines before are the first and those of
-- entries, and it is neither the line of an entry nor the last line. Or the text has ended, and something follows.
pub data IsFirstBad (bytes : List ℕ) (at : ℕ) : Type 0 where
  no_first : ((config : Config) (after : List ℕ) → bytes ≡ line (first_row config) ++ after → ⊥) → at ≡ 1 → IsFirstBad bytes at
  no_next : (config : Config) (entries : List Entry) (rest : List ℕ) → AreEntries entries → bytes ≡ open_text config entries ++ rest →
      (BeginsWithEntry rest → ⊥) → (BeginsWithEnd (length entries) rest → ⊥) → at ≡ length entries + 2 → IsFirstBad bytes at
  behind : (config : Config) (entries : List Entry) (rest : List ℕ) → AreEntries entries → bytes ≡ text config entries ++ rest → rest ≢ [] →
      at ≡ length entries + 3 → IsFirstBad bytes at
