-- The names of entries.
use Rattle.std.specs.Prelude.{List, [], ◌∷◌, ℕ, Option, codes, find}
use Rattle.std.specs.Str.{bytes_eq}
use Rattle.ledger_file.specs.declared.names.Name.{Name}
use Rattle.ledger_file.specs.declared.names.Name.TheVariants as name

-- the word of a name
abbrev pub name_word : Name → List ℕ
name_word name.Putting = codes "putting"
name_word name.Refused = codes "refused"
name_word name.Accepted = codes "accepted"
name_word name.Rejected = codes "rejected"
name_word name.Keeping = codes "keeping"
name_word name.Kept = codes "kept"
name_word name.Closing = codes "closing"
name_word name.Closed = codes "closed"
name_word name.Freed = codes "freed"
name_word name.Asked = codes "asked"
name_word name.Tried = codes "tried"
name_word name.Granted = codes "granted"
name_word name.Looked = codes "looked"
name_word name.NoCurrent = codes "nocurrent"
name_word name.Fetching = codes "fetching"
name_word name.Fetched = codes "fetched"
name_word name.CommonFetched = codes "commonfetched"
name_word name.Promised = codes "promised"
name_word name.Left = codes "left"
name_word name.Arrived = codes "arrived"
name_word name.Withdrawn = codes "withdrawn"
name_word name.Counting = codes "counting"
name_word name.Counted = codes "counted"
name_word name.Done = codes "done"
name_word name.Exhausted = codes "exhausted"
name_word name.Over = codes "over"
name_word name.Finished = codes "finished"

-- each name, and the name with a word
abbrev pub all_names : List Name
all_names =
    name.Putting ∷ name.Refused ∷ name.Accepted ∷ name.Rejected ∷ name.Keeping ∷ name.Kept ∷ name.Closing ∷ name.Closed ∷
    name.Freed ∷ name.Asked ∷ name.Tried ∷ name.Granted ∷ name.Looked ∷ name.NoCurrent ∷ name.Fetching ∷ name.Fetched ∷
    name.CommonFetched ∷ name.Promised ∷ name.Left ∷ name.Arrived ∷ name.Withdrawn ∷ name.Counting ∷ name.Counted ∷ name.Done ∷
    name.Exhausted ∷ name.Over ∷ name.Finished ∷ []

-- the first of these names that is the word
abbrev pub name_in : List Name → List ℕ → Option Name
name_in names word = find (λ n. bytes_eq (name_word n) word) names

-- the name that is the word
unfoldable pub name_of : List ℕ → Option Name
name_of word = name_in all_names word
