-- What a line is: the cases are tried in their order.
use Rattle.std.specs.Prelude.{ℕ, ◌==◌, ◌^◌, nat_lt, nat_le, Bool, ◌&&◌, ◌||◌, List, Option, Some, None, codes, length, map, slice_index}
use Rattle.std.specs.Prelude.{if◌then◌else◌}
use Rattle.std.specs.List.{before_first, list_all}
use Rattle.std.specs.Str.{bytes_eq}
use Rattle.sudoku_law.specs.Grid.{Cells}
use Rattle.sudoku_law.specs.Text.{sign}
use Rattle.sudoku_rules.specs.Sides.{side_for}
use Rattle.sudoku_rules.specs.Reading.{digit_of}
use Rattle.job_text.specs.declared.faults.LineWhy.{LineWhy}
use Rattle.job_text.specs.declared.faults.LineWhy.TheVariants.{Long, Length, Character, Word}
use Rattle.job_text.specs.declared.items.Item.{Item}
use Rattle.job_text.specs.declared.items.Item.TheVariants.{Count, Sum, Max}
use Rattle.job_text.specs.Words.{is_blank, first_word, behind_word, byte_number}

-- A line is skipped; or it is a puzzle of this grid; or a batch of these bytes begins. Or it is an item, or None without an item's form; or
-- it is refused wherever it is.
pub data Kind : Type 0 where
  skipped : Kind
  puzzle : Cells → Kind
  batch : List ℕ → Kind
  item : Option Item → Kind
  bad : LineWhy → Kind

-- the most bytes of a line
abbrev pub line_limit : ℕ
line_limit = 2 ^ 20

-- the text has as many bytes as a grid has cells
abbrev pub is_size : ℕ → Bool
is_size n = (n == 16) || (n == 81) || (n == 256)

-- the byte is a dot, or the sign of a digit up to the side n
abbrev pub is_cell_sign : ℕ → ℕ → Bool
is_cell_sign n byte = (byte == 46) || (nat_le (digit_of byte) n && (sign (digit_of byte) == byte))

-- a puzzle line by its text
unfoldable pub puzzle_kind : List ℕ → Kind
puzzle_kind text =
    if is_size (length text)
    then (if list_all (is_cell_sign (side_for (length text))) text then puzzle (map digit_of text) else bad Character)
    else bad (Length (length text))

-- a digit, a dot, or a letter from A to G
abbrev pub begins_puzzle : ℕ → Bool
begins_puzzle byte = (byte == 46) || (nat_le 48 byte && nat_le byte 57) || (nat_le 65 byte && nat_le byte 71)

-- the counting of the bytes from one number to another
abbrev pub counting : Option ℕ → Option ℕ → Option Item
counting (Some lo) (Some hi) = Some (Count lo hi)
counting _ _ = None

-- the item of a line: `sum` or `max` alone, or `count` and two numbers, each after one space
unfoldable pub item_of : List ℕ → Option Item
item_of line =
    if bytes_eq line (codes "sum") then Some Sum
    else if bytes_eq line (codes "max") then Some Max
    else if bytes_eq (first_word line) (codes "count")
    then counting (byte_number (first_word (behind_word line))) (byte_number (behind_word (behind_word line)))
    else None

-- the word begins an item
abbrev pub is_item_name : List ℕ → Bool
is_item_name word = bytes_eq word (codes "count") || bytes_eq word (codes "sum") || bytes_eq word (codes "max")

-- A line that begins with a word. With `batch`, it is a batch of the bytes after the space after it, or of no bytes; with the name of an
-- item, it is that item.
unfoldable pub named_kind : List ℕ → Kind
named_kind line =
    if bytes_eq (first_word line) (codes "batch") then batch (behind_word line)
    else if is_item_name (first_word line) then item (item_of line)
    else bad Word

-- A line that is not too long is empty or a comment; or it is a puzzle by its first byte; or it begins with a word. What follows a puzzle's
-- first blank is a remark.
unfoldable pub short_kind : List ℕ → Kind
short_kind line =
    if (length line == 0) || (slice_index line 0 == 35) then skipped
    else if begins_puzzle (slice_index line 0) then puzzle_kind (before_first is_blank line)
    else named_kind line

-- a line
unfoldable pub kind_of : List ℕ → Kind
kind_of line = if nat_lt line_limit (length line) then bad Long else short_kind line
