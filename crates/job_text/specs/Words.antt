-- The words of a line, and numbers.
use Rattle.std.specs.Prelude.{ℕ, ◌==◌, nat_lt, Bool, ◌&&◌, ◌||◌, List, Option, Some, None, decimal, if◌then◌else◌}
use Rattle.std.specs.List.{before_first, after_first}
use Rattle.std.specs.Str.{bytes_eq}
use Rattle.std.specs.Str.Parse.{digits_value}

-- the byte is a space; it is a space or a tab
abbrev pub is_space : ℕ → Bool
is_space byte = byte == 32

-- the byte is a space or a tab
abbrev pub is_blank : ℕ → Bool
is_blank byte = (byte == 32) || (byte == 9)

-- what comes before the first space, and what follows it
abbrev pub first_word : List ℕ → List ℕ
first_word text = before_first is_space text

-- what follows the first space
abbrev pub behind_word : List ℕ → List ℕ
behind_word text = after_first is_space text

-- the number up to 255 that is written so in decimal digits, with no leading zero that is not needed
unfoldable pub byte_number : List ℕ → Option ℕ
byte_number word =
    if nat_lt (digits_value 10 word) 256 && bytes_eq (decimal (digits_value 10 word)) word
    then Some (digits_value 10 word)
    else None
