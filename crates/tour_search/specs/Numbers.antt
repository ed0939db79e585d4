-- Numbers in decimal digits.
use Rattle.std.specs.Prelude.{ℕ, nat_le, ◌&&◌, List, Option, Some, None, decimal, if◌then◌else◌}
use Rattle.std.specs.Str.{bytes_eq}
use Rattle.std.specs.Str.Parse.{digits_value}

-- the number up to `most` that is written so in decimal digits, with no leading zero that is not needed
unfoldable pub number_to : ℕ → List ℕ → Option ℕ
number_to most word =
    if nat_le (digits_value 10 word) most && bytes_eq (decimal (digits_value 10 word)) word
    then Some (digits_value 10 word)
    else None
