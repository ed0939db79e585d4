-- What an item asks of bytes.
use Rattle.std.specs.Prelude.{ℕ, List, sum}
use Rattle.job_text.specs.declared.items.Item.{Item}
use Rattle.job_text.specs.declared.items.Item.TheVariants.{Count, Sum, Max}
use Rattle.lane_bytes.specs.Answers.{count_from, greatest}

-- how many of the bytes are from lo to hi, their sum, or the greatest of them
abbrev pub answer_to : Item → List ℕ → ℕ
answer_to (Count lo hi) bytes = count_from lo hi bytes
answer_to Sum bytes = sum bytes
answer_to Max bytes = greatest bytes
