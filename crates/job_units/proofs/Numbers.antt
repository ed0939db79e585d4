-- Numbers and the bytes at their places in bodies.
use Rattle.std.proofs.Common.{◌≡◌, ℕ, zero, suc, ◌+◌, ◌^◌, ◌<◌, ◌≤◌, List, [], ◌∷◌, length, take, drop, get_or, arith, lit<}
use Rattle.std.specs.Int.{to_be_bytes, from_be_bytes, w32, w64}
use Rattle.std.proofs.lemmas.List.{length-take-le, get_or-drop}
use Rattle.std.proofs.lemmas.Nat.{be_bytes_4, be_bytes_8}

-- each element is a byte
abbrev pub AreBytes : List ℕ → Type 0
AreBytes l = (i : ℕ) → get_or l i 0 < 256

-- a part of bytes is bytes
pub bytes_take : (n : ℕ) (l : List ℕ) → AreBytes l → AreBytes (take n l)
bytes_take zero l bytes i = lit< tt
bytes_take (suc n) [] bytes i = lit< tt
bytes_take (suc n) (x ∷ l) bytes zero = bytes 0
bytes_take (suc n) (x ∷ l) bytes (suc i) = bytes_take n l (λ j. bytes (suc j)) i

-- what is left of bytes is bytes
pub bytes_drop : (n : ℕ) (l : List ℕ) → AreBytes l → AreBytes (drop n l)
bytes_drop n l bytes i = rw (get_or-drop n l i 0) (bytes (n + i))

-- a number that was read of the first bytes is written as them
pub four_first : (l : List ℕ) (n : ℕ) → 4 ≤ length l → AreBytes l → n ≡ from_be_bytes w32 (take 4 l) → to_be_bytes w32 n ≡ take 4 l
four_first l n long bytes is = be_bytes_4 (take 4 l) n (length-take-le 4 l long) (bytes_take 4 l bytes) is

-- a number read from eight bytes is written as those
pub eight_first : (l : List ℕ) (n : ℕ) → 8 ≤ length l → AreBytes l → n ≡ from_be_bytes w64 (take 8 l) → to_be_bytes w64 n ≡ take 8 l
eight_first l n long bytes is = be_bytes_8 (take 8 l) n (length-take-le 8 l long) (bytes_take 8 l bytes) is

-- a number that is read of a number's bytes fits them
pub four_fit : (n : ℕ) → from_be_bytes w32 (to_be_bytes w32 n) < 2 ^ 32
four_fit n = omega arith

-- eight bytes make a number below 2^64
pub eight_fit : (n : ℕ) → from_be_bytes w64 (to_be_bytes w64 n) < 2 ^ 64
eight_fit n = omega arith
