use Rattle.std.proofs.Common.{◌≡◌, ◌<◌, ◌≤◌, ◌+◌, ◌&&◌, ℕ, cond, length, get_or, ltb, leb}
use Rattle.sudoku_rules.specs.inside.Planes.{has}
use Rattle.sudoku_rules.proofs.planes.add_plane.Given as goal

-- of the levels below n the plane is in, the others are as they were, and what carries on is in all of those below and in the plane
abbrev pub invariant-loop-n : goal.invariant-loop-n
invariant-loop-n l = record {
  long : length l.levels ≡ length l.fn.levels;
  done : (count : ℕ → ℕ) → ((i k : ℕ) → i < length l.fn.levels → has (get_or l.fn.levels i 0) k ≡ ltb i (count k))
      → (i k : ℕ) → i < l.n → has (get_or l.levels i 0) k ≡ ltb i (count k + cond (has l.plane k) 1 0);
  rest : (i : ℕ) → l.n ≤ i → get_or l.levels i 0 ≡ get_or l.fn.levels i 0;
  carry : (count : ℕ → ℕ) → ((i k : ℕ) → i < length l.fn.levels → has (get_or l.fn.levels i 0) k ≡ ltb i (count k))
      → (k : ℕ) → has l.carry k ≡ (leb l.n (count k) && has l.plane k);
}
