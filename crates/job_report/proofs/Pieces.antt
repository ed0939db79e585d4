-- Texts that grow piece by piece.
use Rattle.std.proofs.Common.{◌≡◌, ℕ, List, ◌++◌, [], ◌∷◌, ap, ◌∙◌, sym, append_assoc}
use Rattle.std.proofs.Common.{length, get_or, drop, ◌+◌, ◌<◌, append-nil, codes, decimal}
use Rattle.std.proofs.lemmas.List.{drop_more}
use Rattle.sudoku_law.specs.Grid.{Cells}
use Rattle.sudoku_law.specs.Text.{text_of}
use Rattle.job_report.specs.Report.{counted, grid_lines}

-- four pieces after an old text
pub four : (old a b c d p q r s : List ℕ) → p ≡ old ++ a → q ≡ p ++ b → r ≡ q ++ c → s ≡ r ++ d → s ≡ old ++ (((a ++ b) ++ c) ++ d)
four old a b c d p q r s e1 e2 e3 e4 =
    e4 ∙ ap (λ x. x ++ d) (e3 ∙ ap (λ x. x ++ c) (e2 ∙ ap (λ x. x ++ b) e1)) ∙ simp append_assoc

-- one more line of a list of grids
pub one_more_line : (text old mid next : List ℕ) (grids : List Cells) (i : ℕ) (x : Cells) → i < length grids → x ≡ get_or grids i x →
    text ++ grid_lines (drop i grids) ≡ old → mid ≡ text ++ text_of x → next ≡ mid ++ 10 ∷ [] →
    next ++ grid_lines (drop (i + 1) grids) ≡ old
one_more_line text old mid next grids i x within is so_far e1 e2 =
    let rest : List ℕ = grid_lines (drop (i + 1) grids) in
    let all : grid_lines (drop i grids) ≡ (text_of x ++ 10 ∷ []) ++ rest =
    ap grid_lines (drop_more grids i x within) ∙ ap (λ y. (text_of y ++ 10 ∷ []) ++ rest) (sym is) in
    let here : next ≡ text ++ (text_of x ++ 10 ∷ []) = e2 ∙ ap (λ l. l ++ 10 ∷ []) e1 ∙ append_assoc text (text_of x) (10 ∷ []) in
    ap (λ l. l ++ rest) here ∙ append_assoc text (text_of x ++ 10 ∷ []) rest ∙ ap (λ l. text ++ l) (sym all) ∙ so_far

-- all lines of a list of grids
pub all_lines : (text old : List ℕ) (grids : List Cells) (i : ℕ) → drop i grids ≡ [] → text ++ grid_lines (drop i grids) ≡ old → text ≡ old
all_lines text old grids i none so_far = sym (append-nil text) ∙ ap (λ l. text ++ grid_lines l) (sym none) ∙ so_far

-- a count after a text is a count whose name begins with the text
pub count_after : (text name : List ℕ) (n : ℕ) → text ++ counted name n ≡ counted (text ++ name) n
count_after text name n =
    let blank : List ℕ = codes " " in
    sym (append_assoc text ((name ++ blank) ++ decimal n) (10 ∷ []))
    ∙ ap (λ x. x ++ 10 ∷ [])
    (sym (append_assoc text (name ++ blank) (decimal n)) ∙ ap (λ x. x ++ decimal n) (sym (append_assoc text name blank)))
