-- Texts of grids that are read.
use Rattle.std.proofs.Common.{◌≡◌, ◌↔◌, ℕ, List, Option, Some, None, sym, ap, ◌∙◌, subst, Result, Ok, Err}
use Rattle.std.specs.Result.{result_ok}
use Rattle.sudoku_law.specs.Grid.{Cells}
use Rattle.sudoku_law.specs.Text.{text_of}
use Rattle.sudoku_rules.specs.Reading.{Reads}
use Rattle.sudoku_rules.specs.Sides.{IsSudoku}
use Rattle.sudoku_rules.proofs.Reading.{text_reads}

-- what `ok` keeps of a result
pub ok_of_some : {X E : Type 0} (r : Result X E) (x : X) → result_ok r ≡ Some x → r ≡ Ok x
ok_of_some (Ok y) x is = let same : y ≡ x = cc in ap Ok same
ok_of_some (Err e) x is = absurd (cc)

-- a text is read as one grid
pub reads_once : (text : List ℕ) (g h : Cells) → Reads text g → Reads text h → g ≡ h
reads_once text g h of_g of_h = of_g.cells ∙ sym of_h.cells

-- if the grid was read of the text, and has this very text, it is the one grid with it
pub text_found : (text : List ℕ) (found : Cells) → Reads text found → text ≡ text_of found → (g : Cells) → IsSudoku g
    → (Some found ≡ Some g) ↔ (text ≡ text_of g)
text_found text found reads same g grid = (
  λ e. let is : found ≡ g = cc in same ∙ ap text_of is,
  λ e. ap Some (reads_once text found g reads (subst (λ t. Reads t g) (sym e) (text_reads g grid))),
)

-- if it has another text, no grid has this one
pub text_unlike : (text : List ℕ) (found : Cells) → Reads text found → (text ≡ text_of found → ⊥) → (g : Cells) → IsSudoku g
    → (None ≡ Some g) ↔ (text ≡ text_of g)
text_unlike text found reads differs g grid = (
  λ e. absurd (cc),
  λ e. absurd (let is : found ≡ g = reads_once text found g reads (subst (λ t. Reads t g) (sym e) (text_reads g grid)) in
      differs (e ∙ ap text_of (sym is))),
)

-- if no grid was read of the text, none has it
pub none_read : (text : List ℕ) {found : Option Cells} → ((h : Cells) → Reads text h → found ≡ Some h) → found ≡ None → (g : Cells)
    → IsSudoku g → (None ≡ Some g) ↔ (text ≡ text_of g)
none_read text {found} reads none g grid = (
  λ e. absurd (cc),
  λ e. sym none ∙ reads g (subst (λ t. Reads t g) (sym e) (text_reads g grid)),
)
