use Rattle.std.proofs.Common.{◌≡◌, ◌<◌, ◌≤◌, ◌↔◌, ℕ, List, length, get_or, map, take, sym, ap, ◌∙◌, subst, arith, Ok}
use Rattle.std.proofs.lemmas.List.{length-set, take_all}
use Rattle.sudoku_rules.specs.Sides.{side_for}
use Rattle.sudoku_rules.specs.Reading.{IsCellSign, Reads, digit_of}
use Rattle.sudoku_rules.proofs.Sides.{side_is, size_few}
use Rattle.sudoku_rules.proofs.Reading.{map_more, signs_give_grid, read_exact}
use Rattle.sudoku_rules.proofs.text.parse_grid.Goals as goal
use borrow.Author.Count.{below_more}

pub digit_at-requires : goal.digit_at-requires
digit_at-requires c = rw c.in-Some.ensures.1 (side_is (length c.args.text.now))

pub loop-place-preserved : goal.loop-place-preserved
loop-place-preserved c =
    let few : length c.args.text.now ≤ 256 = size_few (length c.args.text.now) c.in-Some.ensures.0 in
    let room : c.loop-place.place < length c.loop-place.cells = omega (arith, c.loop-place.invariant.long) in
    record {
      long = length-set c.loop-place.cells c.loop-place.place c.in-Some-digit_at.digit ∙ c.loop-place.invariant.long;
      signs = below_more (λ k. IsCellSign c.in-Some.side
          (get_or c.args.text.now k 0)) c.loop-place.place c.loop-place.invariant.signs c.in-Some-digit_at.ensures.0;
      read = map_more digit_of c.args.text.now c.loop-place.cells c.loop-place.place c.in-Some-digit_at.digit c.loop-place-test.true room
          c.in-Some-digit_at.ensures.1 c.loop-place.invariant.read;
    }

-- after the loop all signs are read
all_read : (text cells : List ℕ) (side place : ℕ) → length text ≤ place → place ≤ length text → side ≡ side_for (length text)
    → ((k : ℕ) → k < place → IsCellSign side (get_or text k 0)) → take place cells ≡ map digit_of (take place text)
    → ((k : ℕ) → k < length text → IsCellSign (side_for (length text)) (get_or text k 0)) × (take (length text) cells ≡ map digit_of text)
all_read text cells side place past few told signs read =
    let same : place ≡ length text = omega arith in (
      λ k h. subst (λ n. IsCellSign n (get_or text k 0)) told (signs k (omega arith)),
      ap (λ n. take n cells) (sym same) ∙ read ∙ ap (λ xs. map digit_of xs) (take_all place text past),
    )

pub of-requires : goal.of-requires
of-requires c =
    let text : List ℕ = c.args.text.now in
    let inv = c.loop-place.invariant in
    let all = all_read text c.loop-place.cells c.in-Some.side c.loop-place.place c.loop-place-test.false c.loop-place.auto.place-end
    c.in-Some.ensures.1 inv.signs inv.read in
    signs_give_grid text (take (length text) c.loop-place.cells) c.in-Some.ensures.0 all.0 all.1

pub returns-clause-read : goal.returns-clause-read
returns-clause-read c =
    let text : List ℕ = c.args.text.now in
    let inv = c.loop-place.invariant in
    let all = all_read text c.loop-place.cells c.in-Some.side c.loop-place.place c.loop-place-test.false c.loop-place.auto.place-end
    c.in-Some.ensures.1 inv.signs inv.read in
    λ g.
    let exact : (c.of.result ≡ g) ↔ Reads text g = read_exact text c.of.result c.in-Some.ensures.0 all.0 (c.of.ensures ∙ all.1) g in
    (λ e. exact.0 (cc), λ reads. ap (λ x. Ok x) (exact.1 reads))
