-- The bodies of answers.
use Rattle.std.proofs.Common.{◌≡◌, ◌↔◌, ℕ, ◌-◌, ◌^◌, ◌<◌, Bool, true, List, ◌++◌, length, take, drop, Option, Some, None, refl, sym, ap}
use Rattle.std.proofs.Common.{◌∙◌, subst, arith, length-append, length-drop}
use Rattle.std.specs.Int.{to_be_bytes, from_be_bytes, w32, w64}
use Rattle.std.proofs.lemmas.List.{take-append-drop}
use Rattle.std.proofs.lemmas.Nat.{be_bytes_8, from_be_bytes-to_be_bytes_4, from_be_bytes-to_be_bytes_8}
use Rattle.job_units.specs.Bodies.{answer_body}
use Rattle.job_units.specs.Forms.{IsAnswer}
use Rattle.job_units.specs.Reading.{answer_in, answer_of_body}
use Rattle.job_units.specs.declared.answers.Answer.{Answer}
use Rattle.job_units.proofs.ItsBody.{body_found, body_law, exactly, no_body, whose_body}
use Rattle.job_units.proofs.Numbers.{AreBytes, bytes_drop, eight_fit, four_fit, four_first}

abbrev any_answer : Answer → Bool
any_answer a = true

-- a body by its pieces, and what is at their places
pub answer_is : (a : Answer) → answer_body a ≡ to_be_bytes w32 a.batch ++ (to_be_bytes w32 a.number ++ to_be_bytes w64 a.value)
unfolding answer_body
answer_is a = refl

answer_front : (a : Answer) → take 4 (answer_body a) ≡ to_be_bytes w32 a.batch
unfolding answer_body
answer_front a = refl

answer_middle : (a : Answer) → take 4 (drop 4 (answer_body a)) ≡ to_be_bytes w32 a.number
unfolding answer_body
answer_middle a = refl

answer_end : (a : Answer) → drop 4 (drop 4 (answer_body a)) ≡ to_be_bytes w64 a.value
unfolding answer_body
answer_end a = refl

-- a body has 16 bytes
pub answer_long : (a : Answer) → length (answer_body a) ≡ 16
answer_long a =
    let front : List ℕ = to_be_bytes w32 a.batch in
    let middle : List ℕ = to_be_bytes w32 a.number in
    let back : List ℕ = to_be_bytes w64 a.value in
    let four : length front ≡ 4 = refl in
    let four_more : length middle ≡ 4 = refl in
    let eight : length back ≡ 8 = refl in
    ap length (answer_is a) ∙ omega (arith, length-append front (middle ++ back), length-append middle back, four, four_more, eight)

-- answers with the same parts are one
pub same_answer : (a b : Answer) → a.batch ≡ b.batch → a.number ≡ b.number → a.value ≡ b.value → a ≡ b
same_answer a b m n v =
    let with_batch : ℕ → Answer = λ x. record { batch = x; number = a.number; value = a.value } in
    let with_number : ℕ → Answer = λ x. record { batch = b.batch; number = x; value = a.value } in
    let with_value : ℕ → Answer = λ x. record { batch = b.batch; number = b.number; value = x } in
    ap with_batch m ∙ ap with_number n ∙ ap with_value v

-- a body of which these are the parts
answer_whole : (body : List ℕ) (a : Answer) → to_be_bytes w32 a.batch ≡ take 4 body → to_be_bytes w32 a.number ≡ take 4 (drop 4 body)
    → drop 4 (drop 4 body) ≡ to_be_bytes w64 a.value → body ≡ answer_body a
answer_whole body a front middle back =
    sym (take-append-drop 4 body)
    ∙ ap (λ x. x ++ drop 4 body) (sym front)
    ∙ ap (λ x. to_be_bytes w32 a.batch ++ x)
    (sym (take-append-drop 4 (drop 4 body)) ∙ ap (λ x. x ++ drop 4 (drop 4 body)) (sym middle)
    ∙ ap (λ x. to_be_bytes w32 a.number ++ x) back)
    ∙ sym (answer_is a)

-- an answer is in its body
answer_back : (a : Answer) → IsAnswer a → answer_in (answer_body a) ≡ a
answer_back a fits = same_answer (answer_in (answer_body a)) a
    (ap (λ x. from_be_bytes w32 x) (answer_front a) ∙ from_be_bytes-to_be_bytes_4 a.batch fits.batch)
    (ap (λ x. from_be_bytes w32 x) (answer_middle a) ∙ from_be_bytes-to_be_bytes_4 a.number fits.number)
    (ap (λ x. from_be_bytes w64 x) (answer_end a) ∙ from_be_bytes-to_be_bytes_8 a.value fits.value)

-- an answer is read of its body alone
pub answer_law : (body : List ℕ) (a : Answer) → IsAnswer a → (answer_of_body body ≡ Some a) ↔ (body ≡ answer_body a)
unfolding answer_of_body
answer_law body a fits = body_law Answer any_answer answer_body answer_in body a refl (answer_back a fits)

-- as code reads it
pub answer_exact : (body : List ℕ) (read : Option Answer) → read ≡ answer_of_body body → (a : Answer) → IsAnswer a
    → (read ≡ Some a) ↔ (body ≡ answer_body a)
answer_exact body read is a fits = exactly answer_body body a (answer_of_body body) read is (answer_law body a fits)

-- what is read of a body has this body
answer_whose : (body : List ℕ) (a : Answer) → answer_of_body body ≡ Some a
    → (any_answer a ≡ true) × (body ≡ answer_body a) × (answer_in body ≡ a)
unfolding answer_of_body
answer_whose body a e = whose_body Answer any_answer answer_body body (answer_in body) a e

-- what is read of a body fits one
pub answer_fits : (body : List ℕ) (a : Answer) → answer_of_body body ≡ Some a → IsAnswer a
answer_fits body a e =
    let is = answer_whose body a e in
    let batch : from_be_bytes w32 (to_be_bytes w32 a.batch) ≡ a.batch =
    ap (λ x. from_be_bytes w32 x) (sym (answer_front a)) ∙ ap (λ x. from_be_bytes w32 (take 4 x)) (sym is.1)
    ∙ ap (λ (x : Answer). x.batch) is.2 in
    let number : from_be_bytes w32 (to_be_bytes w32 a.number) ≡ a.number =
    ap (λ x. from_be_bytes w32 x) (sym (answer_middle a)) ∙ ap (λ x. from_be_bytes w32 (take 4 (drop 4 x))) (sym is.1)
    ∙ ap (λ (x : Answer). x.number) is.2 in
    let value : from_be_bytes w64 (to_be_bytes w64 a.value) ≡ a.value =
    ap (λ x. from_be_bytes w64 x) (sym (answer_end a)) ∙ ap (λ x. from_be_bytes w64 (drop 4 (drop 4 x))) (sym is.1)
    ∙ ap (λ (x : Answer). x.value) is.2 in
    record {
      batch = subst (λ n. n < 2 ^ 32) batch (four_fit a.batch);
      number = subst (λ n. n < 2 ^ 32) number (four_fit a.number);
      value = subst (λ n. n < 2 ^ 64) value (eight_fit a.value);
    }

-- the numbers that are read of these parts are the answer of the body
pub answer_found : (body : List ℕ) (found : Answer) → length body ≡ 16 → AreBytes body → found.batch ≡ from_be_bytes w32 (take 4 body)
    → found.number ≡ from_be_bytes w32 (take 4 (drop 4 body)) → found.value ≡ from_be_bytes w64 (drop 4 (drop 4 body))
    → Some found ≡ answer_of_body body
unfolding answer_of_body
answer_found body found long bytes batch number value =
    let rest : List ℕ = drop 4 body in
    let rest_long : length rest ≡ length body - 4 = length-drop 4 body in
    let last_long : length (drop 4 rest) ≡ length rest - 4 = length-drop 4 rest in
    let front : to_be_bytes w32 found.batch ≡ take 4 body = four_first body found.batch (omega arith) bytes batch in
    let middle : to_be_bytes w32 found.number ≡ take 4 rest = four_first rest found.number (omega arith) (bytes_drop 4 body bytes) number in
    let back : to_be_bytes w64 found.value ≡ drop 4 rest =
    be_bytes_8 (drop 4 rest) found.value (omega arith) (bytes_drop 4 rest (bytes_drop 4 body bytes)) value in
    let is : found ≡ answer_in body = same_answer found (answer_in body) batch number value in
    body_found Answer any_answer answer_body body (answer_in body) found is refl (answer_whole body found front middle (sym back))

-- a body of another length is of no answer
pub answer_unlike : (body : List ℕ) → (length body ≡ 16 → ⊥) → None ≡ answer_of_body body
unfolding answer_of_body
answer_unlike body other = no_body Answer any_answer answer_body body (answer_in body) (λ a fine e. other (ap length e ∙ answer_long a))
