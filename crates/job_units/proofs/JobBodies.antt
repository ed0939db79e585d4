-- The bodies of jobs.
use Rattle.std.proofs.Common.{◌≡◌, ◌↔◌, ℕ, ◌-◌, ◌^◌, ◌<◌, Bool, true, List, ◌++◌, length, take, drop, Option, Some, None, refl, sym, ap}
use Rattle.std.proofs.Common.{◌∙◌, subst, arith, length-append, length-drop}
use Rattle.std.specs.Int.{to_be_bytes, from_be_bytes, w32}
use Rattle.std.proofs.lemmas.List.{take-append-drop}
use Rattle.std.proofs.lemmas.Nat.{from_be_bytes-to_be_bytes_4}
use Rattle.job_text.specs.declared.items.Item.{Item}
use Rattle.job_text.specs.declared.items.Item.TheVariants.{Count, Sum, Max}
use Rattle.job_units.specs.Bodies.{item_bytes, job_body}
use Rattle.job_units.specs.Forms.{IsJob}
use Rattle.job_units.specs.Reading.{item_in, job_in, job_of_body}
use Rattle.job_units.specs.declared.jobs.Job.{Job}
use Rattle.job_units.proofs.ItsBody.{body_found, body_law, exactly, no_body, whose_body}
use Rattle.job_units.proofs.Numbers.{AreBytes, bytes_drop, four_fit, four_first}

abbrev any_job : Job → Bool
any_job j = true

-- an item is in its bytes, which are three
pub item_back : (i : Item) → item_in (item_bytes i) ≡ i
item_back (Count lo hi) = refl
item_back Sum = refl
item_back Max = refl

item_long : (i : Item) → length (item_bytes i) ≡ 3
item_long (Count lo hi) = refl
item_long Sum = refl
item_long Max = refl

-- a body by its pieces, and what is at their places
pub job_is : (j : Job) → job_body j ≡ to_be_bytes w32 j.batch ++ (to_be_bytes w32 j.number ++ item_bytes j.item)
unfolding job_body
job_is j = refl

job_front : (j : Job) → take 4 (job_body j) ≡ to_be_bytes w32 j.batch
unfolding job_body
job_front j = refl

job_middle : (j : Job) → take 4 (drop 4 (job_body j)) ≡ to_be_bytes w32 j.number
unfolding job_body
job_middle j = refl

job_end : (j : Job) → drop 4 (drop 4 (job_body j)) ≡ item_bytes j.item
unfolding job_body
job_end j = refl

-- a body has 11 bytes
pub job_long : (j : Job) → length (job_body j) ≡ 11
job_long j =
    let front : List ℕ = to_be_bytes w32 j.batch in
    let middle : List ℕ = to_be_bytes w32 j.number in
    let back : List ℕ = item_bytes j.item in
    let four : length front ≡ 4 = refl in
    let four_more : length middle ≡ 4 = refl in
    ap length (job_is j)
    ∙ omega (arith, length-append front (middle ++ back), length-append middle back, item_long j.item, four, four_more)

-- jobs with the same parts are one
pub same_job : (j k : Job) → j.batch ≡ k.batch → j.number ≡ k.number → j.item ≡ k.item → j ≡ k
same_job j k b n i =
    let with_batch : ℕ → Job = λ x. record { batch = x; number = j.number; item = j.item } in
    let with_number : ℕ → Job = λ x. record { batch = k.batch; number = x; item = j.item } in
    let with_item : Item → Job = λ x. record { batch = k.batch; number = k.number; item = x } in
    ap with_batch b ∙ ap with_number n ∙ ap with_item i

-- a body of which these are the parts
job_whole : (body : List ℕ) (j : Job) → to_be_bytes w32 j.batch ≡ take 4 body → to_be_bytes w32 j.number ≡ take 4 (drop 4 body)
    → drop 4 (drop 4 body) ≡ item_bytes j.item → body ≡ job_body j
job_whole body j front middle back =
    sym (take-append-drop 4 body)
    ∙ ap (λ x. x ++ drop 4 body) (sym front)
    ∙ ap (λ x. to_be_bytes w32 j.batch ++ x)
    (sym (take-append-drop 4 (drop 4 body)) ∙ ap (λ x. x ++ drop 4 (drop 4 body)) (sym middle)
    ∙ ap (λ x. to_be_bytes w32 j.number ++ x) back)
    ∙ sym (job_is j)

-- a job is in its body
job_back : (j : Job) → IsJob j → job_in (job_body j) ≡ j
job_back j fits = same_job (job_in (job_body j)) j
    (ap (λ x. from_be_bytes w32 x) (job_front j) ∙ from_be_bytes-to_be_bytes_4 j.batch fits.batch)
    (ap (λ x. from_be_bytes w32 x) (job_middle j) ∙ from_be_bytes-to_be_bytes_4 j.number fits.number)
    (ap (λ x. item_in x) (job_end j) ∙ item_back j.item)

-- a job is read of its body alone
pub job_law : (body : List ℕ) (j : Job) → IsJob j → (job_of_body body ≡ Some j) ↔ (body ≡ job_body j)
unfolding job_of_body
job_law body j fits = body_law Job any_job job_body job_in body j refl (job_back j fits)

-- as code reads it
pub job_exact : (body : List ℕ) (read : Option Job) → read ≡ job_of_body body → (j : Job) → IsJob j → (read ≡ Some j) ↔ (body ≡ job_body j)
job_exact body read is j fits = exactly job_body body j (job_of_body body) read is (job_law body j fits)

-- what is read of a body has this body
job_whose : (body : List ℕ) (j : Job) → job_of_body body ≡ Some j → (any_job j ≡ true) × (body ≡ job_body j) × (job_in body ≡ j)
unfolding job_of_body
job_whose body j e = whose_body Job any_job job_body body (job_in body) j e

-- what is read of a body fits one
pub job_fits : (body : List ℕ) (j : Job) → job_of_body body ≡ Some j → IsJob j
job_fits body j e =
    let is = job_whose body j e in
    let batch : from_be_bytes w32 (to_be_bytes w32 j.batch) ≡ j.batch =
    ap (λ x. from_be_bytes w32 x) (sym (job_front j)) ∙ ap (λ x. from_be_bytes w32 (take 4 x)) (sym is.1)
    ∙ ap (λ (x : Job). x.batch) is.2 in
    let number : from_be_bytes w32 (to_be_bytes w32 j.number) ≡ j.number =
    ap (λ x. from_be_bytes w32 x) (sym (job_middle j)) ∙ ap (λ x. from_be_bytes w32 (take 4 (drop 4 x))) (sym is.1)
    ∙ ap (λ (x : Job). x.number) is.2 in
    record {
      batch = subst (λ n. n < 2 ^ 32) batch (four_fit j.batch);
      number = subst (λ n. n < 2 ^ 32) number (four_fit j.number);
    }

-- the numbers that are read of these parts, and the item, are the job of the body
pub job_found : (body : List ℕ) (found : Job) → length body ≡ 11 → AreBytes body → found.batch ≡ from_be_bytes w32 (take 4 body)
    → found.number ≡ from_be_bytes w32 (take 4 (drop 4 body)) → drop 4 (drop 4 body) ≡ item_bytes found.item → Some found ≡ job_of_body body
unfolding job_of_body
job_found body found long bytes batch number item =
    let rest_long : length (drop 4 body) ≡ length body - 4 = length-drop 4 body in
    let front : to_be_bytes w32 found.batch ≡ take 4 body = four_first body found.batch (omega arith) bytes batch in
    let middle : to_be_bytes w32 found.number ≡ take 4 (drop 4 body) =
    four_first (drop 4 body) found.number (omega arith) (bytes_drop 4 body bytes) number in
    let is : found ≡ job_in body =
    same_job found (job_in body) batch number (sym (item_back found.item) ∙ ap (λ x. item_in x) (sym item)) in
    body_found Job any_job job_body body (job_in body) found is refl (job_whole body found front middle item)

-- a body of another length is of no job, and so is one that ends with the bytes of no item
pub job_unlike : (body : List ℕ) → (length body ≡ 11 → ⊥) → None ≡ job_of_body body
unfolding job_of_body
job_unlike body other = no_body Job any_job job_body body (job_in body) (λ j fine e. other (ap length e ∙ job_long j))

-- a body whose bytes are no item is no job
pub job_unread : (body : List ℕ) → ((i : Item) → drop 4 (drop 4 body) ≡ item_bytes i → ⊥) → None ≡ job_of_body body
unfolding job_of_body
job_unread body none = no_body Job any_job job_body body (job_in body) (λ j fine e. none j.item (ap (λ x. drop 4 (drop 4 x)) e ∙ job_end j))
