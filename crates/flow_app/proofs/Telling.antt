-- The output, line by line, and the counts.
use Rattle.std.proofs.Common.{◌≡◌, ◌<◌, ◌≤◌, ◌+◌, ◌-◌, ℕ, zero, suc, cond, List, [], ◌∷◌, ◌++◌, length, get_or, take, count_by, Option}
use Rattle.std.proofs.Common.{Some, None, refl, sym, ap, ◌∙◌, arith, append_assoc}
use Rattle.std.specs.Prelude.{codes, decimal, is_some, is_none, flat_map}
use Rattle.std.specs.List.{slice_get}
use Rattle.std.proofs.lemmas.List.{append-nil, take_all}
use Rattle.std.proofs.lemmas.List.Sums.{sum_by-cons}
use Rattle.std.proofs.lemmas.Option.{get_or_from_slice_get, slice_get_within}
use Rattle.flow_law.specs.Flows.{Name, done_in, flow_text, line_of, name_of, value, waits_in}
use Rattle.flow_law.specs.declared.Definition.{Definition}
use Rattle.flow_app.specs.Stored.{value_at}
use Rattle.flow_app.specs.inside.Told.{ends_with, line_with}

lines_more : (f : Definition → List ℕ) (ds : List Definition) (i : ℕ) (d : Definition) → i < length ds →
    flat_map f (take (suc i) ds) ≡ flat_map f (take i ds) ++ f (get_or ds i d)
lines_more f [] i d inside = absurd (omega (arith, inside))
lines_more f (x ∷ ds) zero d inside = append-nil (f x)
lines_more f (x ∷ ds) (suc i) d inside =
    ap (λ (t : List ℕ). f x ++ t) (lines_more f ds i d (omega (arith, inside)))
    ∙ sym (append_assoc (f x) (flat_map f (take i ds)) (f (get_or ds i d)))

-- one line more
pub line_more : (flow : List Definition) (text : List ℕ) (place : ℕ) (d : Definition) (name : Name) (v : Option ℕ)
    → slice_get flow place ≡ Some d →
    name ≡ name_of d → v ≡ value flow (name_of d) → text ≡ flat_map (line_of flow) (take place flow) →
    text ++ line_with name v ≡ flat_map (line_of flow) (take (place + 1) flow)
line_more flow text place d name v there named is before =
    let here : get_or flow place d ≡ d = get_or_from_slice_get flow place d d there in
    let more = lines_more (line_of flow) flow place d (slice_get_within flow place d there) in
    let next : suc place ≡ place + 1 = omega arith in
    ap (λ (t : List ℕ). t ++ line_with name v) before
    ∙ ap (λ n. flat_map (line_of flow) (take place flow) ++ line_with n v) named
    ∙ ap (λ o. flat_map (line_of flow) (take place flow) ++ line_with (name_of d) o) is
    ∙ ap (λ x. flat_map (line_of flow) (take place flow) ++ line_of flow x) (sym here)
    ∙ sym more ∙ ap (λ n. flat_map (line_of flow) (take n flow)) next

-- Counts.

some_count : (worth : Definition → Option ℕ) (ds : List Definition) (vs : List (Option ℕ)) → length vs ≡ length ds →
    ((i : ℕ) (d : Definition) → slice_get ds i ≡ Some d → value_at vs i ≡ worth d) →
    count_by (λ v. is_some v) vs ≡ count_by (λ d. is_some (worth d)) ds
some_count worth [] [] long same = refl
some_count worth [] (v ∷ vs) long same = absurd (omega (arith, long))
some_count worth (d ∷ ds) [] long same = absurd (omega (arith, long))
some_count worth (d ∷ ds) (v ∷ vs) long same =
    let rest = some_count worth ds vs (omega (arith, long)) (λ i x at. same (suc i) x at) in
    let here : cond {A = ℕ} (is_some v) 1 0 ≡ cond (is_some (worth d)) 1 0 = ap (λ o. cond {A = ℕ} (is_some o) 1 0) (same 0 d refl) in
    omega (
      arith,
      rest,
      here,
      sum_by-cons (λ x. cond {A = ℕ} (is_some x) 1 0) v vs,
      sum_by-cons (λ x. cond {A = ℕ} (is_some (worth x)) 1 0) d ds,
    )

all_count : (worth : Definition → Option ℕ) (ds : List Definition) →
    count_by (λ d. is_some (worth d)) ds + count_by (λ d. is_none (worth d)) ds ≡ length ds
all_count worth [] = refl
all_count worth (d ∷ ds) =
    let rest = all_count worth ds in
    let here = one_of (worth d) in
    omega (
      arith,
      rest,
      here,
      sum_by-cons (λ x. cond {A = ℕ} (is_some (worth x)) 1 0) d ds,
      sum_by-cons (λ x. cond {A = ℕ} (is_none (worth x)) 1 0) d ds,
    )
  where
    one_of : (o : Option ℕ) → cond {A = ℕ} (is_some o) 1 0 + cond (is_none o) 1 0 ≡ 1
    one_of (Some v) = refl
    one_of None = refl

module _ (flow : List Definition) (values : List (Option ℕ)) (long : length values ≡ length flow)
    (same : (i : ℕ) (d : Definition) → slice_get flow i ≡ Some d → value_at values i ≡ value flow (name_of d)) where
  -- as many values are stored as definitions have one
  pub done_is : count_by (λ v. is_some v) values ≡ done_in flow
  done_is = some_count (λ d. value flow (name_of d)) flow values long same

  -- at most as many values are stored as there are definitions
  pub done_few : count_by (λ v. is_some v) values ≤ length flow
  done_few = omega (arith, done_is, all_count (λ d. value flow (name_of d)) flow)

  -- definitions without a value are those that wait
  pub waits_is : length flow - count_by (λ v. is_some v) values ≡ waits_in flow
  waits_is = omega (arith, done_is, all_count (λ d. value flow (name_of d)) flow)

  -- all lines and the last make the output
  pub text_is : (text : List ℕ) (place done waits : ℕ) → length flow ≤ place → text ≡ flat_map (line_of flow) (take place flow) →
      done ≡ count_by (λ v. is_some v) values → waits ≡ length flow - done → text ++ ends_with done waits ≡ flow_text flow
  text_is text place done waits past lines counts left =
      let done_same : done ≡ done_in flow = counts ∙ done_is in
      let waits_same : waits ≡ waits_in flow = left ∙ ap (λ n. length flow - n) counts ∙ waits_is in
      ap (λ (t : List ℕ). t ++ ends_with done waits) (lines ∙ ap (flat_map (line_of flow)) (take_all place flow past))
      ∙ ap (λ n. flat_map (line_of flow) flow ++ ends_with n waits) done_same
      ∙ ap (λ n. flat_map (line_of flow) flow ++ ends_with (done_in flow) n) waits_same
      ∙ grouped (flat_map (line_of flow) flow) (codes "done ") (decimal (done_in flow)) (codes " waits ")
      (decimal (waits_in flow)) (codes "\n")
    where
      grouped : (a b c d e f : List ℕ) → a ++ ((((b ++ c) ++ d) ++ e) ++ f) ≡ ((((a ++ b) ++ c) ++ d) ++ e) ++ f
      grouped a b c d e f = simp append_assoc
