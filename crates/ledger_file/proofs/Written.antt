-- What is written of a list, piece by piece.
use Rattle.std.proofs.Common.{◌≡◌, ℕ, ◌-◌, ◌≤◌, List, [], ◌∷◌, ◌++◌, length, get_or, take, drop, map, refl, sym, ap, ◌∙◌, append_assoc}
use Rattle.std.proofs.Common.{arith}
use Rattle.std.specs.List.{AllByRecursion, flat_map, join_with_byte}
use Rattle.std.proofs.lemmas.Grind.{flat_map-append}
use Rattle.std.proofs.lemmas.List.{take-append-drop, take_all}
use Rattle.std.proofs.lemmas.List.Elements.{All-append, All-from_recursion, All-same, recursion_from_All}
use Rattle.bag_ledger.specs.declared.entries.Entry.{Entry}
use Rattle.ledger_file.specs.declared.fields.Field.{Field}
use Rattle.ledger_file.specs.Fields.{Field as Spelt, IsWithin, word}
use Rattle.ledger_file.specs.Lines.{IsEntry, row, line}
use Rattle.ledger_file.specs.inside.Given.{field_of, fields_of, heads, spaced, what, who}
use Rattle.ledger_file.proofs.Bytes.{joined_is}

-- a list whose first was written, and then the others after the byte k
pub list_written : {X : Type 0} (f : X → List ℕ) (k : ℕ) (old mid out : List ℕ) (xs : List X) (d : X) (rest : List X) (i : ℕ)
    → 1 ≤ length xs → rest ≡ take (length xs - 1) (drop 1 xs) → mid ≡ old ++ f (get_or xs 0 d)
    → out ≡ mid ++ flat_map (λ x. k ∷ f x) (take i rest) → length rest ≤ i → out ≡ old ++ join_with_byte k (map f xs)
list_written f k old mid out [] d rest i some others first so_far all = absurd (omega arith)
list_written f k old mid out (x ∷ xs) d rest i some others first so_far all =
    let same : rest ≡ xs = others ∙ take_all (length (x ∷ xs) - 1) xs (omega arith) in
    let whole : take i rest ≡ xs = take_all i rest all ∙ same in
    so_far ∙ ap (λ (v : List ℕ). v ++ flat_map (λ y. k ∷ f y) (take i rest)) first
    ∙ ap (λ (ys : List _). (old ++ f x) ++ flat_map (λ y. k ∷ f y) ys) whole
    ∙ append_assoc old (f x) (flat_map (λ y. k ∷ f y) xs) ∙ ap (λ (v : List ℕ). old ++ v) (sym (joined_is f k (f x) xs))

-- fields that were written, each after a blank
spaced_is : (fs : List Field) → flat_map (λ f. 32 ∷ word (field_of f)) fs ≡ spaced (fields_of fs)
spaced_is [] = refl
spaced_is (f ∷ fs) = ap (λ (v : List ℕ). (32 ∷ word (field_of f)) ++ v) (spaced_is fs)

pub fields_written : (old out : List ℕ) (fs : List Field) (i : ℕ) → length fs ≤ i
    → out ≡ old ++ flat_map (λ f. 32 ∷ word (field_of f)) (take i fs) → out ≡ old ++ spaced (fields_of fs)
fields_written old out fs i all so_far = so_far
    ∙ ap (λ (gs : List Field). old ++ flat_map (λ f. 32 ∷ word (field_of f)) gs) (take_all i fs all)
    ∙ ap (λ (v : List ℕ). old ++ v) (spaced_is fs)

-- a line whose name was written, and then the fields, and a line feed
pub line_written : (old start mid out name : List ℕ) (fs : List Spelt) → start ≡ old ++ name → mid ≡ start ++ spaced fs
    → out ≡ mid ++ 10 ∷ [] → out ≡ old ++ line (name, fs)
line_written old start mid out name fs begun so_far ended =
    ended
    ∙ ap (λ (v : List ℕ). v ++ 10 ∷ []) (so_far ∙ ap (λ (v : List ℕ). v ++ spaced fs) begun ∙ append_assoc old name (spaced fs)
    ∙ ap (λ (v : List ℕ). old ++ v) (sym (joined_is word 32 name fs)))
    ∙ append_assoc old (join_with_byte 32 (name ∷ map word fs)) (10 ∷ [])

-- the line of an entry, whose fields are written in two parts
pub entry_written : (old start mid behind out name : List ℕ) (e : Entry) → name ≡ (row e).0 → start ≡ old ++ name
    → mid ≡ start ++ spaced (who e) → behind ≡ mid ++ spaced (what e) → out ≡ behind ++ 10 ∷ [] → out ≡ old ++ line (row e)
entry_written old start mid behind out name e is begun first then ended =
    let fields : behind ≡ start ++ spaced (row e).1 = then ∙ ap (λ (v : List ℕ). v ++ spaced (what e)) first
    ∙ append_assoc start (spaced (who e)) (spaced (what e))
    ∙ ap (λ (v : List ℕ). start ++ v) (sym (flat_map-append (λ f. 32 ∷ word f) (who e) (what e)))
    ∙ ap (λ (fs : List Spelt). start ++ spaced fs) (take-append-drop (heads e) (row e).1) in
    line_written old start behind out (row e).0 (row e).1 (begun ∙ ap (λ (v : List ℕ). old ++ v) is) fields ended

-- an entry of whose fields both parts are in range
pub entry_within : (e : Entry) → AllByRecursion IsWithin (who e) → AllByRecursion IsWithin (what e) → IsEntry e
entry_within e first then =
    recursion_from_All IsWithin (row e).1 (All-same IsWithin (row e).1 _ (sym (take-append-drop (heads e) (row e).1))
    (All-append IsWithin (who e) (what e) (All-from_recursion IsWithin (who e) first) (All-from_recursion IsWithin (what e) then)))
