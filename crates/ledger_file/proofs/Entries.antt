-- The reader of entries reads exactly the words of entries.
use Rattle.std.proofs.Common.{◌≡◌, ℕ, List, [], ◌∷◌, ◌++◌, refl, sym, ap, subst, ◌∙◌, Some, None, Option, append_assoc, Bool, true, false}
use Rattle.std.proofs.Common.{cond}
use Rattle.std.proofs.lemmas.List.{append-nil}
use Rattle.std.specs.Prelude.{codes}
use Rattle.std.specs.List.{AllByRecursion}
use Rattle.std.specs.Str.{bytes_eq}
use Rattle.bag_ledger.specs.declared.entries.Entry.{Entry}
use Rattle.bag_ledger.specs.declared.entries.Entry.TheVariants as of
use Rattle.ledger_file.specs.declared.names.Name.{Name}
use Rattle.ledger_file.specs.declared.names.Name.TheVariants as name
use Rattle.ledger_file.specs.Fields.{Field, u32, u64, word, IsWithin}
use Rattle.ledger_file.specs.Lines.{row, words, IsEntry}
use Rattle.ledger_file.specs.inside.Names.{name_word, all_names, name_in, name_of}
use Rattle.adlb_unit.specs.declared.names.Rank.{Rank}
use Rattle.ledger_file.specs.inside.Reading.{onward, next, first, with_rest, value, whole, with_call, call_in, length_in, number_in}
use Rattle.ledger_file.specs.inside.Reading.{rank_of, server_of, kind_of, unit_of, batch_of}
use Rattle.ledger_file.specs.inside.Rows.{read_row, named, read_entry, read_numbers, read_sizes}
use Rattle.ledger_file.proofs.Bytes.{same_bytes}
use Rattle.ledger_file.proofs.Readers.{Reads, length_reads, number_reads, prio_reads, pair_reads, target_reads, answer_reads, top_reads}
use Rattle.ledger_file.proofs.Readers.{types_reads, bytes_reads, end_reads}

-- what reads on after the words of the front, and then gives a value, gives the value of these words and those that it has read
pub record Goes {E : Type 0} (spelt : E → List ℕ × List Field) (front : List (List ℕ))
    (k : List (List ℕ) → Option (E × List (List ℕ))) : Type 0 where
  pub value : (ws left : List (List ℕ)) (e : E) → k ws ≡ Some (e, left) → AllByRecursion IsWithin (spelt e).1
      × (words (spelt e) ++ left ≡ front ++ ws)

some_is : {A : Type 0} {x y : A} → Some x ≡ Some y → x ≡ y
some_is e = cc

-- a rank and a number are read one after the other
unfolded : {E : Type 0} (k : Rank → ℕ → List (List ℕ) → Option E) (o : Option (ℕ × List (List ℕ)))
    → onward (λ (x : ℕ × ℕ). k (rank_of x.0) x.1) (onward (λ rank vs. onward (λ call us. Some ((rank, call), us)) (first number_in vs)) o)
    ≡ onward (λ rank vs. onward (k (rank_of rank)) (first number_in vs)) o
unfolded k None = refl
unfolded k (Some x) = second x.0 (first number_in x.1)
  where
    second : (rank : ℕ) (o : Option (ℕ × List (List ℕ)))
        → onward (λ (x : ℕ × ℕ). k (rank_of x.0) x.1) (onward (λ call us. Some ((rank, call), us)) o) ≡ onward (k (rank_of rank)) o
    second rank None = refl
    second rank (Some y) = refl

with_call_is : {E : Type 0} (k : Rank → ℕ → List (List ℕ) → Option E) (ws : List (List ℕ))
    → with_call k ws ≡ next length_in (λ rank. next number_in (k (rank_of rank))) ws
unfolding call_in
with_call_is k ws = unfolded k (first length_in ws)

call_again : (rank : Rank) (call : ℕ) (ws : List (List ℕ)) → IsWithin (u32 rank.0) → IsWithin (u64 call)
    → call_in (word (u32 rank.0) ∷ word (u64 call) ∷ ws) ≡ Some ((rank.0, call), ws)
unfolding call_in
call_again rank call ws r c = rw (length_reads.again rank.0 r, number_reads.again call c) refl

module _ {E : Type 0} (spelt : E → List ℕ × List Field) where
  pub value_goes : (front : List (List ℕ)) (e : E) → AllByRecursion IsWithin (spelt e).1 → words (spelt e) ≡ front
      → Goes spelt front (value e)
  value_goes front e inside same = record { value = λ ws left x is. at_end ws left x (some_is is) }
    where
      at_end : (ws left : List (List ℕ)) (x : E) → ◌≡◌ {A = E × List (List ℕ)} (e, ws) (x, left)
          → AllByRecursion IsWithin (spelt x).1 × (words (spelt x) ++ left ≡ front ++ ws)
      at_end ws left x is = let here : E × List (List ℕ) → Type 0 = λ y. AllByRecursion IsWithin (spelt y.0).1
          × (words (spelt y.0) ++ y.1 ≡ front ++ ws) in subst here is (inside, ap (λ (v : List (List ℕ)). v ++ ws) same)

  pub next_goes : {A : Type 0} {field : A → Field} {read : List ℕ → Option A} → Reads field read → (front : List (List ℕ)) (k : A
      → List (List ℕ) → Option (E × List (List ℕ))) → ((a : A) → IsWithin (field a) → Goes spelt (front ++ word (field a) ∷ []) (k a))
      → Goes spelt front (next read k)
  next_goes {A} {field} {read} reads front k then = record { value = λ ws left e. at_first ws left e }
    where
      after : (w : List ℕ) (ws left : List (List ℕ)) (e : E) (o : Option A) → read w ≡ o → onward k (with_rest ws o) ≡ Some (e, left)
          → AllByRecursion IsWithin (spelt e).1 × (words (spelt e) ++ left ≡ front ++ w ∷ ws)
      after w ws left e None r is = absurd cc
      after w ws left e (Some a) r is =
          let found = reads.sound w a r in
          let rest = (then a found.0).value ws left e is in
          (rest.0, rest.1 ∙ append_assoc front (word (field a) ∷ []) ws ∙ ap (λ (v : List ℕ). front ++ v ∷ ws) (sym found.1))

      at_first : (ws left : List (List ℕ)) (e : E) → next read k ws ≡ Some (e, left)
          → AllByRecursion IsWithin (spelt e).1 × (words (spelt e) ++ left ≡ front ++ ws)
      at_first [] left e is = absurd cc
      at_first (w ∷ ws) left e is = after w ws left e (read w) refl is

  pub call_goes : (front : List (List ℕ)) (k : Rank → ℕ → List (List ℕ) → Option (E × List (List ℕ))) → ((rank : Rank)
      → IsWithin (u32 rank.0) → (call : ℕ)
      → IsWithin (u64 call) → Goes spelt ((front ++ word (u32 rank.0) ∷ []) ++ word (u64 call) ∷ []) (k rank call))
      → Goes spelt front (with_call k)
  call_goes front k then = record {
    value = λ ws left e is. (next_goes length_reads front _ (λ rank r. next_goes number_reads _ _ (λ call c. then (rank_of rank) r call
        c))).value ws left e (sym (with_call_is k ws) ∙ is);
  }

-- each reader of a name
row_goes : (n : Name) → Goes row (name_word n ∷ []) (read_row n)
row_goes name.Putting =
    call_goes row _ _ (λ rank h0 call h1. next_goes row length_reads _ _ (λ kind h2. next_goes row prio_reads _ _ (λ prio h3.
    next_goes row target_reads _ _ (λ target h4. next_goes row answer_reads _ _ (λ answer h5.
    next_goes row bytes_reads _ _ (λ bytes h6. value_goes row _ (of.Putting rank call (kind_of kind) prio target answer bytes)
    (h0, (h1, (h2, (h3, (h4, (h5, (h6, tt))))))) refl))))))
row_goes name.Refused =
    next_goes row length_reads _ _ (λ server h0. next_goes row pair_reads _ _ (λ unit h1. next_goes row number_reads _ _ (λ used h2.
    value_goes row _ (of.Refused (server_of server) (unit_of unit) used) (h0, (h1, (h2, tt))) refl)))
row_goes name.Accepted =
    next_goes row length_reads _ _ (λ server h0. next_goes row pair_reads _ _ (λ unit h1.
    value_goes row _ (of.Accepted (server_of server) (unit_of unit)) (h0, (h1, tt)) refl))
row_goes name.Rejected = call_goes row _ _ (λ rank h0 call h1. value_goes row _ (of.Rejected rank call) (h0, (h1, tt)) refl)
row_goes name.Keeping =
    call_goes row _ _ (λ rank h0 call h1. next_goes row bytes_reads _ _ (λ common h2. value_goes row _ (of.Keeping rank call common)
    (h0, (h1, (h2, tt))) refl))
row_goes name.Kept =
    next_goes row length_reads _ _ (λ server h0. next_goes row pair_reads _ _ (λ batch h1.
    value_goes row _ (of.Kept (server_of server) (batch_of batch)) (h0, (h1, tt)) refl))
row_goes name.Closing = call_goes row _ _ (λ rank h0 call h1. value_goes row _ (of.Closing rank call) (h0, (h1, tt)) refl)
row_goes name.Closed =
    next_goes row length_reads _ _ (λ server h0. next_goes row pair_reads _ _ (λ batch h1.
    value_goes row _ (of.Closed (server_of server) (batch_of batch)) (h0, (h1, tt)) refl))
row_goes name.Freed =
    next_goes row length_reads _ _ (λ server h0. next_goes row pair_reads _ _ (λ batch h1.
    value_goes row _ (of.Freed (server_of server) (batch_of batch)) (h0, (h1, tt)) refl))
row_goes name.Asked =
    call_goes row _ _ (λ rank h0 call h1. next_goes row types_reads _ _ (λ types h2. value_goes row _ (of.Asked rank call types)
    (h0, (h1, (h2, tt))) refl))
row_goes name.Tried =
    call_goes row _ _ (λ rank h0 call h1. next_goes row types_reads _ _ (λ types h2. value_goes row _ (of.Tried rank call types)
    (h0, (h1, (h2, tt))) refl))
row_goes name.Granted =
    next_goes row length_reads _ _ (λ server h0. call_goes row _ _ (λ rank h1 call h2. next_goes row pair_reads _ _ (λ unit h3.
    value_goes row _ (of.Granted (server_of server) rank call (unit_of unit)) (h0, (h1, (h2, (h3, tt)))) refl)))
row_goes name.Looked =
    next_goes row length_reads _ _ (λ server h0. call_goes row _ _ (λ rank h1 call h2.
    value_goes row _ (of.Looked (server_of server) rank call) (h0, (h1, (h2, tt))) refl))
row_goes name.NoCurrent = call_goes row _ _ (λ rank h0 call h1. value_goes row _ (of.NoCurrent rank call) (h0, (h1, tt)) refl)
row_goes name.Fetching =
    call_goes row _ _ (λ rank h0 call h1. next_goes row pair_reads _ _ (λ unit h2.
    value_goes row _ (of.Fetching rank call (unit_of unit)) (h0, (h1, (h2, tt))) refl))
row_goes name.Fetched =
    next_goes row length_reads _ _ (λ server h0. next_goes row length_reads _ _ (λ rank h1. next_goes row pair_reads _ _ (λ unit h2.
    value_goes row _ (of.Fetched (server_of server) (rank_of rank) (unit_of unit)) (h0, (h1, (h2, tt))) refl)))
row_goes name.CommonFetched =
    next_goes row length_reads _ _ (λ server h0. next_goes row length_reads _ _ (λ rank h1. next_goes row pair_reads _ _ (λ batch h2.
    value_goes row _ (of.CommonFetched (server_of server) (rank_of rank) (batch_of batch)) (h0, (h1, (h2, tt))) refl)))
row_goes name.Promised =
    next_goes row length_reads _ _ (λ server h0. next_goes row pair_reads _ _ (λ unit h1. next_goes row length_reads _ _ (λ length h2.
    value_goes row _ (of.Promised (server_of server) (unit_of unit) length) (h0, (h1, (h2, tt))) refl)))
row_goes name.Left =
    next_goes row length_reads _ _ (λ server h0. next_goes row length_reads _ _ (λ to h1. next_goes row pair_reads _ _ (λ unit h2.
    value_goes row _ (of.Left (server_of server) (server_of to) (unit_of unit)) (h0, (h1, (h2, tt))) refl)))
row_goes name.Arrived =
    next_goes row length_reads _ _ (λ server h0. next_goes row pair_reads _ _ (λ unit h1.
    value_goes row _ (of.Arrived (server_of server) (unit_of unit)) (h0, (h1, tt)) refl))
row_goes name.Withdrawn =
    next_goes row length_reads _ _ (λ server h0. next_goes row pair_reads _ _ (λ unit h1.
    value_goes row _ (of.Withdrawn (server_of server) (unit_of unit)) (h0, (h1, tt)) refl))
row_goes name.Counting =
    call_goes row _ _ (λ rank h0 call h1. next_goes row length_reads _ _ (λ kind h2.
    value_goes row _ (of.Counting rank call (kind_of kind)) (h0, (h1, (h2, tt))) refl))
row_goes name.Counted =
    next_goes row length_reads _ _ (λ server h0. call_goes row _ _ (λ rank h1 call h2. next_goes row number_reads _ _ (λ free h3.
    next_goes row top_reads _ _ (λ top h4. next_goes row number_reads _ _ (λ at_top h5.
    value_goes row _ (of.Counted (server_of server) rank call (record { free = free; top = top; at_top = at_top }))
    (h0, (h1, (h2, (h3, (h4, (h5, tt)))))) refl)))))
row_goes name.Done = call_goes row _ _ (λ rank h0 call h1. value_goes row _ (of.Done rank call) (h0, (h1, tt)) refl)
row_goes name.Exhausted = value_goes row _ of.Exhausted tt refl
row_goes name.Over =
    call_goes row _ _ (λ rank h0 call h1. next_goes row end_reads _ _ (λ ending h2. value_goes row _ (of.Over rank call ending)
    (h0, (h1, (h2, tt))) refl))
row_goes name.Finished = call_goes row _ _ (λ rank h0 call h1. value_goes row _ (of.Finished rank call) (h0, (h1, tt)) refl)

-- what is written of an entry is read as it
pub entry_again : (e : Entry) → IsEntry e → read_entry (words (row e)) ≡ Some e
unfolding read_entry name_of
entry_again (of.Putting rank call kind prio target answer bytes) h =
    rw (
      call_again rank call _ h.0 h.1.0,
      length_reads.again kind.0 h.1.1.0,
      prio_reads.again prio h.1.1.1.0,
      target_reads.again target h.1.1.1.1.0,
      answer_reads.again answer h.1.1.1.1.1.0,
      bytes_reads.again bytes h.1.1.1.1.1.1.0,
    ) refl
entry_again (of.Refused server unit used) h =
    rw (length_reads.again server.0 h.0, pair_reads.again (unit.rank.0, unit.number) h.1.0, number_reads.again used h.1.1.0) refl
entry_again (of.Accepted server unit) h = rw (length_reads.again server.0 h.0, pair_reads.again (unit.rank.0, unit.number) h.1.0) refl
entry_again (of.Rejected rank call) h = rw (call_again rank call _ h.0 h.1.0) refl
entry_again (of.Keeping rank call common) h = rw (call_again rank call _ h.0 h.1.0, bytes_reads.again common h.1.1.0) refl
entry_again (of.Kept server batch) h = rw (length_reads.again server.0 h.0, pair_reads.again (batch.rank.0, batch.number) h.1.0) refl
entry_again (of.Closing rank call) h = rw (call_again rank call _ h.0 h.1.0) refl
entry_again (of.Closed server batch) h = rw (length_reads.again server.0 h.0, pair_reads.again (batch.rank.0, batch.number) h.1.0) refl
entry_again (of.Freed server batch) h = rw (length_reads.again server.0 h.0, pair_reads.again (batch.rank.0, batch.number) h.1.0) refl
entry_again (of.Asked rank call types) h = rw (call_again rank call _ h.0 h.1.0, types_reads.again types h.1.1.0) refl
entry_again (of.Tried rank call types) h = rw (call_again rank call _ h.0 h.1.0, types_reads.again types h.1.1.0) refl
entry_again (of.Granted server rank call unit) h =
    rw (
      length_reads.again server.0 h.0,
      call_again rank call _ h.1.0 h.1.1.0,
      pair_reads.again (unit.rank.0, unit.number) h.1.1.1.0,
    ) refl
entry_again (of.Looked server rank call) h = rw (length_reads.again server.0 h.0, call_again rank call _ h.1.0 h.1.1.0) refl
entry_again (of.NoCurrent rank call) h = rw (call_again rank call _ h.0 h.1.0) refl
entry_again (of.Fetching rank call unit) h =
    rw (call_again rank call _ h.0 h.1.0, pair_reads.again (unit.rank.0, unit.number) h.1.1.0) refl
entry_again (of.Fetched server rank unit) h =
    rw (length_reads.again server.0 h.0, length_reads.again rank.0 h.1.0, pair_reads.again (unit.rank.0, unit.number) h.1.1.0) refl
entry_again (of.CommonFetched server rank batch) h =
    rw (length_reads.again server.0 h.0, length_reads.again rank.0 h.1.0, pair_reads.again (batch.rank.0, batch.number) h.1.1.0) refl
entry_again (of.Promised server unit length) h =
    rw (length_reads.again server.0 h.0, pair_reads.again (unit.rank.0, unit.number) h.1.0, length_reads.again length h.1.1.0) refl
entry_again (of.Left server to unit) h =
    rw (length_reads.again server.0 h.0, length_reads.again to.0 h.1.0, pair_reads.again (unit.rank.0, unit.number) h.1.1.0) refl
entry_again (of.Arrived server unit) h = rw (length_reads.again server.0 h.0, pair_reads.again (unit.rank.0, unit.number) h.1.0) refl
entry_again (of.Withdrawn server unit) h = rw (length_reads.again server.0 h.0, pair_reads.again (unit.rank.0, unit.number) h.1.0) refl
entry_again (of.Counting rank call kind) h = rw (call_again rank call _ h.0 h.1.0, length_reads.again kind.0 h.1.1.0) refl
entry_again (of.Counted server rank call info) h =
    rw (
      length_reads.again server.0 h.0,
      call_again rank call _ h.1.0 h.1.1.0,
      number_reads.again info.free h.1.1.1.0,
      top_reads.again info.top h.1.1.1.1.0,
      number_reads.again info.at_top h.1.1.1.1.1.0,
    ) refl
entry_again (of.Done rank call) h = rw (call_again rank call _ h.0 h.1.0) refl
entry_again of.Exhausted h = refl
entry_again (of.Over rank call ending) h = rw (call_again rank call _ h.0 h.1.0, end_reads.again ending h.1.1.0) refl
entry_again (of.Finished rank call) h = rw (call_again rank call _ h.0 h.1.0) refl

-- a name that is found has the word
found_first : (m : Name) (w : List ℕ) (n : Name) (o : Option Name) (b : Bool) → bytes_eq (name_word m) w ≡ b → (o ≡ Some n
    → name_word n ≡ w) → cond b (Some m) o ≡ Some n → name_word n ≡ w
found_first m w n o true test later is = ap name_word (sym (some_is is)) ∙ same_bytes (name_word m) w test
found_first m w n o false test later is = later is

name_found : (names : List Name) (w : List ℕ) (n : Name) → name_in names w ≡ Some n → name_word n ≡ w
name_found [] w n is = absurd cc
name_found (m ∷ names) w n is = found_first m w n (name_in names w) (bytes_eq (name_word m) w) refl (name_found names w n) is

-- what is read with no word left
all_read : {E : Type 0} (o : Option (E × List (List ℕ))) (e : E) → onward whole o ≡ Some e → o ≡ Some (e, [])
all_read None e is = absurd cc
all_read (Some (x, [])) e is = ap (λ (y : _). Some (y, [])) (some_is is)
all_read (Some (x, w ∷ ws)) e is = absurd cc

-- what is read as an entry is written so
pub entry_sound : (ws : List (List ℕ)) (e : Entry) → read_entry ws ≡ Some e → IsEntry e × (words (row e) ≡ ws)
unfolding read_entry name_of
entry_sound [] e is = absurd cc
entry_sound (w ∷ ws) e is = of_name (name_of w) refl is
  where
    of_name : (o : Option Name) → name_in all_names w ≡ o → named ws o ≡ Some e → IsEntry e × (words (row e) ≡ w ∷ ws)
    of_name None found here = absurd cc
    of_name (Some n) found here =
        let rest = (row_goes n).value ws [] e (all_read (read_row n ws) e here) in
        (rest.0, sym (append-nil (words (row e))) ∙ rest.1 ∙ ap (λ (v : List ℕ). v ∷ ws) (name_found all_names w n found))

-- the numbers of a first line
abbrev pub sizes_row : ℕ × ℕ × ℕ → List ℕ × List Field
sizes_row x = (codes "ledger", u32 x.0 ∷ u32 x.1 ∷ u64 x.2 ∷ [])

pub sizes_again : (x : ℕ × ℕ × ℕ) → AllByRecursion IsWithin (sizes_row x).1 → read_sizes (words (sizes_row x)) ≡ Some x
unfolding read_sizes
sizes_again (r, s, l) h = rw (length_reads.again r h.0, length_reads.again s h.1.0, number_reads.again l h.1.1.0) refl

numbers_go : Goes sizes_row (codes "ledger" ∷ []) read_numbers
numbers_go = next_goes sizes_row length_reads _ _ (λ r h. next_goes sizes_row length_reads _ _
    (λ s i. next_goes sizes_row number_reads _ _ (λ l j. value_goes sizes_row _ (r, s, l) (h, (i, (j, tt))) refl)))

pub sizes_sound : (ws : List (List ℕ)) (x : ℕ × ℕ × ℕ) → read_sizes ws ≡ Some x → AllByRecursion IsWithin (sizes_row x).1
    × (words (sizes_row x) ≡ ws)
unfolding read_sizes
sizes_sound [] x is = absurd cc
sizes_sound (w ∷ ws) x is = at_test (bytes_eq w (codes "ledger")) refl is
  where
    at_test : (b : Bool) → bytes_eq w (codes "ledger") ≡ b → cond b (onward whole (read_numbers ws)) None ≡ Some x
        → AllByRecursion IsWithin (sizes_row x).1 × (words (sizes_row x) ≡ w ∷ ws)
    at_test true test here =
        let rest = numbers_go.value ws [] x (all_read (read_numbers ws) x here) in
        (rest.0, sym (append-nil (words (sizes_row x))) ∙ rest.1 ∙ ap (λ (v : List ℕ). v ∷ ws) (sym (same_bytes w (codes "ledger") test)))
    at_test false test here = absurd cc
