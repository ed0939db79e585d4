-- Texts of configurations and ledgers: what two of them that begin alike have in common.
use Rattle.std.proofs.Common.{◌≡◌, ◌≢◌, ℕ, ◌+◌, ◌<◌, ◌^◌, true, List, [], ◌∷◌, ◌++◌, length, map, Some, None, refl, sym, ap, subst, ◌∙◌}
use Rattle.std.proofs.Common.{append_assoc, arith}
use Rattle.std.specs.List.{AllByRecursion, join_with_byte}
use Rattle.std.proofs.lemmas.Bool.{lt-ltb}
use Rattle.std.proofs.lemmas.List.{append_cancel_left, append-nil}
use Rattle.std.proofs.Math.Bridge.{le_prop}
use Rattle.std.proofs.lemmas.List.Splits.{join_with_byte-slice_split}
use Rattle.adlb_unit.specs.Limits.{InRanks, InServers, InLimit}
use Rattle.adlb_unit.specs.declared.configs.Config.{Config}
use Rattle.bag_ledger.specs.declared.entries.Entry.{Entry}
use Rattle.bag_ledger.specs.declared.entries.Entry.TheVariants as of
use Rattle.ledger_file.specs.Fields.{Field, word, IsWithin}
use Rattle.ledger_file.specs.Lines.{row, words, line, first_row, last_row, lines, open_text, text, IsEntry, AreEntries, IsText}
use Rattle.ledger_file.specs.Lines.{BeginsWithEntry, BeginsWithEnd, IsFirstBad, no_first, no_next, behind}
use Rattle.ledger_file.specs.inside.Names.{name_of}
use Rattle.ledger_file.specs.inside.Reading.{free, parts_of}
use Rattle.ledger_file.specs.inside.Rows.{read_entry, read_sizes}
use Rattle.ledger_file.proofs.Bytes.{above, above_free, AllAbove, all_above_less, split_joined, joined_above, same_front}
use Rattle.ledger_file.proofs.Plain.{fields_plain}
use Rattle.ledger_file.proofs.Entries.{entry_again, sizes_again}

some_is : {A : Type 0} {x y : A} → Some x ≡ Some y → x ≡ y
some_is e = cc

-- a line without its line feed
abbrev pub joined : List ℕ × List Field → List ℕ
joined x = join_with_byte 32 (words x)

pub name_plain : (e : Entry) → above 32 (row e).0 ≡ true
name_plain of.Exhausted = refl
name_plain _ = refl

pub entry_plain : (e : Entry) → AllAbove 32 (words (row e))
entry_plain e = (name_plain e, fields_plain (row e).1)

pub first_plain : (c : Config) → AllAbove 32 (words (first_row c))
first_plain c = (refl, fields_plain (first_row c).1)

pub last_plain : (n : ℕ) → AllAbove 32 (words (last_row n))
last_plain n = (refl, fields_plain (last_row n).1)

-- a line of plain words has no line feed, and its words come apart
pub no_feed : (x : List ℕ × List Field) → AllAbove 32 (words x) → free 10 (joined x) ≡ true
no_feed x p = above_free 10 (joined x) (joined_above 10 32 x.0 (map word x.1) refl (all_above_less 10 32 (words x) (omega arith) p))

pub words_back : (x : List ℕ × List Field) → AllAbove 32 (words x) → parts_of 32 (joined x) ≡ words x
words_back x p = split_joined 32 x.0 (map word x.1) p

pub joined_back : (x : List ℕ × List Field) (text : List ℕ) → words x ≡ parts_of 32 text → joined x ≡ text
joined_back x text e = ap (join_with_byte 32) e ∙ join_with_byte-slice_split 32 text

pub line_then : (x : List ℕ × List Field) (rest : List ℕ) → line x ++ rest ≡ joined x ++ 10 ∷ rest
line_then x rest = append_assoc (joined x) (10 ∷ []) rest

-- lists that begin with lines begin with the same line
pub same_line : (x y : List ℕ × List Field) (a b : List ℕ) → AllAbove 32 (words x) → AllAbove 32 (words y) → line x ++ a ≡ line y ++ b
    → (words x ≡ words y) × (a ≡ b)
same_line x y a b p q e =
    let front = same_front 10 (joined x) (joined y) a b (no_feed x p) (no_feed y q) (sym (line_then x a) ∙ e ∙ line_then y b) in
    (sym (words_back x p) ∙ ap (parts_of 32) front.0 ∙ words_back y q, front.1)

-- words are those of one entry at most, and the words of an end are those of none
same_entry : (e f : Entry) → IsEntry e → IsEntry f → words (row e) ≡ words (row f) → e ≡ f
same_entry e f inside there same = some_is (sym (entry_again e inside) ∙ ap read_entry same ∙ entry_again f there)

end_is_none : (n : ℕ) → read_entry (words (last_row n)) ≡ None
unfolding read_entry name_of
end_is_none n = refl

not_end : (e : Entry) (n : ℕ) → IsEntry e → words (row e) ≡ words (last_row n) → ⊥
not_end e n inside same = let no : Some e ≡ None = sym (entry_again e inside) ∙ ap read_entry same ∙ end_is_none n in absurd cc

pub end_begins_no_entry : (n : ℕ) (rest : List ℕ) → BeginsWithEntry (line (last_row n) ++ rest) → ⊥
end_begins_no_entry n rest b = not_end b.0 n b.2 (sym (same_line (last_row n) (row b.0) rest b.1 (last_plain n) (entry_plain b.0) b.3).0)

-- two configurations of the same numbers are one
pub config_within : (c : Config) → AllByRecursion IsWithin (first_row c).1
config_within c =
    let ranks = c.ranks_within in
    let servers = c.servers_within in
    let limit = c.limit_within in
    (lt-ltb c.ranks (2 ^ 32) (omega arith), (lt-ltb c.servers (2 ^ 32) (omega arith), (lt-ltb c.limit (2 ^ 64) (omega arith), tt)))

abbrev build : (ranks servers limit : ℕ) → InRanks ranks → InServers servers → InLimit limit → Config
build ranks servers limit r s l = record {
  ranks = ranks;
  servers = servers;
  limit = limit;
  ranks_within = r;
  servers_within = s;
  limit_within = l;
}

ranks_once : (n : ℕ) → IsProp (InRanks n)
ranks_once n = hlevel (le_prop)

servers_once : (n : ℕ) → IsProp (InServers n)
servers_once n = hlevel (le_prop)

limit_once : (n : ℕ) → IsProp (InLimit n)
limit_once n = hlevel (le_prop)

pub same_config : (c d : Config) → c.ranks ≡ d.ranks → c.servers ≡ d.servers → c.limit ≡ d.limit → c ≡ d
same_config c d p q r =
    let by_ranks : ℕ → Type 0 = λ n. (h : InRanks n) → c ≡ build n c.servers c.limit h c.servers_within c.limit_within in
    let by_servers : ℕ → Type 0 = λ n. (h : InServers n) → c ≡ build d.ranks n c.limit d.ranks_within h c.limit_within in
    let by_limit : ℕ → Type 0 = λ n. (h : InLimit n) → c ≡ build d.ranks d.servers n d.ranks_within d.servers_within h in
    let one = subst by_ranks p (λ h. ap (λ (x : InRanks c.ranks). build c.ranks c.servers c.limit x c.servers_within c.limit_within)
    (ranks_once c.ranks c.ranks_within h)) d.ranks_within in
    let two = subst by_servers q (λ h. one
    ∙ ap (λ (x : InServers c.servers). build d.ranks c.servers c.limit d.ranks_within x c.limit_within)
    (servers_once c.servers c.servers_within h)) d.servers_within in
    subst by_limit r (λ h. two
    ∙ ap (λ (x : InLimit c.limit). build d.ranks d.servers c.limit d.ranks_within d.servers_within x)
    (limit_once c.limit c.limit_within h)) d.limit_within

first_same : (c d : Config) → words (first_row c) ≡ words (first_row d) → c ≡ d
first_same c d same =
    let sizes : (c.ranks, c.servers, c.limit) ≡ (d.ranks, d.servers, d.limit) = some_is (sym (sizes_again (c.ranks, c.servers, c.limit)
    (config_within c)) ∙ ap read_sizes same ∙ sizes_again (d.ranks, d.servers, d.limit) (config_within d)) in
    same_config c d (ap (λ (x : ℕ × ℕ × ℕ). x.0) sizes) (ap (λ (x : ℕ × ℕ × ℕ). x.1) sizes) (ap (λ (x : ℕ × ℕ × ℕ). x.2) sizes)

-- lines of entries, before lists that are alike: the same entries, or one list goes on with the line of an entry
pub data Fronts (l m : List Entry) (x y : List ℕ) : Type 0 where
  alike : l ≡ m → x ≡ y → Fronts l m x y
  left_goes_on : BeginsWithEntry x → length l < length m → Fronts l m x y
  right_goes_on : BeginsWithEntry y → length m < length l → Fronts l m x y

fronts_more : (e : Entry) (l m : List Entry) (x y : List ℕ) → Fronts l m x y → Fronts (e ∷ l) (e ∷ m) x y
fronts_more e l m x y (alike p q) = alike (ap (λ (k : List Entry). e ∷ k) p) q
fronts_more e l m x y (left_goes_on b lt) = left_goes_on b (omega arith)
fronts_more e l m x y (right_goes_on b lt) = right_goes_on b (omega arith)

first_line : (e : Entry) (l : List Entry) (x : List ℕ) → lines (e ∷ l) ++ x ≡ line (row e) ++ (lines l ++ x)
first_line e l x = append_assoc (line (row e)) (lines l) x

pub fronts : (l m : List Entry) (x y : List ℕ) → AreEntries l → AreEntries m → lines l ++ x ≡ lines m ++ y → Fronts l m x y
fronts [] [] x y p q e = alike refl e
fronts [] (f ∷ m) x y p q e = left_goes_on (f, (lines m ++ y), q.0, (e ∙ first_line f m y)) (omega arith)
fronts (e ∷ l) [] x y p q is = right_goes_on (e, (lines l ++ x), p.0, (sym is ∙ first_line e l x)) (omega arith)
fronts (e ∷ l) (f ∷ m) x y p q is =
    let both = same_line (row e) (row f) (lines l ++ x) (lines m ++ y) (entry_plain e) (entry_plain f) (sym (first_line e l x) ∙ is
    ∙ first_line f m y) in
    let same = same_entry e f p.0 q.0 both.0 in
    subst (λ (g : Entry). Fronts (e ∷ l) (g ∷ m) x y) same (fronts_more e l m x y (fronts l m x y p.1 q.1 both.1))

-- texts after their first lines
pub record Opened (c d : Config) (l m : List Entry) (x y : List ℕ) : Type 0 where
  pub config : c ≡ d
  pub entries : Fronts l m x y

pub opened : (c d : Config) (l m : List Entry) (x y : List ℕ) → AreEntries l → AreEntries m → open_text c l ++ x ≡ open_text d m ++ y
    → Opened c d l m x y
opened c d l m x y p q e =
    let whole = sym (append_assoc (line (first_row c)) (lines l) x) ∙ e ∙ append_assoc (line (first_row d)) (lines m) y in
    let both = same_line (first_row c) (first_row d) (lines l ++ x) (lines m ++ y) (first_plain c) (first_plain d) whole in
    record { config = first_same c d both.0; entries = fronts l m x y p q both.1 }

-- a text is an open text, and then the last line
text_then : (c : Config) (l : List Entry) (rest : List ℕ) → text c l ++ rest ≡ open_text c l ++ (line (last_row (length l)) ++ rest)
text_then c l rest = append_assoc (open_text c l) (line (last_row (length l))) rest

last_begins : (n : ℕ) → line (last_row n) ≡ line (last_row n) ++ []
last_begins n = sym (append-nil (line (last_row n)))

no_entry_at_end : (n : ℕ) → BeginsWithEntry (line (last_row n)) → ⊥
no_entry_at_end n b = end_begins_no_entry n [] (b.0, b.1, b.2, sym (last_begins n) ∙ b.3)

-- no text is that of two
pub no_text_of_two : (c d : Config) (l m : List Entry) (bytes : List ℕ) → IsText c l bytes → IsText d m bytes → (c ≡ d) × (l ≡ m)
no_text_of_two c d l m bytes p q =
    let both = opened c d l m (line (last_row (length l))) (line (last_row (length m))) p.within q.within (sym p.whole ∙ q.whole) in
    (both.config, same both.entries)
  where
    same : Fronts l m (line (last_row (length l))) (line (last_row (length m))) → l ≡ m
    same (alike e f) = e
    same (left_goes_on b lt) = absurd (no_entry_at_end (length l) b)
    same (right_goes_on b lt) = absurd (no_entry_at_end (length m) b)

-- what is refused is the text of none
module _ (c : Config) (l : List Entry) (bytes : List ℕ) (at : ℕ) (is : IsText c l bytes) where
  not_before_next : (d : Config) (m : List Entry) (rest : List ℕ) → AreEntries m → bytes ≡ open_text d m ++ rest → (BeginsWithEntry rest
      → ⊥) → (BeginsWithEnd (length m) rest → ⊥) → ⊥
  not_before_next d m rest q e entry end = clash (opened c d l m (line (last_row (length l))) rest is.within q (sym is.whole ∙ e)).entries
    where
      clash : Fronts l m (line (last_row (length l))) rest → ⊥
      clash (alike same after) = end ([], sym after ∙ ap (λ (k : List Entry). line (last_row (length k))) same ∙ last_begins (length m))
      clash (left_goes_on b lt) = no_entry_at_end (length l) b
      clash (right_goes_on b lt) = entry b

  not_before_more : (d : Config) (m : List Entry) (rest : List ℕ) → AreEntries m → bytes ≡ text d m ++ rest → rest ≢ [] → ⊥
  not_before_more d m rest q e some = clash (opened c d l m (line (last_row (length l))) (line (last_row
      (length m)) ++ rest) is.within q (sym is.whole ∙ e ∙ text_then d m rest)).entries
    where
      clash : Fronts l m (line (last_row (length l))) (line (last_row (length m)) ++ rest) → ⊥
      clash (alike same after) =
          let whole : line (last_row (length m)) ++ rest ≡ line (last_row (length m)) ++ [] = sym after
          ∙ ap (λ (k : List Entry). line (last_row (length k))) same ∙ last_begins (length m) in
          some (append_cancel_left (line (last_row (length m))) rest [] whole)
      clash (left_goes_on b lt) = no_entry_at_end (length l) b
      clash (right_goes_on b lt) = end_begins_no_entry (length m) rest b

  pub no_text : IsFirstBad bytes at → ⊥
  no_text (no_first none place) = none c (lines l ++ line (last_row (length l))) (is.whole
      ∙ append_assoc (line (first_row c)) (lines l) (line (last_row (length l))))
  no_text (no_next d m rest q e entry end place) = not_before_next d m rest q e entry end
  no_text (behind d m rest q e some place) = not_before_more d m rest q e some

-- no two lines are the first that is refused
module _ (bytes : List ℕ) where
  opens : (c : Config) (l : List Entry) (rest : List ℕ) → bytes ≡ open_text c l ++ rest → bytes ≡ line (first_row c) ++ (lines l ++ rest)
  opens c l rest e = e ∙ append_assoc (line (first_row c)) (lines l) rest

  longer : (c : Config) (l : List Entry) (rest : List ℕ) → bytes ≡ text c l ++ rest
      → bytes ≡ open_text c l ++ (line (last_row (length l)) ++ rest)
  longer c l rest e = e ∙ text_then c l rest

  same_length : {l m : List Entry} (k a b : ℕ) → l ≡ m → a ≡ length l + k → b ≡ length m + k → a ≡ b
  same_length k a b same p q = p ∙ ap (λ (x : List Entry). length x + k) same ∙ sym q

  both_next : (c d : Config) (l m : List Entry) (x y : List ℕ) (a b : ℕ) → AreEntries l → AreEntries m → bytes ≡ open_text c l ++ x
      → bytes ≡ open_text d m ++ y
      → (BeginsWithEntry x → ⊥) → (BeginsWithEntry y → ⊥) → a ≡ length l + 2 → b ≡ length m + 2 → a ≡ b
  both_next c d l m x y a b p q e f left right here there = place (opened c d l m x y p q (sym e ∙ f)).entries
    where
      place : Fronts l m x y → a ≡ b
      place (alike same after) = same_length 2 a b same here there
      place (left_goes_on goes lt) = absurd (left goes)
      place (right_goes_on goes lt) = absurd (right goes)

  both_behind : (c d : Config) (l m : List Entry) (x y : List ℕ) (a b : ℕ) → AreEntries l → AreEntries m → bytes ≡ text c l ++ x
      → bytes ≡ text d m ++ y → a ≡ length l + 3 → b ≡ length m + 3 → a ≡ b
  both_behind c d l m x y a b p q e f here there = place (opened c d l m _ _ p q (sym (longer c l x e) ∙ longer d m y f)).entries
    where
      place : Fronts l m (line (last_row (length l)) ++ x) (line (last_row (length m)) ++ y) → a ≡ b
      place (alike same after) = same_length 3 a b same here there
      place (left_goes_on goes lt) = absurd (end_begins_no_entry (length l) x goes)
      place (right_goes_on goes lt) = absurd (end_begins_no_entry (length m) y goes)

  next_or_behind : (c d : Config) (l m : List Entry) (x y : List ℕ) → AreEntries l → AreEntries m → bytes ≡ open_text c l ++ x
      → (BeginsWithEntry x → ⊥) → (BeginsWithEnd (length l) x → ⊥) → bytes ≡ text d m ++ y → ⊥
  next_or_behind c d l m x y p q e entry end f = clash (opened c d l m _ _ p q (sym e ∙ longer d m y f)).entries
    where
      clash : Fronts l m x (line (last_row (length m)) ++ y) → ⊥
      clash (alike same after) = end (y, after ∙ ap (λ (k : List Entry). line (last_row (length k)) ++ y) (sym same))
      clash (left_goes_on goes lt) = entry goes
      clash (right_goes_on goes lt) = end_begins_no_entry (length m) y goes

  pub one_line : (a b : ℕ) → IsFirstBad bytes a → IsFirstBad bytes b → a ≡ b
  one_line a b (no_first none here) (no_first also there) = here ∙ sym there
  one_line a b (no_first none here) (no_next d m y q f right stop there) = absurd (none d _ (opens d m y f))
  one_line a b (no_first none here) (behind d m y q f some there) = absurd (none d _ (opens d m _ (longer d m y f)))
  one_line a b (no_next c l x p e left end here) (no_first none there) = absurd (none c _ (opens c l x e))
  one_line a b (no_next c l x p e left end here)
      (no_next d m y q f right stop there) = both_next c d l m x y a b p q e f left right here there
  one_line a b (no_next c l x p e left end here) (behind d m y q f some there) = absurd (next_or_behind c d l m x y p q e left end f)
  one_line a b (behind c l x p e some here) (no_first none there) = absurd (none c _ (opens c l _ (longer c l x e)))
  one_line a b (behind c l x p e some here) (no_next d m y q f right stop there) = absurd (next_or_behind d c m l y x q p f right stop e)
  one_line a b (behind c l x p e some here) (behind d m y q f other there) = both_behind c d l m x y a b p q e f here there
