-- The lines of a text, as far as they were read.
use Rattle.std.proofs.Common.{◌≡◌, ◌≢◌, ℕ, ◌+◌, ◌<◌, true, List, [], ◌∷◌, ◌++◌, length, Some, None, Result, Err, refl, sym, ap, subst, ◌∙◌}
use Rattle.std.proofs.Common.{append_assoc, arith}
use Rattle.std.proofs.lemmas.List.{append-nil, length-append}
use Rattle.adlb_unit.specs.Limits.{InRanks, InServers, InLimit, Refuses}
use Rattle.adlb_unit.specs.declared.configs.Config.{Config}
use Rattle.adlb_unit.specs.declared.configs.ConfigFault.{ConfigFault}
use Rattle.adlb_unit.specs.declared.configs.ConfigFault.TheVariants as outside
use Rattle.bag_ledger.specs.declared.entries.Entry.{Entry}
use Rattle.ledger_file.specs.declared.faults.LineFault.{LineFault}
use Rattle.ledger_file.specs.declared.faults.LineFault.TheVariants as fault
use Rattle.ledger_file.specs.declared.faults.LedgerFault.{LedgerFault}
use Rattle.ledger_file.specs.declared.faults.LedgerFault.TheVariants as ledger_fault
use Rattle.ledger_file.specs.declared.reading.Line.{Line}
use Rattle.ledger_file.specs.declared.reading.Line.TheVariants as next
use Rattle.ledger_file.specs.Fields.{Field}
use Rattle.ledger_file.specs.Lines.{row, words, line, first_row, last_row, lines, open_text, text, IsEntry, AreEntries, IsText, IsFirstBad}
use Rattle.ledger_file.specs.Lines.{no_first, no_next, behind}
use Rattle.ledger_file.specs.inside.Next.{IsLine, IsNoLine, HasRead, IsRest, IsBadAfter, none_next, too_much}
use Rattle.ledger_file.specs.inside.Reading.{IsCut, free, parts_of, Fails}
use Rattle.ledger_file.specs.inside.Rows.{read_entry, read_sizes}
use Rattle.ledger_file.proofs.Bytes.{AllAbove, cut_somewhere, same_front}
use Rattle.ledger_file.proofs.Beginnings.{joined, entry_plain, first_plain, last_plain, no_feed, words_back, joined_back, line_then}
use Rattle.ledger_file.proofs.Beginnings.{config_within, no_text}
use Rattle.ledger_file.proofs.Entries.{entry_again, entry_sound, sizes_row, sizes_again, sizes_sound}

some_is : {A : Type 0} {x y : A} → Some x ≡ Some y → x ≡ y
some_is e = cc

none_some : {A : Type 0} {x : A} → None ≡ Some x → ⊥
none_some e = absurd cc

-- a list that begins with a line has a line feed, and is cut after the line
pub no_line : (bytes rest : List ℕ) (x : List ℕ × List Field) → free 10 bytes ≡ true → bytes ≡ line x ++ rest → ⊥
no_line bytes rest x p e = cut_somewhere 10 (joined x) rest (ap (free 10) (sym (e ∙ line_then x rest)) ∙ p)

pub line_found : (bytes text after : List ℕ) (x : List ℕ × List Field) → IsCut 10 bytes text after → words x ≡ parts_of 32 text
    → bytes ≡ line x ++ after
line_found bytes text after x is same = is.whole ∙ ap (λ (v : List ℕ). v ++ 10 ∷ after) (sym (joined_back x text same))
    ∙ sym (line_then x after)

pub words_found : (bytes text after rest : List ℕ) (x : List ℕ × List Field) → AllAbove 32 (words x) → IsCut 10 bytes text after
    → bytes ≡ line x ++ rest → words x ≡ parts_of 32 text
words_found bytes text after rest x plain is e =
    let front = same_front 10 text (joined x) after rest is.first (no_feed x plain) (sym is.whole ∙ e ∙ line_then x rest) in
    sym (words_back x plain) ∙ ap (parts_of 32) (sym front.0)

-- the next line
pub entry_next : (bytes text after : List ℕ) (e : Entry) → IsCut 10 bytes text after → read_entry (parts_of 32 text) ≡ Some e
    → IsEntry e × (bytes ≡ line (row e) ++ after)
entry_next bytes text after e is read = let found = entry_sound (parts_of 32 text) e read in (
  found.0,
  line_found bytes text after
      (row e) is found.1,
)

pub none_begins : (bytes : List ℕ) (count : ℕ) → free 10 bytes ≡ true → IsNoLine bytes count fault.Bad
none_begins bytes count p = (λ b. no_line bytes b.1 (row b.0) p b.3, λ b. no_line bytes b.0 (last_row count) p b.1)

pub none_is_next : (bytes text after : List ℕ) (count : ℕ) (f : LineFault) → IsCut 10 bytes text after
    → (words (last_row count) ≡ parts_of 32 text → ⊥) → Fails f (read_entry (parts_of 32 text)) → IsNoLine bytes count f
none_is_next bytes text after count fault.Memory is last fails = tt
none_is_next bytes text after count fault.Bad is last fails = (
  λ b.
      let same = words_found bytes text after b.1 (row b.0) (entry_plain b.0) is b.3 in
      let no : Some b.0 ≡ None = sym (entry_again b.0 b.2) ∙ ap read_entry same ∙ fails in
      absurd cc,
  λ b. last (words_found bytes text after b.0 (last_row count) (last_plain count) is b.1),
)

-- the first line
pub config_found : (c : Config) (r s l : ℕ) (ws : List (List ℕ)) → read_sizes ws ≡ Some (r, s, l) → c.ranks ≡ r → c.servers ≡ s
    → c.limit ≡ l → words (first_row c) ≡ ws
config_found c r s l ws read p q t =
    let sound = sizes_sound ws (r, s, l) read in
    let same : words (first_row c) ≡ words (sizes_row (r, s, l)) = rw (p, q, t) refl in
    same ∙ sound.1

pub sizes_given : (c : Config) (ws : List (List ℕ)) → words (first_row c) ≡ ws → read_sizes ws ≡ Some (c.ranks, c.servers, c.limit)
sizes_given c ws same = ap read_sizes (sym same) ∙ sizes_again (c.ranks, c.servers, c.limit) (config_within c)

never_outside : (f : ConfigFault) (r s l : ℕ) → Refuses r s l f → InRanks r → InServers s → InLimit l → ⊥
never_outside (outside.Ranks n) r s l h p q t = h.0 p
never_outside (outside.Servers n) r s l h p q t = h.1 q
never_outside (outside.Limit n) r s l h p q t = h.2 t

pub none_is_config : (f : ConfigFault) (r s l : ℕ) (ws : List (List ℕ)) → read_sizes ws ≡ Some (r, s, l) → Refuses r s l f
    → (c : Config) → words (first_row c) ≡ ws → ⊥
none_is_config f r s l ws read h c same =
    let sizes : (c.ranks, c.servers, c.limit) ≡ (r, s, l) = some_is (sym (sizes_given c ws same) ∙ read) in
    never_outside f r s l h (subst InRanks (ap (λ (x : ℕ × ℕ × ℕ). x.0) sizes) c.ranks_within) (subst InServers (ap (λ
    (x : ℕ × ℕ × ℕ). x.1) sizes) c.servers_within)
    (subst InLimit (ap (λ (x : ℕ × ℕ × ℕ). x.2) sizes) c.limit_within)

pub no_sizes : (f : LineFault) (ws : List (List ℕ)) → f ≡ fault.Bad → Fails f (read_sizes ws) → (c : Config) → words (first_row c) ≡ ws → ⊥
no_sizes fault.Memory ws bad fails c same = let no : fault.Memory ≡ fault.Bad = bad in absurd cc
no_sizes fault.Bad ws bad fails c same = none_some (sym fails ∙ sizes_given c ws same)

-- entries
pub nothing_read : (bytes : List ℕ) → HasRead bytes [] bytes
nothing_read bytes = record { within = tt; whole = refl }

pub more_read : (bytes rest after : List ℕ) (entries : List Entry) (e : Entry) → HasRead bytes entries rest
    → IsEntry e × (rest ≡ line (row e) ++ after) → HasRead bytes (entries ++ e ∷ []) after
more_read bytes rest after entries e is begins = record {
  within = all_push entries is.within;
  whole = is.whole ∙ ap (λ (v : List ℕ). lines entries ++ v) begins.1 ∙ sym (append_assoc (lines entries) (line (row e)) after)
      ∙ ap (λ (v : List ℕ). v ++ after) (lines_push entries);
}
  where
    all_push : (l : List Entry) → AreEntries l → AreEntries (l ++ e ∷ [])
    all_push [] p = (begins.0, tt)
    all_push (x ∷ l) p = (p.0, all_push l p.1)

    lines_push : (l : List Entry) → lines l ++ line (row e) ≡ lines (l ++ e ∷ [])
    lines_push [] = sym (append-nil (line (row e)))
    lines_push (x ∷ l) = append_assoc (line (row x)) (lines l) (line (row e)) ∙ ap (λ (v : List ℕ). line (row x) ++ v) (lines_push l)

pub shorter : (rest after : List ℕ) (e : Entry) → rest ≡ line (row e) ++ after → length after < length rest
shorter rest after e same =
    let size : length rest ≡ length (joined (row e) ++ 10 ∷ after) = ap length (same ∙ line_then (row e) after) in
    omega (arith, simp length-append at size)

-- the first line and those after it
pub text_is : (c : Config) (entries : List Entry) (bytes first rest : List ℕ) → IsCut 10 bytes first rest
    → words (first_row c) ≡ parts_of 32 first → IsRest rest entries → IsText c entries bytes
text_is c entries bytes first rest is same read = record {
  within = read.within;
  whole = line_found bytes first rest (first_row c) is same ∙ ap (λ (v : List ℕ). line (first_row c) ++ v) read.whole
      ∙ sym (append_assoc (line (first_row c)) (lines entries) (line (last_row (length entries))));
}

pub no_feed_at_all : (bytes : List ℕ) (at : ℕ) → free 10 bytes ≡ true → at ≡ 1 → IsFirstBad bytes at
no_feed_at_all bytes at p here = no_first (λ c after e. no_line bytes after (first_row c) p e) here

pub no_config : (bytes first rest : List ℕ) (at : ℕ) → IsCut 10 bytes first rest → ((c : Config)
    → words (first_row c) ≡ parts_of 32 first → ⊥) → at ≡ 1 → IsFirstBad bytes at
no_config bytes first rest at is none here = no_first (λ c after e. none c (words_found bytes first rest after (first_row c)
    (first_plain c) is e)) here

pub bad_behind : (c : Config) (bytes first rest : List ℕ) (at : ℕ) → IsCut 10 bytes first rest → words (first_row c) ≡ parts_of 32 first
    → IsBadAfter rest at → IsFirstBad bytes at
bad_behind c bytes first rest at is same bad = at_case bad
  where
    opens : (entries : List Entry) (left : List ℕ) → HasRead rest entries left → bytes ≡ open_text c entries ++ left
    opens entries left read = line_found bytes first rest (first_row c) is same
        ∙ ap (λ (v : List ℕ). line (first_row c) ++ v) read.whole ∙ sym (append_assoc (line (first_row c)) (lines entries) left)

    at_case : IsBadAfter rest at → IsFirstBad bytes at
    at_case (none_next entries left read entry end here) = no_next c entries left read.within (opens entries left read) entry end here
    at_case (too_much entries left read some here) =
        behind c entries left read.within (opens entries _ read
        ∙ sym (append_assoc (open_text c entries) (line (last_row (length entries))) left)) some here

-- the line after the entries read, of which there are this many, is refused
pub bad_next : (bytes rest : List ℕ) (ledger : List Entry) (count at : ℕ) → HasRead bytes ledger rest → count ≡ length ledger
    → IsNoLine rest count fault.Bad → at ≡ count + 2 → IsBadAfter bytes at
bad_next bytes rest ledger count at read many none here =
    let none' = subst (λ n. IsNoLine rest n fault.Bad) many none in
    none_next ledger rest read none'.0 none'.1 (here ∙ ap (λ n. n + 2) many)

pub bad_after_last : (bytes rest after : List ℕ) (ledger : List Entry) (count at : ℕ) (x : Line) → HasRead bytes ledger rest
    → count ≡ length ledger → x ≡ next.Last → IsLine rest count x after → after ≢ [] → at ≡ count + 3 → IsBadAfter bytes at
bad_after_last bytes rest after ledger count at x read many last is some here =
    let is' = subst (λ n. IsLine rest n x after) many is in
    let ends : rest ≡ line (last_row (length ledger)) ++ after = subst (λ (y : Line). IsLine rest (length ledger) y after) last is' in
    too_much ledger after (subst (λ (v : List ℕ). HasRead bytes ledger v) ends read) some (here ∙ ap (λ n. n + 3) many)

-- of a text, only memory is a fault
pub only_memory : {T : Type 0} (c d : Config) (ledger : List Entry) (bytes first rest : List ℕ) (f : LedgerFault)
    → IsCut 10 bytes first rest → words (first_row c) ≡ parts_of 32 first
    → ((at : ℕ) → ◌≡◌ {A = Result T LedgerFault} (Err f) (Err
    (ledger_fault.Refused at)) → IsBadAfter rest at) → IsText d ledger bytes → f ≡ ledger_fault.Memory
only_memory c d ledger bytes first rest (ledger_fault.Refused at) is same bad text = absurd (no_text d ledger bytes at text
    (bad_behind c bytes first rest at is same (bad at refl)))
only_memory c d ledger bytes first rest ledger_fault.Memory is same bad text = refl
