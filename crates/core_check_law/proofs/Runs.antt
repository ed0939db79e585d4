-- Runs of the bag in which exhaustion is not found are legal, whatever is set aside where it is found.
use Rattle.std.proofs.Common.{◌≡◌, ◌||◌, Bool, true, false, cond, List, [], ◌∷◌, ◌++◌, Some, refl, sym, ◌∙◌, subst}
use Rattle.std.specs.List.{list_any}
use Rattle.adlb_unit.specs.declared.names.BatchId.{BatchId}
use Rattle.adlb_unit.specs.declared.names.Rank.{Rank}
use Rattle.adlb_unit.specs.declared.names.Server.{Server}
use Rattle.bag_ledger.specs.Bag.{Bag}
use Rattle.bag_ledger.specs.Runs.{IsRun, IsRunWhere}
use Rattle.bag_ledger.specs.Steps.{Legal, LegalWhere}
use Rattle.bag_ledger.specs.declared.entries.Entry.{Entry}
use Rattle.bag_ledger.specs.declared.entries.Entry.TheVariants as enters
use Rattle.server_components.specs.Store.{closed, fetched, is_due}
use Rattle.server_components.specs.declared.parts.Part.{Part}
use Rattle.server_law.specs.Acts.{Act, Closes, Fetches_part, Finds, Finds_alone, entries, frees}
use Rattle.server_law.specs.State.{ServerModel}
use Rattle.core_law.specs.OnLinks.{Each}
use Rattle.core_law.specs.Others.{teller}

-- the rest of a run
pub split_run : (found : Bag → Bool) (first b n : Bag) (xs es : List Entry) → IsRunWhere found first xs b
    → IsRunWhere found first (xs ++ es) n
    → IsRunWhere found b es n
split_run found first b n [] es run all = subst (λ (x : Bag). IsRunWhere found x es n) run all
split_run found first b n (x ∷ xs) es run all =
    let same : all.0 ≡ run.0 = all.1.2 ∙ sym run.1.2 in
    split_run found run.0 b n xs es run.2 (subst (λ (y : Bag). IsRunWhere found y (xs ++ es) n) same all.2)

-- the entry that exhaustion is found
abbrev pub is_finding : Entry → Bool
is_finding enters.Exhausted = true
is_finding _ = false

legal_other : (found : Bag → Bool) (b : Bag) (e : Entry) → is_finding e ≡ false → LegalWhere found b e → Legal b e
legal_other found b enters.Exhausted other legal = absurd (cc)
legal_other found b _ other legal = legal

parts : (s t : Bool) → s || t ≡ false → (s ≡ false) × (t ≡ false)
parts false t e = (refl, e)
parts true t e = absurd (cc)

-- a run that finds no exhaustion is legal, whatever is asked where it is found
pub run_other : (found : Bag → Bool) (b n : Bag) (es : List Entry) → list_any is_finding es ≡ false → IsRunWhere found b es n → IsRun b es n
run_other found b n [] other run = run
run_other found b n (e ∷ es) other run =
    let o = parts (is_finding e) (list_any is_finding es) other in
    (run.0, (run.1.0, legal_other found b e o.0 run.1.1, run.1.2), run_other found run.0 n es o.1 run.2)

-- the acts that find exhaustion
abbrev pub finds : Act → Bool
finds (Finds from t) = true
finds Finds_alone = true
finds _ = false

frees_other : (me : Server) (batch : BatchId) (part : Part) → list_any is_finding (frees me batch part) ≡ false
frees_other me batch part = by_due (is_due part)
  where
    by_due : (t : Bool) → list_any is_finding (cond t (enters.Freed me batch ∷ []) []) ≡ false
    by_due true = refl
    by_due false = refl

-- an act that finds no exhaustion enters none
pub act_other : (a : Act) (s : ServerModel) → finds a ≡ false → list_any is_finding (entries a s) ≡ false
act_other (Finds from t) s other = absurd (cc)
act_other Finds_alone s other = absurd (cc)
act_other (Closes request batch accepted part) s other = frees_other s.me batch (closed accepted part)
act_other (Fetches_part rank request batch part) s other = frees_other s.me batch (fetched part)
act_other _ s other = refl

-- nor does a rank find it
told_other : (rank : Rank) (e : Entry) → teller e ≡ Some rank → is_finding e ≡ false
told_other rank enters.Exhausted told = absurd (cc)
told_other rank _ told = refl

-- a rank's entries find no exhaustion
pub rank_other : (rank : Rank) (es : List Entry) → Each (λ e. teller e ≡ Some rank) es → list_any is_finding es ≡ false
rank_other rank [] each = refl
rank_other rank (e ∷ es) each = rw (told_other rank e each.0) (rank_other rank es each.1)
