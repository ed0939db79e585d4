-- Entries as bytes, one after the other.
use Rattle.std.proofs.Common.{ℕ, zero, suc, ◌≡◌, ◌+◌, ◌*◌, ◌≤◌, ◌<◌, ℤ, Option, List, []}
use Rattle.std.proofs.Common.{◌∷◌, ◌++◌, length, drop, append_assoc, length-append, length-drop, refl, sym, ap, ◌∙◌, subst, arith}
use Rattle.std.proofs.lemmas.List.{append-nil, drop-drop}
use Rattle.std.proofs.Math.Seq.{drop-append_seam}
use Rattle.std.specs.List.{flat_map}
use Rattle.std.proofs.lemmas.List.Elements.{All-push, All-nil, All-head, All-tail}
use Rattle.adlb_unit.specs.declared.names.Rank.{Rank}
use Rattle.adlb_unit.specs.declared.names.Target.{Target}
use Rattle.adlb_unit.specs.declared.names.WorkType.{WorkType}
use Rattle.bag_ledger.specs.declared.entries.Entry.{Entry}
use Rattle.packed_ledger.specs.declared.stamped.Stamped.{Stamped}
use Rattle.packed_ledger.specs.declared.rows.Row.{Row}
use Rattle.bag_ledger.specs.declared.entries.Entry.TheVariants as enters
use Rattle.packed_ledger.specs.Sizes.{size_of}
use Rattle.packed_ledger.specs.inside.Numbers.{groups}
use Rattle.packed_ledger.specs.inside.Rows.{row_before}
use Rattle.packed_ledger.specs.inside.Told.{row_of}
use Rattle.packed_ledger.specs.inside.Codes.{Holds, body_of, codes, entry_before, kind_code, kinds_of, stamped_before}
use Rattle.packed_ledger.proofs.RowBytes.{row_with_more}

pub entry_with_more : (e : Entry) (a b : List ℕ) → entry_before e a ++ b ≡ entry_before e (a ++ b)
unfolding entry_before
entry_with_more e a b =
    row_with_more (row_of e) (body_of e ++ (flat_map kind_code (kinds_of e) ++ a)) b
    ∙ ap (λ (l : List ℕ). row_before (row_of e) l) (append_assoc (body_of e) (flat_map kind_code (kinds_of e) ++ a) b
    ∙ ap (λ (l : List ℕ). body_of e ++ l) (append_assoc (flat_map kind_code (kinds_of e)) a b))

row_long : (r : Row) (rest : List ℕ) → length rest + 2 ≤ length (row_before r rest)
unfolding row_before
row_long r rest = simp length-append (omega arith)

pub entry_long : (e : Entry) (rest : List ℕ) → length rest + 2 ≤ length (entry_before e rest)
unfolding entry_before
entry_long e rest =
    let long = row_long (row_of e) (body_of e ++ (flat_map kind_code (kinds_of e) ++ rest)) in
    let more = simp length-append at long in
    omega (arith, more)

pub stamped_with_more : (s : Stamped) (a b : List ℕ) → stamped_before s a ++ b ≡ stamped_before s (a ++ b)
unfolding stamped_before
stamped_with_more s a b = append_assoc (groups 10 s.stamp) (entry_before s.entry a) b
    ∙ ap (λ (l : List ℕ). groups 10 s.stamp ++ l) (entry_with_more s.entry a b)

pub stamped_long : (s : Stamped) (rest : List ℕ) → length rest + 2 ≤ length (stamped_before s rest)
unfolding stamped_before
stamped_long s rest = let long = entry_long s.entry rest in simp length-append (omega arith)

-- an entry that tells no bytes and no types
pub record IsPlain (e : Entry) : Type 0 where
  pub body : body_of e ≡ []
  pub kinds : kinds_of e ≡ []
  pub size : size_of e ≡ 160

pub plain : (e : Entry)
    → ((rank : Rank) (call : ℕ) (kind : WorkType) (prio : ℤ) (target : Target) (answer : Option Rank) (body : List ℕ)
    → e ≡ enters.Putting rank call kind prio target answer body → ⊥)
    → ((rank : Rank) (call : ℕ) (common : List ℕ) → e ≡ enters.Keeping rank call common → ⊥)
    → ((rank : Rank) (call : ℕ) (types : Option (List WorkType)) → e ≡ enters.Asked rank call types → ⊥)
    → ((rank : Rank) (call : ℕ) (types : Option (List WorkType)) → e ≡ enters.Tried rank call types → ⊥) → IsPlain e
plain (enters.Putting rank call kind prio target answer body) not_put _ _ _ = absurd (not_put rank call kind prio target answer body refl)
plain (enters.Keeping rank call common) _ not_kept _ _ = absurd (not_kept rank call common refl)
plain (enters.Asked rank call types) _ _ not_asked _ = absurd (not_asked rank call types refl)
plain (enters.Tried rank call types) _ _ _ not_tried = absurd (not_tried rank call types refl)
plain _ _ _ _ _ = record { body = refl; kinds = refl; size = refl }

-- what is pushed after the row
pub pushed : (e : Entry) (bytes rowed last tail : List ℕ) → rowed ≡ bytes ++ row_before (row_of e) [] → last ≡ rowed ++ tail
    → body_of e ++ (flat_map kind_code (kinds_of e) ++ []) ≡ tail → last ≡ bytes ++ entry_before e []
unfolding entry_before
pushed e bytes rowed last tail row after is =
    after
    ∙ ap (λ (l : List ℕ). l ++ tail) row
    ∙ append_assoc bytes (row_before (row_of e) []) tail
    ∙ ap (λ (l : List ℕ). bytes ++ l) (row_with_more (row_of e) [] tail ∙ ap (λ (l : List ℕ). row_before (row_of e) l) (sym is))

pub body_pushed : (e : Entry) (bytes rowed last : List ℕ) → rowed ≡ bytes ++ row_before (row_of e) [] → kinds_of e ≡ []
    → last ≡ rowed ++ body_of e → last ≡ bytes ++ entry_before e []
body_pushed e bytes rowed last row none after =
    pushed e bytes rowed last (body_of e) row after (ap (λ (k : List WorkType). body_of e ++ (flat_map kind_code k ++ [])) none
    ∙ append-nil (body_of e))

pub kinds_pushed : (e : Entry) (bytes rowed last : List ℕ) → rowed ≡ bytes ++ row_before (row_of e) [] → body_of e ≡ []
    → last ≡ rowed ++ flat_map kind_code (kinds_of e) → last ≡ bytes ++ entry_before e []
kinds_pushed e bytes rowed last row none after =
    pushed e bytes rowed last (flat_map kind_code (kinds_of e)) row after
    (ap (λ (b : List ℕ). b ++ (flat_map kind_code (kinds_of e) ++ [])) none ∙ append-nil (flat_map kind_code (kinds_of e)))

pub row_pushed : (e : Entry) (bytes rowed : List ℕ) → rowed ≡ bytes ++ row_before (row_of e) [] → body_of e ≡ [] → kinds_of e ≡ []
    → rowed ≡ bytes ++ entry_before e []
row_pushed e bytes rowed row none no_kinds =
    kinds_pushed e bytes rowed rowed row none (sym (append-nil rowed)
    ∙ ap (λ (k : List WorkType). rowed ++ flat_map kind_code k) (sym no_kinds))

pub stamped_pushed : (s : Stamped) (bytes at_stamp last : List ℕ) → at_stamp ≡ bytes ++ groups 10 s.stamp
    → last ≡ at_stamp ++ entry_before s.entry [] → last ≡ bytes ++ stamped_before s []
unfolding stamped_before
stamped_pushed s bytes at_stamp last stamp entry =
    entry ∙ ap (λ (l : List ℕ). l ++ entry_before s.entry []) stamp ∙ append_assoc bytes (groups 10 s.stamp) (entry_before s.entry [])

-- the places of a list after its first ones
pub drop_one : {X : Type 0} (xs : List X) (n : ℕ) (x : X) (behind : List X) → drop n xs ≡ x ∷ behind
    → (drop (n + 1) xs ≡ behind) × (n < length xs)
drop_one [] zero x behind e = absurd (cc)
drop_one [] (suc n) x behind e = absurd (cc)
drop_one (y ∷ ys) zero x behind e = (cc, omega arith)
drop_one (y ∷ ys) (suc n) x behind e =
    let others = drop_one ys n x behind e in
    let one : suc n + 1 ≡ suc (n + 1) = omega arith in
    (ap (λ (k : ℕ). drop k (y ∷ ys)) one ∙ others.0, omega (arith, others.1))

module _ {X : Type 0} (before : X → List ℕ → List ℕ) (Fits : X → Type 0) (with_more : (x : X) (a b : List ℕ)
    → before x a ++ b ≡ before x (a ++ b)) (long : (x : X) (rest : List ℕ) → length rest + 2 ≤ length (before x rest)) where
  codes_push : (xs : List X) (x : X) → codes before (xs ++ x ∷ []) ≡ codes before xs ++ before x []
  unfolding codes
  codes_push [] x = refl
  codes_push (y ∷ ys) x = ap (λ (l : List ℕ). before y l) (codes_push ys x) ∙ sym (with_more y (codes before ys) (before x []))

  pub codes_long : (xs : List X) → 2 * length xs ≤ length (codes before xs)
  unfolding codes
  codes_long [] = omega arith
  codes_long (y ∷ ys) = let rest = codes_long ys in let one = long y (codes before ys) in omega arith

  pub holds_none : (bytes : List ℕ) (xs : List X) → bytes ≡ [] → xs ≡ [] → Holds before Fits bytes xs
  unfolding codes
  holds_none bytes xs e f =
      let none : Holds before Fits [] [] = record { coded = refl; kept = All-nil Fits } in
      subst (λ (l : List ℕ). Holds before Fits l xs) (sym e) (subst (λ (l : List X). Holds before Fits [] l) (sym f) none)

  pub holds_push : (bytes after : List ℕ) (xs more : List X) (x : X) → Holds before Fits bytes xs → Fits x
      → after ≡ bytes ++ before x [] → more ≡ xs ++ x ∷ [] → Holds before Fits after more
  holds_push bytes after xs more x holds fits e f = subst (λ (l : List X). Holds before Fits after l) (sym f) (record {
    coded = e ∙ ap (λ (l : List ℕ). l ++ before x []) holds.coded ∙ sym (codes_push xs x);
    kept = All-push Fits xs x holds.kept fits;
  })

  -- the first of a list that is held, and the others
  pub record Front (bytes : List ℕ) (xs : List X) (x : X) (behind : List X) : Type 0 where
    pub list : xs ≡ x ∷ behind
    pub fits : Fits x
    pub coded : bytes ≡ before x (codes before behind)
    pub holds : Holds before Fits (codes before behind) behind

  pub front : (bytes : List ℕ) (xs : List X) → Holds before Fits bytes xs → (length bytes ≡ 0 → ⊥)
      → (x : X) × (behind : List X) × Front bytes xs x behind
  unfolding codes
  front bytes [] holds some = absurd (some (ap length holds.coded))
  front bytes (x ∷ behind) holds some = (
    x,
    behind,
    record {
      list = refl;
      fits = All-head Fits x behind holds.kept;
      coded = holds.coded;
      holds = record { coded = refl; kept = All-tail Fits x behind holds.kept };
    },
  )

  -- nothing is left of no bytes
  pub nothing : (bytes : List ℕ) (xs : List X) → Holds before Fits bytes xs → length bytes ≡ 0 → xs ≡ []
  unfolding codes
  nothing bytes [] holds none = refl
  nothing bytes (x ∷ behind) holds none = let some = long x (codes before behind) in absurd (omega (arith, ap length holds.coded))

  no_bytes : (xs : List X) → xs ≡ [] → codes before xs ≡ []
  unfolding codes
  no_bytes [] none = refl
  no_bytes (x ∷ behind) none = absurd (cc)

  pub nothing_back : (bytes : List ℕ) (xs : List X) → Holds before Fits bytes xs → xs ≡ [] → length bytes ≡ 0
  nothing_back bytes xs holds none = ap length (holds.coded ∙ no_bytes xs none)

  -- the next of a list, of which the first ones were read
  pub next : (bytes after : List ℕ) (items : List X) (done : ℕ) (first : X) → Holds before Fits bytes (drop done items)
      → (length bytes ≡ 0 → ⊥)
      → ((x : X) (rest : List ℕ) → Fits x → bytes ≡ before x rest → (first ≡ x) × (after ≡ rest))
      → Holds before Fits after (drop (done + 1) items) × (done < length items) × (drop done items ≡ first ∷ drop (done + 1) items)
  next bytes after items done first holds some reads =
      let one = front bytes (drop done items) holds some in
      let x = one.0 in
      let behind = one.1 in
      let is = one.2 in
      let read = reads x (codes before behind) is.fits is.coded in
      let others = drop_one items done x behind is.list in
      let left : Holds before Fits after behind = subst (λ (l : List ℕ). Holds before Fits l behind) (sym read.1) is.holds in (
        subst (λ (l : List X). Holds before Fits after l) (sym others.0) left,
        others.1,
        is.list ∙ (λ i. sym read.0 i ∷ sym others.0 i),
      )

  after_one : (bytes rest : List ℕ) (at size : ℕ) (x : X) → drop at bytes ≡ before x rest → size + length rest ≡ length (drop at bytes)
      → drop (at + size) bytes ≡ rest
  after_one bytes rest at size x e sum =
      let parts : before x [] ++ rest ≡ before x rest = with_more x [] rest in
      let long : size ≡ length (before x []) = omega (arith, sum, ap length e, ap length parts, length-append (before x []) rest) in
      sym (drop-drop size at bytes)
      ∙ ap (λ (l : List ℕ). drop size l) (e ∙ sym parts)
      ∙ ap (λ (n : ℕ). drop n (before x [] ++ rest)) long
      ∙ drop-append_seam (before x []) rest

  -- the same, where the bytes stay and the place goes on
  pub taken : (bytes : List ℕ) (items : List X) (at done size : ℕ) (first : X) → Holds before Fits (drop at bytes) (drop done items)
      → at ≤ length bytes → (length (drop at bytes) ≡ 0 → ⊥)
      → ((x : X) (rest : List ℕ) → Fits x → drop at bytes ≡ before x rest → (first ≡ x) × (size + length rest ≡ length (drop at bytes)))
      → Holds before Fits (drop (at + size) bytes) (drop (done + 1) items) × (at + size ≤ length bytes) × (2 ≤ size)
      × (drop done items ≡ first ∷ drop (done + 1) items)
  taken bytes items at done size first holds within some reads =
      let one = front (drop at bytes) (drop done items) holds some in
      let x = one.0 in
      let behind = one.1 in
      let is = one.2 in
      let rest = codes before behind in
      let read = reads x rest is.fits is.coded in
      let others = drop_one items done x behind is.list in
      let after = after_one bytes rest at size x is.coded read.1 in
      let left : Holds before Fits (drop (at + size) bytes) behind = subst (λ (l : List ℕ). Holds before Fits l behind) (sym after)
      is.holds in (
        subst (λ (l : List X). Holds before Fits (drop (at + size) bytes) l) (sym others.0) left,
        omega (arith, within, read.1, length-drop at bytes),
        omega (arith, read.1, ap length is.coded, long x rest),
        is.list ∙ (λ i. sym read.0 i ∷ sym others.0 i),
      )
