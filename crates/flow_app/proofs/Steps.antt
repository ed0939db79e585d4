-- What was read so far, line by line.
use Rattle.std.proofs.Common.{◌≡◌, ◌<◌, ◌≤◌, ◌+◌, ℕ, List, [], ◌∷◌, ◌++◌, length, map, Option, Some, None, sym, ap, ◌∙◌, arith}
use Rattle.std.proofs.Common.{append_assoc}
use Rattle.std.specs.Str.Lines.{strip_carriage_return}
use Rattle.std.proofs.lemmas.List.{append-nil}
use Rattle.flow_law.specs.declared.Definition.{Definition}
use Rattle.flow_app.specs.declared.faults.FlowWhy.{FlowWhy}
use Rattle.flow_app.specs.declared.parts.Parts.{Parts}
use Rattle.flow_app.specs.declared.reading.Reading.{Reading}
use Rattle.flow_app.specs.Kinds.{Kind, is_mark, kind_of}
use Rattle.flow_app.specs.Reading.{all_defined, defined, fault_of, first_refused, flow_refused, input_flow, or_later}
use Rattle.flow_app.specs.inside.Left.{parts_left, room_left}
use Rattle.flow_app.specs.inside.Read.{Extends, IsRead}
use Rattle.std.specs.List.{slice_split}

-- the kinds of these lines
abbrev pub kinds_of : List (List ℕ) → List Kind
kinds_of parts = map kind_of (map strip_carriage_return parts)

-- what was read, and what is left, are the input
pub record IsReadTo (bytes : List ℕ) (r : Reading) (left : Parts) (number : ℕ) : Type 0 where
  pub read : IsRead r
  pub flow : input_flow bytes ≡ r.definitions.items ++ all_defined (kinds_of (parts_left left))
  pub refused : flow_refused bytes ≡ first_refused r.definitions.items (number + 1) (kinds_of (parts_left left))
  pub room : number + room_left left ≤ length bytes + 1

-- before its first line nothing of the text is read
pub at_start : (bytes : List ℕ) (r : Reading) (left : Parts) → IsRead r → r.definitions.items ≡ [] →
    parts_left left ≡ slice_split (is_mark 10) bytes → room_left left ≡ length bytes + 1 → IsReadTo bytes r left 0
at_start bytes r left read none parts room = record {
  read = read;
  flow = ap (λ l. all_defined (kinds_of l)) (sym parts)
      ∙ ap (λ (l : List Definition). l ++ all_defined (kinds_of (parts_left left))) (sym none);
  refused = ap (λ l. first_refused [] 1 (kinds_of l)) (sym parts)
      ∙ ap (λ (l : List Definition). first_refused l 1 (kinds_of (parts_left left))) (sym none);
  room = omega (arith, room);
}

-- one line more
pub more_read : (bytes : List ℕ) (old new : Reading) (left rest : Parts) (number : ℕ) (line : List ℕ) → IsReadTo bytes old left number →
    Extends old (kind_of (strip_carriage_return line)) new → parts_left left ≡ line ∷ parts_left rest → room_left rest < room_left left →
    IsReadTo bytes new rest (number + 1)
unfolding all_defined first_refused
more_read bytes old new left rest number line r more next less =
    let k : Kind = kind_of (strip_carriage_return line) in
    let ks : List Kind = kinds_of (parts_left rest) in
    record {
      read = more.read;
      flow = r.flow ∙ ap (λ l. old.definitions.items ++ all_defined (kinds_of l)) next
          ∙ sym (append_assoc old.definitions.items (defined k) (all_defined ks))
          ∙ ap (λ (l : List Definition). l ++ all_defined ks) (sym more.more);
      refused = r.refused ∙ ap (λ l. first_refused old.definitions.items (number + 1) (kinds_of l)) next
          ∙ ap (λ o. or_later o (number + 1) (first_refused (old.definitions.items ++ defined k) (number + 1 + 1) ks)) more.fine
          ∙ ap (λ (l : List Definition). first_refused l (number + 1 + 1) ks) (sym more.more);
      room = omega (arith, r.room, less);
    }

-- a line that is refused
pub refused_next : (bytes : List ℕ) (r : Reading) (left : Parts) (number n : ℕ) (line : List ℕ) (rest : List (List ℕ)) (why : FlowWhy) →
    IsReadTo bytes r left number → parts_left left ≡ line ∷ rest → n ≡ number + 1 →
    fault_of r.definitions.items (kind_of (strip_carriage_return line)) ≡ Some why → flow_refused bytes ≡ Some (n, why)
unfolding first_refused
refused_next bytes r left number n line rest why is next same fault =
    let k : Kind = kind_of (strip_carriage_return line) in
    is.refused ∙ ap (λ l. first_refused r.definitions.items (number + 1) (kinds_of l)) next
    ∙ ap (λ o. or_later o (number + 1) (first_refused (r.definitions.items ++ defined k) (number + 1 + 1) (kinds_of rest))) fault
    ∙ ap (λ (m : ℕ). let o : Option (ℕ × FlowWhy) = Some (m, why) in o) (sym same)

-- no line is left
pub all_read : (bytes : List ℕ) (r : Reading) (left : Parts) (number : ℕ) → IsReadTo bytes r left number → parts_left left ≡ [] →
    (flow_refused bytes ≡ None) × (input_flow bytes ≡ r.definitions.items)
unfolding all_defined first_refused
all_read bytes r left number is none = (
  is.refused ∙ ap (λ l. first_refused r.definitions.items (number + 1) (kinds_of l)) none,
  is.flow ∙ ap (λ l. r.definitions.items ++ all_defined (kinds_of l)) none ∙ append-nil r.definitions.items,
)
