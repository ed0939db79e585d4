-- How the words of a line are read, one field after the other.
use Rattle.std.specs.Prelude.{◌≡◌, ℕ, ◌==◌, ◌+◌, ◌*◌, Bool, true, not, ◌&&◌, List, [], ◌∷◌, ◌++◌, Option, Some, None, Result, Ok, Err, pos}
use Rattle.std.specs.Prelude.{neg_ℤ, ℤ, drop, map, if◌then◌else◌, ⊤, slice_index}
use Rattle.std.specs.Borrow.{Bor}
use Rattle.std.specs.Str.{bytes_eq}
use Rattle.std.specs.Str.Parse.{digits_value}
use Rattle.std.specs.Char.{digit_value}
use Rattle.std.specs.List.{slice_split, list_all}
use Rattle.adlb_unit.specs.declared.names.Rank.{Rank}
use Rattle.adlb_unit.specs.declared.names.Server.{Server}
use Rattle.adlb_unit.specs.declared.names.WorkType.{WorkType}
use Rattle.adlb_unit.specs.declared.names.UnitId.{UnitId}
use Rattle.adlb_unit.specs.declared.names.BatchId.{BatchId}
use Rattle.adlb_unit.specs.declared.names.Target.{Target}
use Rattle.adlb_unit.specs.declared.names.Target.TheVariants as target
use Rattle.adlb_unit.specs.declared.notes.End.{End}
use Rattle.adlb_unit.specs.declared.notes.End.TheVariants as ends
use Rattle.ledger_file.specs.declared.faults.LineFault.{LineFault}
use Rattle.ledger_file.specs.declared.faults.LineFault.TheVariants as fault
use Rattle.ledger_file.specs.declared.cursor.Parts.{Parts}
use Rattle.ledger_file.specs.Fields.{Field, u32, u64, i32, id, aim, rank_or_none, prio_or_none, wanted, body, told, word, within, IsWithin}

-- the byte is k; no byte of the list is; the parts of a list between the bytes k; and what a cursor has left
abbrev pub is : ℕ → ℕ → Bool
is k b = b == k

-- the byte is not among the bytes
abbrev pub free : ℕ → List ℕ → Bool
free k bytes = list_all (λ b. not (is k b)) bytes

-- bytes cut at a byte
abbrev pub parts_of : ℕ → List ℕ → List (List ℕ)
parts_of k bytes = slice_split (is k) bytes

-- the parts of what is left
abbrev pub parts_in : ℕ → Option (Bor (List ℕ)) → List (List ℕ)
parts_in k None = []
parts_in k (Some bytes) = parts_of k bytes.now

-- the parts that are left
abbrev pub parts_left : Parts → List (List ℕ)
parts_left p = parts_in p.separator p.rest

-- a list cut at its first k
pub record IsCut (k : ℕ) (bytes before behind : List ℕ) : Type 0 where
  pub whole : bytes ≡ before ++ k ∷ behind
  pub first : free k before ≡ true

-- what a word may be the field of: a guess, which is right where it is written as this word
abbrev pub checked : {A : Type 0} → (A → Field) → (List ℕ → A) → List ℕ → Option A
checked field guess w = if within (field (guess w)) && bytes_eq (word (field (guess w))) w then Some (guess w) else None

-- a number by its digits
abbrev pub unsigned_guess : List ℕ → ℕ
unsigned_guess w = digits_value 10 w

-- a number by its sign and digits
abbrev pub signed_guess : List ℕ → ℤ
signed_guess w = if slice_index w 0 == 45 then neg_ℤ (pos (digits_value 10 (drop 1 w))) else pos (digits_value 10 w)

-- a rank by its digits
abbrev pub rank_guess : List ℕ → Rank
rank_guess w = record { 0 = digits_value 10 w }

-- a work type by its digits
abbrev pub kind_guess : List ℕ → WorkType
kind_guess w = record { 0 = digits_value 10 w }

-- what comes before and after the first dot
abbrev pub before_dot : List ℕ → List ℕ
before_dot [] = []
before_dot (b ∷ w) = if b == 46 then [] else b ∷ before_dot w

-- what follows the first dot
abbrev pub behind_dot : List ℕ → List ℕ
behind_dot [] = []
behind_dot (b ∷ w) = if b == 46 then w else behind_dot w

-- a target by its first letter
abbrev pub target_guess : List ℕ → Target
target_guess w =
    if slice_index w 0 == 97 then target.Any
    else (if slice_index w 0 == 111 then target.Only (rank_guess (drop 5 w)) else target.Soft (rank_guess (drop 5 w)))

-- an answer rank by its first letter
abbrev pub answer_guess : List ℕ → Option Rank
answer_guess w = if slice_index w 0 == 110 then None else Some (rank_guess w)

-- a highest priority by its first letter
abbrev pub top_guess : List ℕ → Option ℤ
top_guess w = if slice_index w 0 == 110 then None else Some (signed_guess w)

-- wanted types by their first letter
abbrev pub types_guess : List ℕ → Option (List WorkType)
types_guess w = if slice_index w 0 == 97 then None else Some (map kind_guess (parts_of 44 w))

-- an end by its first letter
abbrev pub end_guess : List ℕ → End
end_guess w = if slice_index w 0 == 110 then ends.NoMoreWork else ends.Exhausted

-- bytes of pairs of hexadecimal digits
abbrev pub unhex : List ℕ → List ℕ
unhex [] = []
unhex (a ∷ []) = []
unhex (a ∷ b ∷ w) = (digit_value a * 16 + digit_value b) ∷ unhex w

-- bytes by their hexadecimal digits
abbrev pub bytes_guess : List ℕ → List ℕ
bytes_guess w = if slice_index w 0 == 45 then [] else unhex w

-- the field that a word is, if it is one
unfoldable pub length_in : List ℕ → Option ℕ
length_in = checked u32 unsigned_guess

-- the number that a word is
unfoldable pub number_in : List ℕ → Option ℕ
number_in = checked u64 unsigned_guess

-- the priority that a word is
unfoldable pub prio_in : List ℕ → Option ℤ
prio_in = checked i32 signed_guess

-- the rank and number that a word is
unfoldable pub pair_in : List ℕ → Option (ℕ × ℕ)
pair_in = checked (λ x. id x.0 x.1) (λ w. (digits_value 10 (before_dot w), digits_value 10 (behind_dot w)))

-- the target that a word is
unfoldable pub target_in : List ℕ → Option Target
target_in = checked aim target_guess

-- the answer rank that a word is
unfoldable pub answer_in : List ℕ → Option (Option Rank)
answer_in = checked rank_or_none answer_guess

-- the highest priority that a word is
unfoldable pub top_in : List ℕ → Option (Option ℤ)
top_in = checked prio_or_none top_guess

-- the wanted types that a word is
unfoldable pub types_in : List ℕ → Option (Option (List WorkType))
types_in = checked wanted types_guess

-- the bytes that a word is
unfoldable pub bytes_in : List ℕ → Option (List ℕ)
bytes_in = checked body bytes_guess

-- the end that a word is
unfoldable pub end_in : List ℕ → Option End
end_in = checked told end_guess

-- a field of the first word, and the words after it; what is read then
abbrev pub with_rest : {A : Type 0} → List (List ℕ) → Option A → Option (A × List (List ℕ))
with_rest ws None = None
with_rest ws (Some a) = Some (a, ws)

-- the first field, and the words after it
abbrev pub first : {A : Type 0} → (List ℕ → Option A) → List (List ℕ) → Option (A × List (List ℕ))
first read [] = None
first read (w ∷ ws) = with_rest ws (read w)

-- goes on with the field and the words after it
abbrev pub onward : {A E : Type 0} → (A → List (List ℕ) → Option E) → Option (A × List (List ℕ)) → Option E
onward k None = None
onward k (Some x) = k x.0 x.1

-- reads a field, and goes on
abbrev pub next : {A E : Type 0} → (List ℕ → Option A) → (A → List (List ℕ) → Option E) → List (List ℕ) → Option E
next read k ws = onward k (first read ws)

-- numbers as a rank, a server, a work type, and the ids of a unit and of a batch
abbrev pub rank_of : ℕ → Rank
rank_of n = record { 0 = n }

-- the server of a number
abbrev pub server_of : ℕ → Server
server_of n = record { 0 = n }

-- the work type of a number
abbrev pub kind_of : ℕ → WorkType
kind_of n = record { 0 = n }

-- the id of a unit by its rank and number
abbrev pub unit_of : ℕ × ℕ → UnitId
unit_of x = record { rank = rank_of x.0; number = x.1 }

-- the id of a batch by its rank and number
abbrev pub batch_of : ℕ × ℕ → BatchId
batch_of x = record { rank = rank_of x.0; number = x.1 }

-- the numbers of a rank and of its call; what is read after these, after a server, and after the id of a unit
unfoldable pub call_in : List (List ℕ) → Option ((ℕ × ℕ) × List (List ℕ))
call_in ws = onward (λ rank vs. onward (λ call us. Some ((rank, call), us)) (first number_in vs)) (first length_in ws)

-- reads a call, and goes on
abbrev pub with_call : {E : Type 0} → (Rank → ℕ → List (List ℕ) → Option E) → List (List ℕ) → Option E
with_call k ws = onward (λ (x : ℕ × ℕ). k (rank_of x.0) x.1) (call_in ws)

-- reads a server, and goes on
abbrev pub with_server : {E : Type 0} → (Server → List (List ℕ) → Option E) → List (List ℕ) → Option E
with_server k = next length_in (λ n. k (server_of n))

-- reads the id of a unit, and goes on
abbrev pub with_unit : {E : Type 0} → (UnitId → List (List ℕ) → Option E) → List (List ℕ) → Option E
with_unit k = next pair_in (λ x. k (unit_of x))

-- a value that is read, and the words after it; and if no word is left, the value alone
abbrev pub value : {E : Type 0} → E → List (List ℕ) → Option (E × List (List ℕ))
value e ws = Some (e, ws)

-- the entry, if no word is left
abbrev pub whole : {E : Type 0} → E → List (List ℕ) → Option E
whole e [] = Some e
whole e (w ∷ ws) = None

-- what a reader of the code returned is what reading gives, unless memory ran out
abbrev pub Fails : {A : Type 0} → LineFault → Option A → Type 0
Fails fault.Memory read = ⊤
Fails fault.Bad read = read ≡ None

-- what the code reads is what the definition says
abbrev pub Gives : {X A : Type 0} → (X → A) → Result X LineFault → Option A → Type 0
Gives view (Ok x) read = read ≡ Some (view x)
Gives view (Err f) read = Fails f read

-- what a reader returned of a word: the field that the word is, or `None` where it is not one, unless memory ran out
abbrev pub Misses : {A : Type 0} → (A → Field) → List ℕ → LineFault → Type 0
Misses field w fault.Memory = ⊤
Misses field w fault.Bad = (a : _) → IsWithin (field a) → w ≡ word (field a) → ⊥

-- what the code finds is the word of a field within its range
abbrev pub Finds : {A : Type 0} → (A → Field) → List ℕ → Result A LineFault → Type 0
Finds field w (Ok a) = IsWithin (field a) × (w ≡ word (field a))
Finds field w (Err f) = Misses field w f
