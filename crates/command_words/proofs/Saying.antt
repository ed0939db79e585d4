-- From what a parse found to what the words say.
use Rattle.std.proofs.Common.{◌≡◌, ◌≢◌, ◌≤◌, ◌-◌, ◌∙◌, ℕ, Bool, List, [], ◌∷◌, Option, Some, None, String, Global}
use Rattle.std.proofs.Common.{ap, sym, subst, true, false, refl, arith, drop, length, map, slice_index_or, take}
use Rattle.std.specs.Str.Parse.{ParsesBool, ParsesUnsigned, digits_value, without_leading_plus}
use Rattle.std.specs.Prelude.{Err, IfErr, IfOk, Ok, Result, codes, unwrap_or}
use Rattle.std.specs.Str.{bytes_eq}
use Rattle.std.specs.String.{string_bytes}
use Rattle.std.proofs.lemmas.List.{take_all}
use Rattle.std.proofs.lemmas.Slice.Eq.{bytes_eq-Decides}
use Rattle.clap.specs.Words.{App, IsUnsignedIn, Kinds, ReadsOne, Row, Text, fault_of, matches_of, one_of}
use Rattle.command_words.specs.inside.{HoldsIn, IsFound}
use Rattle.command_words.specs.Options.{drill_app, flow_app, solve_app, tour_app}
use Rattle.command_words.specs.Ranges.{counts, seeds}
use Rattle.command_words.specs.Said.{command_of, drill_of, flag_of, flow_of, number_of, read_by, run_of, solve_of, tour_of, unless}
use Rattle.command_words.specs.declared.commands.Command.{Command}
use Rattle.command_words.specs.declared.commands.Command.TheVariants.{Drill}
use Rattle.command_words.specs.declared.commands.RunOptions.{RunOptions}
use Rattle.command_words.specs.declared.commands.WordsFault.{WordsFault}
use Rattle.command_words.specs.declared.commands.WordsFault.TheVariants.{Usage}

-- words without a fault say what their rows say
pub found_says : (app : App) (says : List Row → Command) (words : List Text) (rows : List Row) → IsFound app words rows
    → read_by app says words ≡ Some (says rows)
found_says app says words rows found = rw (found.fault, found.rows) refl

-- words with a fault say nothing
pub faults_say_nothing : (app : App) (says : List Row → Command) (words : List Text) → fault_of app words ≢ []
    → read_by app says words ≡ None
faults_say_nothing app says words some = go (fault_of app words) refl
  where
    go : (kinds : Kinds) → fault_of app words ≡ kinds → unless kinds (says (matches_of app words)) ≡ None
    go [] none = absurd (some none)
    go (kind ∷ kinds) is = refl

-- words that are refused say no command
pub refused_says_nothing : (app given : App) (says : List Row → Command) (words : List Text) (fault : WordsFault) → given ≡ app
    → (fault ≡ Usage → fault_of given words ≢ []) → fault ≡ Usage → read_by app says words ≡ None
refused_says_nothing app given says words fault same refused usage =
    faults_say_nothing app says words (subst (λ (a : App). fault_of a words ≢ []) same (refused usage))

-- the first word decides how the others are read
pub reads_solve : (word : Text) (rest : List Text) → word ≡ codes "solve" → command_of (word ∷ rest) ≡ read_by solve_app solve_of rest
reads_solve word rest is = rw is refl

-- words after `drill` are read as those of `drill`
pub reads_drill : (word : Text) (rest : List Text) → word ≡ codes "drill" → command_of (word ∷ rest) ≡ read_by drill_app drill_of rest
reads_drill word rest is = rw is refl

-- words after `tour` are read as those of `tour`
pub reads_tour : (word : Text) (rest : List Text) → word ≡ codes "tour" → command_of (word ∷ rest) ≡ read_by tour_app tour_of rest
reads_tour word rest is = rw is refl

pub reads_flow : (word : Text) (rest : List Text) → word ≡ codes "flow" → command_of (word ∷ rest) ≡ read_by flow_app flow_of rest
reads_flow word rest is = rw is refl

-- some words are their first and the others
pub first_and_rest : (words : List (String Global)) (word : String Global) (text : Text) → 1 ≤ length words
    → word ≡ slice_index_or words 0 word → text ≡ string_bytes word
    → map string_bytes words ≡ text ∷ map string_bytes (take (length words - 1) (drop 1 words))
first_and_rest [] word text some is text_is = absurd (omega arith)
first_and_rest (x ∷ xs) word text some is text_is =
    let head : text ≡ string_bytes x = text_is ∙ ap string_bytes is in
    let tail : take (length (x ∷ xs) - 1) xs ≡ xs = take_all (length (x ∷ xs) - 1) xs (omega arith) in
    ap (λ (t : Text). t ∷ map string_bytes xs) (sym head) ∙ ap (λ (ys : List (String Global)). text ∷ map string_bytes ys) (sym tail)

-- and the command is what those others say, or none
pub rest_says : (app : App) (says : List Row → Command) (all rest : List Text) (word : Text) (result : Result Command WordsFault)
    → IfOk result (λ c. read_by app says rest ≡ Some c) → command_of (word ∷ rest) ≡ read_by app says rest → all ≡ word ∷ rest
    → IfOk result (λ c. command_of all ≡ Some c)
rest_says app says all rest word (Ok c) said reads is = ap command_of is ∙ reads ∙ said
rest_says app says all rest word (Err fault) said reads is = tt

-- if the words after the first are refused, all words say no command
pub rest_says_nothing : (app : App) (says : List Row → Command) (all rest : List Text) (word : Text) (result : Result Command WordsFault)
    → IfErr result (λ f. f ≡ Usage → read_by app says rest ≡ None) → command_of (word ∷ rest) ≡ read_by app says rest → all ≡ word ∷ rest
    → IfErr result (λ f. f ≡ Usage → command_of all ≡ None)
rest_says_nothing app says all rest word (Ok c) refused reads is = tt
rest_says_nothing app says all rest word (Err fault) refused reads is = λ usage. ap command_of is ∙ reads ∙ refused usage

-- what `drill` says, part by part
pub drill_is : (rows : List Row) (count seed : ℕ) (run : RunOptions) → count ≡ number_of (codes "count") counts.default rows
    → seed ≡ number_of (codes "seed") seeds.default rows → run ≡ run_of rows → drill_of rows ≡ Drill count seed run
drill_is rows count seed run count_is seed_is run_is = rw (count_is, seed_is, run_is) refl

-- what `get_one` reads as a `u64` under a name, or the default
pub number_is : {E : Type 0} (G : Text → Result ℕ E → Type 0) (name : Text) (low high default : ℕ) (rows : List Row) (o : Option ℕ)
    → HoldsIn name low high rows → (one_of name rows ≡ None → o ≡ None) → ((t : Text) → one_of name rows ≡ Some t → ReadsOne G t o)
    → ((t : Text) (r : Result ℕ E) → G t r → ParsesUnsigned 64 10 t r)
    → unwrap_or o default ≡ number_of name default rows
number_is {E} G name low high default rows o holds absent reads parses = go (one_of name rows) refl
  where
    read : (t : Text) → IsUnsignedIn low high t → (q : Option ℕ) → ReadsOne G t q
        → unwrap_or q default ≡ digits_value 10 (without_leading_plus t)
    read t h (Some n) gives = (parses t (Ok n) gives).1
    read t h None gives = absurd (parses t (Err gives.0) gives.1 (h.0, h.1))

    go : (one : Option Text) → one_of name rows ≡ one → unwrap_or o default ≡ number_of name default rows
    go None is = rw (is, absent is) refl
    go (Some t) is = rw is (read t (holds t is) o (reads t is))

differs : (t : Text) → t ≢ codes "true" → bytes_eq t (codes "true") ≡ false
differs t other = go (bytes_eq t (codes "true")) refl
  where
    go : (b : Bool) → bytes_eq t (codes "true") ≡ b → bytes_eq t (codes "true") ≡ false
    go true is = absurd (other ((bytes_eq-Decides t (codes "true")).0 is))
    go false is = is

-- and as a `bool`, or false
pub flag_is : (E : Type 0) (name : Text) (rows : List Row) (o : Option Bool) → (one_of name rows ≡ None → o ≡ None)
    → ((t : Text) → one_of name rows ≡ Some t → ReadsOne {T = Bool} {E = E} ParsesBool t o) → unwrap_or o false ≡ flag_of name rows
flag_is E name rows o absent reads = go (one_of name rows) refl
  where
    read : (t : Text) (q : Option Bool) → ReadsOne {T = Bool} {E = E} ParsesBool t q → unwrap_or q false ≡ bytes_eq t (codes "true")
    read t (Some true) gives = rw gives refl
    read t (Some false) gives = rw gives refl
    read t None gives = sym (differs t (λ e. gives.1.0 e))

    go : (one : Option Text) → one_of name rows ≡ one → unwrap_or o false ≡ flag_of name rows
    go None is = rw (is, absent is) refl
    go (Some t) is = rw is (read t o (reads t is))
