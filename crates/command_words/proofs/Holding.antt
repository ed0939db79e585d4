-- A parse that succeeds gives numbers within the limits of its command.
use Rattle.std.proofs.Common.{◌≡◌, ◌∙◌, ◌<◌, ◌==◌, ◌&&◌, ◌||◌, not, ap, sym, subst, refl, arith, inl, inr, zero, suc, ℕ, Bool, true, false}
use Rattle.std.proofs.Common.{List, [], ◌∷◌, map, length, Option, Some, None, codes}
use Rattle.std.specs.List.{All, slice_index_or, list_all}
use Rattle.std.specs.Prelude.{option_map, slice_get, unwrap_or}
use Rattle.std.specs.Str.{bytes_eq}
use Rattle.std.specs.Borrow.{Bor}
use Rattle.std.proofs.lemmas.Bool.{cases_lt}
use Rattle.std.proofs.lemmas.List.Elements.{All-get_or}
use Rattle.std.proofs.lemmas.Slice.Eq.{bytes_eq-Decides}
use Rattle.clap.proofs.CallerLemmas.{entry_by_id}
use Rattle.clap.proofs.WalkLemmas.{both, one_text-rows}
use Rattle.clap.specs.Built.{IsAuto, IsParsedFrom, SameRules}
use Rattle.clap.specs.Facts.{Entry, EntryPasses, HasReading, PassesArg, args_of, groups_of, parser_of, parser_of_value}
use Rattle.clap.specs.Matches.{found_of, matched_of, one_text}
use Rattle.clap.specs.Simple.{has_simple_rules}
use Rattle.clap.specs.Values.{Accepts, IsUnsignedIn, read_as, reading_of}
use Rattle.clap.specs.Walk.{is_empty, is_simple_arg}
use Rattle.clap.specs.Words.{App, Rule, Text, app_of, rows_of, rule_of}
use Rattle.clap.specs.declared.builder.Arg.{Arg}
use Rattle.clap.specs.declared.builder.ValueParser.{ValueParser}
use Rattle.clap.specs.declared.builder.ValueParser.TheVariants.{Unsigned}
use Rattle.clap.specs.declared.builder.command.Command.{Command}
use Rattle.clap.specs.declared.builder.command.Command.TheViews.{out-Command}
use Rattle.clap.specs.declared.builder.value_parser.Reading.{Reading}
use Rattle.clap.specs.declared.builder.value_parser.Reading.TheVariants.{AsWritten}
use Rattle.clap.specs.declared.parser.matches.ArgMatches.{ArgMatches}
use Rattle.clap.specs.declared.parser.matches.MatchedArg.{MatchedArg}
use Rattle.command_words.specs.inside.{HoldsIn, HoldsMade, HoldsRun, HoldsSizes}
use Rattle.command_words.specs.Ranges.{budgets, counts, grains, limits, rank_counts, seeds, server_counts}

-- an option is parsed as a number between these
abbrev pub is_parser : ℕ → ℕ → Option ValueParser → Bool
is_parser low high (Some (Unsigned a b)) = a == low && b == high
is_parser low high _ = false

-- a rule lets the option of this name take a number between these alone
abbrev pub takes_number : Text → ℕ → ℕ → Rule → Bool
takes_number id low high r = not (bytes_eq r.id id) || is_parser low high r.parser

parser_is : (low high : ℕ) (o : Option ValueParser) → is_parser low high o ≡ true → o ≡ Some (Unsigned low high)
parser_is low high (Some (Unsigned a b)) h =
    let parts = both (a == low) (b == high) h in
    let low_is : a ≡ low = grind arith in
    let high_is : b ≡ high = grind arith in
    rw (low_is, high_is) refl
parser_is low high _ h = cc

number_at : (id : Text) (low high : ℕ) (xs : List Arg) → list_all (takes_number id low high) (map rule_of xs) ≡ true
    → (j : ℕ) (d : Arg) → j < length xs → bytes_eq (slice_index_or xs j d).id.now id ≡ true
    → (slice_index_or xs j d).value_parser ≡ Some (Unsigned low high)
number_at id low high [] h j d lt same = absurd (omega arith)
number_at id low high (x ∷ xs) h zero d lt same =
    let here : (not (bytes_eq x.id.now id) || is_parser low high x.value_parser) ≡ true = (both _ _ h).0 in
    parser_is low high x.value_parser (rw same at here)
number_at id low high (x ∷ xs) h (suc j) d lt same = number_at id low high xs (both _ _ h).1 j d (omega arith) same

no_items : {X : Type 0} (xs : List X) → is_empty xs ≡ true → xs ≡ []
no_items [] h = refl
no_items (x ∷ xs) h = absurd (grind arith)

groups_none : (a : Arg) → is_simple_arg a ≡ true → a.groups.items ≡ []
groups_none a h = no_items a.groups.items (both _ _ (both _ _ (both _ _ h).1).1).0

name_no_group : (xs : List Arg) → list_all (λ r. r.is_simple) (map rule_of xs) ≡ true → All (λ a. a.groups.items ≡ []) xs
name_no_group [] h j d lt = absurd (omega arith)
name_no_group (x ∷ xs) h zero d lt = groups_none x (both _ _ h).0
name_no_group (x ∷ xs) h (suc j) d lt = name_no_group xs (both _ _ h).1 j d (omega arith)

-- The command is simple, and each of its rules of this name takes a number from `low` to `high`. The name is neither empty nor that of a
-- flag of `clap`'s own.
abbrev pub names : App → Text → ℕ → ℕ → Bool
names app id low high = has_simple_rules app.top && (list_all (takes_number id low high) app.top.rules
    && (not (bytes_eq (codes "help") id) && (not (bytes_eq (codes "version") id) && not (is_empty id))))

not_true : (b : Bool) → not b ≡ true → b ≡ false
not_true true h = cc
not_true false h = refl

record Names (app : App) (id : Text) (low high : ℕ) : Type 0 where
  simple : has_simple_rules app.top ≡ true
  numbers : list_all (takes_number id low high) app.top.rules ≡ true
  help : bytes_eq (codes "help") id ≡ false
  version : bytes_eq (codes "version") id ≡ false
  text : is_empty id ≡ false

named : (app : App) (id : Text) (low high : ℕ) → names app id low high ≡ true → Names app id low high
named app id low high h =
    let rules = both (has_simple_rules app.top) _ h in
    let flags = both (list_all (takes_number id low high) app.top.rules) _ rules.1 in
    let help = both (not (bytes_eq (codes "help") id)) _ flags.1 in
    let version = both (not (bytes_eq (codes "version") id)) _ help.1 in
    record {
      simple = rules.0;
      numbers = flags.0;
      help = not_true _ help.0;
      version = not_true _ version.0;
      text = not_true _ version.1;
    }

third : (a b c d : Bool) → (a && (b && (c && d))) ≡ true → c ≡ true
third a b c d h = (both c d (both b (c && d) (both a (b && (c && d)) h).1).1).0

some_is : (a b : Text) → Some a ≡ Some b → a ≡ b
some_is a b h = ap (λ (o : Option Text). unwrap_or o a) h

module _ (app : App) (old : Command) (m : ArgMatches) (p : IsParsedFrom old m) (same_app : app_of old ≡ app)
    (id : Text) (low high : ℕ) (takes : Names app id low high) where
  is_plain : (app_of old).top.is_plain ≡ true
  is_plain = subst (λ (a : App). a.top.is_plain ≡ true) (sym same_app) (both _ _ takes.simple).0

  are_simple : list_all (λ r. r.is_simple) (map rule_of (args_of old)) ≡ true
  are_simple = subst (λ (a : App). list_all (λ r. r.is_simple) a.top.rules ≡ true) (sym same_app) (both _ _ takes.simple).1

  numbers : list_all (takes_number id low high) (map rule_of (args_of old)) ≡ true
  numbers = subst (λ (a : App). list_all (takes_number id low high) a.top.rules ≡ true) (sym same_app) takes.numbers

  no_groups : groups_of p.built ≡ []
  no_groups = (p.from.same_groups (name_no_group (args_of old) are_simple)).1 ∙ no_items (groups_of old) (both _ _ is_plain).0

  no_globals : (out-Command p.built).has_globals ≡ false
  no_globals = p.from.globals ∙ not_true (out-Command old).has_globals (third _ _ _ _ is_plain)

  unnamed : id ≡ [] → ⊥
  unnamed h =
      let bad : true ≡ false = rw h at takes.text in
      cc

  -- an argument of this name takes a number from `low` to `high`
  parser_at : (j : ℕ) (x : Arg) → j < length (args_of p.built) → slice_index_or (args_of p.built) j x ≡ x → bytes_eq x.id.now id ≡ true
      → parser_of x ≡ Unsigned low high
  parser_at j x inside at same = elim (cases_lt j (length (args_of old))) [
    | inl under ↦
        let s = subst (λ (w : Arg). SameRules (slice_index_or (args_of old) j x) w) at (p.from.kept j x under).1 in
        let same_old : bytes_eq (slice_index_or (args_of old) j x).id.now id ≡ true = rw (← s.id) same in
        let parser = number_at id low high (args_of old) numbers j x under same_old in
        ap parser_of_value (s.parser (Unsigned low high) parser)
    | inr over ↦
        elim (subst IsAuto at (p.from.extra j x over inside)) [
          | inl help ↦
              let given : bytes_eq (codes "help") id ≡ true = rw help at same in
              let bad : true ≡ false = sym given ∙ takes.help in
              cc
          | inr version ↦
              let given : bytes_eq (codes "version") id ≡ true = rw version at same in
              let bad : true ≡ false = sym given ∙ takes.version in
              cc
        ]
  ]

  passes_in : (t : Text) → PassesArg p.built id t → IsUnsignedIn low high t
  passes_in t any = subst (λ (q : ValueParser). Accepts any.1.ignore_case q t) (parser_at any.0 any.1 any.2 any.3 any.4.0) any.4.1

  is_as_written : (how : Reading) → HasReading p.built id how → how ≡ AsWritten
  is_as_written how any = sym any.4.1 ∙ ap reading_of (parser_at any.0 any.1 any.2 any.3 any.4.0)

  first_in : (how : Reading) (vs : List (Bor Text)) (t : Text) → how ≡ AsWritten → All (λ v. PassesArg p.built id v.now) vs
      → option_map (λ s. read_as how s.now) (slice_get vs 0) ≡ Some t → IsUnsignedIn low high t
  first_in how [] t plain all is = cc
  first_in how (v ∷ vs) t plain all is =
      let written : Some v.now ≡ Some t = rw plain at is in
      let text : v.now ≡ t = some_is v.now t written in
      let pass = All-get_or (λ (w : Bor Text). PassesArg p.built id w.now) (v ∷ vs) 0 v (omega arith) all in
      subst (λ (w : Text). IsUnsignedIn low high w) text (passes_in v.now pass)

  entry_in : (e : Entry) (t : Text) → e.0.now ≡ id → EntryPasses p.built e
      → option_map (λ s. read_as e.1.reading s.now) (slice_get e.1.vals.items 0) ≡ Some t → IsUnsignedIn low high t
  entry_in e t key pass is =
      let no_group : e.1.is_group ≡ true → ⊥ = λ g. elim (pass.3 g) [
        | inl empty ↦ unnamed (sym key ∙ empty)
        | inr some ↦
            let bad : 0 < 0 = rw no_groups at some in
            absurd (omega arith)
      ] in
      let all : All (λ v. PassesArg p.built id v.now) e.1.vals.items = elim pass.0 [
        | inl g ↦ absurd (no_group g)
        | inr vals ↦ subst (λ (w : Text). All (λ v. PassesArg p.built w v.now) e.1.vals.items) key vals
      ] in
      let plain : e.1.reading ≡ AsWritten = elim pass.4 [
        | inl g ↦ absurd (no_group g)
        | inr h ↦ is_as_written e.1.reading (subst (λ (w : Text). HasReading p.built w e.1.reading) key h)
      ] in
      first_in e.1.reading e.1.vals.items t plain all is

  number_holds : HoldsIn id low high (rows_of (found_of m))
  number_holds t given = go (matched_of (found_of m) id) refl (one_text-rows (found_of m) id ∙ given)
    where
      go : (o : Option MatchedArg) → matched_of (found_of m) id ≡ o → one_text (found_of m) id ≡ Some t → IsUnsignedIn low high t
      go None found is =
          let bad : None ≡ Some t = rw found at is in
          cc
      go (Some x) found is =
          let got = entry_by_id (EntryPasses p.built) (found_of m).entries.items id x (p.parsed no_globals).values found in
          let text : option_map (λ s. read_as x.reading s.now) (slice_get x.vals.items 0) ≡ Some t = rw found at is in
          entry_in got.0 t ((bytes_eq-Decides got.0.0.now id).0 got.2) got.3 (rw got.1 text)

-- the numbers of a command are in their ranges, where it takes them so
module _ (app : App) (old : Command) (m : ArgMatches) (p : IsParsedFrom old m) (same_app : app_of old ≡ app) where
  -- a parse of `make` gives numbers within their limits
  pub made_holds : names app (codes "count") counts.low counts.high ≡ true → names app (codes "seed") seeds.low seeds.high ≡ true
      → HoldsMade (rows_of (found_of m))
  made_holds count seed = record {
    count = number_holds app old m p same_app (codes "count") counts.low counts.high (named app _ _ _ count);
    seed = number_holds app old m p same_app (codes "seed") seeds.low seeds.high (named app _ _ _ seed);
  }

  -- a parse gives numbers of ranks, servers and bytes within their limits
  pub sizes_hold : names app (codes "ranks") rank_counts.low rank_counts.high ≡ true
      → names app (codes "servers") server_counts.low server_counts.high ≡ true
      → names app (codes "limit") limits.low limits.high ≡ true → HoldsSizes (rows_of (found_of m))
  sizes_hold ranks servers limit = record {
    ranks = number_holds app old m p same_app (codes "ranks") rank_counts.low rank_counts.high (named app _ _ _ ranks);
    servers = number_holds app old m p same_app (codes "servers") server_counts.low server_counts.high (named app _ _ _ servers);
    limit = number_holds app old m p same_app (codes "limit") limits.low limits.high (named app _ _ _ limit);
  }

  -- a parse of a run gives all its numbers within their limits
  pub run_holds : names app (codes "ranks") rank_counts.low rank_counts.high ≡ true
      → names app (codes "servers") server_counts.low server_counts.high ≡ true
      → names app (codes "limit") limits.low limits.high ≡ true → names app (codes "budget") budgets.low budgets.high ≡ true
      → names app (codes "grain") grains.low grains.high ≡ true → HoldsRun (rows_of (found_of m))
  run_holds ranks servers limit budget grain = record {
    sizes = sizes_hold ranks servers limit;
    budget = number_holds app old m p same_app (codes "budget") budgets.low budgets.high (named app _ _ _ budget);
    grain = number_holds app old m p same_app (codes "grain") grains.low grains.high (named app _ _ _ grain);
  }
