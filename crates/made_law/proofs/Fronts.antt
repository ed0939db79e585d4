-- A front of a text that ends with a line: which jobs it has before what follows, and that no line of it is refused.
use Rattle.std.proofs.Common.{◌≡◌, ◌∙◌, ℕ, ◌-◌, Bool, true, false, eqb, not, ◌==◌, ◌&&◌, List, [], ◌∷◌, ◌++◌, get_or, length, map, refl}
use Rattle.std.proofs.Common.{sym, ap, None, append_assoc, append-nil, arith}
use Rattle.std.specs.List.{AllPass, list_all}
use Rattle.std.specs.Str.Lines.{strip_carriage_return}
use Rattle.std.proofs.lemmas.Bool.{and_parts, cond-false, not-true}
use Rattle.std.proofs.lemmas.List.Splits.{slice_split_at}
use Rattle.std.proofs.lemmas.List.Sums.{AllPass-from_list_all}
use Rattle.job_text.specs.declared.jobs.Job.{Job}
use Rattle.job_text.specs.Lines.{is_line_feed}
use Rattle.job_text.specs.Kinds.{kind_of, short_kind}
use Rattle.job_text.specs.Jobs.{first_refused, items_of, jobs_of, kinds}

-- the byte is neither a line feed nor a carriage return
abbrev pub is_plain : ℕ → Bool
is_plain byte = not (byte == 10) && not (byte == 13)

not_feed : (byte : ℕ) → is_plain byte ≡ true → is_line_feed byte ≡ false
not_feed byte plain = not-true (eqb byte 10) (and_parts (not (eqb byte 10)) (not (eqb byte 13)) plain).0

not_return : (byte : ℕ) → is_plain byte ≡ true → eqb byte 13 ≡ false
not_return byte plain = not-true (eqb byte 13) (and_parts (not (eqb byte 10)) (not (eqb byte 13)) plain).1

-- a plain line has no carriage return at its end
whole_line : (line : List ℕ) → AllPass is_plain line → strip_carriage_return line ≡ line
whole_line [] plain = refl
whole_line (x ∷ xs) plain =
    let at : ℕ = length (x ∷ xs) - 1 in
    cond-false (eqb (get_or (x ∷ xs) at 0) 13) _ (x ∷ xs) (not_return (get_or (x ∷ xs) at 0) (plain at 0 (omega arith)))

-- the kinds of a text's lines, when the first of them is plain
pub first_kind : (line back : List ℕ) → list_all is_plain line ≡ true → kinds (line ++ 10 ∷ back) ≡ kind_of line ∷ kinds back
first_kind line back plain =
    let each : AllPass is_plain line = AllPass-from_list_all is_plain line plain in
    ap (λ parts. map kind_of (map strip_carriage_return parts))
    (slice_split_at is_line_feed line 10 back (λ k d lt. not_feed (get_or line k d) (each k d lt)) refl)
    ∙ ap (λ first. kind_of first ∷ kinds back) (whole_line line each)

-- a text that can follow jobs: no item of it belongs to a batch before it, and no line of it is refused
pub record Follows (back : List ℕ) : Type 0 where
  pub items : items_of (kinds back) ≡ []
  pub fine : (on : Bool) (number : ℕ) → first_refused on number (kinds back) ≡ None

-- the front has these jobs, whatever follows
pub record IsFront (front : List ℕ) (own : List Job) : Type 0 where
  pub follows : (back : List ℕ) → Follows back → Follows (front ++ back)
  pub jobs : (back : List ℕ) → Follows back → jobs_of (kinds (front ++ back)) ≡ own ++ jobs_of (kinds back)

pub nothing_is_front : IsFront [] []
nothing_is_front = record { follows = λ back good. good; jobs = λ back good. refl }

-- one front after another
pub fronts_join : (front next : List ℕ) (jobs more : List Job) → IsFront front jobs → IsFront next more
    → IsFront (front ++ next) (jobs ++ more)
fronts_join front next jobs more first second = record {
  follows = λ back good. follows_in back (first.follows (next ++ back) (second.follows back good));
  jobs = λ back good.
      ap (λ text. jobs_of (kinds text)) (append_assoc front next back)
      ∙ first.jobs (next ++ back) (second.follows back good)
      ∙ ap (λ l. jobs ++ l) (second.jobs back good)
      ∙ sym (append_assoc jobs more (jobs_of (kinds back)));
}
  where
    follows_in : (back : List ℕ) → Follows (front ++ (next ++ back)) → Follows ((front ++ next) ++ back)
    follows_in back good = record {
      items = ap (λ text. items_of (kinds text)) (append_assoc front next back) ∙ good.items;
      fine = λ on number. ap (λ text. first_refused on number (kinds text)) (append_assoc front next back) ∙ good.fine on number;
    }

-- nothing follows a whole text
pub nothing_follows : Follows []
unfolding items_of first_refused kind_of short_kind
nothing_follows = record { items = refl; fine = λ on number. refl }

-- a front that is a whole text has these jobs, and no line of it is refused
pub all_jobs : (text : List ℕ) (jobs : List Job) → IsFront text jobs → jobs_of (kinds text) ≡ jobs
unfolding jobs_of kind_of short_kind
all_jobs text jobs front =
    ap (λ t. jobs_of (kinds t)) (sym (append-nil text)) ∙ front.jobs [] nothing_follows ∙ append-nil jobs

pub none_refused : (text : List ℕ) (jobs : List Job) → IsFront text jobs → first_refused false 1 (kinds text) ≡ None
none_refused text jobs front =
    let good : Follows (text ++ []) = front.follows [] nothing_follows in
    ap (λ t. first_refused false 1 (kinds t)) (sym (append-nil text)) ∙ good.fine false 1
