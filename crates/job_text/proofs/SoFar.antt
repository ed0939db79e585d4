-- What was read, with one line more.
use Rattle.std.proofs.Common.{◌≡◌, ◌≤◌, ℕ, ◌+◌, List, [], ◌∷◌, ◌++◌, length, refl, sym, ap, subst, ◌∙◌, Option, Some, None, append_assoc}
use Rattle.std.proofs.Common.{arith}
use Rattle.std.proofs.lemmas.List.{append-nil, length-append}
use Rattle.sudoku_law.specs.Grid.{Cells}
use Rattle.job_text.specs.declared.items.Item.{Item}
use Rattle.job_text.specs.declared.jobs.Job.{Job}
use Rattle.job_text.specs.declared.jobs.Job.TheVariants.{Puzzle, Batch}
use Rattle.job_text.specs.declared.reading.OpenBatch.{OpenBatch}
use Rattle.job_text.specs.declared.reading.Reading.{Reading}
use Rattle.job_text.specs.Kinds.{Kind, skipped, puzzle, batch, item}
use Rattle.job_text.specs.Jobs.{items_of, jobs_of, fault_of}
use Rattle.job_text.specs.inside.Read.{Extends, count, count_current, is_some_batch, jobs_behind, jobs_with}

-- nothing follows
pub nothing_more : (jobs : List Job) → jobs ≡ jobs ++ jobs_of []
unfolding jobs_of
nothing_more jobs = sym (append-nil jobs)

-- a batch ends with the items read so far
pub batch_ends : (jobs : List Job) (common : List ℕ) (items : List Item)
    → jobs ++ Batch common items ∷ [] ≡ jobs ++ Batch common (items ++ items_of []) ∷ jobs_of []
unfolding jobs_of items_of
batch_ends jobs common items = ap (λ (l : List Item). jobs ++ Batch common l ∷ []) (sym (append-nil items))

-- a line that is skipped changes nothing
skips_behind : (c : Option OpenBatch) (kinds : List Kind) → jobs_behind c (skipped ∷ kinds) ≡ jobs_behind c kinds
unfolding jobs_of items_of
skips_behind None kinds = refl
skips_behind (Some b) kinds = refl

-- a line that is skipped adds nothing
pub skips : (r : Reading) → Extends r skipped r
skips r = record {
  jobs = λ kinds. ap (λ (l : List Job). r.jobs.items ++ l) (skips_behind r.current kinds);
  fine = refl;
  open_behind = refl;
  few = omega arith;
}

-- a line that ends a batch
ends_behind : (c : Option OpenBatch) (kinds : List Kind) → items_of kinds ≡ [] → jobs_behind c kinds ≡ jobs_behind c [] ++ jobs_of kinds
unfolding jobs_of items_of
ends_behind None kinds none = refl
ends_behind (Some b) kinds none = ap (λ (l : List Item). Batch b.common (b.items.items ++ l) ∷ jobs_of kinds) none

ends : (old : Reading) (jobs : List Job) (kinds : List Kind) → jobs ≡ jobs_with old [] → items_of kinds ≡ []
    → jobs_with old kinds ≡ jobs ++ jobs_of kinds
ends old jobs kinds before none =
    ap (λ (l : List Job). old.jobs.items ++ l) (ends_behind old.current kinds none)
    ∙ sym (append_assoc old.jobs.items (jobs_behind old.current []) (jobs_of kinds))
    ∙ ap (λ (l : List Job). l ++ jobs_of kinds) (sym before)

-- what comes is after the jobs of what was read
joined : (new : Reading) (jobs more : List Job) (kinds : List Kind) (c : Option OpenBatch) → new.jobs.items ≡ jobs → new.current ≡ c
    → jobs_behind c kinds ≡ more → jobs ++ more ≡ jobs_with new kinds
joined new jobs more kinds c items current behind =
    ap (λ (l : List Job). l ++ more) (sym items)
    ∙ ap (λ (l : List Job). new.jobs.items ++ l) (sym behind ∙ ap (λ (x : Option OpenBatch). jobs_behind x kinds) (sym current))

count_is : (new : Reading) (jobs : List Job) (c : Option OpenBatch) → new.jobs.items ≡ jobs → new.current ≡ c
    → count new ≡ length jobs + count_current c
count_is new jobs c items current =
    ap (λ (l : List Job). length l + count_current new.current) items ∙ ap (λ (x : Option OpenBatch). length jobs + count_current x) current

-- a puzzle line adds a puzzle
pub puzzle_added : (old new : Reading) (jobs : List Job) (g : Cells) → jobs ≡ jobs_with old [] → length jobs ≤ count old
    → new.jobs.items ≡ jobs ++ Puzzle g ∷ [] → new.current ≡ None → Extends old (puzzle g) new
unfolding jobs_of items_of
puzzle_added old new jobs g before few after none = record {
  jobs = λ kinds.
      ends old jobs (puzzle g ∷ kinds) before refl ∙ sym (append_assoc jobs (Puzzle g ∷ []) (jobs_of kinds))
      ∙ joined new (jobs ++ Puzzle g ∷ []) (jobs_of kinds) kinds None after none refl;
  fine = refl;
  open_behind = ap is_some_batch none;
  few = omega (arith, count_is new (jobs ++ Puzzle g ∷ []) None after none, length-append jobs (Puzzle g ∷ []));
}

new_batch : (old new : Reading) (jobs : List Job) (b : OpenBatch) → jobs ≡ jobs_with old [] → length jobs ≤ count old
    → new.jobs.items ≡ jobs → new.current ≡ Some b → b.items.items ≡ [] → Extends old (batch b.common) new
unfolding jobs_of items_of
new_batch old new jobs b before few after some none = record {
  jobs = λ kinds.
      ends old jobs (batch b.common ∷ kinds) before refl
      ∙ joined new jobs (Batch b.common (items_of kinds) ∷ jobs_of kinds) kinds (Some b) after some
      (ap (λ (l : List Item). Batch b.common (l ++ items_of kinds) ∷ jobs_of kinds) none);
  fine = refl;
  open_behind = ap is_some_batch some;
  few = omega (arith, count_is new jobs (Some b) after some, ap length none);
}

-- an item joins the batch that is going on
one_item : (old new : Reading) (a b : OpenBatch) (i : Item) → old.current ≡ Some a → new.jobs.items ≡ old.jobs.items
    → new.current ≡ Some b → b.common ≡ a.common → b.items.items ≡ a.items.items ++ i ∷ [] → Extends old (item (Some i)) new
unfolding jobs_of items_of
one_item old new a b i was after some same more = record {
  jobs = λ kinds.
      ap (λ (x : Option OpenBatch). old.jobs.items ++ jobs_behind x (item (Some i) ∷ kinds)) was
      ∙ joined new old.jobs.items (Batch a.common (a.items.items ++ i ∷ items_of kinds) ∷ jobs_of kinds) kinds (Some b) after some
      (ap (λ (l : List ℕ). Batch l (b.items.items ++ items_of kinds) ∷ jobs_of kinds) same
      ∙ ap (λ (l : List Item). Batch a.common l ∷ jobs_of kinds) (ap (λ (l : List Item). l ++ items_of kinds) more
      ∙ append_assoc a.items.items (i ∷ []) (items_of kinds)));
  fine = ap (λ (x : Option OpenBatch). fault_of (is_some_batch x) (item (Some i))) was;
  open_behind = ap is_some_batch some ∙ sym (ap is_some_batch was);
  few = omega (
    arith,
    count_is new old.jobs.items (Some b) after some,
    count_is old old.jobs.items (Some a) refl was,
    ap length more,
    length-append a.items.items (i ∷ []),
  );
}

-- a batch line opens a batch without items
pub batch_added : (old new : Reading) (jobs : List Job) (b : OpenBatch) (bytes : List ℕ) → jobs ≡ jobs_with old [] → length jobs ≤ count old
    → new.jobs.items ≡ jobs → new.current ≡ Some b → b.items.items ≡ [] → b.common ≡ bytes → Extends old (batch bytes) new
batch_added old new jobs b bytes before few after some none same =
    subst (λ x. Extends old (batch x) new) same (new_batch old new jobs b before few after some none)

-- an item line adds an item to the open batch
pub item_added : (old new : Reading) (a b : OpenBatch) (given : Option Item) (i : Item) → old.current ≡ Some a → given ≡ Some i
    → new.jobs.items ≡ old.jobs.items → new.current ≡ Some b → b.common ≡ a.common → b.items.items ≡ a.items.items ++ i ∷ []
    → Extends old (item given) new
item_added old new a b given i was is after some same more =
    subst (λ x. Extends old (item x) new) (sym is) (one_item old new a b i was after some same more)
