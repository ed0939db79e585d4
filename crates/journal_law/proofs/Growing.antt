-- A journal grows by one event, and a run keeps what each event keeps.
use Rattle.std.proofs.Common.{◌<◌, ◌≤◌, ℕ, List, [], ◌∷◌, ◌++◌, refl, arith}
use Rattle.std.specs.List.{AllByRecursion as Each}
use Rattle.journal_law.specs.Orders.{Rises}
use Rattle.journal_law.specs.Machines.{Machine, World}
use Rattle.journal_law.specs.Journals.{Walks, IsStamped, IsOwnRun}
use Rattle.journal_law.specs.Runs.{Runs}
use Rattle.journal_law.proofs.Compose.{each_append, each_weaker}

module _ {S L E : Type 0} (m : Machine S L E) where
  walks_push : (a : ℕ) (s : S) (es : List E) (t : S) (e : E) (u : S) → Walks m a s es t → m.Steps a t e u → Walks m a s (es ++ e ∷ []) u
  walks_push a s [] t e u w step = (u, (rw w step), refl)
  walks_push a s (d ∷ es) t e u w step = (w.0, w.1, walks_push a w.0 es t e u w.2 step)

  rises_push : (es : List E) (e : E) → Rises m.stamp es → Each (λ d. m.stamp d < m.stamp e) es → Rises m.stamp (es ++ e ∷ [])
  rises_push [] e r h = (tt, tt)
  rises_push (d ∷ es) e r h = (each_append (λ c. m.stamp d < m.stamp c) es (e ∷ []) r.0 (h.0, tt), rises_push es e r.1 h.1)

  -- what an actor's loop keeps: its journal so far, its state and its last stamp
  pub record IsSoFar (a : ℕ) (journal : List E) (state : S) (last : ℕ) : Type 0 where
    pub own : IsOwnRun m a journal state
    pub below : Each (λ e. m.stamp e ≤ last) journal

  -- an empty journal is one so far
  pub so_far_start : (a last : ℕ) → IsSoFar a [] (m.start a) last
  so_far_start a last = record { own = record { walks = refl; rises = tt; stamped = tt }; below = tt }

  -- a journal with one step more at a later stamp is one so far
  pub so_far_more : (a : ℕ) (journal : List E) (s : S) (last : ℕ) (e : E) (t : S) → IsSoFar a journal s last → m.Steps a s e t
      → IsStamped m e → last < m.stamp e → IsSoFar a (journal ++ e ∷ []) t (m.stamp e)
  so_far_more a journal s last e t so step stamped later = record {
    own = record {
      walks = walks_push a (m.start a) journal s e t so.own.walks step;
      rises = rises_push journal e so.own.rises
          (each_weaker (λ d. m.stamp d ≤ last) (λ d. m.stamp d < m.stamp e) (λ d h. omega arith) journal so.below);
      stamped = each_append (IsStamped m) journal (e ∷ []) so.own.stamped (stamped, tt);
    };
    below = each_append (λ d. m.stamp d ≤ m.stamp e) journal (e ∷ [])
        (each_weaker (λ d. m.stamp d ≤ last) (λ d. m.stamp d ≤ m.stamp e) (λ d h. omega arith) journal so.below) (omega arith, tt);
  }

module _ {S L E W : Type 0} (m : Machine S L E) (world : World S L E W) where
  -- an induction along a run
  pub run_keeps : (P : W → Type 0) → ((w : W) (a : ℕ) (e : E) (v : W) → world.Happens w a e v → P w → P v)
      → (w : W) (events : List (ℕ × E)) (v : W) → Runs m world w events v → P w → P v
  run_keeps P step w [] v runs p = rw (← runs) p
  run_keeps P step w (x ∷ xs) v runs p = run_keeps P step runs.0 xs v runs.2 (step w x.0 x.1 runs.0 runs.1 p)
