-- Two actors, a question and an answer: the premises of the law can be met.
use Rattle.std.proofs.Common.{◌≡◌, ◌<◌, ◌+◌, ℕ, zero, suc, List, [], ◌∷◌, Option, Some, None, refl, inl, arith}
use mathlib.Core.List.{IsPrefix}
use Rattle.journal_law.specs.Orders.{of_actor, IsMerged}
use Rattle.journal_law.specs.Machines.{Machine}
use Rattle.journal_law.specs.Journals.{sent, got, IsOwnRun, Compose}

record Letter : Type 0 where
  stamp : ℕ
  body : ℕ

record Event : Type 0 where
  stamp : ℕ
  cause : Option (ℕ × Letter)
  sends : List (ℕ × Letter)

-- each event counts one
abbrev counting : Machine ℕ Letter Event
counting = record {
  actors = 2;
  stamp = λ e. e.stamp;
  cause = λ e. e.cause;
  sends = λ e. e.sends;
  letter_stamp = λ l. l.stamp;
  start = λ a. 0;
  Steps = λ a s e t. t ≡ s + 1;
}

abbrev question : Letter
question = record { stamp = 1; body = 7 }

abbrev answer : Letter
answer = record { stamp = 2; body = 8 }

abbrev asks : Event
asks = record { stamp = 1; cause = None; sends = (1, question) ∷ [] }

abbrev answers : Event
answers = record { stamp = 2; cause = Some (0, question); sends = (0, answer) ∷ [] }

abbrev hears : Event
hears = record { stamp = 3; cause = Some (1, answer); sends = [] }

abbrev journal : ℕ → List Event
journal zero = asks ∷ hears ∷ []
journal (suc zero) = answers ∷ []
journal (suc (suc a)) = []

abbrev final : ℕ → ℕ
final zero = 2
final (suc zero) = 1
final (suc (suc a)) = 0

own : (a : ℕ) → a < 2 → IsOwnRun counting a (journal a) (final a)
own zero below = record {
  walks = (1, refl, (2, refl, refl));
  rises = ((lit, tt), (tt, tt));
  stamped = (record { bears = (refl, tt); above = tt }, (record { bears = tt; above = (low, tt) }, tt));
}
  where
    lit : 1 < 3
    lit = omega arith

    low : 2 < 3
    low = omega arith
own (suc zero) below =
    record { walks = (1, refl, refl); rises = (tt, tt); stamped = (record { bears = (refl, tt); above = (low, tt) }, tt) }
  where
    low : 1 < 2
    low = omega arith
own (suc (suc a)) below = absurd (omega (arith, below))

links : (from to : ℕ) → from < 2 → to < 2 → IsPrefix (got counting from (journal to)) (sent counting to (journal from))
links zero zero f t = ([], refl)
links zero (suc zero) f t = ([], refl)
links (suc zero) zero f t = ([], refl)
links (suc zero) (suc zero) f t = ([], refl)
links (suc (suc a)) to f t = absurd (omega (arith, f))
links from (suc (suc b)) f t = absurd (omega (arith, t))

composes : Compose counting journal final
composes = record { own = own; links = links }

abbrev events : List (ℕ × Event)
events = (0, asks) ∷ (1, answers) ∷ (0, hears) ∷ []

each : (a : ℕ) → a < 2 → of_actor a events ≡ journal a
each zero below = refl
each (suc zero) below = refl
each (suc (suc a)) below = absurd (omega (arith, below))

merged : IsMerged (λ (e : Event). e.stamp) 2 journal events
merged = record { within = (first, (second, (first, tt))); each = each; in_order = ((inl ab, (inl ac, tt)), ((inl bc, tt), (tt, tt))) }
  where
    first : 0 < 2
    first = omega arith

    second : 1 < 2
    second = omega arith

    ab : 1 < 2
    ab = omega arith

    ac : 1 < 3
    ac = omega arith

    bc : 2 < 3
    bc = omega arith
