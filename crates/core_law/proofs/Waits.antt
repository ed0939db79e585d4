-- Who waits after an act, as sums and one by one: who waited, and who came, without who went.
use Rattle.std.proofs.Common.{◌≡◌, ℕ, ◌+◌, List, [], ◌∷◌, ◌++◌, Option, None, Some, ap, subst, arith}
use Rattle.server_law.specs.Acts.{Act, Around, around, comes, goes, waiting_after, waiting_with}
use Rattle.server_components.specs.declared.waits.Waiting.{Waiting}
use Rattle.server_law.specs.State.{ServerModel}
use Rattle.server_law.specs.Sure.{Sits, SitsIn}
use Rattle.core_law.specs.OnLinks.{Each}
use Rattle.core_law.specs.Measures.{ActKeeps, Balance, IsEven, weigh, weights}
use Rattle.core_law.proofs.Sums.{weigh-append}
use Rattle.core_law.proofs.UnderWay.{each_append, each_parts}

-- Sums.

by_around : (f : Waiting → ℕ) (o : Option Around) (waiting gone come : List Waiting) → Sits o waiting gone
    → weigh f (waiting_with o waiting come) + weigh f gone ≡ weigh f waiting + weigh f come
by_around f None waiting gone [] is = rw is (omega arith)
by_around f None waiting gone (e ∷ come) is = let all = weigh-append f waiting (e ∷ come) in rw is (omega arith)
by_around f (Some at) waiting gone come is =
    let was = weigh-append f at.before (gone ++ at.behind) in
    let were = weigh-append f gone at.behind in
    let now : weigh f (waiting_with (Some at) waiting come) ≡ weigh f at.before + weigh f (come ++ at.behind) = weigh-append f at.before
    (come ++ at.behind) in
    let are = weigh-append f come at.behind in
    let all = ap (weigh f) is in
    omega arith

-- those who wait after an act, and those who go, weigh what those who waited and those who come weigh
pub waits : (f : Waiting → ℕ) (a : Act) (s : ServerModel) → SitsIn a s
    → weigh f (waiting_after a s) + weigh f (goes a) ≡ weigh f s.kept.parked.waiting + weigh f (comes a s)
waits f a s sits = by_around f (around a) s.kept.parked.waiting (goes a) (comes a s) sits

-- an act that is even keeps the two sides equal
pub even_keeps : (b : Balance) (a : Act) (s : ServerModel) → SitsIn a s → IsEven b a s → ActKeeps (weights b) a s
even_keeps b a s sits even =
    let held = waits (b.waits s.me.0) a s sits in
    let owed = waits (b.waits_due s.me.0) a s sits in
    omega arith

-- One by one.

each_around : (P : Waiting → Type 0) (o : Option Around) (waiting gone come : List Waiting) → Sits o waiting gone → Each P waiting
    → Each P come → Each P (waiting_with o waiting come)
each_around P None waiting gone [] sits all new = all
each_around P None waiting gone (e ∷ come) sits all new = each_append P waiting (e ∷ come) all new
each_around P (Some at) waiting gone come sits all new =
    let parts = each_parts P at.before (gone ++ at.behind) (subst (Each P) sits all) in
    each_append P at.before (come ++ at.behind) parts.0 (each_append P come at.behind new (each_parts P gone at.behind parts.1).1)

-- what holds of each who waited and of who comes holds of who waits after an act
pub each_after : (P : Waiting → Type 0) (a : Act) (s : ServerModel) → SitsIn a s → Each P s.kept.parked.waiting → Each P (comes a s)
    → Each P (waiting_after a s)
each_after P a s sits all new = each_around P (around a) s.kept.parked.waiting (goes a) (comes a s) sits all new

gone_around : (P : Waiting → Type 0) (o : Option Around) (waiting gone : List Waiting) → Sits o waiting gone → Each P waiting → Each P gone
gone_around P None waiting gone sits all = rw sits tt
gone_around P (Some at) waiting gone sits all =
    (each_parts P gone at.behind (each_parts P at.before (gone ++ at.behind) (subst (Each P) sits all)).1).0

-- of the one who goes
pub each_gone : (P : Waiting → Type 0) (a : Act) (s : ServerModel) → SitsIn a s → Each P s.kept.parked.waiting → Each P (goes a)
each_gone P a s sits all = gone_around P (around a) s.kept.parked.waiting (goes a) sits all
