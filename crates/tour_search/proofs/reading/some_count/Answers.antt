use Rattle.std.proofs.Common.{◌≡◌, ℕ, zero, suc, Some, None, refl, sym, ap}
use Rattle.tour_search.specs.Reading.{if_some}
use Rattle.tour_search.proofs.reading.some_count.Goals as goal

not_none : (n : ℕ) → (n ≡ 0 → ⊥) → Some n ≡ if_some (Some n)
not_none zero some = absurd (some refl)
not_none (suc n) some = refl

pub returns-then-count-eq0 : goal.returns-then-count-eq0
returns-then-count-eq0 c = sym (ap (λ n. if_some (Some n)) c.if-count-eq0.true)

pub returns : goal.returns
returns c = not_none c.args.count c.if-count-eq0.false
