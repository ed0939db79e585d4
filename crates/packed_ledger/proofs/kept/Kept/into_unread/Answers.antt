use Rattle.std.proofs.Common.{◌≡◌, ◌∷◌, List, sym, ◌∙◌, subst}
use Rattle.std.specs.List.{All}
use Rattle.std.proofs.lemmas.List.Elements.{All-head, All-rest}
use Rattle.packed_ledger.specs.Sizes.{KeptModel}
use Rattle.packed_ledger.specs.inside.Chunks.{IsFilled}
use Rattle.packed_ledger.proofs.kept.Kept.into_unread.Goals as goal

pub invariant_of-t-11 : goal.invariant_of-t-11
invariant_of-t-11 c =
    let full = c.self.inside.full.items in
    let others = c.pop_front.new.self.items in
    let same : c.from-full.result.items ≡ full = c.from-full.ensures.0 in
    let front : full ≡ c.in-Some.first ∷ others = sym same ∙ c.in-Some.ensures.items in
    let filled = subst (λ (l : List KeptModel). All IsFilled l) front c.self.invariant in (
      All-rest IsFilled c.in-Some.first others full front c.self.invariant,
      λ none. absurd (All-head IsFilled c.in-Some.first others filled (sym c.into_rest.ensures ∙ none)),
    )
