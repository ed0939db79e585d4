use Rattle.std.proofs.Common.{◌≡◌, ℕ, List, [], ◌||◌, ◌∙◌, ap, subst, sym}
use Rattle.std.specs.Prelude.{IfOk}
use Rattle.std.specs.List.{list_any}
use Rattle.rank_client.specs.Calls.{is_fetched, is_granted}
use Rattle.rank_client.specs.Names.{same_key}
use Rattle.rank_client.proofs.Naming.{none_named}
use Rattle.rank_client.proofs.said.Transcript.new.Goals as goal

pub invariant_of-result : goal.invariant_of-result
invariant_of-result c id =
    let no_ids = subst (λ r. IfOk r (λ ids. ids.keys ≡ [])) c.in_ok-ids.ensures c.with_capacity.ensures.empty in
    ap (λ (keys : List (ℕ × ℕ)). list_any (same_key (id.rank.0, id.number)) keys) no_ids
    ∙ sym (ap (λ l. is_granted id l || is_fetched id l) c.new-said.ensures ∙ none_named id)
