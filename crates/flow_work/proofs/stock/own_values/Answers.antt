use Rattle.std.proofs.Common.{◌≡◌, ◌∙◌, ◌++◌, ◌+◌, ℕ, List, ap, sym, refl, subst, length, Some}
use Rattle.std.specs.List.{slice_get}
use Rattle.std.proofs.lemmas.Option.{slice_get_read}
use Rattle.flow_work.specs.Stocks.{AreValuesTo, rule_value, value_with}
use Rattle.flow_work.proofs.Stocks.{values_more}
use Rattle.flow_work.proofs.stock.own_values.Goals as goal

pub loop-place-preserved : goal.loop-place-preserved
loop-place-preserved c =
    let there : slice_get c.args.flow.now c.loop-place.place ≡ Some c.definition-item.result =
    ap (λ l. slice_get l c.loop-place.place) (sym c.as_slice-definition-items.ensures.definitions)
    ∙ slice_get_read c.as_slice-definition-items.result.now (length c.as_slice-definition-items.result.now) c.loop-place.place
    c.definition-item.result refl c.loop-place-test.true c.definition-item.is in
    subst (λ (own : List (ℕ × ℕ)). AreValuesTo c.args.flow.now c.args.store.now.values.items own (c.loop-place.place + 1))
    (sym (c.in_ok-append_value.ensures
    ∙ ap (λ o. c.loop-place.own.items ++ value_with c.loop-place.place o)
    (c.rule_value-value.ensures ∙ ap (rule_value c.definition-item.result) c.value.ensures)))
    (values_more c.args.flow.now c.args.store.now.values.items c.loop-place.own.items c.loop-place.place c.definition-item.result
    c.loop-place.invariant there)
