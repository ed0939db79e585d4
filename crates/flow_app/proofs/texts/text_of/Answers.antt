use Rattle.std.proofs.Common.{◌≡◌, ◌∙◌, ◌-◌, ◌≤◌, ap, sym, refl, length, Some, arith}
use Rattle.std.specs.List.{slice_get}
use Rattle.std.proofs.lemmas.Option.{slice_get_read}
use Rattle.flow_app.proofs.Telling.{line_more, text_is}
use Rattle.flow_app.proofs.Whole.{value_is}
use Rattle.flow_app.proofs.texts.text_of.Goals as goal

pub loop-place-preserved : goal.loop-place-preserved
loop-place-preserved c =
    let there : slice_get c.args.flow.now c.loop-place.place ≡ Some c.definition-item.result =
    ap (λ l. slice_get l c.loop-place.place) (sym c.as_slice-definition-items.ensures.definitions)
    ∙ slice_get_read c.as_slice-definition-items.result.now (length c.as_slice-definition-items.result.now) c.loop-place.place
    c.definition-item.result refl c.loop-place-test.true c.definition-item.is in
    c.in_ok-append_line.ensures
    ∙ line_more c.args.flow.now c.loop-place.text.items c.loop-place.place c.definition-item.result c.bytes.result.now c.value.result there
    (c.bytes.ensures ∙ c.name.ensures)
    (c.value.ensures
    ∙ value_is c.args.flow.now c.args.store.now.values.items c.requires.stored.sound c.args.store.now.noted.items
    c.args.store.now.ready.items c.args.store.now.next c.requires.stored.out.laid c.requires.stored.done
    c.requires.stored.out.distinct c.requires.stored.out.lets c.requires.drained c.loop-place.place
    c.definition-item.result there)
    c.loop-place.invariant

pub returns : goal.returns
returns c =
    let past : length c.args.flow.now ≤ c.loop-place.place =
    omega (arith, ap length c.as_slice-definition-items.ensures.definitions, c.loop-place-test.false) in
    c.in_ok-append_end.ensures
    ∙ text_is c.args.flow.now c.args.store.now.values.items c.requires.stored.out.laid.long
    (value_is c.args.flow.now c.args.store.now.values.items c.requires.stored.sound c.args.store.now.noted.items
    c.args.store.now.ready.items c.args.store.now.next c.requires.stored.out.laid c.requires.stored.done
    c.requires.stored.out.distinct c.requires.stored.out.lets c.requires.drained)
    c.loop-place.text.items c.loop-place.place c.count-done.result (length c.as_slice.result.now - c.count-done.result) past
    c.loop-place.invariant
    c.count-done.ensures (ap (λ l. length l - c.count-done.result) c.as_slice.ensures.definitions)
