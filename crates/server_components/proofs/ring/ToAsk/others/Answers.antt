use Rattle.std.proofs.Common.{◌≡◌, ◌+◌, ◌-◌, ◌++◌, ◌∷◌, [], List, length, map, ap, sym, ◌∙◌, arith}
use Rattle.std.specs.List.{range_with_len}
use Rattle.std.proofs.lemmas.List.FromFn.{length-map-range_with_len, map-range_with_len_more}
use Rattle.adlb_unit.specs.Ring.{behind}
use Rattle.adlb_unit.specs.declared.names.Server.{Server}
use Rattle.server_components.proofs.ring.ToAsk.others.Goals as goal

pub push-requires : goal.push-requires
push-requires c =
    let f = behind c.args.config.now c.args.me in
    let p = c.loop-places.places in
    let long : length c.loop-places.all ≡ p - 1 = ap (λ (l : List Server). length l) c.loop-places.invariant
    ∙ length-map-range_with_len f 1 (p - 1) in
    omega (arith, long, c.args.config.now.servers_within.1)

pub loop-places-preserved : goal.loop-places-preserved
loop-places-preserved c =
    let f = behind c.args.config.now c.args.me in
    let p = c.loop-places.places in
    let from : 1 + (p - 1) ≡ p = omega (arith, c.loop-places.auto.places) in
    let more : (p - 1) + 1 ≡ p + 1 - 1 = omega (arith, c.loop-places.auto.places) in
    c.push.ensures ∙ ap (λ l. l ++ f p ∷ []) c.loop-places.invariant ∙ sym (map-range_with_len_more f 1 (p - 1) p from)
    ∙ ap (λ n. map f (range_with_len 1 n)) more
