use Rattle.std.proofs.Common.{◌≡◌, ◌-◌, List, ℕ, arith, drop, get_or, length, length-drop, refl, sym, take}
use Rattle.std.proofs.lemmas.Bool.{eqb-false, eqb-true}
use Rattle.std.proofs.lemmas.List.{take_all}
use Rattle.tour_app.proofs.Common.{if_ok_same, none_shared, none_sized, some_sized}
use Rattle.tour_app.proofs.starts.Start.read.Goals as goal

-- all that comes after the first of some bytes
behind : (bytes : List ℕ) → take (length bytes - 1) (drop 1 bytes) ≡ drop 1 bytes
behind bytes = take_all (length bytes - 1) (drop 1 bytes) (omega (arith, length-drop 1 bytes))

pub returns-then-is_empty : goal.returns-then-is_empty
returns-then-is_empty c = none_shared c.args.bytes.now (eqb-true (length c.args.bytes.now) 0 (sym c.if-is_empty.ensures))

pub returns-then-not-is_sized : goal.returns-then-not-is_sized
returns-then-not-is_sized c =
    let bytes = c.args.bytes.now in
    none_sized bytes (take (length bytes - 1) (drop 1 bytes)) (get_or bytes 0 0) c.is_sized.result
    (eqb-false (length bytes) 0 (sym c.if-is_empty.ensures)) refl (behind bytes) c.is_sized.ensures c.if-not-is_sized.true

pub returns : goal.returns
returns c =
    let bytes = c.args.bytes.now in
    if_ok_same _ _ _ (some_sized bytes (take (length bytes - 1) (drop 1 bytes)) (get_or bytes 0 0) c.is_sized.result
    (eqb-false (length bytes) 0 (sym c.if-is_empty.ensures)) refl (behind bytes) c.is_sized.ensures c.if-not-is_sized.false)
    c.read_sized.ensures
