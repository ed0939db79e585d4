use Rattle.std.proofs.lemmas.Bool.{lt-ltb, le-ltb}
use Rattle.packed_ledger.specs.inside.Made.{light_at}
use Rattle.packed_ledger.proofs.making.light_of.Goals as goal

pub returns-then-row-lt16 : goal.returns-then-row-lt16
unfolding light_at
returns-then-row-lt16 c = rw (lt-ltb c.args.row.now.head 16 c.if-row-lt16.true) c.plain_of.ensures

pub returns-then-row-lt20 : goal.returns-then-row-lt20
unfolding light_at
returns-then-row-lt20 c =
    let head = c.args.row.now.head in
    rw (le-ltb head 16 c.if-row-lt16.false, lt-ltb head 20 c.if-row-lt20.true) c.call_of.ensures

pub returns-then-row-lt25 : goal.returns-then-row-lt25
unfolding light_at
returns-then-row-lt25 c =
    let head = c.args.row.now.head in
    rw (le-ltb head 16 c.if-row-lt16.false, le-ltb head 20 c.if-row-lt20.false, lt-ltb head 25 c.if-row-lt25.true) c.taken_of.ensures

pub returns-then-row-lt29 : goal.returns-then-row-lt29
unfolding light_at
returns-then-row-lt29 c =
    let head = c.args.row.now.head in
    rw (
      le-ltb head 16 c.if-row-lt16.false,
      le-ltb head 20 c.if-row-lt20.false,
      le-ltb head 25 c.if-row-lt25.false,
      lt-ltb head 29
          c.if-row-lt29.true,
    )
    c.given_of.ensures

pub returns : goal.returns
unfolding light_at
returns c =
    let head = c.args.row.now.head in
    rw (
      le-ltb head 16 c.if-row-lt16.false,
      le-ltb head 20 c.if-row-lt20.false,
      le-ltb head 25 c.if-row-lt25.false,
      le-ltb head 29
          c.if-row-lt29.false,
    )
    c.moved_of.ensures
