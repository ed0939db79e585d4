use Rattle.std.proofs.Common.{rules, ◌≡◌, ◌∙◌, ◌++◌, ◌∷◌, [], ap, sym, arith, true, take, drop}
use Rattle.std.specs.Bool.{if◌then◌else◌}
use Rattle.std.specs.Int.{from_be_bytes, w32}
use Rattle.std.specs.Result.{is_ok}
use Rattle.tour_app.proofs.Common.{behind_end, words_end, words_more, words_start}
use Rattle.tour_app.proofs.bodies.read_words.Goals as goal

pub loop-word-init : goal.loop-word-init
loop-word-init c = words_start c.args.count c.args.bytes.now c.args.rows.now.items c.requires.enough

pub split_at-requires : goal.split_at-requires
split_at-requires c = let enough = c.loop-word.invariant.enough in omega arith

pub loop-word-preserved : goal.loop-word-preserved
loop-word-preserved c =
    let ok : is_ok c.push.result ≡ true = search rules in
    words_more c.args.count c.args.bytes.now c.args.rows.now.items c.loop-word._word c.loop-word.rest.now c.loop-word.rows.items _ _
    c.number_of.result c.loop-word.invariant c.loop-word-test.true (search rules) (search rules)
    (c.push.ensures.items ∙ ap (λ b. if b then c.loop-word.rows.items ++ c.number_of.result ∷ [] else c.loop-word.rows.items) ok)

pub returns-clause-words : goal.returns-clause-words
returns-clause-words c =
    words_end c.args.count c.args.bytes.now c.args.rows.now.items c.loop-word._word c.loop-word.rest.now c.loop-word.rows.items
    c.loop-word.invariant (omega arith)

pub returns-clause-behind : goal.returns-clause-behind
returns-clause-behind c =
    behind_end c.args.count c.args.bytes.now c.args.rows.now.items c.loop-word._word c.loop-word.rest.now c.loop-word.rows.items
    c.loop-word.invariant (omega arith)
