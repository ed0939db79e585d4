use Rattle.std.proofs.Common.{arith}
use Rattle.command_words.proofs.Saying.{first_and_rest, reads_drill, reads_flow, reads_solve, reads_tour, rest_says, rest_says_nothing}
use Rattle.command_words.specs.Options.{drill_app, flow_app, solve_app, tour_app}
use Rattle.command_words.specs.Said.{drill_of, flow_of, solve_of, tour_of}
use Rattle.command_words.proofs.reading.read_words.Goals as goal

pub returns-in-solve-clause-said : goal.returns-in-solve-clause-said
returns-in-solve-clause-said c =
    let parts = first_and_rest c.args.words.now c.word-item.result c.as_str.result.now
    (omega (arith, c.in-len1-up.len_at_least)) c.word-item.is c.as_str.ensures.value in
    rest_says solve_app solve_of _ _ _ _ c.read_solve.ensures.said (reads_solve _ _ c.in-solve.is) parts

pub returns-in-solve-clause-refused : goal.returns-in-solve-clause-refused
returns-in-solve-clause-refused c =
    let parts = first_and_rest c.args.words.now c.word-item.result c.as_str.result.now
    (omega (arith, c.in-len1-up.len_at_least)) c.word-item.is c.as_str.ensures.value in
    rest_says_nothing solve_app solve_of _ _ _ _ c.read_solve.ensures.refused (reads_solve _ _ c.in-solve.is) parts

pub returns-in-drill-clause-said : goal.returns-in-drill-clause-said
returns-in-drill-clause-said c =
    let parts = first_and_rest c.args.words.now c.word-item.result c.as_str.result.now
    (omega (arith, c.in-len1-up.len_at_least)) c.word-item.is c.as_str.ensures.value in
    rest_says drill_app drill_of _ _ _ _ c.read_drill.ensures.said (reads_drill _ _ c.in-drill.is) parts

pub returns-in-drill-clause-refused : goal.returns-in-drill-clause-refused
returns-in-drill-clause-refused c =
    let parts = first_and_rest c.args.words.now c.word-item.result c.as_str.result.now
    (omega (arith, c.in-len1-up.len_at_least)) c.word-item.is c.as_str.ensures.value in
    rest_says_nothing drill_app drill_of _ _ _ _ c.read_drill.ensures.refused (reads_drill _ _ c.in-drill.is) parts

pub returns-in-tour-clause-said : goal.returns-in-tour-clause-said
returns-in-tour-clause-said c =
    let parts = first_and_rest c.args.words.now c.word-item.result c.as_str.result.now
    (omega (arith, c.in-len1-up.len_at_least)) c.word-item.is c.as_str.ensures.value in
    rest_says tour_app tour_of _ _ _ _ c.read_tour.ensures.said (reads_tour _ _ c.in-tour.is) parts

pub returns-in-tour-clause-refused : goal.returns-in-tour-clause-refused
returns-in-tour-clause-refused c =
    let parts = first_and_rest c.args.words.now c.word-item.result c.as_str.result.now
    (omega (arith, c.in-len1-up.len_at_least)) c.word-item.is c.as_str.ensures.value in
    rest_says_nothing tour_app tour_of _ _ _ _ c.read_tour.ensures.refused (reads_tour _ _ c.in-tour.is) parts

pub returns-in-flow-clause-said : goal.returns-in-flow-clause-said
returns-in-flow-clause-said c =
    let parts = first_and_rest c.args.words.now c.word-item.result c.as_str.result.now
    (omega (arith, c.in-len1-up.len_at_least)) c.word-item.is c.as_str.ensures.value in
    rest_says flow_app flow_of _ _ _ _ c.read_flow.ensures.said (reads_flow _ _ c.in-flow.is) parts

pub returns-in-flow-clause-refused : goal.returns-in-flow-clause-refused
returns-in-flow-clause-refused c =
    let parts = first_and_rest c.args.words.now c.word-item.result c.as_str.result.now
    (omega (arith, c.in-len1-up.len_at_least)) c.word-item.is c.as_str.ensures.value in
    rest_says_nothing flow_app flow_of _ _ _ _ c.read_flow.ensures.refused (reads_flow _ _ c.in-flow.is) parts
