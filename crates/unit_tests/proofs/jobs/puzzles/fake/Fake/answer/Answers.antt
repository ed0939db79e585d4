use Rattle.std.proofs.Common.{IfOk, sym, subst}
use Rattle.bag_ledger.specs.declared.entries.Call.{Call}
use Rattle.rank_client.specs.Answers.{IsAnswerTo}
use Rattle.unit_tests.proofs.Fake.{reserve_fits}
use Rattle.unit_tests.proofs.jobs.puzzles.fake.Fake.answer.Goals as goal

pub returns-in-Reserve-clause-fits : goal.returns-in-Reserve-clause-fits
returns-in-Reserve-clause-fits c =
    let said = c.args.self.now.said.items in
    let told = c.answer_reserve.ensures in
    subst (λ (call : Call). IfOk c.answer_reserve.result (λ a. IsAnswerTo said call a)) (sym c.in-Reserve.is)
    (reserve_fits said c.in-Reserve.types c.answer_reserve.result told.kind (told.known c.in-Reserve.types) told.again)

pub returns-in-Try-clause-fits : goal.returns-in-Try-clause-fits
returns-in-Try-clause-fits c =
    let said = c.args.self.now.said.items in
    let told = c.answer_try.ensures in
    subst (λ (call : Call). IsAnswerTo said call c.answer_try.result) (sym c.in-Try.is)
    (record { kind = told.kind; known = told.known c.in-Try.types; again = λ heeds. told.again })
