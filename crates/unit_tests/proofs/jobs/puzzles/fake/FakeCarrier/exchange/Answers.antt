use Rattle.std.proofs.Common.{◌≡◌, ◌∙◌, Bool, List, Option, ap, refl, subst, sym, Err}
use Rattle.adlb_unit.specs.declared.notes.Trouble.{Trouble}
use Rattle.bag_ledger.specs.declared.entries.Said.{Said}
use Rattle.rank_client.proofs.LinkLaws.{made_again}
use Rattle.rank_client.specs.Answers.{IsAnswerTo}
use Rattle.rank_client.specs.Calls.{has_finished}
use Rattle.rank_client.specs.Link.{Made}
use Rattle.unit_tests.specs.Fake.{fake_link}
use Rattle.unit_tests.proofs.Fake.{made_said, short_of}
use Rattle.unit_tests.proofs.jobs.puzzles.fake.FakeCarrier.exchange.Goals as goal

pub returns-in-Some-clause-made : goal.returns-in-Some-clause-made
returns-in-Some-clause-made c =
    let l = c.args.self.now in
    let now = c.fail.new.self in
    let old_link = fake_link l.said.items l.going l.trouble in
    let new_link = fake_link now.said.items now.going now.trouble in
    subst (λ (t : Trouble). Made old_link new_link c.args.call (Err t)) (sym c.fail.ensures.trouble.1)
    (made_again old_link new_link c.args.call c.in-Some.trouble c.requires.can.running c.in-Some.is (ap (λ v. v.items) c.fail.ensures.said)
    refl c.fail.ensures.going c.fail.ensures.trouble.0 refl)

pub answer-requires : goal.answer-requires
answer-requires c = record { short = short_of _ _ _ _ c.requires.can }

pub returns-in-Ok-clause-made : goal.returns-in-Ok-clause-made
returns-in-Ok-clause-made c =
    let l = c.args.self.now in
    let a = c.answer.new.self in
    let n = c.say.new.self in
    let new_link = fake_link n.said.items n.going n.trouble in
    let says : a.said.items ≡ l.said.items = ap (λ v. v.items) c.answer.ensures.said in
    subst (λ (s : List Said). Made (fake_link s l.going l.trouble) new_link c.args.call c.say.result) says
    (subst (λ (g : Bool). Made (fake_link a.said.items g l.trouble) new_link c.args.call c.say.result) c.answer.ensures.going
    (subst (λ (t : Option Trouble). Made (fake_link a.said.items a.going t) new_link c.args.call c.say.result) c.answer.ensures.trouble
    (made_said a.said.items n.said.items a.going n.going a.trouble n.trouble c.args.call c.in-Ok.answer c.say.result
    (ap has_finished says ∙ c.requires.can.running) (c.answer.ensures.trouble ∙ c.in_default.is)
    (subst (λ (s : List Said). IsAnswerTo s c.args.call c.in-Ok.answer) (sym says) c.in-Ok.ensures.fits)
    c.say.ensures.said c.say.ensures.same c.say.ensures.kept c.say.ensures.fine c.say.ensures.trouble c.say.ensures.going
    c.say.ensures.shut)))
