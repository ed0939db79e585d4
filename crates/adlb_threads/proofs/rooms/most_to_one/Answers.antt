use Rattle.std.proofs.Common.{◌≡◌, inl, inr, ap, sym, ◌∙◌, arith}
use Rattle.std.proofs.lemmas.Bool.{cases_eq, cases_lt}
use Rattle.core_progress_law.specs.Room.{most_letters}
use Rattle.adlb_threads.proofs.rooms.most_to_one.Goals as goal

pub loop-server-preserved : goal.loop-server-preserved
loop-server-preserved c =
    let v = c.loop-server.invariant in
    let config = c.args.config.now in
    let k = c.loop-server.server in
    let is = c.max-most.ensures in
    let this = c.letters_to.ensures.exact in
    record {
      there = omega (arith, is, v.there);
      few = omega (arith, is, v.few, c.letters_to.ensures.few);
      each = λ server below. elim (cases_eq server.0 k) [
        | inl same ↦
            let all : most_letters config server ≡ c.letters_to.result =
            ap (λ n. most_letters config (record { 0 = n })) same ∙ sym this in omega (arith, is, all)
        | inr other ↦ let before = v.each server (omega (arith, below, other)) in omega (arith, is, before)
      ];
      one = elim (cases_lt c.letters_to.result c.loop-server.most) [
        | inl less ↦ let most : c.max-most.result ≡ c.loop-server.most = omega (arith, is, less) in (v.one.0, v.one.1, most ∙ v.one.2)
        | inr more ↦
            let most : c.max-most.result ≡ c.letters_to.result = omega (arith, is, more) in
            (record { 0 = k }, c.loop-server-test.true, most ∙ this)
      ];
    }
