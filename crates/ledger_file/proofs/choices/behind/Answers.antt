use Rattle.std.proofs.Common.{◌≡◌, ◌++◌, ◌-◌, ℕ, List, length, true, false, ap, sym, arith, ◌∙◌}
use Rattle.std.proofs.lemmas.List.{length-append, length-drop, take-append-drop, take_all}
use Rattle.std.proofs.Math.Seq.{take-append_seam}
use Rattle.std.proofs.Math.ListN.{drop, take}
use Rattle.std.specs.Str.{bytes_eq}
use Rattle.ledger_file.proofs.Bytes.{bytes_alike, same_bytes}
use Rattle.ledger_file.proofs.choices.behind.Goals as goal
use Rattle.ledger_file.proofs.choices.behind.Goals.{else-word-front-via-then-word-front+else-eq, else-word-front-via-else-word-front}

pub returns-then-eq-clause-joined : goal.returns-then-eq-clause-joined
returns-then-eq-clause-joined c =
    let w : List ℕ = c.args.word.now in let f : List ℕ = c.args.front.now in let n : ℕ = length f in
    let front : take n w ≡ f = same_bytes (take n w) f (sym c.if-eq.ensures) in
    let rest : take (length w - n) (drop n w) ≡ drop n w = take_all (length w - n) (drop n w) (omega (arith, length-drop n w)) in
    sym (take-append-drop n w) ∙ (λ i. front i ++ sym rest i)

pub returns-clause-another : goal.returns-clause-another
returns-clause-another c = λ none rest is.
    let f : List ℕ = c.args.front.now in
    elim c.else-word-front.branch [
      | else-word-front-via-then-word-front+else-eq w ↦
          let apart : false ≡ bytes_eq (take (length f) c.args.word.now) f = w.if-eq.ensures in
          let alike : false ≡ true = apart ∙ ap (λ t. bytes_eq (take (length f) t) f) is ∙ ap (λ t. bytes_eq t f) (take-append_seam f rest)
          ∙ bytes_alike f in
          cc
      | else-word-front-via-else-word-front w ↦ omega (arith, w.if-word-front.false, ap length is, length-append f rest)
    ]
