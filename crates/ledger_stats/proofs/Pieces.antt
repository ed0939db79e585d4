-- The lines of a ledger's counts, piece by piece after a text.
use Rattle.std.proofs.Common.{◌≡◌, ℕ, List, ◌++◌, ap, ◌∙◌, append_assoc, codes, count_by}
use Rattle.bag_ledger.specs.declared.entries.Entry.{Entry}
use Rattle.ledger_stats.specs.declared.stats.Statistic.{Statistic}
use Rattle.ledger_stats.specs.declared.stats.Statistic.TheVariants.{Accepted, Refused, Rejected, Granted, Pushed}
use Rattle.ledger_stats.specs.Stats.{counted, counts, line, stats_text}

-- seven pieces after an old text
seven : (old a b c d e f g p q r s t u v : List ℕ) → p ≡ old ++ a → q ≡ p ++ b → r ≡ q ++ c → s ≡ r ++ d → t ≡ s ++ e → u ≡ t ++ f
    → v ≡ u ++ g → v ≡ old ++ (a ++ b ++ c ++ d ++ e ++ f ++ g)
seven old a b c d e f g p q r s t u v e1 e2 e3 e4 e5 e6 e7 =
    e7
    ∙ ap (λ x. x ++ g) (e6 ∙ ap (λ x. x ++ f) (e5 ∙ ap (λ x. x ++ e) (e4 ∙ ap (λ x. x ++ d) (e3 ∙ ap (λ x. x ++ c)
    (e2 ∙ ap (λ x. x ++ b) e1)))))
    ∙ simp append_assoc

-- a line is added with what is counted of the ledger
told : (ledger : List Entry) (statistic : Statistic) (name text next : List ℕ) (n : ℕ) → n ≡ count_by (counts statistic) ledger
    → next ≡ text ++ counted name n → next ≡ text ++ counted name (count_by (counts statistic) ledger)
told ledger statistic name text next n count added = added ∙ ap (λ k. text ++ counted name k) count

pub stats_are : (ledger : List Entry) (left i j k l m : ℕ) (old p q r s t u v : List ℕ)
    → i ≡ count_by (counts Accepted) ledger → j ≡ count_by (counts Refused) ledger → k ≡ count_by (counts Rejected) ledger
    → l ≡ count_by (counts Granted) ledger → m ≡ count_by (counts Pushed) ledger → p ≡ old ++ line (codes "stats")
    → q ≡ p ++ counted (codes "accepted") i → r ≡ q ++ counted (codes "refused") j → s ≡ r ++ counted (codes "rejected") k
    → t ≡ s ++ counted (codes "granted") l → u ≡ t ++ counted (codes "pushed") m → v ≡ u ++ counted (codes "left") left
    → v ≡ old ++ stats_text ledger left
stats_are ledger left i j k l m old p q r s t u v accepted refused rejected granted pushed e1 e2 e3 e4 e5 e6 e7 =
    seven old (line (codes "stats")) (counted (codes "accepted") (count_by (counts Accepted) ledger))
    (counted (codes "refused") (count_by (counts Refused) ledger)) (counted (codes "rejected") (count_by (counts Rejected) ledger))
    (counted (codes "granted") (count_by (counts Granted) ledger)) (counted (codes "pushed") (count_by (counts Pushed) ledger))
    (counted (codes "left") left) p q r s t u v e1 (told ledger Accepted (codes "accepted") p q i accepted e2)
    (told ledger Refused (codes "refused") q r j refused e3)
    (told ledger Rejected (codes "rejected") r s k rejected e4)
    (told ledger Granted (codes "granted") s t l granted e5)
    (told ledger Pushed (codes "pushed") t u m pushed e6) e7
