-- What is counted of a ledger, and the lines of its counts.
use Rattle.std.specs.Prelude.{ℕ, Bool, true, false, List, [], ◌∷◌, ◌++◌, codes, count_by, decimal}
use Rattle.bag_ledger.specs.declared.entries.Entry.{Entry}
use Rattle.bag_ledger.specs.declared.entries.Entry.TheVariants as entries_of
use Rattle.ledger_stats.specs.declared.stats.Statistic.{Statistic}
use Rattle.ledger_stats.specs.declared.stats.Statistic.TheVariants.{Accepted, Refused, Rejected, Granted, Pushed}

-- The entry is counted: by it a server takes a unit, or has no room for what a rank brings; or each server has refused that. Or a server
-- gives a rank a unit, or a unit arrives that was pushed.
abbrev pub counts : Statistic → Entry → Bool
counts Accepted (entries_of.Accepted server unit) = true
counts Refused (entries_of.Refused server unit used) = true
counts Rejected (entries_of.Rejected rank call) = true
counts Granted (entries_of.Granted server rank call unit) = true
counts Pushed (entries_of.Arrived server unit) = true
counts statistic entry = false

-- a text with a line feed
abbrev pub line : List ℕ → List ℕ
line text = text ++ 10 ∷ []

-- a name, a blank and a number
abbrev pub counted : List ℕ → ℕ → List ℕ
counted name n = line (name ++ codes " " ++ decimal n)

-- how many entries of the ledger are counted as each, and how many units are left
abbrev pub stats_text : List Entry → ℕ → List ℕ
stats_text ledger left =
    line (codes "stats") ++ counted (codes "accepted") (count_by (counts Accepted) ledger)
    ++ counted (codes "refused") (count_by (counts Refused) ledger) ++ counted (codes "rejected") (count_by (counts Rejected) ledger)
    ++ counted (codes "granted") (count_by (counts Granted) ledger) ++ counted (codes "pushed") (count_by (counts Pushed) ledger)
    ++ counted (codes "left") left
