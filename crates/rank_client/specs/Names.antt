-- The ids that are beside a transcript.
use Rattle.std.specs.Prelude.{◌≡◌, ℕ, Bool, ◌&&◌, ◌||◌, nat_eq}
use Rattle.std.specs.HashSet.{HashSet, contains, spare}
use Rattle.adlb_unit.specs.declared.names.UnitId.{UnitId}
use Rattle.rank_client.specs.declared.said.Transcript.TheInside.{Inside}
use Rattle.rank_client.specs.Calls.{is_fetched, is_granted}
use Rattle.rank_client.specs.Transcript.{TranscriptModel}

-- the set has this id
abbrev pub same_key : ℕ × ℕ → ℕ × ℕ → Bool
same_key a b = nat_eq a.0 b.0 && nat_eq a.1 b.1

-- the id is in the set
abbrev pub has_id : {S : Type 0} → HashSet (ℕ × ℕ) S → UnitId → Bool
has_id ids id = contains same_key ids (id.rank.0, id.number)

-- the transcript of its fields
abbrev pub transcript_of : Inside → TranscriptModel
transcript_of i = record { items = i.said.items; ids = spare i.ids }

-- the ids are those of the units that were granted or fetched
abbrev pub AreNamed : Inside → Type 0
AreNamed i = (id : UnitId) → has_id i.ids id ≡ (is_granted id i.said.items || is_fetched id i.said.items)
