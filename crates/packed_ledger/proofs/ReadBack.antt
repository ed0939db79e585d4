-- Each entry comes back from its row and what it tells besides.
use Rattle.std.proofs.Common.{ℕ, ◌≡◌, ◌≤◌, ◌<◌, false, eqb, ◌⊎◌, inl, inr, List, [], take, length, Option, None, Some, ℤ, refl, ap, arith}
use Rattle.std.proofs.lemmas.Bool.{eqb-false}
use Rattle.adlb_unit.specs.declared.names.Rank.{Rank}
use Rattle.adlb_unit.specs.declared.names.Server.{Server}
use Rattle.adlb_unit.specs.declared.names.Target.{Target}
use Rattle.adlb_unit.specs.declared.names.Target.TheVariants as targets
use Rattle.adlb_unit.specs.declared.names.WorkType.{WorkType}
use Rattle.adlb_unit.specs.declared.notes.End.TheVariants as ends
use Rattle.bag_ledger.specs.declared.entries.Entry.{Entry}
use Rattle.bag_ledger.specs.declared.entries.Entry.TheVariants as enters
use Rattle.packed_ledger.specs.inside.Told.{row_of, put_head, top_head}
use Rattle.packed_ledger.specs.inside.Made.{light_at, with_bytes, with_types}
use Rattle.packed_ledger.specs.inside.Codes.{body_of, kinds_of}
use Rattle.packed_ledger.proofs.Signed.{comes_back}

few_heads : (target : Target) (answer : Option Rank) → put_head target answer < 6
few_heads targets.Any None = omega arith
few_heads (targets.Only r) None = omega arith
few_heads (targets.Soft r) None = omega arith
few_heads targets.Any (Some a) = omega arith
few_heads (targets.Only r) (Some a) = omega arith
few_heads (targets.Soft r) (Some a) = omega arith

-- without bytes and types
pub record IsLight (e : Entry) : Type 0 where
  pub entry : light_at (row_of e) ≡ e
  pub body : body_of e ≡ []
  pub kinds : kinds_of e ≡ []

counted : (server : Server) (rank : Rank) (call free at_top : ℕ) (top : Option ℤ)
    → IsLight (enters.Counted server rank call (record { free = free; top = top; at_top = at_top }))
unfolding light_at
counted server rank call free at_top None = record { entry = refl; body = refl; kinds = refl }
counted server rank call free at_top (Some prio) = record {
  entry = ap (λ (p : ℤ). enters.Counted server rank call (record { free = free; top = Some p; at_top = at_top })) (comes_back prio);
  body = refl;
  kinds = refl;
}

pub is_light : (e : Entry) → 7 ≤ (row_of e).head → ((row_of e).head ≡ 8 → ⊥) → ((row_of e).head ≡ 10 → ⊥) → IsLight e
unfolding light_at
is_light (enters.Putting rank call kind prio target answer body) h _ _ = let f = few_heads target answer in absurd (omega (arith, h))
is_light (enters.Keeping rank call common) h _ _ = absurd (omega (arith, h))
is_light (enters.Asked rank call None) _ _ _ = record { entry = refl; body = refl; kinds = refl }
is_light (enters.Asked rank call (Some kinds)) _ other _ = absurd (other refl)
is_light (enters.Tried rank call None) _ _ _ = record { entry = refl; body = refl; kinds = refl }
is_light (enters.Tried rank call (Some kinds)) _ _ other = absurd (other refl)
is_light (enters.Over rank call ends.NoMoreWork) _ _ _ = record { entry = refl; body = refl; kinds = refl }
is_light (enters.Over rank call ends.Exhausted) _ _ _ = record { entry = refl; body = refl; kinds = refl }
is_light (enters.Counted server rank call info) _ _ _ = counted server rank call info.free info.at_top info.top
is_light _ _ _ _ = record { entry = refl; body = refl; kinds = refl }

-- with bytes
pub record HasBytes (e : Entry) : Type 0 where
  pub entry : with_bytes (row_of e) (body_of e) ≡ e
  pub size : (row_of e).number ≡ length (body_of e)
  pub kinds : kinds_of e ≡ []

put : (rank : Rank) (call : ℕ) (kind : WorkType) (prio : ℤ) (target : Target) (answer : Option Rank) (body : List ℕ)
    → HasBytes (enters.Putting rank call kind prio target answer body)
put rank call kind prio targets.Any None body = record {
  entry = ap (λ (p : ℤ). enters.Putting rank call kind p targets.Any None body) (comes_back prio);
  size = refl;
  kinds = refl;
}
put rank call kind prio (targets.Only r) None body = record {
  entry = ap (λ (p : ℤ). enters.Putting rank call kind p (targets.Only r) None body) (comes_back prio);
  size = refl;
  kinds = refl;
}
put rank call kind prio (targets.Soft r) None body = record {
  entry = ap (λ (p : ℤ). enters.Putting rank call kind p (targets.Soft r) None body) (comes_back prio);
  size = refl;
  kinds = refl;
}
put rank call kind prio targets.Any (Some a) body = record {
  entry = ap (λ (p : ℤ). enters.Putting rank call kind p targets.Any (Some a) body) (comes_back prio);
  size = refl;
  kinds = refl;
}
put rank call kind prio (targets.Only r) (Some a) body = record {
  entry = ap (λ (p : ℤ). enters.Putting rank call kind p (targets.Only r) (Some a) body) (comes_back prio);
  size = refl;
  kinds = refl;
}
put rank call kind prio (targets.Soft r) (Some a) body = record {
  entry = ap (λ (p : ℤ). enters.Putting rank call kind p (targets.Soft r) (Some a) body) (comes_back prio);
  size = refl;
  kinds = refl;
}

top_more : (top : Option ℤ) → top_head top < 7 → ⊥
top_more None h = omega (arith, h)
top_more (Some prio) h = omega (arith, h)

pub has_bytes : (e : Entry) → (row_of e).head < 7 → HasBytes e
has_bytes (enters.Putting rank call kind prio target answer body) _ = put rank call kind prio target answer body
has_bytes (enters.Keeping rank call common) _ = record { entry = refl; size = refl; kinds = refl }
has_bytes (enters.Asked rank call None) h = absurd (omega (arith, h))
has_bytes (enters.Asked rank call (Some kinds)) h = absurd (omega (arith, h))
has_bytes (enters.Tried rank call None) h = absurd (omega (arith, h))
has_bytes (enters.Tried rank call (Some kinds)) h = absurd (omega (arith, h))
has_bytes (enters.Over rank call ends.NoMoreWork) h = absurd (omega (arith, h))
has_bytes (enters.Over rank call ends.Exhausted) h = absurd (omega (arith, h))
has_bytes (enters.Counted server rank call info) h = absurd (top_more info.top h)
has_bytes _ h = absurd (omega (arith, h))

-- with a list of types
pub record ListsTypes (e : Entry) (kinds : List WorkType) : Type 0 where
  pub entry : with_types (row_of e) (Some kinds) ≡ e
  pub size : (row_of e).number ≡ length kinds
  pub body : body_of e ≡ []
  pub listed : kinds_of e ≡ take 16 kinds

neither : (n : ℕ) → eqb n 8 ≡ false → eqb n 10 ≡ false → (n ≡ 8) ⊎ (n ≡ 10) → ⊥
neither n other another (inl e) = eqb-false n 8 other e
neither n other another (inr e) = eqb-false n 10 another e

put_neither : (target : Target) (answer : Option Rank) → (put_head target answer ≡ 8) ⊎ (put_head target answer ≡ 10) → ⊥
put_neither targets.Any None h = neither 0 refl refl h
put_neither (targets.Only r) None h = neither 1 refl refl h
put_neither (targets.Soft r) None h = neither 2 refl refl h
put_neither targets.Any (Some a) h = neither 3 refl refl h
put_neither (targets.Only r) (Some a) h = neither 4 refl refl h
put_neither (targets.Soft r) (Some a) h = neither 5 refl refl h

top_neither : (top : Option ℤ) → (top_head top ≡ 8) ⊎ (top_head top ≡ 10) → ⊥
top_neither None h = neither 33 refl refl h
top_neither (Some prio) h = neither 34 refl refl h

pub lists_types : (e : Entry) → ((row_of e).head ≡ 8) ⊎ ((row_of e).head ≡ 10) → (kinds : List WorkType) × ListsTypes e kinds
lists_types (enters.Putting rank call kind prio target answer body) h = absurd (put_neither target answer h)
lists_types (enters.Asked rank call None) h = absurd (neither 7 refl refl h)
lists_types (enters.Asked rank call (Some kinds)) h = (kinds, record { entry = refl; size = refl; body = refl; listed = refl })
lists_types (enters.Tried rank call None) h = absurd (neither 9 refl refl h)
lists_types (enters.Tried rank call (Some kinds)) h = (kinds, record { entry = refl; size = refl; body = refl; listed = refl })
lists_types (enters.Over rank call ends.NoMoreWork) h = absurd (neither 16 refl refl h)
lists_types (enters.Over rank call ends.Exhausted) h = absurd (neither 17 refl refl h)
lists_types (enters.Counted server rank call info) h = absurd (top_neither info.top h)
lists_types e h = absurd (neither (row_of e).head refl refl h)
