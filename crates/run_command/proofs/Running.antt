-- What a run keeps and starts.
use Rattle.std.proofs.Common.{◌≡◌, Bool, true, false, Option, Some, None, IsSome, IfSome, refl, sym, ◌∙◌, subst}
use Rattle.adlb_unit.specs.declared.configs.Config.{Config}
use Rattle.run_command.specs.Ends.{Scene, StartsNone}
use Rattle.run_command.specs.Kept.{IsRunWith, Kept}
use Rattle.run_command.specs.inside.{HasStarted}

module _ {O : Type 0} (config : Config) (before after : Scene) where
  started_as : (kept : Option (Kept O)) → IfSome kept (λ k. k.report.config ≡ config) → IfSome kept (λ k. k.threaded ≡ true) →
      (IsSome kept → HasStarted config before.started after.started) →
      IfSome kept (λ k. (k.threaded ≡ true) × HasStarted k.report.config before.started after.started)
  started_as None is threaded started = tt
  started_as (Some k) is threaded started =
      (threaded, subst (λ (c : Config). HasStarted c before.started after.started) (sym is) (started refl))

  numbers_as : (IsOf : Config → Type 0) → IsOf config → (kept : Option (Kept O)) → IfSome kept (λ k. k.report.config ≡ config) →
      IfSome kept (λ k. IsOf k.report.config)
  numbers_as IsOf said None is = tt
  numbers_as IsOf said (Some k) is = subst IsOf (sym is) said

  -- in line
  pub ran_inline : (inline : Bool) → inline ≡ true → (kept : Option (Kept O)) → IfSome kept (λ k. k.report.config ≡ config) →
      StartsNone before after → IsRunWith (λ c. c ≡ config) inline before after kept
  ran_inline inline on kept is none = record { numbers = is; threaded = λ e. absurd (cc); untouched = λ e. none }

  -- with threads
  pub ran_threads : (inline : Bool) → inline ≡ false → (kept : Option (Kept O)) → IfSome kept (λ k. k.report.config ≡ config) →
      IfSome kept (λ k. k.threaded ≡ true) → (IsSome kept → HasStarted config before.started after.started) →
      IsRunWith (λ c. c ≡ config) inline before after kept
  ran_threads inline off kept is threaded started =
      record { numbers = is; threaded = λ e. started_as kept is threaded started; untouched = λ e. absurd (cc) }

  -- numbers of which something is known
  pub ran_as : (IsOf : Config → Type 0) → IsOf config → (inline : Bool) (kept : Option (Kept O)) →
      IsRunWith (λ c. c ≡ config) inline before after kept → IsRunWith IsOf inline before after kept
  ran_as IsOf said inline kept run =
      record { numbers = numbers_as IsOf said kept run.numbers; threaded = run.threaded; untouched = run.untouched }

-- what a run keeps and starts rests on the counts of starts alone
pub ran_apart : {O : Type 0} (IsOf : Config → Type 0) (inline : Bool) (before after other then : Scene) (kept : Option (Kept O)) →
    other.refused ≡ before.refused → other.started ≡ before.started → then.refused ≡ after.refused → then.started ≡ after.started →
    IsRunWith IsOf inline before after kept → IsRunWith IsOf inline other then kept
ran_apart IsOf inline before after other then kept first some last more run = record {
  numbers = run.numbers;
  threaded = λ off.
      subst (λ n. IfSome kept (λ k. (k.threaded ≡ true) × HasStarted k.report.config n then.started)) (sym some)
      (subst (λ n. IfSome kept (λ k. (k.threaded ≡ true) × HasStarted k.report.config before.started n)) (sym more) (run.threaded off));
  untouched = λ on. let is = run.untouched on in record { refused = last ∙ is.refused ∙ sym first; started = more ∙ is.started ∙ sym some };
}
