-- What a trace is at run time: a struct around a mark, which is empty. Assumes `Logic`.
use Rattle.std.proofs.Common.{List, [], ◌∷◌, refl}
use seplogic.Ra.Ura.{Ura}
use mir.Val.{Val, vstruct, vcons, vnil}
use types.Logic.{Logic}
use types.Kit.{Goal, Step, step, Item, ‵, ◌$◌, move, fjoin, fpack, feq_i}
use denote.RattleType.{RattleType, Valss}
use denote.Steps.{nothing}
use denote.Struct.Struct.{Struct, within}

-- an empty mark
abbrev pub mark : Val
mark = vstruct vnil

-- the struct around it
abbrev pub around : Val
around = vstruct (vcons mark vnil)

module _ {M : Type 1} {𝓤 : Ura M} {𝓛 : Logic 𝓤} {K : Type 0} {Γ : List (Item 𝓤)} {G : Goal 𝓤 𝓛.H} where
  -- whoever has the struct has the mark in it
  pub has_mark : K → (R : RattleType) (x : R.Denot)
      → Step K 𝓛 (‵ ((Struct (record { name = []; args = []; types = []; fields = R ∷ [] })).own_val (x, tt) (around ∷ [])) ∷ Γ) G
      (‵ (R.own_val x (mark ∷ [])) ∷ Γ) G
  has_mark t R x = step (λ s.
      nothing t $ move t (1 ∷ 0 ∷ []) $ fjoin t $ feq_i t (List Val) (around ∷ []) (around ∷ []) refl $ fjoin t $
      fpack t (Valss (R ∷ [])) (within (record { name = []; args = []; types = []; fields = R ∷ [] }) (x, tt) (around ∷ []))
      (mark ∷ [], tt) $ s)
