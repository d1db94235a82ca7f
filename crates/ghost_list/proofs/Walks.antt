-- A step that the walks share. Assumes `Logic`.
use Rattle.std.proofs.Common.{List, [], ◌∷◌, refl}
use seplogic.Ra.Ura.{Ura}
use mir.Val.{Val, vstruct, vcons, vnil}
use types.Logic.{Logic}
use types.Kit.{Goal, Step, step, Item, ‵, ◌$◌, move, fjoin, fpack, feq_i}
use denote.RattleType.{RattleType, Valss}
use denote.Laws.{Is}
use denote.Steps.{nothing, owned}
use denote.Struct.Laws.{makes}
use denote.Struct.Struct.{Struct, within}
use Rattle.std.specs.contracts.marker.PhantomData as Mark

abbrev pub none : Val
none = vstruct vnil

abbrev pub one : Val
one = vstruct (vcons none vnil)

-- a struct by its fields alone: what it owns does not read its name
abbrev pub marked : RattleType → RattleType
marked R = Struct (record { name = []; args = []; types = []; fields = Mark.the_row R ∷ [] })

module _ {M : Type 1} {𝓤 : Ura M} {𝓛 : Logic 𝓤} {K : Type 0} {Γ : List (Item 𝓤)} {G : Goal 𝓤 𝓛.H} where
  -- a struct of a mark alone is made of nothing
  pub mark_made : K → (R : RattleType) → Step K 𝓛 (‵ ((marked R).own_val (record {}, tt) (one ∷ [])) ∷ Γ) G Γ G
  mark_made t R = step (λ s.
      owned t (Mark.the_row R) (Is (Mark.the_row R)) (makes (Mark.the_type R) tt 𝓛) (record {}) (none ∷ []) (tt, (refl, tt)) $
      nothing t $ move t (1 ∷ 0 ∷ []) $ fjoin t $ feq_i t (List Val) (one ∷ []) (one ∷ []) refl $ fjoin t $
      fpack t (Valss (Mark.the_row R ∷ [])) (within (record { name = []; args = []; types = []; fields = Mark.the_row R ∷ [] }) (record {}, tt) (one ∷ [])) (none ∷ [], tt) $ s)
