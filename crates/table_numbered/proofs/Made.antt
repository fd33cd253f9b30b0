-- A `Site` and a `Written` have no bytes.
use Rattle.std.proofs.Common.{◌≡◌, List, [], ◌∷◌, ◌++◌, ap, ◌∙◌}
use mir.Val.{Val, vstruct, of_list}
use denote.RattleType.{RattleType}
use denote.Laws.{Is}
use denote.Struct.Struct.{Struct}
use denote.Struct.Owning.{shape}
use Rattle.logbook.proofs.Fields.{token}
use Rattle.table_slab.specs.contracts.rights.Written as Written
use Rattle.table_slab.specs.contracts.site.Site as Site

pub site_told : (R : RattleType) (vs : List Val) → Is (Struct (shape (Site.the_type R))) (record {}, tt) vs → vs ≡ token ∷ []
site_told R vs is = is.1.0 ∙ ap (λ (ws : List Val). vstruct (of_list (ws ++ [])) ∷ []) is.1.1.0.1.0

pub written_told : (R : RattleType) (vs : List Val) → Is (Struct (shape (Written.the_type R))) (record {}, tt) vs → vs ≡ token ∷ []
written_told R vs is = is.1.0 ∙ ap (λ (ws : List Val). vstruct (of_list (ws ++ [])) ∷ []) is.1.1.0.1.0
