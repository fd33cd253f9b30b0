-- What was placed is there, also once the set grew, and is found by who knows of it.
use Rattle.std.proofs.Common.{◌≡◌, ℕ, ◌++◌, [], ◌∷◌, Bool, true, Option, Some, None, refl, sym, subst, ◌∙◌, arith}
use Rattle.std.specs.Prelude.{is_some, false, IfSome}
use Rattle.std.specs.Borrow.{Bor}
use Rattle.std.proofs.lemmas.Bool.{false≢true}
use Rattle.std.proofs.lemmas.List.Elements.{Contains-append_right}
use Rattle.table_numbered.specs.Words.{numbered, of_value}
use Rattle.table_numbered.specs.History.{History, event, IsEntry, NonePasses}
use Rattle.table_numbered.specs.declared.event.Numbered.{Numbered}
use Rattle.table_numbered.specs.declared.event.Stored.TheVariants.{Entry}
use Rattle.shared_set.specs.Known.{Keeps, SomePasses, Gets}
use Rattle.shared_set.specs.Inserting.{IsPlaced}

module _ {V : Type 0} (same : V → V → Bool) where
  pub has_placed : (k : ℕ) (v : V) (old new : History (Numbered V)) → same v v ≡ true → IsPlaced same k v old new → SomePasses (same v) (IsEntry new)
  has_placed k v old new is it =
      let last : IsEntry (it.before ++ event it.place (Some (Entry (numbered k v))) ∷ []) (numbered k v) =
      (it.place, Contains-append_right it.before (event it.place (Some (Entry (numbered k v))) ∷ []) (event it.place (Some (Entry (numbered k v)))) (0, omega arith, refl)) in
      (k, v, (is, subst (λ (log : History (Numbered V)). IsEntry log (numbered k v)) (sym it.then) last))

  -- what is known stays known
  pub has_kept : (old new : History (Numbered V)) (v : V) → Keeps old new → SomePasses (same v) (IsEntry old) → SomePasses (same v) (IsEntry new)
  has_kept old new v kept has = (has.0, has.1, (has.2.0, kept (numbered has.0 has.1) has.2.1))

  pub is_found : (r : Option (Bor V)) (log : History (Numbered V)) (v : V) → SomePasses (same v) (IsEntry log) → Gets (same v) (IsEntry log) r → is_some r ≡ true
  is_found (Some e) log v has finds = refl
  is_found None log v has finds = absurd (false≢true (sym (finds (numbered has.0 has.1) has.2.1) ∙ has.2.0))

  pub is_contained : (r : Bool) (log : History (Numbered V)) (v : V) → SomePasses (same v) (IsEntry log) → (r ≡ false → NonePasses (of_value (same v)) (IsEntry log)) → r ≡ true
  is_contained true log v has none = refl
  is_contained false log v has none = absurd (false≢true (sym (none refl (numbered has.0 has.1) has.2.1) ∙ has.2.0))

-- what holds where there is a value holds if there is one
pub where_some : {X P : Type 0} (r : Option X) → IfSome r (λ _. P) → is_some r ≡ true → P
where_some (Some x) it is = it
where_some None it is = absurd (false≢true is)
