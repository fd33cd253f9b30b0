-- The words of a generation.
use Rattle.std.proofs.Common.{◌≡◌, ◌≢◌, ◌<◌, ◌++◌, List, [], ◌∷◌, length, ap, sym, ◌∙◌, arith, length-append}
use Rattle.std.specs.Prelude.{slice_index_or}
use Rattle.std.proofs.lemmas.List.{get_or_append_left, get_or_push}
use mathlib.Core.Logic.{dite}
use native.Mathlib.Decide.{ℕ_discrete}
use Rattle.logbook.specs.Pages.{Book, Named}
use Rattle.table_numbered.specs.Generations.{AreWords, IsWord}

pub words_push : (b : Book) (ws : List Named) (w : Named) → AreWords b ws → IsWord b w → w.key ≡ length ws → AreWords b (ws ++ w ∷ [])
words_push b ws w are word key k d lt = dite (ℕ_discrete k (length ws))
    (λ (is : k ≡ length ws). let here : slice_index_or (ws ++ w ∷ []) k d ≡ w = get_or_push ws w d k (sym is) in
    ((ap (λ (x : Named). x.tracked) here ∙ word.0, ap (λ (x : Named). x.book) here ∙ word.1), ap (λ (x : Named). x.key) here ∙ (key ∙ sym is)))
    (λ (ne : k ≢ length ws). let less : k < length ws = omega (arith, lt, ne, length-append ws (w ∷ [])) in let before = are k d less in let here : slice_index_or (ws ++ w ∷ []) k d ≡ slice_index_or ws k d = get_or_append_left ws (w ∷ []) d k less in
    ((ap (λ (x : Named). x.tracked) here ∙ before.0.0, ap (λ (x : Named). x.book) here ∙ before.0.1), ap (λ (x : Named). x.key) here ∙ before.1))
