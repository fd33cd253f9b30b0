use Rattle.std.proofs.Common.{◌≡◌, ℕ, true, length, [], ◌∷◌, sym, refl, subst, arith}
use Rattle.std.specs.Prelude.{replicate}
use Rattle.std.specs.Int.{IsPowerOfTwo}
use Rattle.logbook.specs.Pages.{Book}
use Rattle.table_numbered.specs.declared.event.Numbered.{Numbered}
use Rattle.table_numbered.specs.Words.{alike, marked}
use Rattle.table_numbered.specs.History.{History, opening, HasSize}
use Rattle.table_slab.specs.Shelved.{slab_of}
use Rattle.table_numbered.specs.Generations.{AreWords, IsKnown, set_view}
use Rattle.table_numbered.specs.Carrying.{due_after}
use Rattle.table_numbered.proofs.Steps.{kept_first}
use Rattle.table_numbered.proofs.Trades.{quiet}
use Rattle.table_numbered.proofs.row.Row.after.Goals as goal

pub open_row-start-requires : goal.open_row-start-requires
open_row-start-requires g c = (kept_first (alike g.L.Law.same) (marked g.L.Law.hash_of) c.args.buckets (due_after c.args.seen.now.log), quiet (denote.Param.param 0 g.row.V) c.start-begun.result.names, c.start-begun.ensures.shown)

pub invariant_of-result : goal.invariant_of-result
invariant_of-result g c = let e = c.open_row-start.ensures in let ws = c.words_by-words.result.items in let b = c.open_row-start.result.0.book in let names = c.open_row-start.result.0.names in
    let long : length ws ≡ c.args.buckets = c.words_by-words.ensures.long in
    let first : History (Numbered g.row.V.Denot) = opening c.args.buckets (due_after c.args.seen.now.log) ∷ [] in let begins : HasSize c.args.buckets first = ([], refl) in record {
      words = subst (λ (k : Book). AreWords k ws) e.2 c.words_by-words.ensures.words;
      power = subst IsPowerOfTwo (sym long) c.requires.power;
      few = omega (arith, long, c.requires.few);
      of = subst (λ (log : History (Numbered g.row.V.Denot)). IsKnown g.L.Law.same g.L.Law.hash_of (set_view b (length ws) (slab_of names)) b names log) (sym e.1)
          (refl, refl, subst (λ (n : ℕ). HasSize n first) (sym long) begins, (replicate c.args.buckets (0, true), kept_first (alike g.L.Law.same) (marked g.L.Law.hash_of) c.args.buckets (due_after c.args.seen.now.log)));
    }
