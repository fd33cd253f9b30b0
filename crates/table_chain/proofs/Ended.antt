-- A chain that has ended, slot by slot.
use Rattle.std.proofs.Common.{◌≡◌, ◌≢◌, ℕ, ◌+◌, ◌-◌, ◌<◌, ◌≤◌, List, length, ap, sym, subst, ◌∙◌, arith}
use Rattle.std.specs.Prelude.{slice_index_or}
use mathlib.Core.List.{IsPrefix}
use Rattle.logbook.specs.Pages.{Book, Named}
use Rattle.table_slab.specs.Endings.{EndView, IsLeft}
use Rattle.table_slab.specs.Shelved.{slab_of}
use Rattle.table_chain.specs.declared.event.Stored.TheVariants.{Shown}
use Rattle.table_chain.specs.History.{History, Has, NumbersDiffer, HasSize, Told, IsReached}
use Rattle.table_chain.specs.Chains.{ChainView, chain_view, AreWords, IsOf, IsLaid, IsWhole, IsEnding}
use Rattle.table_chain.proofs.Chained.{known_shown}

module _ {G : Type 0} (Begins : G → Type 0) (Follows : G → G → Type 0) where
  -- what the word of the next slot says
  pub record NextShown (log after : History G) (left : EndView) (taken n : ℕ) : Type 0 where
    pub number : ℕ
    pub value : G
    pub there : Has log taken number (Shown value)
    pub later : Has after taken (n - 2) (Shown value)
    pub set : 2 ≤ n
    pub is : number ≡ n - 2
    pub is_left : IsLeft left (n - 2)

  pub next_shown : (b : Book) (names : List ℕ) (left : EndView) (log after : History G) (ws : List Named) (count taken n : ℕ) (w : Named) → IsEnding Begins Follows b names log ws left count taken → taken < count
      → w ≡ slice_index_or ws taken w → IsPrefix log after → IsReached Begins Follows after → Told Begins Follows w.key n after → NextShown log after left taken n
  next_shown b names left log after ws count taken n w e lt is on r t = let v = e.whole.values taken lt in let word = e.laid.words taken w (omega (arith, lt, e.whole.within)) in
      let key : w.key ≡ taken = ap (λ (x : Named). x.key) is ∙ word.1 in
      let ks = known_shown Begins Follows log after taken n v.1.0 v.0 on r (subst (λ (p : ℕ). Told Begins Follows p n after) key t) v.1.1 in
      record {
        number = v.1.0;
        value = v.0;
        there = v.1.1;
        later = ks.0;
        set = ks.1;
        is = ks.2;
        is_left = subst (IsLeft left) ks.2 (e.left_in taken v.1.0 v.0 (omega arith) v.1.1);
      }

  -- once the value of the next slot is taken out, the later ones lie as they did
  pub ending_on : (b : Book) (names : List ℕ) (left new : EndView) (log : History G) (ws : List Named) (count taken k : ℕ) (g : G) → IsEnding Begins Follows b names log ws left count taken → taken < count
      → Has log taken k (Shown g) → NumbersDiffer log → new.slab ≡ left.slab → ((j : ℕ) → j ≢ k → IsLeft left j → IsLeft new j) → IsEnding Begins Follows b names log ws new count (taken + 1)
  ending_on b names left new log ws count taken k g e lt there differ slab others = record {
    laid = e.laid;
    whole = e.whole;
    left_in = λ p j h le other. others j (λ is. let same : taken ≡ p = differ taken p k g h there (subst (λ (n : ℕ). Has log p n (Shown h)) is other) in omega (arith, le, same))
        (e.left_in p j h (omega (arith, le)) other);
    slab = slab ∙ e.slab;
    some = omega (arith, lt);
  }

  -- before any value is taken out
  pub ending_first : (b : Book) (names : List ℕ) (left : EndView) (log : History G) (ws : List Named) (count : ℕ) → IsLaid Begins Follows b log ws → IsWhole (length ws) count log
      → left.slab ≡ slab_of names → ((k : ℕ) → IsLeft left k) → IsEnding Begins Follows b names log ws left count 0
  ending_first b names left log ws count laid whole slab all = record {
    laid = laid;
    whole = whole;
    slab = slab;
    left_in = λ p k g le there. all k;
    some = omega arith;
  }

  -- how the parts of a chain lie, as a history of the chain says it
  pub laid_so : (c : ChainView G) (b bk : Book) (ws : List Named) (names ns : List ℕ) (start log : History G) → c ≡ chain_view b ws names start → IsLaid Begins Follows b start ws → IsOf Begins Follows c bk ns log → IsLaid Begins Follows bk log ws
  laid_so c b bk ws names ns start log view laid of = record {
    words = subst (λ (x : Book). AreWords x ws) (sym (of.0 ∙ ap (λ (v : ChainView G). v.book) view)) laid.words;
    size = subst (λ (n : ℕ). HasSize n log) (ap (λ (v : ChainView G). v.slots) view) of.2;
    reached = of.3;
  }
