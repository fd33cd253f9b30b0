-- Copies in a row, and entries that are read ahead of them.
use Rattle.std.proofs.Common.{◌≡◌, ◌∙◌, ℕ, zero, suc, ◌+◌, ◌<◌, inl, inr, List, length, refl, sym, ap, arith, true, ◌≤◌}
use Rattle.std.specs.Prelude.{IfSome}
use Rattle.std.proofs.lemmas.Bool.{cases_lt}
use Rattle.table_cell.specs.Contents.{BucketView, bucket, NamesEntry}
use Rattle.table_generations.specs.Buckets.{Content, named}
use Rattle.table_generations.specs.Generations.{GenerationView}
use Rattle.table_generations.specs.Growth.{PutsName}
use Rattle.table_core.specs.Calls.{decided, to}
use Rattle.table_core.specs.declared.call.Answer.TheVariants.{Copied}
use Rattle.table_core.specs.declared.call.CallState.{CallState}
use Rattle.table_core.specs.declared.call.Phase.{Phase}
use Rattle.table_core.specs.declared.call.Phase.TheVariants.{Building}
use Rattle.table_shared.specs.Growths.{GrowthView, AreNamed, CopiesNext}
use Rattle.table_generations.specs.Windows.{NoneShown}
use Rattle.table_shared.specs.Lineages.{WordsView}
use Rattle.table_shared.specs.Ahead.{IsAhead, PassesOver, Copies, CopiesOn}
use Rattle.table_shared.specs.declared.growth.ahead.Ahead.{Ahead}
use Rattle.table_shared.proofs.Copied.{named_bucket, names_entry, named_on, named_past}
use Rattle.table_shared.proofs.Between.{taken}

module _ {A T U : Type 0} (target : T → U) (rehash : U → ℕ → Type 0) (g : GenerationView A T) where
  module _ (i : ℕ) where
    module _ (h : ℕ) (read : Ahead T A) (is : IsAhead target rehash g i read) where
      -- the word of an entry that was read names it
      pub word_read : g.home ≡ h → NamesEntry h read.word
      word_read same = names_entry g.from g.home h read.word is.0 is.1 same

      -- and so does the bucket that is made of it
      pub bucket_read : (b : BucketView A T) → IfSome read.word.value (λ x. b ≡ bucket read.word.from h (named x)) → b ≡ bucket g.from h (named is.0)
      bucket_read b so = named_bucket g.from g.home h read.word is.0 is.1 b so

    module _ (home p word : ℕ) (words : WordsView) (built : List (Content T)) where
      -- an entry that was read is copied, and no bucket that is passed before its own was set alone
      pub next_read : (after : List (Content T)) (read : Ahead T A) → p ≤ i → i < length g.contents → NoneShown g.contents p i → (is : IsAhead target rehash g i read)
          → PutsName target built after read.hash (named is.0)
          → CopiesNext target rehash (record { home = home; before = g.contents; passed = p; built = built; word = word; words = words }) true (record { home = home; before = g.contents; passed = i + 1; built = after; word = word; words = words })
      next_read after read on within none (e, is, alone, asked) put = (
        i,
        e,
        read.hash,
        record {
          on = on;
          within = within;
          passed = refl;
          skipped = none;
          alone = alone;
          asked = asked;
          put = put;
        },
      )

      -- and the entries of the buckets that are passed are named
      pub named_read : (after : List (Content T)) (read : Ahead T A) → NoneShown g.contents p i → (is : IsAhead target rehash g i read)
          → PutsName target built after read.hash (named is.0) → AreNamed g.contents p built → AreNamed g.contents (i + 1) after
      named_read after read none (e, is, alone, asked) put so =
          named_on target g.contents i built after read.hash e put alone (named_past g.contents p i built none so)

module _ {T : Type 0} where
  pub over_none : (g : GrowthView T) → PassesOver g g
  over_none g = record { home_is = refl; before_is = refl; built_is = refl; on = omega arith; skipped = λ j from to. absurd (let bad : ⊥ = omega arith in bad) }

  -- buckets that are passed over one after the other
  pub over_both : (a b c : GrowthView T) → PassesOver a b → PassesOver b c → PassesOver a c
  over_both a b c ab bc = record {
    home_is = bc.home_is ∙ ab.home_is;
    before_is = bc.before_is ∙ ab.before_is;
    built_is = bc.built_is ∙ ab.built_is;
    on = (let p = ab.on in let q = bc.on in omega arith);
    skipped = λ j from to. elim (cases_lt j b.passed) [
      | inl less ↦ ab.skipped j from less
      | inr ge ↦ (rw ab.before_is at bc.skipped) j (omega arith) to
    ];
  }

module _ {T U : Type 0} (target : T → U) (rehash : U → ℕ → Type 0) where
  -- who copies after passing over buckets copies the next entry
  pub copies_after : (a b c : GrowthView T) → PassesOver a b → CopiesNext target rehash b true c → CopiesNext target rehash a true c
  copies_after a b c over (i, e, hash, at) = (
    i,
    e,
    hash,
    record {
      on = (let p = over.on in let q = at.on in omega arith);
      within = rw (← over.before_is) at.within;
      passed = at.passed;
      skipped = λ j from to. elim (cases_lt j b.passed) [
        | inl less ↦ over.skipped j from less
        | inr ge ↦ (rw over.before_is at at.skipped) j (omega arith) to
      ];
      alone = rw over.before_is at at.alone;
      asked = at.asked;
      put = rw over.built_is at at.put;
    },
  )

  -- one entry more is copied
  pub on_one : (a b c : GrowthView T) → CopiesOn target rehash a b → c.home ≡ b.home → c.before ≡ b.before → CopiesNext target rehash b true c → CopiesOn target rehash a c
  on_one a b c (n, mid, so, over) home before next =
      (suc n, c, (mid, so, home ∙ over.home_is, before ∙ over.before_is, copies_after mid b c over next), over_none c)

  -- buckets more are passed over
  pub on_over : (a b c : GrowthView T) → CopiesOn target rehash a b → PassesOver b c → CopiesOn target rehash a c
  on_over a b c (n, mid, so, over) more = (n, mid, so, over_both mid b c over more)

  on_many : (n : ℕ) (a b c : GrowthView T) → CopiesOn target rehash a b → Copies target rehash n b c → CopiesOn target rehash a c
  on_many zero a b c ab is = rw is ab
  on_many (suc n) a b c ab (mid, so, home, before, next) = on_one a mid c (on_many n a b mid ab so) home before next

  -- copies in a row, and more copies after them
  pub on_both : (a b c : GrowthView T) → CopiesOn target rehash a b → CopiesOn target rehash b c → CopiesOn target rehash a c
  on_both a b c ab (n, mid, so, over) = on_over a mid c (on_many n a b mid ab so) over

-- a copy leaves the call where it stands
pub copy_stays : (s t : CallState) → s.phase ≡ Building → t ≡ decided s.phase s Copied → t ≡ s
copy_stays s t at is = taken Building Copied s t at is ∙ ap (λ (p : Phase). to p s) (sym at)
