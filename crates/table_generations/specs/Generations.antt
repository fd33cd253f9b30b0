-- A generation as the layer above sees it.
use Rattle.std.specs.Prelude.{◌≡◌, ◌⊎◌, ℕ, ◌+◌, ◌^◌, ◌<◌, ⊤, List, [], Option, Some, None, Result, Ok, Err, All, length, replicate}
use Rattle.std.specs.Int.{IsPowerOfTwo}
use Rattle.table_cell.specs.Rows.{RowView}
use Rattle.table_generations.specs.Buckets.{Content, vacant, own, named, shown_entries, owned_values}
use Rattle.table_generations.specs.declared.fixed.Refusal.{Refusal}

-- a generation: the allocator and the home of its blocks, its buckets with the names by which notes
-- speak of what they are set to through `&`, and how many of them are set alone
pub record GenerationView (A T : Type 0) : Type 0 where
  pub from : A
  pub home : ℕ
  pub ids : List ℕ
  pub contents : List (Content T)
  pub size : ℕ

-- values that are taken out of a generation of this home: those that are left
pub record OwnValuesView (T : Type 0) : Type 0 where
  pub home : ℕ
  pub values : List T

module _ {A T : Type 0} where
  abbrev pub generation_of : RowView A T → ℕ → GenerationView A T
  generation_of row size =
      record {
        from = row.from;
        home = row.home;
        ids = row.ids;
        contents = row.contents;
        size = size;
      }

  -- a generation of n empty buckets
  pub record IsBlank (from : A) (home n : ℕ) (g : GenerationView A T) : Type 0 where
    pub allocator : g.from ≡ from
    pub of : g.home ≡ home
    pub vacant : g.contents ≡ replicate n vacant
    pub none : g.size ≡ 0

  -- two generations of one home and one allocator
  abbrev pub AreOfOneHome : GenerationView A T → GenerationView A T → Type 0
  AreOfOneHome a b = (a.home ≡ b.home) × (a.from ≡ b.from)

  abbrev pub own_values_of : RowView A T → OwnValuesView T
  own_values_of row = record { home = row.home; values = owned_values row.contents }

module _ {T : Type 0} where
  -- there is no bucket, or a power of two, and fewer than 2^64; and the size counts those that are set
  pub record IsGeneration (ps : List (Content T)) (size : ℕ) : Type 0 where
    pub powered : (ps ≡ []) ⊎ IsPowerOfTwo (length ps)
    pub fits : length ps < 2 ^ 64
    pub counted : size ≡ length (shown_entries ps)

  -- the bucket names an entry
  abbrev pub IsName : Content T → Type 0
  IsName vacant = ⊥
  IsName (own e) = ⊥
  IsName (named e) = ⊤

  -- the bucket owns no entry
  abbrev pub OwnsNone : Content T → Type 0
  OwnsNone vacant = ⊤
  OwnsNone (own e) = ⊥
  OwnsNone (named e) = ⊤

  -- no bucket owns an entry
  abbrev pub AllOwnNone : List (Content T) → Type 0
  AllOwnNone ps = All OwnsNone ps

  -- only a placed value is counted
  abbrev pub CountsInsert : {P : Type 0} → ℕ → Result (P × Option T) (Refusal T) → ℕ → Type 0
  CountsInsert old (Ok (p, None)) new = new ≡ old + 1
  CountsInsert old (Ok (p, Some back)) new = new ≡ old
  CountsInsert old (Err r) new = new ≡ old
