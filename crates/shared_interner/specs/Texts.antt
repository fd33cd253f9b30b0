-- The texts of an interner, as contracts see them.
use Rattle.std.specs.Prelude.{ℕ, List, string_bytes}
use Rattle.shared_interner.specs.declared.text.Kept.{Kept}
use Rattle.shared_interner.specs.declared.text.Kept.TheVariants.{Short, Long}

-- the bytes of a text, wherever they lie
abbrev pub bytes_of : {A : Type 0} → Kept A → List ℕ
bytes_of (Short s) = s
bytes_of (Long b) = string_bytes b.value
