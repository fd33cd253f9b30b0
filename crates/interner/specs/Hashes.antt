-- The hashes of a text. A text is the list of its bytes.
use Rattle.std.specs.Prelude.{ℕ, ◌+◌, ◌*◌, ◌/◌, ◌<◌, ◌^◌, ◌%◌, List, [], ◌∷◌}
use Rattle.std.specs.List.{fold}
use Rattle.std.proofs.Common.{arith}

-- the hash of a text with one byte more
abbrev pub hash_with : ℕ → ℕ → ℕ
hash_with hash byte = (hash * 31 + byte) % 2 ^ 64

-- the hash of a text: from 0 on, 31 times it and the next byte, modulo 2^64
abbrev pub text_hash : List ℕ → ℕ
text_hash text = fold hash_with 0 text

hash_small : (text : List ℕ) (hash : ℕ) → hash < 2 ^ 64 → fold hash_with hash text < 2 ^ 64
hash_small [] hash small = small
hash_small (byte ∷ text) hash small = hash_small text (hash_with hash byte) (omega arith)

pub text_hash_small : (text : List ℕ) → text_hash text < 2 ^ 64
text_hash_small text = hash_small text 0 (omega arith)

-- what is mixed, with one byte more
abbrev pub mixed_with : ℕ → ℕ → ℕ
mixed_with mixed byte = (mixed + byte) % 2 ^ 64 * 0x9E3779B97F4A7C15 % 2 ^ 64

-- the bytes of a text, mixed: from 1 on, the sum of it and the next byte, times an odd number, modulo 2^64
abbrev pub mixed_bytes : List ℕ → ℕ
mixed_bytes text = fold mixed_with 1 text

-- the upper half added to the lower one, times another odd number, modulo 2^64
abbrev pub finished : ℕ → ℕ
finished mixed = (mixed + mixed / 2 ^ 32) % 2 ^ 64 * 0xD6E8FEB86659FD93 % 2 ^ 64

-- a hash each bit of which depends on each byte
abbrev pub mixed_hash : List ℕ → ℕ
mixed_hash text = finished (mixed_bytes text)

pub mixed_hash_small : (text : List ℕ) → mixed_hash text < 2 ^ 64
mixed_hash_small text = omega arith
