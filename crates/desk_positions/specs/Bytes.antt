-- Numbers in bytes, little endian, as the desk's state holds them: how they are read, and what copying them does.
use Rattle.std.specs.Prelude.{ℕ, ◌+◌, ◌*◌, ◌<◌, ◌≤◌, ◌≡◌, List, ◌⊎◌, length, get_or}
use Rattle.usage.specs.Tables.{from}

-- ── Reading ──

abbrev pub Read : Type 0
Read = List ℕ → ℕ → ℕ

unfoldable pub byte_at : Read
byte_at b i = get_or b i 0

unfoldable pub word_at : Read
word_at b i = get_or b i 0 + 256 * get_or b (i + 1) 0 + 65536 * get_or b (i + 2) 0 + 16777216 * get_or b (i + 3) 0

unfoldable pub wide_at : Read
wide_at b i = word_at b i + 4294967296 * word_at b (i + 4)

-- n numbers of `width` bytes each, from a place on
unfoldable pub numbers_in : Read → ℕ → ℕ → ℕ → List ℕ → List ℕ
numbers_in read width place n b = from (λ i. read b (place + width * i)) 0 n

abbrev pub bytes_in : ℕ → ℕ → List ℕ → List ℕ
bytes_in = numbers_in byte_at 1

abbrev pub words_in : ℕ → ℕ → List ℕ → List ℕ
words_in = numbers_in word_at 4

abbrev pub wides_in : ℕ → ℕ → List ℕ → List ℕ
wides_in = numbers_in wide_at 8

-- ── Copying ──

-- The first n of the table t are the numbers that stand in b from a place on; the others are as they were.
pub record Got (read : Read) (width : ℕ) (b : List ℕ) (place n : ℕ) (t₀ t : List ℕ) : Type 0 where
  pub long : length t ≡ length t₀
  pub inside : (i : ℕ) → i < n → get_or t i 0 ≡ read b (place + width * i)
  pub behind : (i : ℕ) → n ≤ i → get_or t i 0 ≡ get_or t₀ i 0

-- The first n numbers of the list l stand in b from a place on; all other bytes are as they were.
pub record Put (read : Read) (width : ℕ) (b₀ : List ℕ) (place n : ℕ) (l b : List ℕ) : Type 0 where
  pub long : length b ≡ length b₀
  pub inside : (i : ℕ) → i < n → read b (place + width * i) ≡ get_or l i 0
  pub outside : (m : ℕ) → (m < place) ⊎ (place + width * n ≤ m) → get_or b m 0 ≡ get_or b₀ m 0
