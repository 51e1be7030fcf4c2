-- Laws of a text put into a lent buffer: where there is room for it, and where there is none.
use Prim.Native.Nat.{ℕ, ◌+◌, ◌≤◌, ◌<◌}
use mathlib.Core.Path.{◌≡◌, ◌∙◌}
use mathlib.Core.List.{List}
use lib.ListN.{length}
use lib.Seq.{sets}
use borrow.Author.Tests.{le-leb, lt-leb}
use Rattle.report_lines.specs.Put.{put_at, end_at, put_within, end_within}

-- a function's result r and the buffer that it leaves, where a text was stored
abbrev pub Stored : List ℕ → ℕ → List ℕ → ℕ → List ℕ → Type 0
Stored buffer at text r after = (r ≡ at + length text) × (after ≡ sets buffer at text)

module _ (room : ℕ) (buffer : List ℕ) (at : ℕ) (text : List ℕ) where
  pub within-fits : at + room ≤ length buffer → put_within room buffer at text ≡ sets buffer at text
  unfolding put_within
  within-fits h = rw (le-leb _ _ h)

  pub end-within-fits : at + room ≤ length buffer → end_within room buffer at text ≡ at + length text
  unfolding end_within
  end-within-fits h = rw (le-leb _ _ h)

  pub within-lacks : length buffer < at + room → put_within room buffer at text ≡ buffer
  unfolding put_within
  within-lacks h = rw (lt-leb _ _ h)

  pub end-within-lacks : length buffer < at + room → end_within room buffer at text ≡ at
  unfolding end_within
  end-within-lacks h = rw (lt-leb _ _ h)

module _ (buffer : List ℕ) (at : ℕ) (text : List ℕ) where
  pub put-fits : at + length text ≤ length buffer → put_at buffer at text ≡ sets buffer at text
  put-fits = within-fits (length text) buffer at text

  pub end_fits : at + length text ≤ length buffer → end_at buffer at text ≡ at + length text
  end_fits = end-within-fits (length text) buffer at text

  pub put-lacks : length buffer < at + length text → put_at buffer at text ≡ buffer
  put-lacks = within-lacks (length text) buffer at text

  pub end-lacks : length buffer < at + length text → end_at buffer at text ≡ at
  end-lacks = end-within-lacks (length text) buffer at text

-- of the numbers that the functions return
pub stored_at : {r : ℕ} {after : List ℕ} (buffer : List ℕ) (at : ℕ) (text : List ℕ) → at + length text ≤ length buffer
    → r ≡ end_at buffer at text → after ≡ put_at buffer at text → Stored buffer at text r after
stored_at buffer at text h e t = (e ∙ end_fits buffer at text h, t ∙ put-fits buffer at text h)
