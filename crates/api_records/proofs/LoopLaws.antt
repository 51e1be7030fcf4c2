-- Laws of the loop over the records: what is left of the list from i on.
use mathlib.Core.Path.{◌≡◌}
use mathlib.Core.List.{List}
use Prim.Native.Nat.{ℕ, ◌+◌, ◌≤◌, ◌<◌}
use native.Mathlib.Numerals.{add-one}
use lib.ListN.{length, get_or, drop, drop_of_length-le}
use lib.Seq.{drop-cons}
use Rattle.usage.specs.declared.Edge.{Edge}
use Rattle.api_records.specs.declared.flat.Flat.{Flat}
use Rattle.api_records.specs.Code.{add_of, flat_of}

-- what a record past the end is read as; none is
abbrev pub unread : Edge
unread = record { policy = 0; «from» = 0; action = 0; on = 0; who = 0; to = 0 }

pub flat-more : (f : Flat) (i : ℕ) (es : List Edge) → i < length es → flat_of f (drop i es)
    ≡ flat_of (add_of f (get_or es i unread)) (drop (i + 1) es)
unfolding flat_of
flat-more f i es h = rw (drop-cons es i unread h, add-one i)

pub flat-end : (f : Flat) (i : ℕ) (es : List Edge) → length es ≤ i → flat_of f (drop i es) ≡ f
unfolding flat_of
flat-end f i es h = rw (drop_of_length-le es h)
