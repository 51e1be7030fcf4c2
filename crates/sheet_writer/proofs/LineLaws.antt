-- The lines of edges that are given by their keys, put into a lent buffer.
use Prim.Native.Nat.{ℕ, ◌+◌, ◌*◌, ◌/◌, ◌%◌, ◌<◌, ◌≤◌}
use mathlib.Core.Path.{◌≡◌, refl, sym, ap, ap₂, ◌∙◌}
use mathlib.Core.Bool.{Bool}
use mathlib.Core.List.{List, [], ◌∷◌, ◌++◌, map, flatten, append-nil, append_assoc}
use native.Mathlib.Nat.{zero-add}
use native.Mathlib.Numerals.{add-one}
use native.Mathlib.Omega.{arith}
use lib.ListN.{length, get_or, take, length-append}
use lib.Seq.{sets, length-sets, take-suc, take-length}
use Rattle.usage.specs.declared.Edge.{Edge}
use Rattle.sheet_lines.specs.Sheets.{policy_names_lem}
use Rattle.sheet_lines.proofs.NamesLaws.{names-short}
use Rattle.report_lines.specs.Lines.{values_line, values_room}
use Rattle.report_lines.specs.Put.{put_at, end_at, put_within, end_within}
use Rattle.report_lines.proofs.PutLaws.{sets-append}
use Rattle.report_lines.proofs.FitLaws.{within-fits, end-within-fits}
use Rattle.report_lines.proofs.RowLaws.{begin-stored, six-fits}
use Rattle.sheet_writer.specs.Text.{edge_text, edges_text}
use Rattle.sheet_writer.specs.Code.{edge_of_key, keys_text}

-- ── The line of an edge ──

-- the six numbers in a key, as the code takes them out
abbrev pub key_values : ℕ → List ℕ
key_values k = k / 131072 ∷ k / 16384 % 8 ∷ k / 512 % 32 ∷ k / 128 % 4 ∷ k / 8 % 16 ∷ k % 8 ∷ []

edge-line : (k : ℕ) → values_line (key_values k) ≡ edge_text (edge_of_key k)
unfolding edge_text edge_of_key
edge-line k = refl

edge-fits : (k : ℕ) → k < 4294967296 → length (edge_text (edge_of_key k)) ≤ values_room
unfolding edge_text edge_of_key
edge-fits k h =
    six-fits (k / 131072) (k / 16384 % 8) (k / 512 % 32) (k / 128 % 4) (k / 8 % 16) (k % 8) (omega arith) (omega arith) (omega arith)
    (omega arith) (omega arith) (omega arith)

pub edge-put : {r : ℕ} {after : List ℕ} (k : ℕ) → k < 4294967296 → (out : List ℕ) (at : ℕ) → at + values_room ≤ length out
    → r ≡ end_within values_room out at (values_line (key_values k)) → after ≡ put_within values_room out at (values_line (key_values k))
    → (r ≡ at + length (edge_text (edge_of_key k))) × ((after ≡ sets out at (edge_text (edge_of_key k))) × (r ≤ at + values_room))
edge-put {r} k h out at room e t =
    let text = values_line (key_values k) in
    let end : r ≡ at + length (edge_text (edge_of_key k)) =
    e ∙ end-within-fits values_room out at text room ∙ ap (λ (l : List ℕ). at + length l) (edge-line k) in
    (end, (t ∙ within-fits values_room out at text room ∙ ap (sets out at) (edge-line k), omega (arith, end, edge-fits k h)))

-- ── The lines of several ──

edges-snoc : (es : List Edge) (e : Edge) → edges_text (es ++ (e ∷ [])) ≡ edges_text es ++ edge_text e
unfolding edges_text flatten
edges-snoc [] e = append-nil (edge_text e)
edges-snoc (d ∷ es) e =
    ap (λ (l : List ℕ). edge_text d ++ l) (edges-snoc es e) ∙ sym (append_assoc (edge_text d) (edges_text es) (edge_text e))

map_snoc : (ks : List ℕ) (k : ℕ) → map edge_of_key (ks ++ (k ∷ [])) ≡ map edge_of_key ks ++ (edge_of_key k ∷ [])
map_snoc [] k = refl
map_snoc (j ∷ ks) k = ap (λ (l : List Edge). edge_of_key j ∷ l) (map_snoc ks k)

-- the lines of the edges with these keys
abbrev pub keys_lines : List ℕ → List ℕ
keys_lines ks = edges_text (map edge_of_key ks)

pub lines_none : (ks : List ℕ) → keys_lines (take 0 ks) ≡ []
unfolding edges_text flatten
lines_none ks = refl

lines_more : (ks : List ℕ) (i : ℕ) → i < length ks
    → keys_lines (take (i + 1) ks) ≡ keys_lines (take i ks) ++ edge_text (edge_of_key (get_or ks i 0))
lines_more ks i h =
    ap (λ (m : ℕ). keys_lines (take m ks)) (add-one i)
    ∙ ap keys_lines (take-suc ks i 0 h)
    ∙ ap edges_text (map_snoc (take i ks) (get_or ks i 0))
    ∙ edges-snoc (map edge_of_key (take i ks)) (edge_of_key (get_or ks i 0))

-- the lines of the first i edges, from `at` on: the place after them, and the buffer
pub record Lines (out : List ℕ) (at : ℕ) (ks : List ℕ) (i r : ℕ) (after : List ℕ) : Type 0 where
  pub end : r ≡ at + length (keys_lines (take i ks))
  pub holds : after ≡ sets out at (keys_lines (take i ks))
  pub short : r ≤ at + values_room * i

pub no_lines : (out : List ℕ) (at : ℕ) (ks : List ℕ) → Lines out at ks 0 at out
unfolding edges_text flatten
no_lines out at ks = record { end = omega arith; holds = refl; short = omega arith }

pub lines-length : {out : List ℕ} {at : ℕ} {ks : List ℕ} {i r : ℕ} {after : List ℕ} → Lines out at ks i r after → length after ≡ length out
lines-length {out} {at} {ks} {i} l = ap length l.holds ∙ length-sets out at (keys_lines (take i ks))

-- and one more
pub one_line : {out : List ℕ} {at : ℕ} {ks : List ℕ} {i r : ℕ} {after : List ℕ} {s : ℕ} {last : List ℕ} → Lines out at ks i r after
    → i < length ks → s ≤ r + values_room → s ≡ r + length (edge_text (edge_of_key (get_or ks i 0)))
    → last ≡ sets after r (edge_text (edge_of_key (get_or ks i 0))) → Lines out at ks (i + 1) s last
one_line {out} {at} {ks} {i} l h k e t =
    let more = edge_text (edge_of_key (get_or ks i 0)) in
    let q = lines_more ks i h in
    let a = l.end in
    let b = l.short in
    record {
      end = omega (arith, e, ap length q, length-append (keys_lines (take i ks)) more);
      holds = t ∙ ap₂ (λ (m : List ℕ) (j : ℕ). sets m j more) l.holds l.end
          ∙ sym (sets-append out at (keys_lines (take i ks)) more) ∙ ap (sets out at) (sym q);
      short = omega arith;
    }

-- a names line before all lines
pub named-lines : {a : ℕ} {named : List ℕ} {r : ℕ} {after : List ℕ} (local : Bool) (out ks : List ℕ) (i : ℕ)
    → i ≡ length ks → 29 ≤ length out → a ≡ end_at out 0 (policy_names_lem local) → named ≡ put_at out 0 (policy_names_lem local) → Lines named a ks i r after
    → (r ≡ length (keys_text local ks)) × (after ≡ sets out 0 (keys_text local ks))
unfolding keys_text
named-lines {r = r} {after = after} local out ks i same room e t l =
    let names = policy_names_lem local in
    let z = begin-stored out names (omega (arith, names-short local)) e t in
    let p = z.0 in
    let q = l.end in
    let f = ap (λ (j : ℕ). keys_lines (take j ks)) same ∙ ap keys_lines (take-length ks) in (
      omega (arith, ap length f, length-append names (keys_lines ks)),
      l.holds ∙ ap (sets _ _) f
          ∙ ap₂ (λ (m : List ℕ) (j : ℕ). sets m j (keys_lines ks)) z.1 (z.0 ∙ sym (zero-add (length names)))
          ∙ sym (sets-append out 0 names (keys_lines ks)),
    )

-- how long the names line is
pub names-end : {a : ℕ} {named : List ℕ} (local : Bool) (out : List ℕ) → 29 ≤ length out → a ≡ end_at out 0 (policy_names_lem local)
    → named ≡ put_at out 0 (policy_names_lem local) → (a ≤ 29) × (length named ≡ length out)
names-end local out room e t =
    let z = begin-stored out (policy_names_lem local) (omega (arith, names-short local)) e t in
    let p = z.0 in
    (omega (arith, names-short local), ap length z.1 ∙ length-sets out 0 (policy_names_lem local))
