-- The promises of specs/Promise, each with its proof.
use Prim.Native.Nat.{ℕ, ◌≤◌, ◌<◌}
use mathlib.Core.Path.{◌≡◌, refl, sym, ap, subst, ◌∙◌}
use mathlib.Core.Bool.{Bool}
use mathlib.Core.List.{List, ◌++◌, map, flatten}
use mathlib.Core.Logic.{◌↔◌}
use native.Mathlib.Omega.{arith}
use lib.ListN.{length}
use lib.Seq.{sets}
use borrow.Author.Tests.{lt-ltb, le-ltb}
use Rattle.usage.specs.declared.Edge.{Edge}
use Rattle.usage.specs.Limits.{longest_sheet}
use Rattle.usage.specs.Answers.{Refusal}
use Rattle.usage.specs.Policy.{EdgesOk, SameEdges}
use Rattle.usage.specs.Tables.{edges_of}
use Rattle.usage.proofs.Logic.{clash}
use Rattle.sheet_lines.specs.Sheet.{Result, accepted, refused, sheet}
use Rattle.sheet_lines.specs.Sheets.{policy_names_lem, policy_sheet, is_local}
use Rattle.sheet_lines.proofs.NamesLaws.{accepted-choice}
use Rattle.sheet_reader.specs.Readers.{policies_read}
use Rattle.sheet_reader.proofs.AnswerLaws.{accepted-edges}
use Rattle.report_lines.proofs.PutLaws.{sets-front}
use Rattle.sheet_writer.specs.Order.{edge_values, earlier, sorted}
use Rattle.sheet_writer.specs.Text.{edges_text, sheet_text}
use Rattle.sheet_writer.specs.Writer.{Rewriting, is_written, not_written, rewriting, written_again, result_edges, edges_in}
use Rattle.sheet_writer.specs.Writer.{written_into, WritingAnswer, has_length, has_none, rewriting_answer, rewritten_in}
use Rattle.sheet_writer.specs.Promise.{OneWriting, OneWay}
use Rattle.sheet_writer.proofs.OrderLaws.{sorted-members, sorted-twice, sorted-same, edges-ordered}
use Rattle.sheet_writer.proofs.TextLaws.{sheet-short, sheet-read, values-edges}

-- what a sheet that can be written again is
pub record Tidied (text t : List ℕ) : Type 0 where
  pub rows : List (List ℕ)
  pub result : policies_read text ≡ accepted rows
  pub ok : EdgesOk (edges_of (flatten rows))
  pub written : t ≡ sheet_text (is_local text) (edges_of (flatten rows))

pub tidied : (text t : List ℕ) → written_again text ≡ is_written t → Tidied text t
unfolding written_again rewriting
tidied text t e = go (policies_read text) refl e
  where
    go : (r : Result) → policies_read text ≡ r → rewriting (is_local text) r ≡ is_written t → Tidied text t
    go (accepted rows) q e = record { rows = rows; result = q; ok = (accepted-edges text rows q).edges; written = sym (cc) }
    go (refused r) q e = clash (cc)

-- ── Reading what was written ──

module _ (local : Bool) (es : List Edge) (ok : EdgesOk es) where
  pub text-local : is_local (sheet_text local es) ≡ local
  text-local = accepted-choice local (sheet_text local es) (map edge_values (sorted earlier es)) (sheet-read local es ok)

  pub text-read : policies_read (sheet_text local es) ≡ accepted (map edge_values (sorted earlier es))
  text-read = ap (λ (l : Bool). sheet (policy_sheet l) (sheet_text local es)) text-local ∙ sheet-read local es ok

  pub text-edges : edges_in (sheet_text local es) ≡ sorted earlier es
  unfolding result_edges
  text-edges = ap result_edges text-read ∙ values-edges (sorted earlier es)

  -- a sorted list is written as it is
  sorted-text : sheet_text local (sorted earlier es) ≡ sheet_text local es
  unfolding sheet_text
  sorted-text = rw (sorted-twice earlier edges-ordered es) refl

  pub text-again : written_again (sheet_text local es) ≡ is_written (sheet_text local es)
  unfolding written_again rewriting
  text-again =
      rw (text-read, text-local, values-edges (sorted earlier es), sorted-text) refl

pub edges-in : {text t : List ℕ} (w : Tidied text t) → edges_in text ≡ edges_of (flatten w.rows)
unfolding result_edges
edges-in w = ap result_edges w.result

-- the edges of what was written, as a set
edges-same : (text : List ℕ) (es : List Edge) → EdgesOk es → edges_in text ≡ es
    → SameEdges (edges_in (sheet_text (is_local text) es)) (edges_in text)
edges-same text es ok e = rw (text-edges (is_local text) es ok, e) (sorted-members earlier edges-ordered es)

pub one-writing : (text t : List ℕ) → written_again text ≡ is_written t → OneWriting text t
one-writing text t e =
    let w = tidied text t e in
    let es = edges_of (flatten w.rows) in
    subst (OneWriting text) (sym w.written) record {
      same_edges = edges-same text es w.ok (edges-in w);
      same_past = text-local (is_local text) es w.ok;
      twice = text-again (is_local text) es w.ok;
      short = sheet-short (is_local text) es w.ok;
    }

-- ── Two sheets ──

from_list : (local : Bool) (es fs : List Edge) → sorted earlier es ≡ sorted earlier fs → sheet_text local es ≡ sheet_text local fs
unfolding sheet_text
from_list local es fs e = ap (λ (l : List Edge). policy_names_lem local ++ edges_text l) e

-- the same text, the same list; and the other way round
texts-same : (local : Bool) (es fs : List Edge) → EdgesOk es → EdgesOk fs → (sheet_text local es ≡ sheet_text local fs) ↔ SameEdges es fs
texts-same local es fs ok fine = (to, back)
  where
    to : sheet_text local es ≡ sheet_text local fs → SameEdges es fs
    to e = (sorted-same earlier edges-ordered es fs).0 (sym (text-edges local es ok) ∙ ap edges_in e ∙ text-edges local fs fine)

    back : SameEdges es fs → sheet_text local es ≡ sheet_text local fs
    back h = from_list local es fs ((sorted-same earlier edges-ordered es fs).1 h)

pub written-exactly : (a b s t : List ℕ) → written_again a ≡ is_written s → written_again b ≡ is_written t → is_local a ≡ is_local b
    → (s ≡ t) ↔ SameEdges (edges_in a) (edges_in b)
written-exactly a b s t e f l =
    let u = tidied a s e in
    let v = tidied b t f in
    rw (u.written, v.written, edges-in u, edges-in v, l)
    (texts-same (is_local b) (edges_of (flatten u.rows)) (edges_of (flatten v.rows)) u.ok v.ok)

pub written-refuses : (text : List ℕ) (r : Refusal) → (written_again text ≡ not_written r) ↔ (policies_read text ≡ refused r)
unfolding written_again rewriting
written-refuses text r = (λ e. go (policies_read text) refl e, λ e. rw e refl)
  where
    go : (x : Result) → policies_read text ≡ x → rewriting (is_local text) x ≡ not_written r → x ≡ refused r
    go (accepted rows) q e = clash (cc)
    go (refused w) q e = ap refused (cc)

written-accepted : (text : List ℕ) (rows : List (List ℕ)) → policies_read text ≡ accepted rows
    → written_again text ≡ is_written (sheet_text (is_local text) (edges_of (flatten rows)))
unfolding written_again rewriting
written-accepted text rows e = rw e refl

pub one_way : OneWay
one_way = record { writing = one-writing; exactly = written-exactly; refuses = written-refuses }

-- ── What the function answers and writes ──

-- of a lent sheet, before and after
pub record Writes (w : Rewriting) (a : WritingAnswer) (out after : List ℕ) : Type 0 where
  pub answers : a ≡ rewriting_answer w
  pub sheet-is : after ≡ rewritten_in w out

module _ (text out : List ℕ) where
  -- 40
  pub no_room : length out < longest_sheet → Writes (written_into (length out) text) (has_none record { line = 0; number = 40 }) out out
  unfolding written_into rewriting_answer rewritten_in
  no_room h = rw (lt-ltb (length out) longest_sheet h) (record { answers = refl; sheet-is = refl })

  module _ (room : longest_sheet ≤ length out) where
    pub within : written_into (length out) text ≡ written_again text
    unfolding written_into
    within = rw (le-ltb (length out) longest_sheet room) refl

    pub refused-writes : (r : Refusal) → policies_read text ≡ refused r → Writes (written_into (length out) text) (has_none r) out out
    unfolding rewriting_answer rewritten_in
    refused-writes r e = rw (within, (written-refuses text r).1 e) (record { answers = refl; sheet-is = refl })

    pub accepted-writes : (rows : List (List ℕ)) (t : List ℕ) → policies_read text ≡ accepted rows
        → t ≡ sheet_text (is_local text) (edges_of (flatten rows))
        → Writes (written_into (length out) text) (has_length (length t)) out (sets out 0 t)
    unfolding rewriting_answer rewritten_in
    accepted-writes rows t e q =
        rw (within, again) (record { answers = refl; sheet-is = sets-front t out short })
      where
        again : written_again text ≡ is_written t
        again = written-accepted text rows e ∙ ap is_written (sym q)

        short : length t ≤ length out
        short = omega (arith, (one-writing text t again).short)
