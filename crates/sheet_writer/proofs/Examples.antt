-- A sheet written again, shown from the definitions.
use mathlib.Core.Path.{◌≡◌, refl}
use mathlib.Core.List.{flatten}
use Rattle.usage.specs.Tests.{some_of, some_below, edge_ok, is_pair, three_pairs}
use Rattle.usage.specs.Tables.{from, edges_of}
use Rattle.sheet_bytes.specs.Class.{class_of}
use Rattle.sheet_bytes.specs.Line.{lines_of, read, values_of}
use Rattle.sheet_bytes.specs.Fault.{has_other, has_overlong, read_line}
use Rattle.sheet_lines.specs.Bytes.{bytes}
use Rattle.sheet_lines.specs.Sheet.{value_lines, starts_with, sheet}
use Rattle.sheet_lines.specs.Sheets.{is_local}
use Rattle.report_lines.specs.Decimal.{spelled, decimal}
use Rattle.report_lines.specs.Lines.{field, values_text}
use Rattle.sheet_writer.specs.Order.{before, earlier, placed, sorted}
use Rattle.sheet_writer.specs.Text.{edge_text, edges_text, sheet_text}
use Rattle.sheet_writer.specs.Writer.{is_written, not_written, rewriting, written_again}

-- edges in no order, one of them twice, with leading zeros and more spaces than one: 2 is before 10
pub in_order : written_again (bytes "policy from action on who to\n0 0 10 1 0 1\n00  0 2 1 0 00006\n0 0 2 1 0 1\n0 0 10 1 0 1\n")
    ≡ is_written (bytes "policy from action on who to\n0 0 2 1 0 1\n0 0 2 1 0 6\n0 0 10 1 0 1\n")
unfolding
    written_again rewriting is_local starts_with sheet value_lines read_line has_other has_overlong values_of read lines_of class_of edge_ok edges_of
    from flatten sheet_text edges_text edge_text values_text field decimal spelled sorted placed earlier before three_pairs is_pair
    some_of some_below
in_order = refl

-- no edge: the names line alone, which is that of the sheet
pub no_edge : written_again (bytes "local from action on who to\n") ≡ is_written (bytes "local from action on who to\n")
unfolding
    written_again rewriting is_local starts_with sheet value_lines lines_of class_of edges_of from flatten sheet_text edges_text sorted
no_edge = refl

-- a refused sheet has its refusal
pub refused-sheet : written_again (bytes "policy from action on who to\n0 0 2 1 0\n") ≡ not_written record { line = 2; number = 2 }
unfolding written_again rewriting is_local starts_with sheet value_lines read_line has_other has_overlong values_of read lines_of class_of
refused-sheet = refl
