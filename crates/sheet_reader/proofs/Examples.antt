-- Small sheets, computed.
use Prim.Native.Nat.{◌-◌}
use mathlib.Core.Path.{◌≡◌, refl}
use mathlib.Core.Bool.{true, false}
use mathlib.Core.List.{[], ◌∷◌, flatten}
use Rattle.usage.specs.Limits.{most_edges, edge_fields, edge_places, node_places, step_places}
use Rattle.usage.specs.Tests.{some_of, some_below, edge_ok, is_pair, three_pairs}
use Rattle.usage.specs.Tests.{node_ok, every, between, tree_ok_lem, is_child_lem, above, back_ok_lem, name_ok_lem, lowest_failing, ruled_by}
use Rattle.usage.specs.Outline.{form_of}
use Rattle.usage.specs.Valid.{times, times_child_lem}
use Rattle.usage.specs.Tables.{from, nodes_of}
use Rattle.sheet_lines.specs.Bytes.{bytes}
use Rattle.sheet_bytes.specs.Class.{class_of}
use Rattle.sheet_bytes.specs.Line.{lines_of, read, values_of}
use Rattle.sheet_bytes.specs.Fault.{has_other, has_overlong, read_line}
use Rattle.sheet_lines.specs.Sheet.{Sheet, accepted, refuse_at, value_lines, starts_with, sheet}
use Rattle.sheet_lines.specs.Sheets.{policy_names_lem, has_few_pairs, is_local}
use Rattle.sheet_fields.specs.Fields.{step_ok}
use Rattle.sheet_reader.specs.Readers.{ruled_result, policies_into, trace_into, outline_into}

-- document 01's policies P
policies-p : policies_into edge_places (bytes "policy from action on who to\n0 0 1 1 0 1\n0 1 3 1 0 0\n0 0 2 1 0 6\n")
    ≡ accepted ((0 ∷ 0 ∷ 1 ∷ 1 ∷ 0 ∷ 1 ∷ []) ∷ (0 ∷ 1 ∷ 3 ∷ 1 ∷ 0 ∷ 0 ∷ []) ∷ (0 ∷ 0 ∷ 2 ∷ 1 ∷ 0 ∷ 6 ∷ []) ∷ [])
unfolding policies_into is_local sheet starts_with value_lines lines_of read_line has_other has_overlong values_of read class_of edge_ok
    three_pairs is_pair some_of some_below
policies-p = refl

-- the same as local policies (02, L7)
local-p : policies_into edge_places (bytes "local from action on who to\n0 0 1 1 0 1\n0 1 3 1 0 0\n0 0 2 1 0 6\n")
    ≡ accepted ((0 ∷ 0 ∷ 1 ∷ 1 ∷ 0 ∷ 1 ∷ []) ∷ (0 ∷ 1 ∷ 3 ∷ 1 ∷ 0 ∷ 0 ∷ []) ∷ (0 ∷ 0 ∷ 2 ∷ 1 ∷ 0 ∷ 6 ∷ []) ∷ [])
unfolding policies_into is_local sheet starts_with value_lines lines_of read_line has_other has_overlong values_of read class_of edge_ok
    three_pairs is_pair some_of some_below
local-p = refl

local-chosen : is_local (bytes "local from action on who to\n") ≡ true
unfolding is_local starts_with
local-chosen = refl

whole-chosen : is_local (bytes "policy from action on who to\n") ≡ false
unfolding is_local starts_with
whole-chosen = refl

-- 1: a names line of both, one without its line feed, one with a space more
mixed-names : policies_into edge_places (bytes "local policy from action on who to\n") ≡ refuse_at 1 1
unfolding policies_into is_local sheet starts_with
mixed-names = refl

unended-local : policies_into edge_places (bytes "local from action on who to") ≡ refuse_at 1 1
unfolding policies_into is_local sheet starts_with
unended-local = refl

spaced-local : policies_into edge_places (bytes "local  from action on who to\n") ≡ refuse_at 1 1
unfolding policies_into is_local sheet starts_with
spaced-local = refl

-- the line of a fault is the same
local-fault : policies_into edge_places (bytes "local from action on who to\n0 0 1 1 0 1\n0 0 1 4 0 1\n") ≡ refuse_at 3 3
unfolding policies_into is_local sheet starts_with value_lines lines_of read_line has_other has_overlong values_of read class_of edge_ok
    three_pairs is_pair some_of some_below
local-fault = refl

-- whatever the ranges: two pair policies are read, and a third is refused with 14 at its line
abbrev unranged : Sheet
unranged = record { names = policy_names_lem false; most = most_edges; fields = edge_fields; in_range_lem = λ vs. true; together = has_few_pairs }

two-pairs : sheet unranged (bytes "policy from action on who to\n5 0 1 3 0 1\n0 0 1 3 0 1\n7 0 1 2 0 1\n5 1 1 3 0 6\n")
    ≡ accepted ((5 ∷ 0 ∷ 1 ∷ 3 ∷ 0 ∷ 1 ∷ []) ∷ (0 ∷ 0 ∷ 1 ∷ 3 ∷ 0 ∷ 1 ∷ [])
    ∷ (7 ∷ 0 ∷ 1 ∷ 2 ∷ 0 ∷ 1 ∷ []) ∷ (5 ∷ 1 ∷ 1 ∷ 3 ∷ 0 ∷ 6 ∷ []) ∷ [])
unfolding sheet starts_with value_lines lines_of read_line has_other has_overlong values_of read class_of three_pairs is_pair some_of some_below
two-pairs = refl

third-pair : sheet unranged (bytes "policy from action on who to\n5 0 1 3 0 1\n0 0 1 3 0 1\n5 1 1 3 0 2\n7 0 1 3 0 1\n5 0\n")
    ≡ refuse_at 5 14
unfolding sheet starts_with value_lines lines_of read_line has_other has_overlong values_of read class_of three_pairs is_pair some_of some_below
third-pair = refl

-- and its trace
trace-b : trace_into step_places (bytes "kind a b\n1 0 0\n0 0 16\n0 1 16\n0 2 16\n0 0 17\n0 2 17\n0 3 16\n")
    ≡ accepted ((1 ∷ 0 ∷ 0 ∷ []) ∷ (0 ∷ 0 ∷ 16 ∷ []) ∷ (0 ∷ 1 ∷ 16 ∷ []) ∷ (0 ∷ 2 ∷ 16 ∷ []) ∷ (0 ∷ 0 ∷ 17 ∷ []) ∷ (0 ∷ 2 ∷ 17 ∷ []) ∷
    (0 ∷ 3 ∷ 16 ∷ []) ∷ [])
unfolding trace_into sheet starts_with value_lines lines_of read_line has_other has_overlong values_of read class_of step_ok
trace-b = refl

-- no value line; an empty file; a names line without its line feed
no_line : trace_into step_places (bytes "kind a b\n") ≡ accepted []
unfolding trace_into sheet starts_with value_lines lines_of class_of
no_line = refl

empty-file : trace_into step_places [] ≡ refuse_at 1 1
unfolding trace_into sheet starts_with
empty-file = refl

unended-names : trace_into step_places (bytes "kind a b") ≡ refuse_at 1 1
unfolding trace_into sheet starts_with
unended-names = refl

-- a table too small, whatever the text
too_small : trace_into (step_places - 1) [] ≡ refuse_at 0 40
unfolding trace_into sheet starts_with
too_small = refl

-- 2: an empty line, a space at either end, a value too many or too few
form-empty : trace_into step_places (bytes "kind a b\n1 0 0\n\n") ≡ refuse_at 3 2
unfolding trace_into sheet starts_with value_lines lines_of read_line has_other has_overlong values_of read class_of step_ok
form-empty = refl

form-front : trace_into step_places (bytes "kind a b\n 1 0 0\n") ≡ refuse_at 2 2
unfolding trace_into sheet starts_with value_lines lines_of read_line has_other has_overlong values_of read class_of step_ok
form-front = refl

form-end : trace_into step_places (bytes "kind a b\n1 0 0 \n") ≡ refuse_at 2 2
unfolding trace_into sheet starts_with value_lines lines_of read_line has_other has_overlong values_of read class_of step_ok
form-end = refl

form-spaces : trace_into step_places (bytes "kind a b\n  \n") ≡ refuse_at 2 2
unfolding trace_into sheet starts_with value_lines lines_of read_line has_other has_overlong values_of read class_of step_ok
form-spaces = refl

form-count : trace_into step_places (bytes "kind a b\n9 9 9 9\n") ≡ refuse_at 2 2
unfolding trace_into sheet starts_with value_lines lines_of read_line has_other has_overlong values_of read class_of step_ok
form-count = refl

form-few : trace_into step_places (bytes "kind a b\n1 0\n") ≡ refuse_at 2 2
unfolding trace_into sheet starts_with value_lines lines_of read_line has_other has_overlong values_of read class_of step_ok
form-few = refl

-- 12: six digits, wherever they stand, and before 2 and 3
digits_last : trace_into step_places (bytes "kind a b\n1 0 00000000000\n") ≡ refuse_at 2 12
unfolding trace_into sheet starts_with value_lines lines_of read_line has_other has_overlong values_of read class_of step_ok
digits_last = refl

digits-first : trace_into step_places (bytes "kind a b\n00000000001 0 0\n") ≡ refuse_at 2 12
unfolding trace_into sheet starts_with value_lines lines_of read_line has_other has_overlong values_of read class_of step_ok
digits-first = refl

digits-before-form : trace_into step_places (bytes "kind a b\n1  00000000001\n") ≡ refuse_at 2 12
unfolding trace_into sheet starts_with value_lines lines_of read_line has_other has_overlong values_of read class_of step_ok
digits-before-form = refl

-- 11: another byte, before 12, 2 and 3
byte-tab : trace_into step_places (bytes "kind a b\n1\t0 0\n") ≡ refuse_at 2 11
unfolding trace_into sheet starts_with value_lines lines_of read_line has_other has_overlong values_of read class_of step_ok
byte-tab = refl

byte-before-digits : trace_into step_places (bytes "kind a b\n1 2x 000000000001\n") ≡ refuse_at 2 11
unfolding trace_into sheet starts_with value_lines lines_of read_line has_other has_overlong values_of read class_of step_ok
byte-before-digits = refl

byte-after-digits : trace_into step_places (bytes "kind a b\n000000000001 x\n") ≡ refuse_at 2 11
unfolding trace_into sheet starts_with value_lines lines_of read_line has_other has_overlong values_of read class_of step_ok
byte-after-digits = refl

byte-before-form : trace_into step_places (bytes "kind a b\n 1 0 0 -\n") ≡ refuse_at 2 11
unfolding trace_into sheet starts_with value_lines lines_of read_line has_other has_overlong values_of read class_of step_ok
byte-before-form = refl

-- 13: the last line feed missing, whatever else is in the line; but 1 to 3 on a line before it come first
feed-only : trace_into step_places (bytes "kind a b\n1 0 0") ≡ refuse_at 2 13
unfolding trace_into sheet starts_with value_lines lines_of read_line has_other has_overlong values_of read class_of step_ok
feed-only = refl

feed-before-byte : trace_into step_places (bytes "kind a b\n1 0 0\nx") ≡ refuse_at 3 13
unfolding trace_into sheet starts_with value_lines lines_of read_line has_other has_overlong values_of read class_of step_ok
feed-before-byte = refl

feed-before-digits : trace_into step_places (bytes "kind a b\n1 0 00000000000") ≡ refuse_at 2 13
unfolding trace_into sheet starts_with value_lines lines_of read_line has_other has_overlong values_of read class_of step_ok
feed-before-digits = refl

feed-after-line : trace_into step_places (bytes "kind a b\n 1 0 0\n1 0") ≡ refuse_at 2 2
unfolding trace_into sheet starts_with value_lines lines_of read_line has_other has_overlong values_of read class_of step_ok
feed-after-line = refl

-- leading zeros and further spaces are allowed
zeros : trace_into step_places (bytes "kind a b\n0000000001  00  0\n") ≡ accepted ((1 ∷ 0 ∷ 0 ∷ []) ∷ [])
unfolding trace_into sheet starts_with value_lines lines_of read_line has_other has_overlong values_of read class_of step_ok
zeros = refl

-- 3, at the first such line
outside : trace_into step_places (bytes "kind a b\n1 0 0\n0 32 0\n0 99999 0\n") ≡ refuse_at 3 3
unfolding trace_into sheet starts_with value_lines lines_of read_line has_other has_overlong values_of read class_of step_ok
outside = refl

-- the last resource, and one more; no value is taken modulo 2 to the 32
last-resource : trace_into step_places (bytes "kind a b\n0 1 4294967295\n3 4294967295 0\n0 1 4294967296\n")
    ≡ refuse_at 4 3
unfolding trace_into sheet starts_with value_lines lines_of read_line has_other has_overlong values_of read class_of step_ok
last-resource = refl

no-remainder : trace_into step_places (bytes "kind a b\n4294967297 0 0\n") ≡ refuse_at 2 3
unfolding trace_into sheet starts_with value_lines lines_of read_line has_other has_overlong values_of read class_of step_ok
no-remainder = refl

-- 2 before 3, also where no field has the value
form-before-range : trace_into step_places (bytes "kind a b\n0 9999999999\n") ≡ refuse_at 2 2
unfolding trace_into sheet starts_with value_lines lines_of read_line has_other has_overlong values_of read class_of step_ok
form-before-range = refl

-- 9, 6, 7 and 8
no_nodes : outline_into node_places (bytes "node kind a b\n") ≡ refuse_at 2 9
unfolding outline_into ruled_result sheet starts_with value_lines lines_of class_of flatten nodes_of from ruled_by lowest_failing
no_nodes = refl

not-its-place : outline_into node_places (bytes "node kind a b\n1 0 0 0\n") ≡ refuse_at 2 6
unfolding outline_into ruled_result sheet starts_with value_lines lines_of read_line has_other has_overlong values_of read
    class_of node_ok flatten nodes_of from ruled_by lowest_failing tree_ok_lem between every times_child_lem times form_of back_ok_lem name_ok_lem
not-its-place = refl

-- a back to a loop beside it: 0 is node 1 then node 3, 1 a loop over node 2, 3 a back to 1
beside : outline_into node_places (bytes "node kind a b\n0 3 1 3\n1 5 2 0\n2 0 0 0\n3 6 1 0\n") ≡ refuse_at 5 7
unfolding outline_into ruled_result sheet starts_with value_lines lines_of read_line has_other has_overlong values_of read class_of
    node_ok flatten nodes_of from ruled_by lowest_failing tree_ok_lem between every times_child_lem times form_of back_ok_lem above is_child_lem name_ok_lem
beside = refl

not-given : outline_into node_places (bytes "node kind a b\n0 2 1 0\n") ≡ refuse_at 2 8
unfolding outline_into ruled_result sheet starts_with value_lines lines_of read_line has_other has_overlong values_of read class_of
    node_ok flatten nodes_of from ruled_by lowest_failing tree_ok_lem between every times_child_lem times form_of back_ok_lem name_ok_lem above
not-given = refl

-- a loop around its own back, one node stored after the other without its number
loop-back : outline_into node_places (bytes "node kind a b\n0 5 1 0\n1 6 0 0\n") ≡ accepted ((5 ∷ 1 ∷ 0 ∷ []) ∷ (6 ∷ 0 ∷ 0 ∷ []) ∷ [])
unfolding outline_into ruled_result sheet starts_with value_lines lines_of read_line has_other has_overlong values_of read class_of
    node_ok flatten nodes_of from ruled_by lowest_failing tree_ok_lem between every times_child_lem times form_of back_ok_lem above is_child_lem name_ok_lem
loop-back = refl
