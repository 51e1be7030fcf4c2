-- Lines read, computed.
use mathlib.Core.Path.{◌≡◌, refl}
use mathlib.Core.List.{List, [], ◌∷◌, map}
use Prim.Native.String.{String}
use Rattle.usage.specs.Outline.{give, form_of}
use Rattle.usage.specs.Valid.{times, times_child_lem}
use Rattle.usage.specs.Tests.{every, some_below, node_ok, between, tree_ok_lem, is_child_lem, above, back_ok_lem, gives_name_lem, name_ok_lem, lowest_failing, ruled_by}
use Rattle.sheet_lines.specs.Bytes.{bytes}
use Rattle.sheet_lines.specs.Sheet.{Result, accepted, refuse_at}
use Rattle.sheet_grammar.specs.Nodes.{tree_size, node_with, nodes_from}
use Rattle.sheet_grammar.specs.Reader.{label_at, number_at, item_first, head_at, read_by, line_of}
use Rattle.sheet_expression.specs.Expression.{table_rows, expression_of}

record Example : Type 0 where
  text : String
  gives : Result

examples : List Example
examples =
    -- case I of document 01: sandbox 0 around a loop: end, or fresh 0, action 1 on it, action 2 on it, back
    record {
      text = "p0{m1{0+f0{1(n0).2(n0).h1}}}\n";
      gives = accepted
          (table_rows (node_with 8 0 1 ∷ node_with 5 2 0 ∷ node_with 4 3 4 ∷ node_with 0 0 0
          ∷ node_with 7 0 5 ∷ node_with 3 6 9 ∷ node_with 3 7 8 ∷ node_with 2 1 0 ∷ node_with 2 2 0 ∷ node_with 6 1 0 ∷ []));
    }
    -- case L: a loop whose body is its own back
    ∷ record { text = "m1{h1}\n"; gives = accepted (table_rows (node_with 5 1 0 ∷ node_with 6 0 0 ∷ [])) }
    -- both signs join from the left; a number may have a leading zero
    ∷ record {
      text = "0+01(s3)+0\n";
      gives = accepted
          (table_rows (node_with 4 1 4 ∷ node_with 4 2 3 ∷ node_with 0 0 0 ∷ node_with 1 1 3 ∷ node_with 0 0 0 ∷ []));
    }
    -- a back means the innermost loop of its label
    ∷ record {
      text = "m1{m1{h1}.h1}\n";
      gives = accepted (table_rows
          (node_with 5 1 0 ∷ node_with 3 2 4 ∷ node_with 5 3 0 ∷ node_with 6 2 0 ∷ node_with 6 0 0 ∷ []));
    }
    -- round brackets make no node
    ∷ record { text = "(0)\n"; gives = accepted (table_rows (node_with 0 0 0 ∷ [])) }
    -- `0(s3)` is a line, of an action out of range
    ∷ record { text = "0(s3)\n"; gives = refuse_at 1 3 }
    -- a back with no loop of its label
    ∷ record { text = "m1{h2}\n"; gives = refuse_at 1 7 }
    -- a name outside its fresh node
    ∷ record { text = "2(n0)\n"; gives = refuse_at 1 8 }
    -- after two digits only an event can follow
    ∷ record { text = "00.0\n"; gives = refuse_at 1 15 }
    -- the line feed is missing
    ∷ record { text = "0"; gives = refuse_at 1 15 }
    -- a byte after the line feed
    ∷ record { text = "0\n\n"; gives = refuse_at 1 15 }
    -- the empty text
    ∷ record { text = ""; gives = refuse_at 1 15 }
    -- 32 brackets
    ∷ record {
      text = "((((((((((((((((((((((((((((((((0))))))))))))))))))))))))))))))))\n";
      gives = accepted
          (table_rows (node_with 0 0 0 ∷ []));
    }
    -- 33 brackets
    ∷ record { text = "(((((((((((((((((((((((((((((((((0)))))))))))))))))))))))))))))))))\n"; gives = refuse_at 1 16 }
    -- an opening bracket that no line could have there, of depth 33: a tie, so 15
    ∷ record { text = "((((((((((((((((((((((((((((((((0{"; gives = refuse_at 1 15 }
    -- an event's brackets don't nest
    ∷ record {
      text = "((((((((((((((((((((((((((((((((1(s0)))))))))))))))))))))))))))))))))\n";
      gives = accepted
          (table_rows (node_with 1 1 0 ∷ []));
    }
    -- 65 nodes
    ∷ record { text = "0.0.0.0.0.0.0.0.0.0.0.0.0.0.0.0.0.0.0.0.0.0.0.0.0.0.0.0.0.0.0.0.0\n"; gives = refuse_at 1 17 }
    ∷ []

examples-right : map (λ e. expression_of (bytes e.text)) examples ≡ map (λ e. e.gives) examples
unfolding examples expression_of line_of read_by head_at item_first number_at label_at tree_size nodes_from give form_of times times_child_lem every
    some_below node_ok between tree_ok_lem is_child_lem above back_ok_lem gives_name_lem name_ok_lem lowest_failing ruled_by
examples-right = refl
