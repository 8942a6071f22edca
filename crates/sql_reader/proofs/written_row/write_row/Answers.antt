use Rattle.std.proofs.Common.{ap, ◌∙◌}
use Rattle.std.specs.Prelude.{ℕ, List, [], ◌∷◌, ◌++◌, map, codes}
use Rattle.std.specs.List.{join_by}
use Rattle.std.specs.String.{string_bytes}
use Rattle.filter_tree.specs.Values.{datum_view}
use Rattle.sql_reader.specs.WrittenRows.{value_text}
use Rattle.sql_reader.proofs.SpelledRows.{is_read_again, valid_is_read_again}
use Rattle.sql_reader.proofs.written_row.write_row.Goals as goal

-- the values between parentheses
pub returns-clause-spelled : goal.returns-clause-spelled
unfolding lib.Utf8.encode
returns-clause-spelled g c =
    c.in_ok-push-2.ensures.bytes
    ∙ ap (λ (bytes : List ℕ). bytes ++ 41 ∷ [])
    (c.in_ok-write_values.ensures
    ∙ ap (λ (bytes : List ℕ). bytes ++ join_by value_text (codes ", ") (map datum_view c.values.result.now))
    (c.in_ok-push.ensures.bytes ∙ ap (λ (bytes : List ℕ). bytes ++ 40 ∷ []) c.new-text.ensures.bytes)
    ∙ ap (λ row. 40 ∷ join_by value_text (codes ", ") row) c.values.ensures)

pub returns-clause-again : goal.returns-clause-again
returns-clause-again g c = is_read_again (string_bytes c.push-2.new.self) c.args.row.now (returns-clause-spelled g c)

pub returns-clause-valid : goal.returns-clause-valid
returns-clause-valid g c = λ columns fits some no_least.
    valid_is_read_again (string_bytes c.push-2.new.self) c.args.row.now columns (returns-clause-spelled g c) fits some
    no_least
