use Rattle.std.proofs.Common.{◌∙◌, ◌++◌, Bool, ap, codes, sym}
use Rattle.std.specs.Prelude.{not}
use Rattle.std.specs.String.{string_bytes}
use Rattle.catalog_text.proofs.Joins.{joined_2}
use Rattle.catalog_text.specs.FilterText.{name_text, text_if}
use Rattle.catalog_text.proofs.objects.write_whole.Goals as goal

pub returns : goal.returns
returns c =
    let text = string_bytes c.args.text.now in
    let object = codes ", TABLES IN SCHEMA " ++ name_text c.args.schema.now in
    joined_2 text (codes ", TABLES IN SCHEMA ") (name_text c.args.schema.now) c.in_ok-push_str.ensures.bytes
    c.in_ok-write_name.ensures
    ∙ ap (λ (has : Bool). text ++ text_if (not has) object) (sym (sym c.has_schema.ensures ∙ c.if-has_schema.false))
