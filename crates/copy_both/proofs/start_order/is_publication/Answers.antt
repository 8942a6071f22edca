use Rattle.std.proofs.Common.{sym, ◌∙◌}
use Rattle.std.specs.Str.{bytes_eq}
use Rattle.pub_catalog.specs.declared.catalog.Publication.{Publication}
use Rattle.copy_both.proofs.OrderLemmas.{any_of_map}
use Rattle.copy_both.proofs.start_order.is_publication.Goals as goal

pub returns : goal.returns
returns c = c.any_is_called.ensures
    ∙ sym (any_of_map (bytes_eq c.args.name.now) (λ (p : Publication). p.name) c.args.publications.now)
