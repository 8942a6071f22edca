use Rattle.split_cert.specs.Where.{tree_view}
use Rattle.split_cert.proofs.RoundTrip.{is_read, is_trailing}
use Rattle.split_cert.proofs.reading.read_in.Goals as goal

pub returns-clause-trailing : goal.returns-clause-trailing
returns-clause-trailing g c =
    λ tree more is e. is_trailing tree_view c.args.text.now c.certificate.result c.certificate.ensures.exact tree more
    is e

pub returns-clause-only : goal.returns-clause-only
returns-clause-only g c =
    λ tree is. is_read tree_view c.args.text.now c.certificate.result c.certificate.ensures.exact tree is
