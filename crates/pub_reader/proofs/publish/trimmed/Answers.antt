use Rattle.std.proofs.Common.{◌∙◌, ap}
use Rattle.std.proofs.lemmas.Str.Ascii.{trim_ascii_start_is, trim_ascii_end_is}
use Rattle.pub_reader.specs.Operations.{end_trimmed, trimmed}
use Rattle.pub_reader.proofs.publish.trimmed.Goals as goal

pub returns : goal.returns
unfolding trimmed
returns c =
    trim_ascii_end_is c.trim_ascii_start.result.now c.trim_ascii_end.result.now c.trim_ascii_end.ensures.value
    ∙ ap end_trimmed (trim_ascii_start_is c.args.text.now c.trim_ascii_start.result.now
    c.trim_ascii_start.ensures.value)
