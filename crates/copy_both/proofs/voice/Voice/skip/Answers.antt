use Rattle.std.proofs.Common.{◌≡◌, ap, refl, subst, ◌∙◌}
use Rattle.copy_both.specs.Voices as voices
use Rattle.copy_both.specs.Voices.{IsQuietFor, StageOf, state_past, state_view, stage_view, voice_checked, voice_stage}
use Rattle.copy_both.specs.declared.voice.Stage.TheVariants as stage
use Rattle.copy_both.specs.declared.voice.Voice.{Voice}
use Rattle.copy_both.proofs.SkipLemmas.{skips}
use Rattle.copy_both.proofs.voice.Voice.skip.Goals as goal

pub returns-in-Started : goal.returns-in-Started
returns-in-Started c clock =
    let past : Voice = record c.args.self.now { stage = stage.Started c.skip.new.self } in
    let runs : voice_stage c.args.self.now ≡ voices.Started (state_view c.in-Started.state) =
    ap stage_view c.in-Started.is in
    skips c.args.self.now past (state_view c.in-Started.state) c.args.commit.now clock runs
    (subst (λ (at : StageOf). IsQuietFor (voice_checked c.args.self.now) at c.args.commit.now) runs c.requires.quiet)
    refl refl
    (ap voices.Started (c.skip.ensures ∙ ap (state_past (state_view c.in-Started.state)) c.number.ensures.shows))
