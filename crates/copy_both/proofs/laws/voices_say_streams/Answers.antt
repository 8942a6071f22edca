use Rattle.copy_both.proofs.VoiceStreams as lemmas
use Rattle.copy_both.proofs.laws.voices_say_streams.Goals as goal

pub returns-clause-starts : goal.returns-clause-starts
returns-clause-starts c = lemmas.voice_starts

pub returns-clause-takes : goal.returns-clause-takes
returns-clause-takes c = lemmas.voice_takes

pub returns-clause-keeps : goal.returns-clause-keeps
returns-clause-keeps c = lemmas.voice_keeps

pub returns-clause-passes : goal.returns-clause-passes
returns-clause-passes c = lemmas.voice_passes_on

pub returns-clause-done : goal.returns-clause-done
returns-clause-done c = lemmas.voice_is_done

pub returns-clause-stops : goal.returns-clause-stops
returns-clause-stops c = lemmas.voice_stops

pub returns-clause-rest : goal.returns-clause-rest
returns-clause-rest c = lemmas.rest_passes_on
